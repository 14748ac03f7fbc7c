-- Tree steps, and reaching, convertible, confluent and normal form over the trees of a card. Assumes nothing.
use Rattle.std.specs.Prelude.{◌≡◌, ℕ, ◌↔◌, List}
use mathlib.Core.List.{Memᴰ}
use Rattle.rewriting.specs.Terms.{Tree, node, Trees, cons, Substitution, apply}
use Rattle.rewriting.specs.Cards.{Rule, Card, OnCard, WellFormed}
use Rattle.rewriting.specs.Relations.{Star, Chain}

-- a rule's left side under a substitution is the one tree, its right side the other
pub record Contracts (R : List Rule) (t u : Tree) : Type 0 where
  pub rule : Rule
  pub listed : Memᴰ rule R
  pub substitution : Substitution
  pub left_is : apply substitution rule.left ≡ t
  pub right_is : apply substitution rule.right ≡ u

-- a tree step contracts one occurrence of a subterm by any rule that fits it
mutual
  pub data Step (R : List Rule) : Tree → Tree → Type 0 where
    here : {t u : Tree} → Contracts R t u → Step R t u
    inside : {f : ℕ} {ts us : Trees} → Steps R ts us → Step R (node f ts) (node f us)

  pub data Steps (R : List Rule) : Trees → Trees → Type 0 where
    first : {t u : Tree} {ts : Trees} → Step R t u → Steps R (cons t ts) (cons u ts)
    later : {t : Tree} {ts us : Trees} → Steps R ts us → Steps R (cons t ts) (cons t us)

-- a tree step between trees of the card
pub record CardStep (C : Card) (t u : Tree) : Type 0 where
  pub from : OnCard C t
  pub to : OnCard C u
  pub step : Step C.rules t u

-- a tree of the card reaches another by none or more tree steps
pub record Reaches (C : Card) (t u : Tree) : Type 0 where
  pub from : OnCard C t
  pub steps : Star (CardStep C) t u

-- two trees of the card that a chain of its trees joins, each a tree step before or after the next
pub record Convertible (C : Card) (t u : Tree) : Type 0 where
  pub from : OnCard C t
  pub chain : Chain (CardStep C) t u

pub record ReachCommon (C : Card) (t u : Tree) : Type 0 where
  pub tree : Tree
  pub left : Reaches C t tree
  pub right : Reaches C u tree

-- any two trees that one tree of the card reaches both reach some common tree
abbrev pub Confluent : Card → Type 0
Confluent C = (t u v : Tree) → Reaches C t u → Reaches C t v → ReachCommon C u v

-- no tree step leaves it
abbrev pub NormalForm : Card → Tree → Type 0
NormalForm C t = (u : Tree) → CardStep C t u → ⊥

-- LAWS

abbrev pub StepsStayOnCard : Type 0
StepsStayOnCard = (C : Card) → WellFormed C → (t u : Tree) → OnCard C t → Step C.rules t u → OnCard C u

-- reaching does not leave the card, and neither does a chain of convertible trees
abbrev pub ReachedTreesAreOnCard : Type 0
ReachedTreesAreOnCard =
    (C : Card) → ((t u : Tree) → Reaches C t u → OnCard C u) × ((t u : Tree) → Convertible C t u → OnCard C u)

abbrev pub ReachingIsAPreorder : Type 0
ReachingIsAPreorder =
    (C : Card) → ((t : Tree) → OnCard C t → Reaches C t t)
    × ((t u v : Tree) → Reaches C t u → Reaches C u v → Reaches C t v)

abbrev pub ConvertibleIsAnEquivalence : Type 0
ConvertibleIsAnEquivalence =
    (C : Card) → ((t : Tree) → OnCard C t → Convertible C t t)
    × ((t u : Tree) → Convertible C t u → Convertible C u t)
    × ((t u v : Tree) → Convertible C t u → Convertible C u v → Convertible C t v)

abbrev pub ReachedTreesAreConvertible : Type 0
ReachedTreesAreConvertible = (C : Card) (t u : Tree) → Reaches C t u → Convertible C t u

-- the theorem of Church and Rosser
abbrev pub ConvertibleTreesReachACommonTree : Type 0
ConvertibleTreesReachACommonTree =
    (C : Card) → Confluent C → (t u : Tree) → Convertible C t u → ReachCommon C t u

-- on a confluent card normal forms decide convertibility
abbrev pub NormalFormsAreEqualExactlyIfConvertible : Type 0
NormalFormsAreEqualExactlyIfConvertible =
    (C : Card) → Confluent C → (t t' u u' : Tree) → Reaches C t t' → Reaches C u u' → NormalForm C t' → NormalForm C u'
    → (t' ≡ u') ↔ Convertible C t u
