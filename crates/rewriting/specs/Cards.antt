-- Cards: a signature and numbered rules, and which trees and terms are on a card. Assumes nothing.
use Rattle.std.specs.Prelude.{◌≡◌, ℕ, zero, suc, ◌<◌, true, List, [], ◌∷◌, Some, None, Option}
use mathlib.Core.List.{Memᴰ}
use Rattle.rewriting.specs.Terms.{Tree, node, Trees, nil, cons, Term, var, app, Terms, nilᵗ, consᵗ, count, countᵗ, occurs}

-- a signature gives each symbol its arity, the number of children that it takes, and nothing for a symbol that it lacks
abbrev pub Signature : Type 0
Signature = ℕ → Option ℕ

-- the signature of symbols numbered from 0, by the list of their arities
abbrev pub signature : List ℕ → Signature
signature [] k = None
signature (n ∷ ns) zero = Some n
signature (n ∷ ns) (suc k) = signature ns k

-- a rule carries its number, so leaving out some rules renumbers none
pub record Rule : Type 0 where
  pub number : ℕ
  pub left : Term
  pub right : Term

pub record Card : Type 0 where
  pub arity : Signature
  pub rules : List Rule

-- the trees of a signature: each symbol is there, with its number of children
abbrev mutual
  pub OnSignature : Signature → Tree → Type 0
  OnSignature Σ (node f ts) = (Σ f ≡ Some (count ts)) × AllOnSignature Σ ts

  pub AllOnSignature : Signature → Trees → Type 0
  AllOnSignature Σ nil = Unit {0}
  AllOnSignature Σ (cons t ts) = OnSignature Σ t × AllOnSignature Σ ts

-- its terms: variables may stand anywhere
abbrev mutual
  pub TermOn : Signature → Term → Type 0
  TermOn Σ (var v) = Unit {0}
  TermOn Σ (app f ts) = (Σ f ≡ Some (countᵗ ts)) × TermsOn Σ ts

  pub TermsOn : Signature → Terms → Type 0
  TermsOn Σ nilᵗ = Unit {0}
  TermsOn Σ (consᵗ t ts) = TermOn Σ t × TermsOn Σ ts

-- the trees of a card
abbrev pub OnCard : Card → Tree → Type 0
OnCard C t = OnSignature C.arity t

-- a term that is no lone variable
abbrev pub NoLoneVariable : Term → Type 0
NoLoneVariable (var v) = ⊥
NoLoneVariable (app f ts) = Unit {0}

-- each variable of the one term occurs in the other
abbrev pub VariablesWithin : Term → Term → Type 0
VariablesWithin r l = (v : ℕ) → occurs v r ≡ true → occurs v l ≡ true

pub record WellFormedRule (Σ : Signature) (r : Rule) : Type 0 where
  pub left_on_card : TermOn Σ r.left
  pub right_on_card : TermOn Σ r.right
  pub left_no_variable : NoLoneVariable r.left
  pub right_within_left : VariablesWithin r.right r.left

-- rules stand in the order of their numbers, none of which comes twice
abbrev pub Ascending : List Rule → Type 0
Ascending [] = Unit {0}
Ascending (r ∷ rs) = ((q : Rule) → Memᴰ q rs → r.number < q.number) × Ascending rs

pub record WellFormed (C : Card) : Type 0 where
  pub each_rule : (r : Rule) → Memᴰ r C.rules → WellFormedRule C.arity r
  pub ascending : Ascending C.rules
