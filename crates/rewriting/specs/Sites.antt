-- Sites, the redexes of a tree as a strategy is shown them, and the shared step. Assumes nothing.
use Rattle.std.specs.Prelude.{◌≡◌, ℕ, suc, ◌<◌, Bool, true, false, not, ◌||◌, ◌↔◌, List, [], ◌∷◌, length, get_or, is_some, Some, None, Decides, Option, ◌≢◌, slice_index_or}
use mathlib.Core.List.{Memᴰ}
use Rattle.rewriting.specs.Terms.{Tree, node, Trees, nil, cons, children, same}
use Rattle.rewriting.specs.Cards.{Rule, Card, OnCard, WellFormed}
use Rattle.rewriting.specs.Matching.{fitting, contracted, LowestFitting}
use Rattle.rewriting.specs.Steps.{Reaches, NormalForm}
use Rattle.rewriting.specs.Subterms.{Subterm, Proper, member, walks, subterms}

-- what a strategy is shown of a site: its sheet number, its rule's number, whether it is a proper subterm of no site, and
-- whether no proper subterm of it is a site
pub record Site : Type 0 where
  pub number : ℕ
  pub rule : ℕ
  pub outer : Bool
  pub inner : Bool

-- a tree that some rule of the card fits
abbrev pub redex : Card → Tree → Bool
redex C t = is_some (fitting C.rules t)

abbrev pub rule_number : Option Rule → ℕ
rule_number None = 0
rule_number (Some r) = r.number

-- a redex by its rule, and any other tree as it is
abbrev pub contract_by : Option Rule → Tree → Tree
contract_by None t = t
contract_by (Some r) t = contracted r t

abbrev pub contractum : Card → Tree → Tree
contractum C t = contract_by (fitting C.rules t) t

abbrev pub keep : (Tree → Bool) → List Tree → List Tree
keep p [] = []
keep p (x ∷ xs) = elim (p x) [ true ↦ x ∷ keep p xs | false ↦ keep p xs ]

abbrev pub any : (Tree → Bool) → List Tree → Bool
any p [] = false
any p (x ∷ xs) = p x || any p xs

abbrev pub proper : Tree → Tree → Bool
proper s t = member s (walks (children t) [])

-- the subterms of a tree that are redexes, in sheet order
abbrev pub redexes : Card → Tree → List Tree
redexes C t = keep (redex C) (subterms t)

-- the record of one site, among all redexes of the tree
abbrev pub site : Card → List Tree → ℕ → Tree → Site
site C all n s =
    record {
      number = n;
      rule = rule_number (fitting C.rules s);
      outer = not (any (λ r. proper s r) all);
      inner = not (any (λ r. proper r s) all);
    }

abbrev pub sites_from : Card → List Tree → ℕ → List Tree → List Site
sites_from C all n [] = []
sites_from C all n (x ∷ xs) =
    elim (redex C x) [ true ↦ site C all n x ∷ sites_from C all (suc n) xs | false ↦ sites_from C all (suc n) xs ]

-- the sites of a tree in sheet order
abbrev pub sites : Card → Tree → List Site
sites C t = sites_from C (redexes C t) 1 (subterms t)

-- every occurrence of a subterm replaced, once each: what is put in its place is not looked through again
abbrev mutual
  pub replace : Tree → Tree → Tree → Tree
  replace s r (node f ts) = elim (same s (node f ts)) [ true ↦ r | false ↦ node f (replaces s r ts) ]

  pub replaces : Tree → Tree → Trees → Trees
  replaces s r nil = nil
  replaces s r (cons t ts) = cons (replace s r t) (replaces s r ts)

abbrev pub shared_step : Card → Tree → Tree → Tree
shared_step C s t = replace s (contractum C s) t

-- the same as relations

pub record IsSite (C : Card) (t s : Tree) : Type 0 where
  pub subterm : Subterm s t
  pub rule : Rule
  pub fits : LowestFitting C.rules s rule

-- it is a proper subterm of no site
abbrev pub Outer : Card → Tree → Tree → Type 0
Outer C t s = (r : Tree) → IsSite C t r → Proper s r → ⊥

-- no proper subterm of it is a site
abbrev pub Inner : Card → Tree → Tree → Type 0
Inner C t s = (r : Tree) → IsSite C t r → Proper r s → ⊥

-- a record tells of a site its place in sheet order, its rule and its two flags
pub record Describes (C : Card) (t : Tree) (k : Site) (s : Tree) : Type 0 where
  pub is_site : IsSite C t s
  pub place : ℕ
  pub numbered : k.number ≡ suc place
  pub placed : (place < length (subterms t)) × (slice_index_or (subterms t) place t ≡ s)
  pub rule_is : k.rule ≡ is_site.rule.number
  pub outer_is : Decides k.outer (Outer C t s)
  pub inner_is : Decides k.inner (Inner C t s)

mutual
  pub data Replaced (s r : Tree) : Tree → Tree → Type 0 where
    occurrence : {t u : Tree} → t ≡ s → u ≡ r → Replaced s r t u
    elsewhere : {f : ℕ} {ts us : Trees} → (node f ts ≢ s) → ReplacedIn s r ts us → Replaced s r (node f ts) (node f us)

  pub data ReplacedIn (s r : Tree) : Trees → Trees → Type 0 where
    nowhere : ReplacedIn s r nil nil
    both : {t u : Tree} {ts us : Trees} → Replaced s r t u → ReplacedIn s r ts us → ReplacedIn s r (cons t ts) (cons u us)

-- LAWS

-- each record of the list describes the redex at its place, every site is there, and numbers ascend
pub record SitesListed (C : Card) (t : Tree) : Type 0 where
  pub as_many : length (sites C t) ≡ length (redexes C t)
  pub described :
      (d : Site) (i : ℕ) → i < length (sites C t) → Describes C t (slice_index_or (sites C t) i d) (slice_index_or (redexes C t) i t)
  pub all_there : (s : Tree) → IsSite C t s ↔ Memᴰ s (redexes C t)
  pub ascending :
      (d : Site) (i j : ℕ) → i < j → j < length (sites C t) → (get_or (sites C t) i d).number < (get_or (sites C t) j d).number

abbrev pub SitesAreListed : Type 0
SitesAreListed = (C : Card) → WellFormed C → (t : Tree) → SitesListed C t

abbrev pub NoSiteExactlyIfNormalForm : Type 0
NoSiteExactlyIfNormalForm =
    (C : Card) → WellFormed C → (t : Tree) → OnCard C t → (sites C t ≡ []) ↔ NormalForm C t

abbrev pub EveryOccurrenceIsReplacedOnce : Type 0
EveryOccurrenceIsReplacedOnce = (s r t u : Tree) → Replaced s r t u ↔ (u ≡ replace s r t)

-- a shared step at a site is done by tree steps, so it stays on the card
abbrev pub SharedStepIsReached : Type 0
SharedStepIsReached =
    (C : Card) → WellFormed C → (t s : Tree) → OnCard C t → IsSite C t s → Reaches C t (shared_step C s t)
