-- Runs: shared steps at chosen sites, up to a budget and as long as the new tree has room. Assumes nothing.
use Rattle.std.specs.Prelude.{◌≡◌, ℕ, zero, suc, ◌+◌, ◌<◌, ◌≤◌, Bool, true, false, ◌↔◌, List, [], ◌∷◌, length, Some, None, Option, ◌≢◌, slice_index_or}
use Rattle.std.specs.Option.{unwrap_or}
use Rattle.rewriting.specs.Terms.{Tree}
use Rattle.rewriting.specs.Cards.{Card, OnCard, WellFormed}
use Rattle.rewriting.specs.Steps.{Reaches}
use Rattle.rewriting.specs.Sites.{Site, sites, redexes, shared_step, IsSite, Outer}

-- a choice among sites, by place from 0; on a list that is not empty the place is one of the list
abbrev pub Choice : Type 0
Choice = List Site → ℕ

abbrev pub Chooses : Choice → Type 0
Chooses pick = (ks : List Site) → 0 < length ks → pick ks < length ks

-- the place of the first site that passes a test, where the list's first site has place i
abbrev pub first_from : (Site → Bool) → ℕ → List Site → Option ℕ
first_from p i [] = None
first_from p i (k ∷ ks) = elim (p k) [ true ↦ Some i | false ↦ first_from p (suc i) ks ]

-- outermost: the first site that is marked outer (every tree with a site has one; of other lists it takes the first)
abbrev pub outermost : Choice
outermost ks = unwrap_or (first_from (λ k. k.outer) 0 ks) 0

-- a test of whether there is room, which sees the present tree and the one that would follow
abbrev pub Room : Type 0
Room = Tree → Tree → Bool

-- why a run ended: no site was left, the budget was used up, or the next tree had no room
pub data Stop : Type 0 where
  normal spent full : Stop

pub record Outcome : Type 0 where
  pub stop : Stop
  pub count : ℕ
  pub tree : Tree

abbrev pub ended : Stop → Tree → Outcome
ended w t = record { stop = w; count = zero; tree = t }

abbrev pub one_more : Outcome → Outcome
one_more r = record { stop = r.stop; count = suc r.count; tree = r.tree }

abbrev pub is_empty : List Tree → Bool
is_empty [] = true
is_empty (t ∷ ts) = false

-- no site is left
abbrev pub at_rest : Card → Tree → Bool
at_rest C t = is_empty (redexes C t)

abbrev pub chosen : Card → Choice → Tree → Tree
chosen C pick t = slice_index_or (redexes C t) (pick (sites C t)) t

abbrev pub next : Card → Choice → Tree → Tree
next C pick t = shared_step C (chosen C pick t) t

module _ (C : Card) (pick : Choice) (room : Room) where
  -- the run, with what is left of the budget
  abbrev pub run : ℕ → Tree → Outcome
  run zero t = elim (at_rest C t) [ true ↦ ended normal t | false ↦ ended spent t ]
  run (suc n) t =
      elim (at_rest C t) [
        | true ↦ ended normal t
        | false ↦
            let u = next C pick t in elim (room t u) [ true ↦ one_more (run n u) | false ↦ ended full t ]
      ]

  -- the turns of a run as a relation between budget, first tree and outcome
  pub data Runs : ℕ → Tree → Outcome → Type 0 where
    rests : {n : ℕ} {t : Tree} → sites C t ≡ [] → Runs n t (ended normal t)
    uses_up : {t : Tree} → (sites C t ≢ []) → Runs zero t (ended spent t)
    lacks_room : {n : ℕ} {t : Tree} → (sites C t ≢ []) → room t (next C pick t) ≡ false → Runs (suc n) t (ended full t)
    goes_on : {n : ℕ} {t : Tree} {r : Outcome} → (sites C t ≢ []) → room t (next C pick t) ≡ true → Runs n (next C pick t) r → Runs (suc n) t (one_more r)

  -- what a run of m steps and then one of n have together, against the one run of m + n
  pub record AddsUp (n : ℕ) (front whole : Outcome) : Type 0 where
    pub counts : whole.count ≡ front.count + (run n front.tree).count
    pub trees : whole.tree ≡ (run n front.tree).tree
    pub stops : 0 < n → whole.stop ≡ (run n front.tree).stop

  -- how an outcome's stop word and count fit the budget and the last tree
  pub record StopsRightly (n : ℕ) (r : Outcome) : Type 0 where
    pub within_budget : r.count ≤ n
    pub normal_at_rest : (r.stop ≡ normal) ↔ (sites C r.tree ≡ [])
    pub spent_at_budget : r.stop ≡ spent → r.count ≡ n
    pub full_before_budget : r.stop ≡ full → (r.count < n) × (room r.tree (next C pick r.tree) ≡ false)

-- LAWS

-- outermost answers a place of every list, and on the sites of a tree that place is an outer site's
abbrev pub OutermostChoosesAnOuterSite : Type 0
OutermostChoosesAnOuterSite =
    Chooses outermost
    × ((C : Card) → WellFormed C → (t : Tree) → (sites C t ≢ []) → IsSite C t (chosen C outermost t) × Outer C t (chosen C outermost t))

abbrev pub RunIsItsTurns : Type 0
RunIsItsTurns =
    (C : Card) (pick : Choice) (room : Room) (n : ℕ) (t : Tree) (r : Outcome)
    → Runs C pick room n t r ↔ (r ≡ run C pick room n t)

abbrev pub RunStopsRightly : Type 0
RunStopsRightly =
    (C : Card) (pick : Choice) (room : Room) (n : ℕ) (t : Tree) → StopsRightly C pick room n (run C pick room n t)

-- a run's last tree is reached from its first, so it is a tree of the card
abbrev pub RunIsReached : Type 0
RunIsReached =
    (C : Card) → WellFormed C → (pick : Choice) → Chooses pick → (room : Room) (n : ℕ) (t : Tree) → OnCard C t
    → Reaches C t (run C pick room n t).tree

abbrev pub RunsAddUp : Type 0
RunsAddUp =
    (C : Card) (pick : Choice) (room : Room) (m n : ℕ) (t : Tree)
    → AddsUp C pick room n (run C pick room m t) (run C pick room (m + n) t)
