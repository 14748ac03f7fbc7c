-- A term as the preorder list of its places, and back. Assumes nothing.
use Rattle.std.specs.Prelude.{◌≡◌, ℕ, zero, suc, ◌+◌, Bool, true, false, List, [], ◌∷◌, ◌++◌, drop, Some, None, Decides}
use Rattle.std.specs.Option.{unwrap_or}
use Rattle.rewriting.specs.Terms.{Term, var, app, Terms, nilᵗ, consᵗ, countᵗ}
use Rattle.rewriting.specs.Cards.{Signature, TermOn, TermsOn}

-- a place is one occurrence of a symbol or of a variable
pub data Place : Type 0 where
  Symbol : ℕ → Place
  Variable : ℕ → Place

-- the places of a term in preorder: a symbol before its children, children from left to right
abbrev mutual
  pub places : Term → List Place
  places (var v) = Variable v ∷ []
  places (app f ts) = Symbol f ∷ places_of ts

  pub places_of : Terms → List Place
  places_of nilᵗ = []
  places_of (consᵗ t ts) = places t ++ places_of ts

abbrev pub all_places : List Term → List Place
all_places [] = []
all_places (t ∷ ts) = places t ++ all_places ts

-- the first n terms of a list, or all of a shorter one
abbrev pub firsts : ℕ → List Term → Terms
firsts zero ts = nilᵗ
firsts (suc n) [] = nilᵗ
firsts (suc n) (t ∷ ts) = consᵗ t (firsts n ts)

-- one place in front of the terms that the places behind it make: a symbol takes as many of them as its arity says
abbrev pub grow : Signature → Place → List Term → List Term
grow Σ (Variable v) ts = var v ∷ ts
grow Σ (Symbol f) ts = app f (firsts (unwrap_or (Σ f) 0) ts) ∷ drop (unwrap_or (Σ f) 0) ts

-- the terms that a list of places makes, read from its end
abbrev pub forest : Signature → List Place → List Term
forest Σ [] = []
forest Σ (p ∷ ps) = grow Σ p (forest Σ ps)

-- whether a list of places is those of n terms, one behind the other: each place stands for one term that is due, and a
-- symbol makes its children due in turn
abbrev pub counts_off : Signature → ℕ → List Place → Bool
counts_off Σ zero [] = true
counts_off Σ zero (p ∷ ps) = false
counts_off Σ (suc n) [] = false
counts_off Σ (suc n) (Variable v ∷ ps) = counts_off Σ n ps
counts_off Σ (suc n) (Symbol f ∷ ps) = elim (Σ f) [ None ↦ false | Some a ↦ counts_off Σ (a + n) ps ]

-- the terms whose places they are
pub record PlacesOf (Σ : Signature) (n : ℕ) (ps : List Place) : Type 0 where
  pub terms : Terms
  pub as_many : countᵗ terms ≡ n
  pub on : TermsOn Σ terms
  pub spelled : places_of terms ≡ ps

-- LAWS

-- reading the places of a term gives the term back, whatever stands behind them
abbrev pub ForestOfPlaces : Type 0
ForestOfPlaces =
    (Σ : Signature) (t : Term) → TermOn Σ t → (ps : List Place) → forest Σ (places t ++ ps) ≡ t ∷ forest Σ ps

-- the places of what a list of places makes are that list
abbrev pub PlacesOfForest : Type 0
PlacesOfForest = (Σ : Signature) (ps : List Place) → all_places (forest Σ ps) ≡ ps

abbrev pub CountingOffTellsTerms : Type 0
CountingOffTellsTerms = (Σ : Signature) (n : ℕ) (ps : List Place) → Decides (counts_off Σ n ps) (PlacesOf Σ n ps)
