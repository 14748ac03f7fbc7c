-- Small cards on which the definitions can be seen at work. Assumes nothing.
use Rattle.std.specs.Prelude.{◌≡◌, ℕ, true, [], ◌∷◌}
use Rattle.rewriting.specs.Terms.{Tree, node, nil, cons, Term, var, app, nilᵗ, consᵗ}
use Rattle.rewriting.specs.Cards.{Card, signature, WellFormed}
use Rattle.rewriting.specs.Relations.{Joins}
use Rattle.rewriting.specs.Steps.{Step, Confluent}
use Rattle.rewriting.specs.Subterms.{sheet}
use Rattle.rewriting.specs.Runs.{normal, spent, outermost, run}

abbrev constant : ℕ → Tree
constant f = node f nil

abbrev over : ℕ → Tree → Tree
over f t = node f (cons t nil)

abbrev over_two : ℕ → Tree → Tree → Tree
over_two f t u = node f (cons t (cons u nil))

abbrev constantᵗ : ℕ → Term
constantᵗ f = app f nilᵗ

abbrev overᵗ : ℕ → Term → Term
overᵗ f t = app f (consᵗ t nilᵗ)

abbrev over_twoᵗ : ℕ → Term → Term → Term
over_twoᵗ f t u = app f (consᵗ t (consᵗ u nilᵗ))

-- mix/2, scent/1, assam/0, ceylon/0 with mix(A,A)=A and scent(mix(A,B))=mix(scent(A),scent(B))
abbrev pub tea : Card
tea =
    record {
      arity = signature (2 ∷ 1 ∷ 0 ∷ 0 ∷ []);
      rules = record { number = 1; left = over_twoᵗ 0 (var 0) (var 0); right = var 0 }
          ∷ record { number = 2; left = overᵗ 1 (over_twoᵗ 0 (var 0) (var 1)); right = over_twoᵗ 0 (overᵗ 1 (var 0)) (overᵗ 1 (var 1)) }
          ∷ [];
    }

abbrev pub blend : Tree
blend = over_two 0 (constant 2) (constant 3)

-- scent(mix(mix(assam,ceylon),mix(assam,ceylon)))
abbrev pub scented_double : Tree
scented_double = over 1 (over_two 0 blend blend)

-- mix(scent(assam),scent(ceylon))
abbrev pub scented_parts : Tree
scented_parts = over_two 0 (over 1 (constant 2)) (over 1 (constant 3))

-- a/0, f/1 with f(A)=a and f(A)=A
abbrev pub collapsing : Card
collapsing =
    record {
      arity = signature (0 ∷ 1 ∷ []);
      rules = record { number = 1; left = overᵗ 1 (var 0); right = constantᵗ 0 } ∷ record { number = 2; left = overᵗ 1 (var 0); right = var 0 } ∷ [];
    }

-- LAWS

abbrev pub TeaCardIsWellFormed : Type 0
TeaCardIsWellFormed = WellFormed tea

-- the doubled blend comes to its normal form in three outermost steps, and two steps lead only part of the way
pub record ScentedDoubleRuns : Type 0 where
  pub whole : run tea outermost (λ t u. true) 1000 scented_double ≡ record { stop = normal; count = 3; tree = scented_parts }
  pub part : run tea outermost (λ t u. true) 2 scented_double ≡ record { stop = spent; count = 2; tree = over 1 blend }
  pub none : run tea outermost (λ t u. true) 0 scented_double ≡ record { stop = spent; count = 0; tree = scented_double }
  pub rows :
      sheet scented_parts
      ≡ record { symbol = 2; children = [] } ∷ record { symbol = 1; children = 1 ∷ [] } ∷ record { symbol = 3; children = [] }
      ∷ record { symbol = 1; children = 3 ∷ [] } ∷ record { symbol = 0; children = 2 ∷ 4 ∷ [] } ∷ []

-- confluence is about the trees of the card: with every tree let in, steps of this confluent card would not join
pub record ConfluenceIsOverTheTreesOfTheCard : Type 0 where
  pub on_card : Confluent collapsing
  pub beyond : Joins (Step collapsing.rules) → ⊥
