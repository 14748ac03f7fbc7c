-- The written form of a term, and which terms a grammar allows. Assumes nothing.
use Rattle.std.specs.Prelude.{◌≡◌, ℕ, zero, suc, ◌+◌, ◌<◌, ◌≤◌, max, Bool, true, false, ◌↔◌, List, [], ◌∷◌, ◌++◌, map, length, Some, None, Option, slice_index_or}
use Rattle.std.specs.List.{AllByRecursion}
use Rattle.rewriting.specs.Terms.{Term, var, app, Terms, nilᵗ, consᵗ, occurs}
use Rattle.rewriting.specs.Cards.{TermOn}
use Rattle.rewriting.specs.Places.{places}
use Rattle.card.specs.Records.{arities, name_of, stored, WellFormedSymbol, DistinctNames}
use Rattle.card.specs.declared.record.Place.{Place}
use Rattle.card.specs.declared.record.SymbolRecord.{SymbolRecord}
use Rattle.reading.specs.Scanning.{Grammar, at_start, whole, scan}

-- a variable is its letter; a constant is its name; any other term is its symbol's name and, in brackets, its children with
-- commas between them
abbrev mutual
  pub written : List SymbolRecord → Term → List ℕ
  written ss (var v) = (65 + v) ∷ []
  written ss (app f ts) = name_of ss f ++ written_children ss ts

  pub written_children : List SymbolRecord → Terms → List ℕ
  written_children ss nilᵗ = []
  written_children ss (consᵗ t ts) = 40 ∷ (written ss t ++ written_rest ss ts)

  -- the children behind the first, and the bracket that closes
  pub written_rest : List SymbolRecord → Terms → List ℕ
  written_rest ss nilᵗ = 41 ∷ []
  written_rest ss (consᵗ t ts) = 44 ∷ (written ss t ++ written_rest ss ts)

-- how many brackets are open at once where most are
abbrev mutual
  pub nesting : Term → ℕ
  nesting (var v) = zero
  nesting (app f ts) = nesting_children ts

  pub nesting_children : Terms → ℕ
  nesting_children nilᵗ = zero
  nesting_children (consᵗ t ts) = suc (max (nesting t) (nesting_rest ts))

  pub nesting_rest : Terms → ℕ
  nesting_rest nilᵗ = zero
  nesting_rest (consᵗ t ts) = max (nesting t) (nesting_rest ts)

-- a variable may stand
abbrev pub May : Option (List Bool) → ℕ → Type 0
May None v = ⊥
May (Some may) v = (v < 8) × (slice_index_or may v false ≡ true)

-- a term of the card inside the limits of a grammar
pub record Allowed (G : Grammar) (t : Term) : Type 0 where
  pub on : TermOn (arities G.symbols) t
  pub variables : (v : ℕ) → occurs v t ≡ true → May G.variables v
  pub few_places : length (places t) ≤ G.places
  pub few_brackets : nesting t ≤ G.brackets

-- the text of an allowed term whose places these are
pub record TextOf (G : Grammar) (text : List ℕ) (ps : List Place) : Type 0 where
  pub term : Term
  pub allowed : Allowed G term
  pub spelled : text ≡ written G.symbols term
  pub places_are : ps ≡ map stored (places term)

-- the symbols of a grammar are those of a card
pub record ProperSymbols (ss : List SymbolRecord) : Type 0 where
  pub each : AllByRecursion WellFormedSymbol ss
  pub distinct : DistinctNames ss

-- LAWS

-- a text is read to its end exactly if it is the written form of an allowed term, and the places read are that term's
abbrev pub AcceptedExactlyIfWritten : Type 0
AcceptedExactlyIfWritten =
    (G : Grammar) → ProperSymbols G.symbols → (text : List ℕ) (ps : List Place)
    → (scan G (at_start []) [] text ≡ whole ps []) ↔ TextOf G text ps

-- no two terms share a text
abbrev pub WrittenFormsDiffer : Type 0
WrittenFormsDiffer =
    (G : Grammar) → ProperSymbols G.symbols → (t u : Term) → Allowed G t → Allowed G u
    → written G.symbols t ≡ written G.symbols u → t ≡ u
