-- Which refusals a recipe, a symbol line and a rule line can get. Assumes nothing.
use Rattle.std.specs.Prelude.{◌≡◌, ℕ, Bool, true, false, ◌||◌, List, [], ◌∷◌, Err, ◌==◌}
use Rattle.card.specs.Refusals.{number_of}
use Rattle.card.specs.declared.record.SymbolRecord.{SymbolRecord}
use Rattle.card.specs.declared.refusal.Refusal.{Refusal}
use Rattle.reading.specs.declared.fault.Fault.{Fault}
use Rattle.reading.specs.Faults.{refusal_of}
use Rattle.reading.specs.Lines.{broken, symbol_line, rule_line}
use Rattle.reading.specs.Recipes.{recipe}

-- whether a refusal has one of these numbers
abbrev pub numbered : List ℕ → Refusal → Bool
numbered [] f = false
numbered (n ∷ ns) f = number_of f == n || numbered ns f

-- LAWS

-- 4,096 bytes have no 4,097 places, and a recipe has no rule that could be broken
abbrev pub RecipeRefusals : Type 0
RecipeRefusals =
    (ss : List SymbolRecord) (text : List ℕ) (f : Refusal)
    → recipe ss text ≡ Err f → numbered (4 ∷ 5 ∷ 6 ∷ 7 ∷ 8 ∷ []) f ≡ true

abbrev pub SymbolLineRefusals : Type 0
SymbolLineRefusals =
    (ss : List SymbolRecord) (text : List ℕ) (f : Fault) (rest : List ℕ)
    → symbol_line ss text ≡ broken f rest → numbered (5 ∷ 11 ∷ 12 ∷ []) (refusal_of f) ≡ true

-- a side runs out of places before it runs out of brackets
abbrev pub RuleLineRefusals : Type 0
RuleLineRefusals =
    (ss : List SymbolRecord) (n : ℕ) (text : List ℕ) (f : Fault) (rest : List ℕ)
    → rule_line ss n text ≡ broken f rest → numbered (5 ∷ 6 ∷ 7 ∷ 11 ∷ 13 ∷ 14 ∷ []) (refusal_of f) ≡ true
