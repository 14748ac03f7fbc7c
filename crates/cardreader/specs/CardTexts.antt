-- What a card text makes of the two tables, line by line. Assumes nothing.
use Rattle.std.specs.Prelude.{ℕ, suc, Bool, true, false, ◌||◌, List, [], ◌∷◌, take, ◌==◌, nat_le, slice_set}
use Rattle.card.specs.declared.record.Card.{Card}
use Rattle.card.specs.declared.record.SymbolRecord.{SymbolRecord}
use Rattle.card.specs.declared.record.RuleRecord.{RuleRecord}
use Rattle.card.specs.declared.refusal.Refusal.{Refusal}
use Rattle.card.specs.declared.refusal.Refusal.TheVariants.{Malformed, OverLimit}
use Rattle.draft.specs.Drafts.{counts}
use Rattle.reading.specs.Faults.{refusal_of}
use Rattle.reading.specs.Lines.{Line, taken, broken, symbol_line, rule_line}

-- the lines were read to their end: the card and both tables; or one was refused: why, and its number
pub data Outcome : Type 0 where
  accepted : Card → List SymbolRecord → List RuleRecord → Outcome
  refused : Refusal → ℕ → Outcome

-- whether a line has a "=", which makes it a rule line
abbrev pub has_equals : List ℕ → Bool
has_equals [] = false
has_equals (b ∷ bs) = b == 61 || has_equals bs

-- a symbol line behind a rule line: malformed at its first byte, where one symbol too many comes first
abbrev pub misplaced : ℕ → Refusal
misplaced m = elim (nat_le 64 m) [ true ↦ OverLimit | false ↦ Malformed ]

-- a rule line, behind k lines; `go` reads on with its record in the table
abbrev pub rule_step : (RuleRecord → Outcome) → ℕ → Line RuleRecord → Outcome
rule_step go k (taken r) = go r
rule_step go k (broken f rest) = refused (refusal_of f) (suc k)

-- the lines behind k lines, with m symbols and n rules taken and the symbols ended
abbrev pub rule_lines : List SymbolRecord → ℕ → List RuleRecord → ℕ → ℕ → List (List ℕ) → Outcome
rule_lines ss m rs n k [] = accepted (counts m n) ss rs
rule_lines ss m rs n k ([] ∷ ls) = rule_lines ss m rs n (suc k) ls
rule_lines ss m rs n k ((b ∷ bs) ∷ ls) =
    elim (has_equals (b ∷ bs)) [
      | false ↦ refused (misplaced m) (suc k)
      | true ↦ rule_step (λ r. rule_lines ss m (slice_set rs n r) (suc n) (suc k) ls) k (rule_line (take m ss) n (b ∷ bs))
    ]

abbrev pub symbol_step : (SymbolRecord → Outcome) → ℕ → Line SymbolRecord → Outcome
symbol_step go k (taken s) = go s
symbol_step go k (broken f rest) = refused (refusal_of f) (suc k)

-- the lines behind k lines, with m symbols taken: the first rule line ends the symbols
abbrev pub symbol_lines : List SymbolRecord → ℕ → List RuleRecord → ℕ → List (List ℕ) → Outcome
symbol_lines ss m rs k [] = accepted (counts m 0) ss rs
symbol_lines ss m rs k ([] ∷ ls) = symbol_lines ss m rs (suc k) ls
symbol_lines ss m rs k ((b ∷ bs) ∷ ls) =
    elim (has_equals (b ∷ bs)) [
      | true ↦ rule_lines ss m rs 0 k ((b ∷ bs) ∷ ls)
      | false ↦ symbol_step (λ s. symbol_lines (slice_set ss m s) (suc m) rs (suc k) ls) k (symbol_line (take m ss) (b ∷ bs))
    ]
