-- What each call of a draft does to its counts and to the two tables. Assumes nothing.
use Rattle.std.specs.Prelude.{◌≡◌, ℕ, List, take, slice_set}
use Rattle.card.specs.Records.{Kept}
use Rattle.card.specs.declared.record.Card.{Card}
use Rattle.card.specs.declared.record.SymbolRecord.{SymbolRecord}
use Rattle.card.specs.declared.record.RuleRecord.{RuleRecord}
use Rattle.card.specs.declared.refusal.Refusal.{Refusal}
use Rattle.card.specs.declared.refusal.Refusal.TheVariants.{BrokenTable}
use Rattle.reading.specs.declared.fault.Fault.{Fault}
use Rattle.reading.specs.Faults.{refusal_of}
use Rattle.reading.specs.Lines.{Line, taken, broken, symbol_line, rule_line}

abbrev pub counts : ℕ → ℕ → Card
counts m n = record { symbols = m; rules = n }

-- a symbol line was taken behind m symbols: its record stands in the table, and no other changed
pub record SymbolTaken (m : ℕ) (text : List ℕ) (rs : List RuleRecord) (before after : List SymbolRecord) : Type 0 where
  pub kept : Kept before rs (counts m 0)
  pub symbol : SymbolRecord
  pub line : symbol_line (take m before) text ≡ taken symbol
  pub written : after ≡ slice_set before m symbol

-- a rule line was taken behind n rules
pub record RuleTaken (m n : ℕ) (text : List ℕ) (ss : List SymbolRecord) (before after : List RuleRecord) : Type 0 where
  pub kept : Kept ss before (counts m n)
  pub rule : RuleRecord
  pub line : rule_line (take m ss) n text ≡ taken rule
  pub written : after ≡ slice_set before n rule

-- why a line is refused: the tables are broken, or they are not and the line is, at the rest that its source still has
pub data Refused {A : Type 0} (Keeps : Type 0) (line : Line A) (rest : List ℕ) (f : Refusal) : Type 0 where
  broken_table : f ≡ BrokenTable → (Keeps → ⊥) → Refused Keeps line rest f
  broken_line : (c : Fault) → f ≡ refusal_of c → Keeps → line ≡ broken c rest → Refused Keeps line rest f
