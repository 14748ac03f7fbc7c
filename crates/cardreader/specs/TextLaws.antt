-- What an accepted and a refused card text have in common with every other. Assumes nothing.
use Rattle.std.specs.Prelude.{◌≡◌, ℕ, suc, ◌<◌, List, [], length, drop, slice_index_or}
use Rattle.card.specs.declared.record.Card.{Card}
use Rattle.card.specs.declared.record.SymbolRecord.{SymbolRecord}
use Rattle.card.specs.declared.record.RuleRecord.{RuleRecord}
use Rattle.card.specs.declared.refusal.Refusal.{Refusal}
use Rattle.cardtext.specs.Cleaning.{cleaned}
use Rattle.cardtext.specs.Lines.{lines}
use Rattle.cardreader.specs.CardTexts.{accepted, refused}
use Rattle.cardreader.specs.Calls.{card_text}

-- notes, blanks and tabs say nothing
abbrev pub CleanedTextSaysTheSame : Type 0
CleanedTextSaysTheSame =
    (ss : List SymbolRecord) (rs : List RuleRecord) (text : List ℕ) → card_text ss rs (cleaned text) ≡ card_text ss rs text

-- the line with this number, counted from 1, has bytes
pub record Stands (ls : List (List ℕ)) (number : ℕ) : Type 0 where
  pub index : ℕ
  pub counted : number ≡ suc index
  pub within : index < length ls
  pub not_empty : 0 < length (slice_index_or ls index [])

abbrev pub RefusedLineStandsInTheText : Type 0
RefusedLineStandsInTheText =
    (ss : List SymbolRecord) (rs : List RuleRecord) (text : List ℕ) (f : Refusal) (k : ℕ) → card_text ss rs text ≡ refused f k → Stands (lines (cleaned text)) k

-- behind the counted records
abbrev pub OtherRecordsStay : Type 0
OtherRecordsStay =
    (ss ss' : List SymbolRecord) (rs rs' : List RuleRecord) (text : List ℕ) (c : Card)
    → card_text ss rs text ≡ accepted c ss' rs'
    → (drop c.symbols ss' ≡ drop c.symbols ss) × (drop c.rules rs' ≡ drop c.rules rs)
