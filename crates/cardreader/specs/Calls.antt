-- What reading a card text answers and leaves behind. Assumes nothing.
use Rattle.std.specs.Prelude.{◌≡◌, ℕ, ◌-◌, ◌<◌, ◌≤◌, List, ◌++◌, length, replicate}
use Rattle.card.specs.Records.{Kept}
use Rattle.card.specs.declared.record.Card.{Card}
use Rattle.card.specs.declared.record.SymbolRecord.{SymbolRecord}
use Rattle.card.specs.declared.record.RuleRecord.{RuleRecord}
use Rattle.card.specs.declared.refusal.Refusal.{Refusal}
use Rattle.card.specs.declared.refusal.Refusal.TheVariants.{TextTooLong, BufferTooShort, BrokenTable}
use Rattle.cardtext.specs.Cleaning.{cleaned}
use Rattle.cardtext.specs.Lines.{lines}
use Rattle.cardreader.specs.CardTexts.{Outcome, accepted, refused, symbol_lines}
use Rattle.cardreader.specs.Reading.{Blank}

-- what the lines of a text say, once it is cleaned
abbrev pub card_text : List SymbolRecord → List RuleRecord → List ℕ → Outcome
card_text ss rs text = symbol_lines ss 0 rs 0 (lines (cleaned text))

-- the tests that come before the first line are passed
pub record Admitted (text buffer : List ℕ) (ss : List SymbolRecord) (rs : List RuleRecord) : Type 0 where
  pub few_bytes : length text ≤ 16384
  pub room : length text ≤ length buffer
  pub symbols_long : 64 ≤ length ss
  pub rules_long : 64 ≤ length rs

-- one of these tests, the first that fails, gives this refusal
pub data NotAdmitted (text buffer : List ℕ) (ss : List SymbolRecord) (rs : List RuleRecord) (f : Refusal) : Type 0 where
  too_long : f ≡ TextTooLong → 16384 < length text → NotAdmitted text buffer ss rs f
  too_short : f ≡ BufferTooShort → length text ≤ 16384 → length buffer < length text → NotAdmitted text buffer ss rs f
  few_records : f ≡ BrokenTable → length text ≤ 16384 → length text ≤ length buffer → (64 ≤ length ss → 64 ≤ length rs → ⊥) → NotAdmitted text buffer ss rs f

module _ (text before after : List ℕ) (ss ss' : List SymbolRecord) (rs rs' : List RuleRecord) where
  -- the lines are read to their end, and the buffer holds the cleaned text
  pub record CardRead (card : Card) : Type 0 where
    pub admitted : Admitted text before ss rs
    pub reads : card_text ss rs text ≡ accepted card ss' rs'
    pub keeps : Kept ss' rs' card
    pub holds : after ≡ cleaned text ++ replicate (length before - length (cleaned text)) 0

  -- nothing is written, or a line is refused and everything is blank
  pub data CardRefused (f : Refusal) (line : ℕ) : Type 0 where
    not_admitted : NotAdmitted text before ss rs f → line ≡ 0 → after ≡ before → ss' ≡ ss → rs' ≡ rs → CardRefused f line
    line_refused : Admitted text before ss rs → card_text ss rs text ≡ refused f line → Blank ss ss' rs rs' → after ≡ replicate (length before) 0 → CardRefused f line
