-- The card that a text states, in the words of written symbols and rules. Assumes nothing.
use Rattle.std.specs.Prelude.{◌≡◌, ℕ, ◌≤◌, ◌↔◌, List, [], ◌∷◌, ◌++◌, length, take, drop}
use Rattle.card.specs.Records.{KeepsRules}
use Rattle.card.specs.declared.record.Card.{Card}
use Rattle.card.specs.declared.record.SymbolRecord.{SymbolRecord}
use Rattle.card.specs.declared.record.RuleRecord.{RuleRecord}
use Rattle.cardtext.specs.Cleaning.{cleaned}
use Rattle.cardtext.specs.Lines.{lines}
use Rattle.draft.specs.Drafts.{counts}
use Rattle.reading.specs.CardLines.{SymbolSpelled, RuleWritten}
use Rattle.cardreader.specs.CardTexts.{accepted}
use Rattle.cardreader.specs.Calls.{card_text}

-- the lines that have bytes
abbrev pub with_bytes : List (List ℕ) → List (List ℕ)
with_bytes [] = []
with_bytes ([] ∷ ls) = with_bytes ls
with_bytes ((b ∷ bs) ∷ ls) = (b ∷ bs) ∷ with_bytes ls

-- as many lines as records, and each is the line of the record at its place
abbrev pub LineByLine : {A : Type 0} → (List ℕ → A → Type 0) → List (List ℕ) → List A → Type 0
LineByLine Written [] [] = Unit {0}
LineByLine Written [] (x ∷ xs) = ⊥
LineByLine Written (l ∷ ls) [] = ⊥
LineByLine Written (l ∷ ls) (x ∷ xs) = Written l x × LineByLine Written ls xs

-- the lines of a card: those of its symbols in order, and behind them those of its rules, with empty lines anywhere
pub record CardWritten (ls : List (List ℕ)) (symbols : List SymbolRecord) (rules : List RuleRecord) : Type 0 where
  pub symbols_first : LineByLine SymbolSpelled (take (length symbols) (with_bytes ls)) symbols
  pub rules_behind : LineByLine (RuleWritten symbols) (drop (length symbols) (with_bytes ls)) rules
  pub few_symbols : length symbols ≤ 64
  pub few_rules : length rules ≤ 64
  pub keeps : KeepsRules symbols rules

-- a text states a card: its records stand at the front of the tables, the records behind them are as they were
pub record CardStated (text : List ℕ) (ss ss' : List SymbolRecord) (rs rs' : List RuleRecord) (card : Card) : Type 0 where
  pub symbols : List SymbolRecord
  pub rules : List RuleRecord
  pub written : CardWritten (lines (cleaned text)) symbols rules
  pub counted : card ≡ counts (length symbols) (length rules)
  pub symbols_are : ss' ≡ symbols ++ drop (length symbols) ss
  pub rules_are : rs' ≡ rules ++ drop (length rules) rs

-- LAWS

-- in tables that are long enough, a text is accepted exactly if its cleaned lines are those of a card that keeps the rules
abbrev pub CardTextAcceptedExactly : Type 0
CardTextAcceptedExactly =
    (text : List ℕ) (ss ss' : List SymbolRecord) (rs rs' : List RuleRecord) (card : Card) → 64 ≤ length ss → 64 ≤ length rs
    → (card_text ss rs text ≡ accepted card ss' rs') ↔ CardStated text ss ss' rs rs' card

-- no two cards share a text
abbrev pub CardsHaveDifferentTexts : Type 0
CardsHaveDifferentTexts =
    (ls : List (List ℕ)) (symbols symbols' : List SymbolRecord) (rules rules' : List RuleRecord)
    → CardWritten ls symbols rules → CardWritten ls symbols' rules' → (symbols ≡ symbols') × (rules ≡ rules')
