-- What the lines still to come make of a draft. Assumes nothing.
use Rattle.std.specs.Prelude.{◌≡◌, ℕ, suc, true, List, ◌∷◌, length, replicate, Option, MatchOption}
use Rattle.std.specs.Borrow.{Bor}
use Rattle.card.specs.Records.{blank_rule, blank_symbol}
use Rattle.card.specs.declared.record.SymbolRecord.{SymbolRecord}
use Rattle.card.specs.declared.record.RuleRecord.{RuleRecord}
use Rattle.cardtext.specs.declared.cursor.Lines.{Lines}
use Rattle.cardtext.specs.Cursors.{rest_lines}
use Rattle.draft.specs.Drafts.{counts}
use Rattle.draft.specs.declared.draft.RuleDraft.{RuleDraft}
use Rattle.draft.specs.declared.draft.SymbolDraft.{SymbolDraft}
use Rattle.cardreader.specs.CardTexts.{Outcome, accepted, has_equals, rule_lines, symbol_lines}

abbrev pub rules_outcome : RuleDraft → List SymbolRecord → List RuleRecord → Lines → Outcome
rules_outcome d ss rs c = rule_lines ss d.symbols rs d.rules c.number (rest_lines c)

-- all of them were taken as rules
pub record RulesRead (before after : RuleDraft) (ss : List SymbolRecord) (rs rs' : List RuleRecord) (lines : Lines) : Type 0 where
  pub same_symbols : after.symbols ≡ before.symbols
  pub outcome : rules_outcome before ss rs lines ≡ accepted (counts after.symbols after.rules) ss rs'

abbrev pub symbols_outcome : SymbolDraft → List SymbolRecord → List RuleRecord → Lines → Outcome
symbols_outcome d ss rs c = symbol_lines ss d.symbols rs c.number (rest_lines c)

-- up to the line handed out last, which states a rule, they were taken as symbols, and the others are still to come
pub record RulesBegin (symbols : ℕ) (ss : List SymbolRecord) (rs : List RuleRecord) (lines : Lines) (line : List ℕ) (outcome : Outcome) : Type 0 where
  pub behind : ℕ
  pub counted : lines.number ≡ suc behind
  pub states_rule : has_equals line ≡ true
  pub goes_on : outcome ≡ rule_lines ss symbols rs 0 behind (line ∷ rest_lines lines)

-- the symbols have ended, with the lines or at the first that states a rule
abbrev pub SymbolsEnded : ℕ → List SymbolRecord → List RuleRecord → Lines → Option (Bor (List ℕ)) → Outcome → Type 0
SymbolsEnded symbols ss rs lines first outcome =
    MatchOption first (outcome ≡ accepted (counts symbols 0) ss rs) (λ line. RulesBegin symbols ss rs lines line.now outcome)

-- every record of both tables is blank
pub record Blank (ss ss' : List SymbolRecord) (rs rs' : List RuleRecord) : Type 0 where
  pub symbols : ss' ≡ replicate (length ss) blank_symbol
  pub rules : rs' ≡ replicate (length rs) blank_rule
