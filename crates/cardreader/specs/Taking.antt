-- What one line makes of a draft whose tables keep the card's rules. Assumes nothing.
use Rattle.std.specs.Prelude.{◌≡◌, ℕ, suc, List, take, slice_set}
use Rattle.card.specs.declared.record.SymbolRecord.{SymbolRecord}
use Rattle.card.specs.declared.record.RuleRecord.{RuleRecord}
use Rattle.card.specs.declared.refusal.Refusal.{Refusal}
use Rattle.draft.specs.declared.draft.SymbolDraft.{SymbolDraft}
use Rattle.draft.specs.declared.draft.RuleDraft.{RuleDraft}
use Rattle.reading.specs.declared.fault.Fault.{Fault}
use Rattle.reading.specs.Faults.{refusal_of}
use Rattle.reading.specs.Lines.{taken, broken, symbol_line, rule_line}

pub record TakesRule (before after : RuleDraft) (ss : List SymbolRecord) (rs rs' : List RuleRecord) (text : List ℕ) : Type 0 where
  pub rule : RuleRecord
  pub line : rule_line (take before.symbols ss) before.rules text ≡ taken rule
  pub written : rs' ≡ slice_set rs before.rules rule
  pub same_symbols : after.symbols ≡ before.symbols
  pub one_more : after.rules ≡ suc before.rules

pub record BreaksRule (before : RuleDraft) (ss : List SymbolRecord) (text : List ℕ) (f : Refusal) : Type 0 where
  pub fault : Fault
  pub rest : List ℕ
  pub line : rule_line (take before.symbols ss) before.rules text ≡ broken fault rest
  pub refusal_is : f ≡ refusal_of fault

pub record TakesSymbol (before after : SymbolDraft) (rs : List RuleRecord) (ss ss' : List SymbolRecord) (text : List ℕ) : Type 0 where
  pub symbol : SymbolRecord
  pub line : symbol_line (take before.symbols ss) text ≡ taken symbol
  pub written : ss' ≡ slice_set ss before.symbols symbol
  pub one_more : after.symbols ≡ suc before.symbols

pub record BreaksSymbol (before : SymbolDraft) (ss : List SymbolRecord) (text : List ℕ) (f : Refusal) : Type 0 where
  pub fault : Fault
  pub rest : List ℕ
  pub line : symbol_line (take before.symbols ss) text ≡ broken fault rest
  pub refusal_is : f ≡ refusal_of fault
