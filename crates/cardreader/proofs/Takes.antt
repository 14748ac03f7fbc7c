-- One line into a draft whose tables keep the card's rules. Assumes nothing.
use Rattle.std.proofs.Common.{◌≡◌, ℕ, ◌+◌, List, take, Ok, Err, Result, MatchResult, sym, ap, ◌∙◌, subst, add-one}
use Rattle.std.proofs.Math.Logic.{∥∥₁_elim}
use Rattle.card.specs.Records.{Kept}
use Rattle.card.specs.declared.record.SymbolRecord.{SymbolRecord}
use Rattle.card.specs.declared.record.RuleRecord.{RuleRecord}
use Rattle.card.specs.declared.refusal.Refusal.{Refusal}
use Rattle.draft.specs.Drafts.{counts, SymbolTaken, RuleTaken, Refused, broken_table, broken_line}
use Rattle.draft.specs.declared.draft.SymbolDraft.{SymbolDraft}
use Rattle.draft.specs.declared.draft.RuleDraft.{RuleDraft}
use Rattle.draft.proofs.Kept.{symbol_keeps, rule_keeps}
use Rattle.reading.specs.Lines.{symbol_line, rule_line}
use Rattle.cardreader.specs.Taking.{TakesRule, BreaksRule, TakesSymbol, BreaksSymbol}

module _ (before after : RuleDraft) (ss : List SymbolRecord) (rs rs' : List RuleRecord) (text line : List ℕ) (same : text ≡ line) where
  pub rule_takes : after.symbols ≡ before.symbols → after.rules ≡ before.rules + 1 → RuleTaken before.symbols before.rules text ss rs rs' → TakesRule before after ss rs rs' line
  rule_takes m n t =
      record {
        rule = t.rule;
        line = ap (rule_line (take before.symbols ss) before.rules) (sym same) ∙ t.line;
        written = t.written;
        same_symbols = m;
        one_more = n ∙ add-one before.rules;
      }

module _ (before : RuleDraft) (ss : List SymbolRecord) (rs : List RuleRecord) (text line rest : List ℕ) (f : Refusal) (same : text ≡ line) (kept : ∥ Kept ss rs (counts before.symbols before.rules) ∥₁) where
  pub rule_breaks : Refused (Kept ss rs (counts before.symbols before.rules)) (rule_line (take before.symbols ss) before.rules text) rest f → BreaksRule before ss line f
  rule_breaks (broken_table e none) = absurd (∥∥₁_elim kept (λ x y. absurd x) none)
  rule_breaks (broken_line c e k l) = record { fault = c; rest = rest; line = ap (rule_line (take before.symbols ss) before.rules) (sym same) ∙ l; refusal_is = e }

module _ (before after : SymbolDraft) (rs : List RuleRecord) (ss ss' : List SymbolRecord) (text line : List ℕ) (same : text ≡ line) where
  pub symbol_takes : after.symbols ≡ before.symbols + 1 → SymbolTaken before.symbols text rs ss ss' → TakesSymbol before after rs ss ss' line
  symbol_takes m t =
      record {
        symbol = t.symbol;
        line = ap (symbol_line (take before.symbols ss)) (sym same) ∙ t.line;
        written = t.written;
        one_more = m ∙ add-one before.symbols;
      }

module _ (before : SymbolDraft) (ss : List SymbolRecord) (rs : List RuleRecord) (text line rest : List ℕ) (f : Refusal) (same : text ≡ line) (kept : ∥ Kept ss rs (counts before.symbols 0) ∥₁) where
  pub symbol_breaks : Refused (Kept ss rs (counts before.symbols 0)) (symbol_line (take before.symbols ss) text) rest f → BreaksSymbol before ss line f
  symbol_breaks (broken_table e none) = absurd (∥∥₁_elim kept (λ x y. absurd x) none)
  symbol_breaks (broken_line c e k l) = record { fault = c; rest = rest; line = ap (symbol_line (take before.symbols ss)) (sym same) ∙ l; refusal_is = e }

-- the tables still keep the card's rules, whether the line was taken or not
pub symbol_kept : (R : Refusal → Type 0) (before after : SymbolDraft) (rs : List RuleRecord) (ss ss' : List SymbolRecord) (text : List ℕ) (r : Result (Unit {0}) Refusal)
    → MatchResult r (λ _. (after.symbols ≡ before.symbols + 1) × SymbolTaken before.symbols text rs ss ss') (λ f. (after ≡ before) × (ss' ≡ ss) × R f)
    → ∥ Kept ss rs (counts before.symbols 0) ∥₁ → ∥ Kept ss' rs (counts after.symbols 0) ∥₁
symbol_kept R before after rs ss ss' text (Ok x) t kept =
    ∣ subst (λ i. Kept ss' rs (counts i 0)) (sym t.0) (symbol_keeps before.symbols text rs ss ss' t.1) ∣₁
symbol_kept R before after rs ss ss' text (Err f) t kept =
    subst (λ d. ∥ Kept ss' rs (counts d.symbols 0) ∥₁) (sym t.0) (subst (λ xs. ∥ Kept xs rs (counts before.symbols 0) ∥₁) (sym t.1) kept)

pub rule_kept : (R : Refusal → Type 0) (before after : RuleDraft) (ss : List SymbolRecord) (rs rs' : List RuleRecord) (text : List ℕ) (r : Result (Unit {0}) Refusal)
    → MatchResult r (λ _. (after.symbols ≡ before.symbols) × (after.rules ≡ before.rules + 1) × RuleTaken before.symbols before.rules text ss rs rs')
    (λ f. (after ≡ before) × (rs' ≡ rs) × R f)
    → ∥ Kept ss rs (counts before.symbols before.rules) ∥₁ → ∥ Kept ss rs' (counts after.symbols after.rules) ∥₁
rule_kept R before after ss rs rs' text (Ok x) t kept =
    ∣ subst (λ i. Kept ss rs' (counts i after.rules)) (sym t.0)
    (subst (λ i. Kept ss rs' (counts before.symbols i)) (sym t.1) (rule_keeps before.symbols before.rules text ss rs rs' t.2)) ∣₁
rule_kept R before after ss rs rs' text (Err f) t kept =
    subst (λ d. ∥ Kept ss rs' (counts d.symbols d.rules) ∥₁) (sym t.0) (subst (λ xs. ∥ Kept ss xs (counts before.symbols before.rules) ∥₁) (sym t.1) kept)
