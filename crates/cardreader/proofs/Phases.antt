-- What a phase leaves is what its draft and its tables hold then. Assumes nothing.
use Rattle.std.proofs.Common.{◌≡◌, ℕ, List, length, replicate, Ok, Err, Option, Result, MatchResult, sym, ap, ◌∙◌, subst, ap₂}
use Rattle.std.proofs.Math.Logic.{∥∥₁_elim}
use Rattle.std.specs.Borrow.{Bor}
use Rattle.card.specs.Records.{blank_rule, blank_symbol, Kept}
use Rattle.card.specs.declared.record.Card.{Card}
use Rattle.card.specs.declared.record.SymbolRecord.{SymbolRecord}
use Rattle.card.specs.declared.record.RuleRecord.{RuleRecord}
use Rattle.draft.specs.Drafts.{counts}
use Rattle.draft.specs.declared.draft.RuleDraft.{RuleDraft}
use Rattle.draft.specs.declared.draft.SymbolDraft.{SymbolDraft}
use Rattle.cardtext.specs.declared.cursor.Lines.{Lines}
use Rattle.cardreader.specs.CardTexts.{accepted, Outcome, refused}
use Rattle.cardreader.specs.Reading.{Blank, SymbolsEnded}
use Rattle.cardreader.specs.declared.fault.CardFault.{CardFault}

module _ {d d' : RuleDraft} {rs rs' : List RuleRecord} (draft : d' ≡ d) (rules : rs' ≡ rs) where
  pub accepted_then : {ss : List SymbolRecord} {card : Card} → card ≡ counts d'.symbols d'.rules
      → accepted (counts d.symbols d.rules) ss rs ≡ accepted card ss rs'
  accepted_then {ss} {card} is =
      ap₂ (λ k xs. accepted k ss xs) (sym (is ∙ ap (λ e. counts e.symbols e.rules) draft)) (sym rules)

  pub never_refused : {ss ss' : List SymbolRecord} → ∥ Kept ss rs (counts d.symbols d.rules) ∥₁ → ss' ≡ ss
      → (Kept ss' rs' (counts d'.symbols d'.rules) → ⊥) → ⊥
  never_refused {ss} kept symbols none =
      ∥∥₁_elim kept (λ x y. absurd x)
      (λ k. none (subst (λ xs. Kept xs rs' (counts d'.symbols d'.rules)) (sym symbols)
      (subst (λ xs. Kept ss xs (counts d'.symbols d'.rules)) (sym rules) (subst (λ e. Kept ss rs (counts e.symbols e.rules)) (sym draft) k))))

pub kept_then : {d d' : SymbolDraft} {ss ss' : List SymbolRecord} {rs rs' : List RuleRecord}
    → ∥ Kept ss rs (counts d.symbols 0) ∥₁ → d' ≡ d → ss' ≡ ss → rs' ≡ rs → ∥ Kept ss' rs' (counts d'.symbols 0) ∥₁
kept_then {d} {d'} {ss} {ss'} {rs} {rs'} kept draft symbols rules =
    subst (λ e. ∥ Kept ss' rs' (counts e.symbols 0) ∥₁) (sym draft)
    (subst (λ xs. ∥ Kept xs rs' (counts d.symbols 0) ∥₁) (sym symbols) (subst (λ xs. ∥ Kept ss xs (counts d.symbols 0) ∥₁) (sym rules) kept))

pub ended_then : {m m' : ℕ} {ss ss' : List SymbolRecord} (rs : List RuleRecord) (ls : Lines) (first : Option (Bor (List ℕ))) {o o' : Outcome}
    → SymbolsEnded m ss rs ls first o → m' ≡ m → ss' ≡ ss → o' ≡ o → SymbolsEnded m' ss' rs ls first o'
ended_then {m} {m'} {ss} {ss'} rs ls first {o} {o'} ended symbols table outcome =
    subst (λ x. SymbolsEnded m' ss' rs ls first x) (sym outcome)
    (subst (λ xs. SymbolsEnded m' xs rs ls first o) (sym table) (subst (λ n. SymbolsEnded n ss rs ls first o) (sym symbols) ended))

-- what the rule phase makes of the lines behind the symbols, it makes of all of them
pub read_then : (K : Card → Type 0) (E : Outcome → Type 0) (tables ss ss' : List SymbolRecord) (rules rs rs' : List RuleRecord) (r : Result Card CardFault) (o : Outcome)
    → MatchResult r (λ c. K c × ((x : Outcome) → E x → x ≡ accepted c ss' rs'))
    (λ f. Blank tables ss' rules rs' × ((x : Outcome) → E x → x ≡ refused f.refusal f.line))
    → E o → length tables ≡ length ss → length rules ≡ length rs
    → MatchResult r (λ c. K c × (o ≡ accepted c ss' rs')) (λ f. Blank ss ss' rs rs' × (o ≡ refused f.refusal f.line))
read_then K E tables ss ss' rules rs rs' (Ok c) o h e long many = (h.0, h.1 o e)
read_then K E tables ss ss' rules rs rs' (Err f) o h e long many =
    (record { symbols = h.0.symbols ∙ ap (λ n. replicate n blank_symbol) long; rules = h.0.rules ∙ ap (λ n. replicate n blank_rule) many }, h.1 o e)
