-- What the line that a cursor hands out makes of the lines still to come. Assumes nothing.
use Rattle.std.proofs.Common.{◌≡◌, ℕ, suc, ◌<◌, Bool, true, false, List, ◌∷◌, length, set, Decides, sym, ap, ◌∙◌, add-one}
use Rattle.std.specs.List.{ContainsAt as Has}
use Rattle.card.specs.declared.record.SymbolRecord.{SymbolRecord}
use Rattle.card.specs.declared.record.RuleRecord.{RuleRecord}
use Rattle.card.specs.declared.refusal.Refusal.{Refusal}
use Rattle.cardtext.specs.declared.cursor.Lines.{Lines}
use Rattle.cardtext.specs.Cursors.{HandsOut, rest_lines}
use Rattle.draft.specs.declared.draft.RuleDraft.{RuleDraft}
use Rattle.draft.specs.declared.draft.SymbolDraft.{SymbolDraft}
use Rattle.reading.specs.Faults.{refusal_of}
use Rattle.cardreader.specs.CardTexts.{Outcome, refused, misplaced, rule_lines, symbol_lines}
use Rattle.cardreader.specs.Reading.{rules_outcome, symbols_outcome, RulesBegin}
use Rattle.cardreader.specs.Taking.{TakesRule, BreaksRule, TakesSymbol, BreaksSymbol}
use Rattle.cardreader.proofs.LineSteps.{equals_is, rule_misplaced, rule_goes_on, rule_stops, symbols_end, symbol_goes_on, symbol_stops}

counted : (before after : Lines) (line : List ℕ) → HandsOut before after line → suc before.number ≡ after.number
counted before after line h = sym (h.number ∙ add-one before.number)

module _ (before after : Lines) (line : List ℕ) (h : HandsOut before after line) (d : RuleDraft) (ss : List SymbolRecord) (rs : List RuleRecord) where
  first : rules_outcome d ss rs before ≡ rule_lines ss d.symbols rs d.rules before.number (line ∷ rest_lines after)
  first = ap (rule_lines ss d.symbols rs d.rules before.number) h.first

  pub rule_taken : (r : Bool) → Decides r (Has line 61) → r ≡ true → (d' : RuleDraft) (rs' : List RuleRecord) → TakesRule d d' ss rs rs' line → rules_outcome d ss rs before ≡ rules_outcome d' ss rs' after
  rule_taken r p e d' rs' t =
      first ∙ rule_goes_on ss d.symbols rs d.rules before.number line (rest_lines after) (sym (equals_is line r p) ∙ e) t.rule t.line
      ∙ ap (λ k. rule_lines ss d.symbols (set rs d.rules t.rule) (suc d.rules) k (rest_lines after)) (counted before after line h)
      ∙ ap (λ q. rule_lines ss d.symbols q (suc d.rules) after.number (rest_lines after)) (sym t.written)
      ∙ ap (λ n. rule_lines ss d.symbols rs' n after.number (rest_lines after)) (sym t.one_more)
      ∙ ap (λ m. rule_lines ss m rs' d'.rules after.number (rest_lines after)) (sym t.same_symbols)

  pub rule_refused : (r : Bool) → Decides r (Has line 61) → r ≡ true → (f : Refusal) (k : ℕ) → k ≡ after.number → BreaksRule d ss line f → rules_outcome d ss rs before ≡ refused f k
  rule_refused r p e f k n b =
      first ∙ rule_stops ss d.symbols rs d.rules before.number line (rest_lines after) (sym (equals_is line r p) ∙ e) b.fault b.rest b.line
      ∙ ap (refused (refusal_of b.fault)) (counted before after line h ∙ sym n) ∙ ap (λ g. refused g k) (sym b.refusal_is)

  pub symbol_misplaced : 0 < length line → (r : Bool) → Decides r (Has line 61) → r ≡ false → (f : Refusal) (k : ℕ) → k ≡ after.number → f ≡ misplaced d.symbols → rules_outcome d ss rs before ≡ refused f k
  symbol_misplaced l r p e f k n w =
      first ∙ rule_misplaced ss d.symbols rs d.rules before.number line (rest_lines after) l (sym (equals_is line r p) ∙ e)
      ∙ ap (refused (misplaced d.symbols)) (counted before after line h ∙ sym n) ∙ ap (λ g. refused g k) (sym w)

module _ (before after : Lines) (line : List ℕ) (h : HandsOut before after line) (d : SymbolDraft) (ss : List SymbolRecord) (rs : List RuleRecord) where
  first_symbol : symbols_outcome d ss rs before ≡ symbol_lines ss d.symbols rs before.number (line ∷ rest_lines after)
  first_symbol = ap (symbol_lines ss d.symbols rs before.number) h.first

  pub rules_begin : (r : Bool) → Decides r (Has line 61) → r ≡ true → (o : Outcome) → o ≡ symbols_outcome d ss rs before → RulesBegin d.symbols ss rs after line o
  rules_begin r p e o g =
      let states = sym (equals_is line r p) ∙ e in
      record {
        behind = before.number;
        counted = sym (counted before after line h);
        states_rule = states;
        goes_on = g ∙ first_symbol ∙ symbols_end ss d.symbols rs before.number line (rest_lines after) states;
      }

  pub symbol_taken : 0 < length line → (r : Bool) → Decides r (Has line 61) → r ≡ false → (d' : SymbolDraft) (ss' : List SymbolRecord) → TakesSymbol d d' rs ss ss' line → symbols_outcome d ss rs before ≡ symbols_outcome d' ss' rs after
  symbol_taken l r p e d' ss' t =
      first_symbol ∙ symbol_goes_on ss d.symbols rs before.number line (rest_lines after) l (sym (equals_is line r p) ∙ e) t.symbol t.line
      ∙ ap (λ k. symbol_lines (set ss d.symbols t.symbol) (suc d.symbols) rs k (rest_lines after)) (counted before after line h)
      ∙ ap (λ q. symbol_lines q (suc d.symbols) rs after.number (rest_lines after)) (sym t.written)
      ∙ ap (λ m. symbol_lines ss' m rs after.number (rest_lines after)) (sym t.one_more)

  pub symbol_refused : 0 < length line → (r : Bool) → Decides r (Has line 61) → r ≡ false → (f : Refusal) (k : ℕ) → k ≡ after.number → BreaksSymbol d ss line f → symbols_outcome d ss rs before ≡ refused f k
  symbol_refused l r p e f k n b =
      first_symbol ∙ symbol_stops ss d.symbols rs before.number line (rest_lines after) l (sym (equals_is line r p) ∙ e) b.fault b.rest b.line
      ∙ ap (refused (refusal_of b.fault)) (counted before after line h ∙ sym n) ∙ ap (λ g. refused g k) (sym b.refusal_is)
