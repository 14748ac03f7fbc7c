use Rattle.std.proofs.Common.{sym, ap, ◌∙◌, subst}
use Rattle.std.proofs.lemmas.Result.{err_from_is_err_and}
use Rattle.cardreader.specs.CardTexts.{refused}
use Rattle.cardreader.specs.Taking.{BreaksRule, TakesRule}
use Rattle.cardreader.proofs.Handing.{rule_taken, rule_refused, symbol_misplaced}
use Rattle.cardreader.proofs.LineSteps.{not_empty}
use Rattle.cardreader.proofs.phase.RulePhase.take_all.Goals as goal

pub returns-then-not-is_rule-clause-cases : goal.returns-then-not-is_rule-clause-cases
returns-then-not-is_rule-clause-cases c =
    let p = c.loop-line.self in
    c.loop-line.invariant.2 ∙ symbol_misplaced c.loop-line.lines c.next.new.self c.in-Some.line.now c.in-Some.ensures.steps p.draft.now c.args.self.now.symbols.now p.rules.now
    (not_empty _ _ c.is_empty.ensures c.if-is_empty.false) c.is_rule.result c.is_rule.ensures (search) c.misplaced_symbol.result c.number.result c.number.ensures c.misplaced_symbol.ensures

pub loop-line-preserved : goal.loop-line-preserved
loop-line-preserved c =
    let p = c.loop-line.self in
    let same = c.loop-line.invariant.0 in
    let more = c.in_ok-take.ensures.same in
    let t = subst (λ ss. TakesRule p.draft.now c.take.new.self.draft.now ss p.rules.now c.take.new.self.rules.now c.in-Some.line.now) same.2 c.in_ok-take.ensures.cases in (
      (more.0 ∙ same.0, more.1 ∙ same.1, more.2 ∙ same.2),
      t.same_symbols ∙ c.loop-line.invariant.1,
      c.loop-line.invariant.2 ∙ rule_taken c.loop-line.lines c.next.new.self c.in-Some.line.now c.in-Some.ensures.steps p.draft.now c.args.self.now.symbols.now p.rules.now
          c.is_rule.result c.is_rule.ensures (search) c.take.new.self.draft.now c.take.new.self.rules.now t,
    )

pub returns-in_err-take-clause-cases : goal.returns-in_err-take-clause-cases
returns-in_err-take-clause-cases c =
    let p = c.loop-line.self in
    let e = err_from_is_err_and c.from_residual.result c.from_residual.ensures.1 in
    let b = c.in_err-take.ensures.cases in
    let broken = subst (λ ss. BreaksRule p.draft.now ss c.in-Some.line.now c.in_err-take.field-0.0.refusal) c.loop-line.invariant.0.2 b.3 in
    rw e.1
    (c.loop-line.invariant.2 ∙ rule_refused c.loop-line.lines c.next.new.self c.in-Some.line.now c.in-Some.ensures.steps p.draft.now c.args.self.now.symbols.now p.rules.now
    c.is_rule.result c.is_rule.ensures (search) c.in_err-take.field-0.0.refusal c.in_err-take.field-0.0.line (b.2 ∙ c.number-in-Some.ensures) broken
    ∙ ap (λ f. refused f.refusal f.line) (sym e.2))
