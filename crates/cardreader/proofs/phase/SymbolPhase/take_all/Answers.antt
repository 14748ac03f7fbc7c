use Rattle.std.proofs.Common.{sym, ap, ◌∙◌, subst}
use Rattle.std.proofs.lemmas.Result.{err_from_is_err_and}
use Rattle.cardreader.specs.CardTexts.{refused}
use Rattle.cardreader.specs.Taking.{TakesSymbol}
use Rattle.cardreader.proofs.Handing.{rules_begin, symbol_taken, symbol_refused}
use Rattle.cardreader.proofs.LineSteps.{not_empty}
use Rattle.cardreader.proofs.phase.SymbolPhase.take_all.Goals as goal

pub returns-then-is_rule-clause-cases : goal.returns-then-is_rule-clause-cases
returns-then-is_rule-clause-cases c =
    let p = c.loop-line.self in
    rules_begin c.loop-line.lines c.next.new.self c.in-Some.line.now c.in-Some.ensures.steps p.draft.now p.symbols.now c.args.self.now.rules.now
    c.is_rule.result c.is_rule.ensures (search) _ c.loop-line.invariant.1

pub loop-line-preserved : goal.loop-line-preserved
loop-line-preserved c =
    let p = c.loop-line.self in
    let same = c.loop-line.invariant.0 in
    let more = c.in_ok-take.ensures.same in
    let t = subst (λ rs. TakesSymbol p.draft.now c.take.new.self.draft.now rs p.symbols.now c.take.new.self.symbols.now c.in-Some.line.now) same.2 c.in_ok-take.ensures.cases in (
      (more.0 ∙ same.0, more.1 ∙ same.1, more.2 ∙ same.2),
      c.loop-line.invariant.1 ∙ symbol_taken c.loop-line.lines c.next.new.self c.in-Some.line.now c.in-Some.ensures.steps p.draft.now p.symbols.now c.args.self.now.rules.now
          (not_empty _ _ c.is_empty.ensures c.if-is_empty.false) c.is_rule.result c.is_rule.ensures (search) c.take.new.self.draft.now c.take.new.self.symbols.now t,
    )

pub returns-in_err-take-clause-cases : goal.returns-in_err-take-clause-cases
returns-in_err-take-clause-cases c =
    let p = c.loop-line.self in
    let e = err_from_is_err_and c.from_residual.result c.from_residual.ensures.1 in
    let b = c.in_err-take.ensures.cases in
    rw e.1
    (c.loop-line.invariant.1 ∙ symbol_refused c.loop-line.lines c.next.new.self c.in-Some.line.now c.in-Some.ensures.steps p.draft.now p.symbols.now c.args.self.now.rules.now
    (not_empty _ _ c.is_empty.ensures c.if-is_empty.false) c.is_rule.result c.is_rule.ensures (search) c.in_err-take.field-0.0.refusal c.in_err-take.field-0.0.line (b.2 ∙ c.number.ensures) b.3
    ∙ ap (λ f. refused f.refusal f.line) (sym e.2))
