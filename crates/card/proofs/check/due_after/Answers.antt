use Rattle.std.proofs.Common.{sym, ap, ◌∙◌}
use Rattle.card.specs.Records.{arities}
use Rattle.card.specs.Scans.{due_after}
use Rattle.card.proofs.Sides.{arity_found, arity_not_found, due_after_known, due_after_lacking}
use Rattle.card.proofs.check.due_after.Goals as goal

pub returns-in_err-symbol-in-Symbol-clause-after : goal.returns-in_err-symbol-in-Symbol-clause-after
returns-in_err-symbol-in-Symbol-clause-after c =
    let ss = c.args.symbols.now in
    let none = arity_not_found ss c.in-Symbol.f c.in_err-symbol-in-Symbol.ensures.lookup.0 in
    c.from_residual.ensures ∙ sym (ap (due_after (arities ss) c.args.due) c.in-Symbol.is ∙ due_after_lacking (arities ss) c.args.due c.in-Symbol.f none)

pub returns-in_ok-symbol-in-Symbol-clause-after : goal.returns-in_ok-symbol-in-Symbol-clause-after
returns-in_ok-symbol-in-Symbol-clause-after c =
    let ss = c.args.symbols.now in
    let found = arity_found ss c.in-Symbol.f c.in_ok-symbol-in-Symbol.symbol.now c.in_ok-symbol-in-Symbol.ensures.lookup.0 c.in_ok-symbol-in-Symbol.ensures.lookup.1 in
    sym (ap (due_after (arities ss) c.args.due) c.in-Symbol.is ∙ due_after_known (arities ss) c.args.due c.in-Symbol.f _ c.if-due-gt0.true found)
