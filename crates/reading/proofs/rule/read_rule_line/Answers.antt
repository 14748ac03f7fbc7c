use Rattle.std.proofs.Common.{sym}
use Rattle.std.proofs.lemmas.Result.{err_from_is_err_and}
use Rattle.reading.proofs.RuleLines.{lone, right_stuck, left_over, complete}
use Rattle.reading.proofs.rule.read_rule_line.Goals as goal

pub returns-then-lone_variable : goal.returns-then-lone_variable
returns-then-lone_variable g c =
    lone _ c.args.rules c.if-rules-ge64.false _ _ _ c.in_ok-left.ensures (sym c.if-not-next_is.ensures) (sym c.if-lone_variable.ensures)

pub returns-in_err-right : goal.returns-in_err-right
returns-in_err-right g c =
    let p = err_from_is_err_and c.from_residual-in_err-right.result c.from_residual-in_err-right.ensures.1 in
    rw (p.1, p.2)
    (right_stuck _ c.args.rules c.if-rules-ge64.false _ _ _ c.in_ok-left.ensures (sym c.if-not-next_is.ensures) (sym c.if-lone_variable.ensures) _ c.advance.ensures _ c.side_variables.ensures _ _
    c.in_err-right.ensures)

pub returns-in_err-at_end : goal.returns-in_err-at_end
returns-in_err-at_end g c =
    let p = err_from_is_err_and c.from_residual-in_err-at_end.result c.from_residual-in_err-at_end.ensures.1 in
    let e = c.in_err-at_end.ensures in
    rw (p.1, p.2, e.0)
    (left_over _ c.args.rules c.if-rules-ge64.false _ _ _ c.in_ok-left.ensures (sym c.if-not-next_is.ensures) (sym c.if-lone_variable.ensures) _ c.advance.ensures _ c.side_variables.ensures _ _
    c.in_ok-right.ensures e.1)

pub returns : goal.returns
returns g c =
    complete _ c.args.rules c.if-rules-ge64.false _ _ _ c.in_ok-left.ensures (sym c.if-not-next_is.ensures) (sym c.if-lone_variable.ensures) _ c.advance.ensures _ c.side_variables.ensures _ _
    c.in_ok-right.ensures c.in_ok-at_end.ensures
