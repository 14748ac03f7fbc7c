use Rattle.std.proofs.Common.{◌≡◌, suc, ◌-◌, arith}
use Rattle.std.proofs.lemmas.Result.{err_from_is_err_and}
use Rattle.reading.specs.Grammars.{grammar_of}
use Rattle.reading.proofs.Children.{end_stops, child_has_read}
use Rattle.reading.proofs.term.+read_term.Goals as goal

pub loop-left-preserved : goal.loop-left-preserved
loop-left-preserved g t c =
    let one : c.loop-left.left ≡ suc (c.loop-left.left - 1) = omega arith in
    child_has_read (grammar_of c.args.grammar.now) c.args.depth c.args.filled c.args.out.now _ _ _ _ _ _ one c.loop-left.invariant _ _ _ c.in_ok-filled.ensures
    _ c.in_ok-end_child.ensures

pub returns-in_err-end_child : goal.returns-in_err-end_child
returns-in_err-end_child g t c =
    let p = err_from_is_err_and c.from_residual-in_err-end_child.result c.from_residual-in_err-end_child.ensures.1 in
    let one : c.loop-left.left ≡ suc (c.loop-left.left - 1) = omega arith in
    rw (p.1, p.2)
    (end_stops (grammar_of c.args.grammar.now) c.args.depth c.args.filled c.args.out.now _ _ _ _ _ _ one c.loop-left.invariant _ _ _ c.in_ok-filled.ensures
    _ _ c.in_err-end_child.ensures)
