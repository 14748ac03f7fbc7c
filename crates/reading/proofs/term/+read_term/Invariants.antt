use Rattle.std.proofs.Common.{length}
use Rattle.reading.specs.Grammars.{grammar_of}
use Rattle.reading.proofs.Children.{HasRead}
use Rattle.reading.proofs.term.+read_term.Given as goal

abbrev pub decreases-read_term : goal.decreases-read_term
decreases-read_term g l = length (g.S.Source.rest l.src.now)

abbrev pub invariant-loop-left : goal.invariant-loop-left
invariant-loop-left g l =
    HasRead (grammar_of l.grammar) l.depth l.left l.filled-2 l.filled l.fn.out l.out (g.S.Source.rest l.fn.src) (g.S.Source.rest l.src)
