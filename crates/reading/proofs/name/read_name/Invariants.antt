use Rattle.reading.specs.Sources.{Taken}
use Rattle.reading.proofs.name.read_name.Given as goal

abbrev pub invariant-loop-slot : goal.invariant-loop-slot
invariant-loop-slot g l = Taken l.slot-index l.slot-items (g.S.Source.rest l.initial.src) (g.S.Source.rest l.src)
