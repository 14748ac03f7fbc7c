use Rattle.std.proofs.Common.{sym, arith}
use Rattle.reading.proofs.Letters.{taken_more}
use Rattle.reading.proofs.name.read_name.Goals as goal

pub loop-slot-preserved : goal.loop-slot-preserved
loop-slot-preserved g c = taken_more c.loop-slot.invariant (sym c.in-Some.ensures) (sym c.if-is_letter.ensures) (omega arith) c.advance.ensures
