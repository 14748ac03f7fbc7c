use Rattle.std.proofs.Common.{vec_items}
use Rattle.dag.specs.Tables.{capacity}
use Rattle.dag.proofs.Sliding.{Sliding}
use Rattle.dag.proofs.compact.slide.Given as goal

abbrev pub invariant-loop-i : goal.invariant-loop-i
invariant-loop-i l = Sliding (vec_items l.initial.table.rows) l.old l.marks (capacity l.initial.table) l.i l.table l.numbers
