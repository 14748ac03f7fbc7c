use Rattle.store.specs.Printing.{NumberedTo}
use Rattle.store.proofs.tins.work.number_records.Given as goal

abbrev pub invariant-loop-place : goal.invariant-loop-place
invariant-loop-place l = NumberedTo l.place l.order l.numbers
