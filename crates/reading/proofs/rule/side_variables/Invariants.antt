use Rattle.std.proofs.Common.{◌≡◌, length, drop}
use Rattle.reading.specs.Lines.{marked, variables_of}
use Rattle.reading.proofs.rule.side_variables.Given as goal

abbrev pub invariant-loop-place : goal.invariant-loop-place
invariant-loop-place l = (length l.may ≡ 8) × (marked l.may (drop l.place-index l.side) ≡ variables_of l.side)
