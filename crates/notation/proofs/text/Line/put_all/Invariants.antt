use Rattle.std.proofs.Common.{ℕ, List, ◌++◌, take}
use Rattle.notation.specs.Text.{Holds}
use Rattle.notation.proofs.text.Line.put_all.Given as goal

abbrev pub invariant-loop-b : goal.invariant-loop-b
invariant-loop-b l = (w : List ℕ) → Holds l.initial.self w → Holds l.self (w ++ take l.b-index l.bytes)
