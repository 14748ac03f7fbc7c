use Rattle.std.proofs.Common.{◌≡◌, ◌+◌, ◌*◌, ◌≤◌, drop}
use Rattle.card.specs.Records.{arities}
use Rattle.card.specs.Scans.{due_behind}
use Rattle.card.proofs.check.due_behind.Given as goal

abbrev pub invariant-loop-place : goal.invariant-loop-place
invariant-loop-place l =
    (due_behind (arities l.symbols) l.due (drop l.place-index l.side) ≡ due_behind (arities l.symbols) 1 l.side)
    × (l.due ≤ 1 + 255 * l.place-index)
