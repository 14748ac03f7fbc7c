use Rattle.std.proofs.Common.{◌≡◌, ℕ, ◌≤◌, length, get_or, take}
use Rattle.dag.specs.Roots.{renumber}
use Rattle.dag.specs.Rows.{children_of}
use Rattle.dag.proofs.node.Node.renumbered.Given as goal

-- the children so far have their new numbers, and 0 stands in the other places
abbrev pub invariant-loop-place : goal.invariant-loop-place
invariant-loop-place l =
    (length l.children ≡ 4)
    × (take l.place l.children ≡ renumber l.numbers (take l.place (children_of l.fn.self.row)))
    × ((j : ℕ) → l.place ≤ j → get_or l.children j 0 ≡ 0)
