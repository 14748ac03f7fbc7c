use Rattle.std.proofs.Common.{◌≡◌, [], map, length, drop}
use Rattle.rewriting.specs.Subterms.{walks}
use Rattle.dag.specs.Tables.{trees}
use Rattle.dag.specs.Trees.{from_list, tree_at}
use Rattle.dag.specs.Walking.{SameTables, Walking, walked_list}
use Rattle.dag.proofs.Rooting.{root_records}
use Rattle.dag.proofs.compact.mark_roots.Given as goal

-- the walk from the roots that are left ends where the walk from all of them does
abbrev pub invariant-loop-at : goal.invariant-loop-at
invariant-loop-at l =
    SameTables l.initial.walk l.walk
    × Walking l.walk
    × (walks (from_list (map (tree_at (trees l.table)) (drop (length l.yielded) (root_records l.roots)))) (walked_list l.walk)
    ≡ walks (from_list (map (tree_at (trees l.table)) (root_records l.roots))) [])
