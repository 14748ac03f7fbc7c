use Rattle.std.proofs.Common.{◌≡◌, map, drop}
use Rattle.rewriting.specs.Subterms.{walks}
use Rattle.dag.specs.Tables.{trees}
use Rattle.dag.specs.Trees.{from_list, tree_at}
use Rattle.dag.specs.Walking.{SameTables, Walking, walked_list}
use Rattle.dag.proofs.walk.Walk.+visit.Given as goal

abbrev pub decreases-visit : goal.decreases-visit
decreases-visit l = l.at

-- the walk through the children that are left ends where the walk through all of them does
abbrev pub invariant-loop-child : goal.invariant-loop-child
invariant-loop-child l =
    SameTables l.fn.self l.self
    × Walking l.self
    × (walks (from_list (map (tree_at (trees l.fn.self.table.now)) (drop l.child-index l.child-items))) (walked_list l.self)
    ≡ walks (from_list (map (tree_at (trees l.fn.self.table.now)) l.child-items)) (walked_list l.fn.self))
