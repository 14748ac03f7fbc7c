-- What it says of a table that it is compact. Assumes nothing.
use Rattle.std.specs.Prelude.{◌≡◌, ℕ, ◌↔◌, List, length, Option}
use mathlib.Core.List.{Memᴰ}
use Rattle.rewriting.specs.Counting.{distinct_count}
use Rattle.rewriting.specs.Subterms.{SubtermIn, walk}
use Rattle.rewriting.specs.Terms.{cons, Tree}
use Rattle.dag.specs.declared.table.Table.{Table}
use Rattle.dag.specs.Roots.{Compact, Compacted, root_trees, RootsInUse}
use Rattle.dag.specs.Tables.{trees}

-- LAWS

abbrev pub CompactedTablesAreCompact : Type 0
CompactedTablesAreCompact =
    (ts ts' : List Tree) (roots roots' : List (Option ℕ)) → Compacted ts roots ts' roots' → Compact ts' roots'

-- in a compact table the records are those of the roots' subterms
abbrev pub CompactTablesHoldRootSubterms : Type 0
CompactTablesHoldRootSubterms =
    (t : Table) (roots : List (Option ℕ)) → RootsInUse t.count roots → Compact (trees t) roots
    → (s : Tree) → Memᴰ s (trees t) ↔ SubtermIn s (root_trees (trees t) roots)

-- and its trees together with the subterms of one tree more are as many as the distinct subterms of all these trees
abbrev pub CompactTablesCountExactly : Type 0
CompactTablesCountExactly =
    (t : Table) (roots : List (Option ℕ)) → RootsInUse t.count roots → Compact (trees t) roots
    → (s : Tree) → length (walk s (trees t)) ≡ distinct_count (cons s (root_trees (trees t) roots))
