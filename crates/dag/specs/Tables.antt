-- A node table as the list of its trees. Assumes nothing.
use Rattle.std.specs.Prelude.{◌≡◌, ℕ, ◌<◌, List, take, vec_items, vec_len}
use mathlib.Core.List.{Memᴰ}
use Rattle.rewriting.specs.Terms.{Tree}
use Rattle.rewriting.specs.Subterms.{add, ChildrenFirst, Distinct}
use Rattle.dag.specs.declared.node.Node.{Node}
use Rattle.dag.specs.declared.table.Table.{Table}
use Rattle.dag.specs.Rows.{ChildrenBelow}
use Rattle.dag.specs.Trees.{row_tree, table_trees, tree_at}

-- the trees of the records in use, by record number
abbrev pub trees : Table → List Tree
trees t = table_trees (vec_items t.rows) t.count

-- how many records the table can hold
abbrev pub capacity : Table → ℕ
capacity t = vec_len t.rows

-- record k is in use and has this tree
abbrev pub Holds : Table → ℕ → Tree → Type 0
Holds t k s = (k < t.count) × (tree_at (trees t) k ≡ s)

-- each row in use before stands unchanged after
abbrev pub KeepsRecords : Table → Table → Type 0
KeepsRecords before after = take before.count (vec_items after.rows) ≡ take before.count (vec_items before.rows)

-- a node's children are records in use
abbrev pub OverRecords : Table → Node → Type 0
OverRecords t n = ChildrenBelow t.count n.row

-- the tree of a node over the records of a table
abbrev pub node_tree : Table → Node → Tree
node_tree t n = row_tree (trees t) n.row

-- there is no room for a new tree, and nothing changed
pub record Full (before after : Table) (s : Tree) : Type 0 where
  pub same : after ≡ before
  pub full : before.count ≡ capacity before
  pub lacks : Memᴰ s (trees before) → ⊥

-- the tree s is among the records' trees, behind the others if it was not there, and record k has it
pub record Interned (before after : Table) (s : Tree) (k : ℕ) : Type 0 where
  pub added : trees after ≡ add s (trees before)
  pub holds : Holds after k s

-- LAWS

abbrev pub RecordsHaveDistinctTrees : Type 0
RecordsHaveDistinctTrees = (t : Table) → Distinct (trees t)

-- the children of a record's tree are the trees of records below it
abbrev pub ChildrenStandBelow : Type 0
ChildrenStandBelow = (t : Table) → ChildrenFirst (trees t)
