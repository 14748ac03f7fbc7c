-- The stack on which a tree is built. Assumes nothing.
use Rattle.std.specs.Prelude.{ℕ, List, map, drop}
use Rattle.rewriting.specs.Terms.{Tree}
use Rattle.dag.specs.declared.stack.Stack.{Stack}
use Rattle.dag.specs.Trees.{tree_at}

-- the records on a stack, the topmost first
abbrev pub records_on : Stack → List ℕ
records_on s = drop s.top s.cells.now

-- their trees, given the trees of the records
abbrev pub stack_trees : List Tree → Stack → List Tree
stack_trees ts s = map (tree_at ts) (records_on s)
