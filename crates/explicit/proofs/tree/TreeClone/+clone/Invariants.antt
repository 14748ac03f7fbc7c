use Rattle.std.proofs.Common.{◌≡◌, take, map}
use Rattle.explicit.specs.Meaning.{tree_of}
use Rattle.explicit.proofs.tree.TreeClone.+clone.Given as goal

abbrev pub invariant-loop-child : goal.invariant-loop-child
invariant-loop-child l = map tree_of l.children.items ≡ map tree_of (take l.child-index l.child-items)
