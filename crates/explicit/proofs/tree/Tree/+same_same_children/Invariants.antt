use Rattle.std.proofs.Common.{◌≡◌, ◌+◌, ◌*◌, length}
use Rattle.std.specs.Iterator.Adapters.{zip_first, zip_second}
use Rattle.std.specs.Slice.Iter.{iter_rest}
use Rattle.rewriting.specs.Terms as theory
use Rattle.explicit.proofs.tree.Tree.TheLaws as tree
use Rattle.explicit.specs.Meaning.{tree_of, trees_of}
use Rattle.explicit.proofs.tree.Tree.+same_same_children.Given as goal

-- a tree is looked at before its children are
abbrev pub decreases-same : goal.decreases-same
decreases-same l = 2 * tree.the_size l.self.now + 1

abbrev pub decreases-same_children : goal.decreases-same_children
decreases-same_children l = 2 * tree.the_size l.self.now

-- the children that are left decide
abbrev pub invariant-same_children-loop-child : goal.invariant-same_children-loop-child
invariant-same_children-loop-child l =
    (length (iter_rest (zip_first l.child-iterator)) ≡ length (iter_rest (zip_second l.child-iterator)))
    × (theory.sames (trees_of (iter_rest (zip_first l.child-iterator))) (trees_of (iter_rest (zip_second l.child-iterator)))
    ≡ theory.sames (theory.children (tree_of l.self)) (theory.children (tree_of l.other)))
