use Rattle.std.proofs.Common.{◌≡◌, ◌+◌, ◌*◌}
use Rattle.std.specs.Iterator.Adapters.{zip_first, zip_second}
use Rattle.std.specs.Slice.Iter.{iter_rest}
use Rattle.rewriting.specs.Matching as theory
use Rattle.rewriting.specs.Terms.{children}
use Rattle.explicit.proofs.tree.Tree.TheLaws as tree
use Rattle.explicit.specs.Meaning.{terms_of, tree_of, trees_of}
use Rattle.matching.proofs.rule.Candidate.+bound_bound_in.Given as goal

-- a tree is looked at before its children are
abbrev pub decreases-bound : goal.decreases-bound
decreases-bound l = 2 * tree.the_size l.self.tree.now + 1

abbrev pub decreases-bound_in : goal.decreases-bound_in
decreases-bound_in l = 2 * tree.the_size l.self.tree.now

-- the children that are left decide
abbrev pub invariant-bound_in-loop-left : goal.invariant-bound_in-loop-left
invariant-bound_in-loop-left l =
    theory.bound_in (terms_of (iter_rest (zip_first l.left-iterator))) (trees_of (iter_rest (zip_second l.left-iterator))) l.variable
    ≡ theory.bound_in (terms_of l.lefts) (children (tree_of l.self.tree.now)) l.variable
