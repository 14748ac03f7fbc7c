use Rattle.std.proofs.Common.{◌≡◌, ◌+◌, ◌*◌, length}
use Rattle.std.specs.Iterator.Adapters.{zip_first, zip_second}
use Rattle.std.specs.Slice.Iter.{iter_rest}
use Rattle.rewriting.specs.Terms as theory
use Rattle.explicit.proofs.tree.Tree.TheLaws as tree
use Rattle.explicit.specs.Meaning.{terms_of, tree_of, trees_of}
use Rattle.matching.specs.Bindings.{bindings_of}
use Rattle.matching.proofs.rule.Candidate.+agrees_all_agree.Given as goal

-- a tree is looked at before its children are
abbrev pub decreases-agrees : goal.decreases-agrees
decreases-agrees l = 2 * tree.the_size l.tree.now + 1

abbrev pub decreases-all_agree : goal.decreases-all_agree
decreases-all_agree l = 2 * tree.the_size l.tree.now

-- the children that are left decide
abbrev pub invariant-all_agree-loop-p : goal.invariant-all_agree-loop-p
invariant-all_agree-loop-p l =
    (length (iter_rest (zip_first l.p-iterator)) ≡ length (iter_rest (zip_second l.p-iterator)))
    × (theory.sames (theory.applies (bindings_of l.self) (terms_of (iter_rest (zip_first l.p-iterator)))) (trees_of (iter_rest (zip_second l.p-iterator)))
    ≡ theory.sames (theory.applies (bindings_of l.self) (terms_of l.parts)) (theory.children (tree_of l.tree)))
