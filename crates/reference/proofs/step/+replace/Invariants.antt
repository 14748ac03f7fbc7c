use Rattle.std.proofs.Common.{◌≡◌, take, map}
use Rattle.rewriting.specs.Sites as theory
use Rattle.explicit.specs.Meaning.{tree_of}
use Rattle.reference.proofs.step.+replace.Given as goal

abbrev pub invariant-loop-child : goal.invariant-loop-child
invariant-loop-child l =
    map tree_of l.children.items ≡ map (λ u. theory.replace (tree_of l.old) (tree_of l.new) (tree_of u)) (take l.child-index l.child-items)
