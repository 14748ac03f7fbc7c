use Rattle.std.proofs.Common.{◌≡◌, [], drop}
use Rattle.rewriting.specs.Sites as theory
use Rattle.rewriting.specs.Subterms.{member, walks}
use Rattle.explicit.specs.Meaning.{tree_of, trees_of}
use Rattle.sites.proofs.site.+is_below.Given as goal

-- the children that are left decide
abbrev pub invariant-loop-child : goal.invariant-loop-child
invariant-loop-child l =
    member (tree_of l.tree) (walks (trees_of (drop l.child-index l.child-items)) []) ≡ theory.proper (tree_of l.tree) (tree_of l.whole)
