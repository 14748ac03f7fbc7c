use Rattle.std.proofs.Common.{◌≡◌, drop}
use Rattle.rewriting.specs.Subterms as theory
use Rattle.explicit.specs.Meaning.{listed, trees_of}
use Rattle.listing.proofs.subterm.+walk.Given as goal

-- the children that are left make the rest of the list
abbrev pub invariant-loop-child : goal.invariant-loop-child
invariant-loop-child l =
    theory.walks (trees_of (drop l.child-index l.child-items)) (listed l.seen.items) ≡ theory.walks (trees_of l.child-items) (listed l.initial.seen.items)
