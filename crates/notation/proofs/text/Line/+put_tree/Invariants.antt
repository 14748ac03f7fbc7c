use Rattle.std.proofs.Common.{◌≡◌, ℕ, List, ◌++◌, drop}
use Rattle.explicit.proofs.tree.Tree.TheLaws as tree
use Rattle.explicit.specs.Meaning.{name_of, tree_of, trees_of}
use Rattle.notation.specs.Text.{Holds, text, text_rest}
use Rattle.notation.proofs.text.Line.+put_tree.Given as goal

abbrev pub decreases-put_tree : goal.decreases-put_tree
decreases-put_tree l = tree.the_size l.tree.now

-- what is held, and then the children that are left, is the whole
abbrev pub invariant-loop-child : goal.invariant-loop-child
invariant-loop-child l =
    (w : List ℕ) → Holds l.fn.self w
    → (v : List ℕ) × Holds l.self (w ++ v)
    × (v ++ text_rest (name_of l.symbols) (trees_of (drop l.child-index l.rest)) ≡ text (name_of l.symbols) (tree_of l.tree))
