use Rattle.std.proofs.Common.{◌≡◌, ℕ, List, ◌++◌, drop}
use Rattle.std.specs.Fmt.{HasWritten, IsPlainFormatter}
use Rattle.explicit.proofs.tree.Tree.TheLaws as tree
use Rattle.explicit.specs.Meaning.{name_of, tree_of, trees_of}
use Rattle.notation.specs.Text.{text, text_rest}
use Rattle.notation.proofs.text.NamedDisplay.+fmt.Given as goal

abbrev pub decreases-fmt : goal.decreases-fmt
decreases-fmt g l = tree.the_size l.self.now.tree.now

-- what is written, and then the children that are left, is the whole
abbrev pub invariant-loop-tree : goal.invariant-loop-tree
invariant-loop-tree g l =
    IsPlainFormatter l.fn.f
    → (v : List ℕ) × HasWritten g.W.Write.write_str_gives l.fn.f v l.f
    × (v ++ text_rest (name_of l.symbols) (trees_of (drop l.tree-index l.rest)) ≡ text (name_of l.symbols) (tree_of l.self.tree.now))
