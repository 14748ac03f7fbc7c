-- A tree's text, written piece by piece. Assumes nothing.
use Rattle.std.proofs.Common.{◌≡◌, ℕ, ◌+◌, ◌<◌, ◌≤◌, List, [], ◌∷◌, ◌++◌, length, get_or, drop, sym, ap, ◌∙◌, append_assoc}
use Rattle.explicit.specs.declared.tree.Tree.{Tree, out-Tree}
use Rattle.explicit.specs.Meaning.{tree_of, trees_of}
use Rattle.explicit.proofs.Levels.{tree_of-out}
use Rattle.explicit.proofs.Loops.{reads, ends}
use Rattle.notation.specs.Text.{text, text_children, text_rest}

module _ (N : ℕ → List ℕ) where
  -- up to the first child, with what the other children will add
  pub writes_first : (u t : Tree) (us ts : List Tree) (name : List ℕ) → name ≡ N (out-Tree u).symbol → us ≡ (out-Tree u).children.items → us ≡ t ∷ ts
      → (name ++ (40 ∷ []) ++ text N (tree_of t)) ++ text_rest N (trees_of ts) ≡ text N (tree_of u)
  writes_first u t us ts name named at split =
      regroup ∙ ap (λ v. v ++ text_children N (trees_of (t ∷ ts))) named
      ∙ ap (λ vs. N (out-Tree u).symbol ++ text_children N (trees_of vs)) (sym split ∙ at) ∙ ap (text N) (sym (tree_of-out u))
    where
      regroup : (name ++ (40 ∷ []) ++ text N (tree_of t)) ++ text_rest N (trees_of ts) ≡ name ++ text_children N (trees_of (t ∷ ts))
      regroup = simp append_assoc

  module _ (v : List ℕ) (ts : List Tree) (i : ℕ) where
    pub writes_next : (t : Tree) {y : List ℕ} → i < length ts → t ≡ get_or ts i t → v ++ text_rest N (trees_of (drop i ts)) ≡ y
        → (v ++ (44 ∷ []) ++ text N (tree_of t)) ++ text_rest N (trees_of (drop (i + 1) ts)) ≡ y
    writes_next t h e inv = regroup ∙ reads (λ us. v ++ text_rest N (trees_of us)) ts i t h e inv
      where
        regroup : (v ++ (44 ∷ []) ++ text N (tree_of t)) ++ text_rest N (trees_of (drop (i + 1) ts)) ≡ v ++ text_rest N (trees_of (t ∷ drop (i + 1) ts))
        regroup = simp append_assoc

    pub writes_last : {y : List ℕ} → length ts ≤ i → v ++ text_rest N (trees_of (drop i ts)) ≡ y → v ++ (41 ∷ []) ≡ y
    writes_last past inv = ends (λ us. v ++ text_rest N (trees_of us)) ts i past inv
