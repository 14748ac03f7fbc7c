-- What a replacement makes of a tree, from what it makes of the children. Assumes nothing.
use Rattle.std.proofs.Common.{◌≡◌, ℕ, ◌≤◌, true, false, List, [], ◌∷◌, map, length, take, sym, refl, ap, ◌∙◌}
use Rattle.std.proofs.lemmas.List.{take_all}
use Rattle.rewriting.specs.Terms.{Tree, node, Trees, cons, same}
use Rattle.rewriting.specs.Sites.{replace, replaces}
use Rattle.explicit.specs.declared.tree.Tree as declared
use Rattle.explicit.specs.declared.tree.Tree.{out-Tree}
use Rattle.explicit.specs.Meaning.{row, tree_of, trees_of}
use Rattle.explicit.proofs.Levels.{tree_of-out}

module _ (s r : Tree) where
  pub replaced : (u : Tree) → same s u ≡ true → r ≡ replace s r u
  replaced (node f ts) h = ap (λ b. elim b [ true ↦ r | false ↦ node f (replaces s r ts) ]) (sym h)

  replaces-row : (ks : List declared.Tree) → replaces s r (trees_of ks) ≡ row (map (λ k. replace s r (tree_of k)) ks)
  replaces-row [] = refl
  replaces-row (k ∷ ks) = ap (cons (replace s r (tree_of k))) (replaces-row ks)

  inside : (f : ℕ) (ts : Trees) → same s (node f ts) ≡ false → node f (replaces s r ts) ≡ replace s r (node f ts)
  inside f ts h = ap (λ b. elim b [ true ↦ r | false ↦ node f (replaces s r ts) ]) (sym h)

  -- the children that a loop has made for all the children
  pub rebuilt : (t : declared.Tree) (ks us : List declared.Tree) (n : ℕ) → same s (tree_of t) ≡ false → ks ≡ (out-Tree t).children.items
      → map tree_of us ≡ map (λ k. replace s r (tree_of k)) (take n ks) → length ks ≤ n → node (out-Tree t).symbol (trees_of us) ≡ replace s r (tree_of t)
  rebuilt t ks us n h at made past =
      ap (λ ts. node (out-Tree t).symbol (row ts)) (made ∙ ap (map (λ k. replace s r (tree_of k))) (take_all n ks past ∙ at))
      ∙ ap (node (out-Tree t).symbol) (sym (replaces-row (out-Tree t).children.items))
      ∙ inside (out-Tree t).symbol (trees_of (out-Tree t).children.items) (ap (same s) (sym (tree_of-out t)) ∙ h)
      ∙ ap (replace s r) (sym (tree_of-out t))
