-- Trees with more children and with fewer. Assumes nothing.
use Rattle.std.proofs.Common.{◌≡◌, ◌≢◌, suc, Bool, true, false, ◌&&◌, List, [], ◌∷◌, length, refl, sym, ap, ◌∙◌}
use Rattle.rewriting.specs.Terms as theory
use Rattle.explicit.specs.declared.tree.Tree.{Tree, out-Tree}
use Rattle.explicit.specs.Meaning.{tree_of, trees_of}
use Rattle.explicit.proofs.Levels.{tree_of-out}

-- lists of different lengths are not the same
sames_long : (ts us : List Tree) → length ts ≢ length us → theory.sames (trees_of ts) (trees_of us) ≡ false
sames_long [] [] ne = absurd (ne refl)
sames_long [] (u ∷ us) ne = refl
sames_long (t ∷ ts) [] ne = refl
sames_long (t ∷ ts) (u ∷ us) ne = go (theory.same (tree_of t) (tree_of u)) (sames_long ts us (λ e. ne (ap suc e)))
  where
    go : (b : Bool) {c : Bool} → c ≡ false → (b && c) ≡ false
    go true e = e
    go false e = refl

pub other_count : (t u : Tree) → length (out-Tree t).children.items ≢ length (out-Tree u).children.items
    → false ≡ theory.sames (theory.children (tree_of t)) (theory.children (tree_of u))
other_count t u ne =
    sym (ap (λ x. theory.sames (theory.children x) (theory.children (tree_of u))) (tree_of-out t)
    ∙ ap (λ x. theory.sames (trees_of (out-Tree t).children.items) (theory.children x)) (tree_of-out u)
    ∙ sames_long (out-Tree t).children.items (out-Tree u).children.items ne)
