-- `==` on trees answers what the theory's test does. Assumes nothing.
use Rattle.std.proofs.Common.{◌≡◌, ◌&&◌, List, [], ◌∷◌, map, refl, ap, ◌∙◌, subst, ◌==◌}
use lib.Pointwise.{pointwise}
use Rattle.rewriting.specs.Terms as theory
use Rattle.explicit.specs.declared.tree.Tree.{Tree, out-Tree, roll-Tree, out-roll-Tree}
use Rattle.explicit.specs.declared.tree.Tree.TheFolds.{fold-roll-Tree, fold_out-Tree, ind-Tree}
use Rattle.explicit.specs.contracts.tree.TreePartialEq.TheImpl.{ghosts}
use Rattle.explicit.specs.contracts.tree.TreePartialEq.TheImpl.Laws.{is, laws-law}
use Rattle.explicit.specs.Meaning.{tree_of, trees_of}

abbrev Same : Tree → Type 0
Same t = (u : Tree) → ghosts.eq t u ≡ theory.same (tree_of t) (tree_of u)

children_same : (ts : List ((t : Tree) × Same t)) (us : List Tree)
    → pointwise ghosts.eq (map (λ e. e.0) ts) us ≡ theory.sames (trees_of (map (λ e. e.0) ts)) (trees_of us)
children_same [] [] = refl
children_same [] (u ∷ us) = refl
children_same (t ∷ ts) [] = refl
children_same (t ∷ ts) (u ∷ us) = rw (t.1 u, children_same ts us)

pub eq_is_same : (t : Tree) → Same t
eq_is_same = ind-Tree Same (λ x y at u.
    let inner = subst (λ z. pointwise ghosts.eq z.children.items (out-Tree u).children.items ≡ theory.sames (trees_of z.children.items) (trees_of (out-Tree u).children.items)) at
    (children_same y.children.items (out-Tree u).children.items) in
    is (roll-Tree x) u ∙ rw (out-roll-Tree, fold-roll-Tree, fold_out-Tree) (ap (λ b. (x.symbol == (out-Tree u).symbol) && b) inner))

pub eq_is_same_back : (t u : Tree) → ghosts.eq u t ≡ theory.same (tree_of t) (tree_of u)
eq_is_same_back t u = laws-law.symm u t ∙ eq_is_same t u
