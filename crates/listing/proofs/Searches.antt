-- Searches for a tree in a list, and what a walk adds. Assumes nothing.
use Rattle.std.proofs.Common.{◌≡◌, ℕ, zero, suc, ◌+◌, ◌≤◌, Bool, true, false, ◌||◌, List, [], ◌∷◌, ◌++◌, Some, None, Option, length, drop, map, sym, refl, ap, ◌∙◌, cond, ltb, unwrap_or, arith, one-add, Bor}
use Rattle.std.specs.List.{list_any, position_or_len}
use Rattle.std.proofs.lemmas.Bool.{ltb-false}
use Rattle.std.proofs.lemmas.List.{map_push}
use Rattle.std.proofs.lemmas.List.Recursion.{is_position_or_len}
use Rattle.rewriting.specs.Terms as theory
use Rattle.rewriting.specs.Subterms.{member, place_of, add, walk, walks, row}
use Rattle.explicit.specs.declared.tree.Tree.{Tree, out-Tree}
use Rattle.explicit.specs.Meaning.{tree_of, trees_of, listed}
use Rattle.explicit.proofs.Levels.{tree_of-out}
use Rattle.explicit.proofs.Loops.{ends}

pub any_is : (t : Tree) (us : List (Bor Tree)) → list_any (λ u. theory.same (tree_of t) (tree_of u.now)) us ≡ member (tree_of t) (listed us)
any_is t [] = refl
any_is t (u ∷ us) = ap (λ b. theory.same (tree_of t) (tree_of u.now) || b) (any_is t us)

pub place_is : (t : Tree) (us : List (Bor Tree)) → place_of (tree_of t) (listed us) ≡ position_or_len (λ u. theory.same (tree_of t) (tree_of u.now)) us
place_is t = is_position_or_len (λ us. place_of (tree_of t) (listed us)) (λ u. theory.same (tree_of t) (tree_of u.now)) refl
    (λ u us. go (theory.same (tree_of t) (tree_of u.now)) (place_of (tree_of t) (listed us)))
  where
    go : (b : Bool) (n : ℕ) → elim b [ true ↦ zero | false ↦ suc n ] ≡ cond b 0 (1 + n)
    go true n = refl
    go false n = sym (one-add n)

pub place_or_length : (p n : ℕ) {o : Option ℕ} → o ≡ cond (ltb p n) (Some p) None → p ≤ n → unwrap_or o n ≡ p
place_or_length p n {o} e h = ap (λ q. unwrap_or q n) e ∙ go (ltb p n) refl
  where
    go : (b : Bool) → b ≡ ltb p n → unwrap_or (cond b (Some p) None) n ≡ p
    go true is = refl
    go false is = let past = ltb-false p n (sym is) in omega arith

-- a row's numbers are those of the tree's children
numbers_of-children : (O : List theory.Tree) (ks : List Tree) → map (λ c. suc (place_of c O)) (theory.to_list (trees_of ks)) ≡ map (λ k. suc (place_of (tree_of k) O)) ks
numbers_of-children O [] = refl
numbers_of-children O (k ∷ ks) = ap (λ ns. suc (place_of (tree_of k) O) ∷ ns) (numbers_of-children O ks)

pub row_is : (O : List theory.Tree) (t : Tree) (ks : List Tree) (ns : List ℕ) → ks ≡ (out-Tree t).children.items → ns ≡ map (λ k. suc (place_of (tree_of k) O)) ks
    → record { symbol = (out-Tree t).symbol; children = ns } ≡ row O (tree_of t)
row_is O t ks ns at made =
    ap (λ ms. record { symbol = (out-Tree t).symbol; children = ms }) (made ∙ ap (map (λ k. suc (place_of (tree_of k) O))) at ∙ sym (numbers_of-children O (out-Tree t).children.items))
    ∙ ap (row O) (sym (tree_of-out t))

-- a walk that has gone through a tree's children, and the tree itself
module _ (t : Tree) (kids : List Tree) (at : kids ≡ (out-Tree t).children.items) (i : ℕ) (old now : List (Bor Tree)) (past : length kids ≤ i)
    (inv : walks (trees_of (drop i kids)) (listed now) ≡ walks (trees_of kids) (listed old)) where
  walked : walk (tree_of t) (listed old) ≡ add (tree_of t) (listed now)
  walked =
      ap (λ u. walk u (listed old)) (tree_of-out t)
      ∙ ap (add (theory.node (out-Tree t).symbol (trees_of (out-Tree t).children.items)))
      (sym (ends (λ us. walks (trees_of us) (listed now)) kids i past inv ∙ ap (λ us. walks (trees_of us) (listed old)) at))
      ∙ ap (λ u. add u (listed now)) (sym (tree_of-out t))

  pub is_there : (ws : List (Bor Tree)) → ws ≡ now → true ≡ list_any (λ u. theory.same (tree_of t) (tree_of u.now)) ws → listed now ≡ walk (tree_of t) (listed old)
  is_there ws read test =
      sym (walked ∙ ap (λ b. elim b [ true ↦ listed now | false ↦ listed now ++ (tree_of t ∷ []) ]) (sym (test ∙ any_is t ws ∙ ap (λ us. member (tree_of t) (listed us)) read)))

  pub is_added : (ws : List (Bor Tree)) (u : Bor Tree) {new : List (Bor Tree)} → ws ≡ now → false ≡ list_any (λ v. theory.same (tree_of t) (tree_of v.now)) ws
      → u.now ≡ t → new ≡ now ++ (u ∷ []) → listed new ≡ walk (tree_of t) (listed old)
  is_added ws u read test same push =
      ap listed push ∙ map_push (λ v. tree_of v.now) now u ∙ ap (λ v. listed now ++ (tree_of v ∷ [])) same
      ∙ sym (walked ∙ ap (λ b. elim b [ true ↦ listed now | false ↦ listed now ++ (tree_of t ∷ []) ]) (sym (test ∙ any_is t ws ∙ ap (λ us. member (tree_of t) (listed us)) read)))
