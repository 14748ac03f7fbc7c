-- Records and trees of a table in order: each record has a tree of its own, behind the trees of its children. Assumes nothing.
use Rattle.std.proofs.Common.{◌≡◌, ℕ, zero, suc, ◌+◌, ◌<◌, ◌≤◌, List, [], ◌∷◌, ◌++◌, map, length, get_or, set, sym, refl, ap, ◌∙◌, subst, ⊎_elim, add-one, arith}
use mathlib.Core.List.{Memᴰ}
use Rattle.std.specs.List.{AllByRecursion}
use Rattle.std.proofs.lemmas.List.{get_or-set_other, get_or-set_same, length-set}
use Rattle.std.proofs.lemmas.Bool.{cases_lt}
use Rattle.rewriting.specs.Terms.{Tree, children, to_list}
use Rattle.rewriting.specs.Subterms.{Distinct}
use Rattle.rewriting.proofs.Members.{mem_place, place_mem}
use Rattle.rewriting.proofs.Walking.{Grown, empty, grown, grown_distinct}
use Rattle.dag.specs.declared.row.Row.{Row}
use Rattle.dag.specs.Rows.{blank, children_of, ChildrenBelow, Shaped}
use Rattle.dag.specs.Trees.{blank_tree, from_list, row_tree, table_trees, tree_at, tree_over, Valid}
use Rattle.dag.proofs.Shapes.{children_all, same_row}
use Rattle.dag.proofs.Folding.{length_trees, no_trees, tree_of_row, trees_more}

-- A TREE OVER RECORDS TELLS THE RECORDS

from_list_injective : (ts us : List Tree) → from_list ts ≡ from_list us → ts ≡ us
from_list_injective [] [] e = refl
from_list_injective [] (u ∷ us) e = cc
from_list_injective (t ∷ ts) [] e = cc
from_list_injective (t ∷ ts) (u ∷ us) e =
    let h : t ≡ u = cc in
    let r : from_list ts ≡ from_list us = cc in
    cc (from_list_injective ts us r)

pub records_told : (ts : List Tree) → Distinct ts → (ks ls : List ℕ) → AllByRecursion (λ k. k < length ts) ks → AllByRecursion (λ k. k < length ts) ls
    → map (tree_at ts) ks ≡ map (tree_at ts) ls → ks ≡ ls
records_told ts d [] [] p q e = refl
records_told ts d [] (l ∷ ls) p q e = cc
records_told ts d (k ∷ ks) [] p q e = cc
records_told ts d (k ∷ ks) (l ∷ ls) p q e =
    let h : tree_at ts k ≡ tree_at ts l = cc in
    let r : map (tree_at ts) ks ≡ map (tree_at ts) ls = cc in
    cc (d blank_tree k l p.0 q.0 h, records_told ts d ks ls p.1 q.1 r)

-- rows in order over the records of distinct trees: equal trees, equal rows
pub row_told : (ts : List Tree) → Distinct ts → (r q : Row) → length r.children ≡ 4 → length q.children ≡ 4 → Shaped r → Shaped q → ChildrenBelow (length ts) r → ChildrenBelow (length ts) q
    → row_tree ts r ≡ row_tree ts q → r ≡ q
row_told ts d r q w v s u a b e =
    let f : r.symbol ≡ q.symbol = cc in
    let g : from_list (map (tree_at ts) (children_of r)) ≡ from_list (map (tree_at ts) (children_of q)) = cc in
    same_row r q w v s u f
    (records_told ts d (children_of r) (children_of q) (children_all (length ts) r (omega (arith, s.0)) a) (children_all (length ts) q (omega (arith, u.0)) b) (from_list_injective _ _ g))

-- THE TREES OF A TABLE GROW BY NEW TREES BEHIND THEIR CHILDREN

pub to_list_from_list : (ts : List Tree) → to_list (from_list ts) ≡ ts
to_list_from_list [] = refl
to_list_from_list (t ∷ ts) = ap (λ xs. t ∷ xs) (to_list_from_list ts)

pub over_mem : (ts : List Tree) (ks : List ℕ) → AllByRecursion (λ k. k < length ts) ks → (c : Tree) → Memᴰ c (map (tree_at ts) ks) → Memᴰ c ts
over_mem ts [] h c m = absurd (mathlib.Core.List.Memᴰ.not-nil m)
over_mem ts (k ∷ ks) h c m =
    ⊎_elim (λ e. mathlib.Core.List.Memᴰ.cast e (place_mem blank_tree ts k h.0)) (λ n. over_mem ts ks h.1 c n) (mathlib.Core.List.Memᴰ.cases_cons m)

pub child_mem : (ts : List Tree) (f : ℕ) (ks : List ℕ) → AllByRecursion (λ k. k < length ts) ks
    → (c : Tree) → Memᴰ c (to_list (children (tree_over ts f ks))) → Memᴰ c ts
child_mem ts f ks h c m = over_mem ts ks h c (subst (Memᴰ c) (to_list_from_list (map (tree_at ts) ks)) m)

module _ (rows : List Row) (n : ℕ) (v : Valid rows n) where
  pub shorter : (m : ℕ) → m ≤ n → Valid rows m
  shorter m h =
      let fits = v.fits in
      record {
        fits = omega arith;
        four = λ i l. v.four i (omega arith);
        shaped = λ i l. v.shaped i (omega arith);
        children_below = λ i l. v.children_below i (omega arith);
        unequal = λ i j a b. v.unequal i j a (omega arith);
      }

  -- a row in order is that of a record already if its tree is there
  pub row_there : (r : Row) → length r.children ≡ 4 → Shaped r → ChildrenBelow n r → Grown (table_trees rows n) → Memᴰ (row_tree (table_trees rows n) r) (table_trees rows n)
      → (i : ℕ) × (i < n) × (get_or rows i blank ≡ r)
  row_there r w s b g m =
      let ts = table_trees rows n in
      let len = length_trees rows n v.fits in
      let p = mem_place blank_tree m in
      let l : p.0 < n = omega (arith, p.1) in
      let q = get_or rows p.0 blank in
      let wide : ChildrenBelow (length ts) q = λ j h. let k = v.children_below p.0 l j h in omega arith in
      (p.0, l, row_told ts (grown_distinct g) q r (v.four p.0 l) w (v.shaped p.0 l) s wide (λ j h. let k = b j h in omega arith) (sym (tree_of_row rows n v p.0 l) ∙ p.2))

grown_front : (rows : List Row) (n : ℕ) → Valid rows n → (m : ℕ) → m ≤ n → Grown (table_trees rows m)
grown_front rows n v zero h = subst Grown (sym (no_trees rows)) empty
grown_front rows n v (suc m) h =
    let fits = v.fits in
    let g = grown_front rows n v m (omega arith) in
    let w = shorter rows n v m (omega arith) in
    let ts = table_trees rows m in
    let r = get_or rows m blank in
    let len = length_trees rows m (omega arith) in
    let four = v.four m (omega arith) in
    let s = v.shaped m (omega arith) in
    let b = v.children_below m (omega arith) in
    let new : Memᴰ (row_tree ts r) ts → ⊥ = λ k. let q = row_there rows m w r four s b g k in v.unequal q.0 m q.1 (omega arith) q.2 in
    let kids = subst (λ k. AllByRecursion (λ x. x < k) (children_of r)) (sym len) (children_all m r (omega (arith, s.0)) b) in
    let more : table_trees rows (suc m) ≡ ts ++ (row_tree ts r ∷ []) = ap (table_trees rows) (sym (add-one m)) ∙ trees_more rows m (omega arith) in
    subst Grown (sym more) (grown g new (child_mem ts r.symbol (children_of r) kids))

pub trees_grown : (rows : List Row) (n : ℕ) → Valid rows n → Grown (table_trees rows n)
trees_grown rows n v = grown_front rows n v n (omega arith)

-- a table stays in order with one row more, in order and of a new tree
pub valid_more : (rows : List Row) (n : ℕ) (r : Row) → Valid rows n → n < length rows → length r.children ≡ 4 → Shaped r → ChildrenBelow n r
    → (Memᴰ (row_tree (table_trees rows n) r) (table_trees rows n) → ⊥) → Valid (set rows n r) (n + 1)
valid_more rows n r v l four s b new =
    let old : (i : ℕ) → i < n → get_or (set rows n r) i blank ≡ get_or rows i blank = λ i h. get_or-set_other rows n i r blank (omega arith) in
    let here : get_or (set rows n r) n blank ≡ r = get_or-set_same rows n r blank l in
    let at : (i : ℕ) → i < n + 1 → (P : Row → Type 0) → (i < n → P (get_or rows i blank)) → (i ≡ n → P r) → P (get_or (set rows n r) i blank) =
    λ i h P a c.
    ⊎_elim (λ k. subst P (sym (old i k)) (a k))
    (λ k. let e : i ≡ n = omega arith in subst P (sym (ap (λ m. get_or (set rows n r) m blank) e ∙ here)) (c e)) (cases_lt i n) in
    record {
      fits = omega (arith, length-set rows n r);
      four = λ i h. at i h (λ q. length q.children ≡ 4) (v.four i) (λ e. four);
      shaped = λ i h. at i h Shaped (v.shaped i) (λ e. s);
      children_below = λ i h. at i h (ChildrenBelow i) (v.children_below i) (λ e j k. omega (arith, b j k));
      unequal = λ i j a h e. at j h (λ q. get_or rows i blank ≡ q → ⊥) (λ k. v.unequal i j a k) (λ k m. new (there i (omega arith) m)) (sym (old i (omega arith)) ∙ e);
    }
  where
    there : (i : ℕ) → i < n → get_or rows i blank ≡ r → Memᴰ (row_tree (table_trees rows n) r) (table_trees rows n)
    there i h e =
        let fits = v.fits in
        mathlib.Core.List.Memᴰ.cast (sym (tree_of_row rows n v i h ∙ ap (row_tree (table_trees rows n)) e))
        (place_mem blank_tree (table_trees rows n) i (omega (arith, length_trees rows n fits)))
