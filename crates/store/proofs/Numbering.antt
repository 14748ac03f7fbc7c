-- The numbers of listed records are the sheet numbers of their trees. Assumes nothing.
use Rattle.std.proofs.Common.{◌≡◌, ℕ, zero, suc, ◌+◌, ◌<◌, Bool, true, false, List, [], ◌∷◌, map, length, get_or, set, sym, refl, ap, ◌∙◌, subst, ap₂, arith, below_more}
use mathlib.Core.List.{Memᴰ}
use Rattle.std.specs.List.{AllByRecursion}
use Rattle.std.proofs.ByRecursion.{All-get_or}
use Rattle.std.proofs.lemmas.List.{get_or-map, get_or-set_other, get_or-set_same, length-map}
use Rattle.std.proofs.lemmas.Bool.{true≢false}
use Rattle.rewriting.specs.Terms.{Tree, children, same, to_list}
use Rattle.rewriting.specs.Subterms.{Distinct, place_of, row}
use Rattle.rewriting.proofs.Equality.{same_decides, same_eq}
use Rattle.rewriting.proofs.Members.{distinct_tail, mem_place}
use Rattle.dag.specs.Roots.{renumber}
use Rattle.dag.specs.Trees.{blank_tree, tree_at, tree_over}
use Rattle.dag.specs.Walks.{ChildrenThere}
use Rattle.dag.proofs.Records.{to_list_from_list}
use Rattle.store.specs.Printing.{ListedOnce, Numbered, NumberedTo}

-- one record more
pub number_more : (order numbers : List ℕ) (i : ℕ) → ListedOnce order → i < length order → get_or order i 0 < length numbers → NumberedTo i order numbers
    → NumberedTo (i + 1) order (set numbers (get_or order i 0) (i + 1))
number_more order numbers i once h l e =
    below_more _ _
    (λ k b. get_or-set_other numbers (get_or order i 0) (get_or order k 0) (i + 1) 0 (λ q. omega (arith, once k i (omega arith) h q)) ∙ e k b)
    (get_or-set_same numbers (get_or order i 0) (i + 1) 0 l)

-- a tree stands at its own place
pub place_is : (xs : List Tree) → Distinct xs → (d : Tree) (j : ℕ) → j < length xs → place_of (get_or xs j d) xs ≡ j
place_is [] u d j h = absurd (omega arith)
place_is (x ∷ xs) u d zero h = go (same x x) ((same_decides x x).1 refl)
  where
    go : (b : Bool) → b ≡ true → elim b as (λ q. ℕ) [ true ↦ zero | false ↦ suc (place_of x xs) ] ≡ 0
    go true e = refl
    go false e = absurd (true≢false (sym e))
place_is (x ∷ xs) u d (suc j) h = go (place_is xs (distinct_tail x xs u) d j (omega arith)) (same (get_or xs j d) x) refl
  where
    go : place_of (get_or xs j d) xs ≡ j → (b : Bool) → same (get_or xs j d) x ≡ b
        → elim b as (λ q. ℕ) [ true ↦ zero | false ↦ suc (place_of (get_or xs j d) xs) ] ≡ suc j
    go rec true e = let z = u d (suc j) 0 h (omega arith) (same_eq (get_or xs j d) x e) in absurd (omega arith)
    go rec false e = ap suc rec

module _ (ts : List Tree) (order : List ℕ) (apart : Distinct (map (tree_at ts) order)) where
  tree_there : (i : ℕ) → i < length order → get_or (map (tree_at ts) order) i blank_tree ≡ tree_at ts (get_or order i 0)
  tree_there i h = get_or-map (tree_at ts) order i 0 blank_tree h

  pub listed_once : ListedOnce order
  listed_once i j h k e =
      let l = length-map order (tree_at ts) in
      apart blank_tree i j (omega arith) (omega arith) (tree_there i h ∙ (ap (tree_at ts) e ∙ sym (tree_there j k)))

  pub all_numbered : (numbers : List ℕ) → Distinct ts → AllByRecursion (λ k. k < length ts) order → NumberedTo (length order) order numbers → Numbered ts (map (tree_at ts) order) numbers
  all_numbered numbers distinct inside e k h m =
      let xs = map (tree_at ts) order in
      let p = mem_place blank_tree m in
      let l : p.0 < length order = omega (arith, p.1, length-map order (tree_at ts)) in
      let listed : k ≡ get_or order p.0 0 = distinct blank_tree k (get_or order p.0 0) h (All-get_or (λ x. x < length ts) order p.0 0 l inside) (sym p.2 ∙ tree_there p.0 l) in
      let place : place_of (tree_at ts k) xs ≡ p.0 = ap (λ t. place_of t xs) (sym p.2) ∙ place_is xs apart blank_tree p.0 p.1 in
      let number : get_or numbers k 0 ≡ p.0 + 1 = ap (λ x. get_or numbers x 0) listed ∙ e p.0 l in
      omega (arith, place, number)

module _ (ts xs : List Tree) (numbers : List ℕ) (numbered : Numbered ts xs numbers) where
  renumber_is : (ks : List ℕ) → AllByRecursion (λ k. k < length ts) ks → ((c : Tree) → Memᴰ c (map (tree_at ts) ks) → Memᴰ c xs)
      → renumber numbers ks ≡ map (λ c. suc (place_of c xs)) (map (tree_at ts) ks)
  renumber_is [] h m = refl
  renumber_is (k ∷ ks) h m = ap₂ (λ y ys. y ∷ ys) (numbered k h.0 (m (tree_at ts k) (Memᴰ.head refl))) (renumber_is ks h.1 (λ c p. m c (Memᴰ.tail p)))

  -- the numbers of a record's children are those in its row of the sheet
  pub row_children : (t : Tree) (f : ℕ) (ks : List ℕ) → ChildrenThere xs → Memᴰ t xs → t ≡ tree_over ts f ks → AllByRecursion (λ k. k < length ts) ks
      → renumber numbers ks ≡ (row xs t).children
  row_children t f ks there i e h =
      let kids : to_list (children t) ≡ map (tree_at ts) ks = ap (λ x. to_list (children x)) e ∙ to_list_from_list (map (tree_at ts) ks) in
      renumber_is ks h (λ c m. there t c i (subst (Memᴰ c) (sym kids) m)) ∙ ap (map (λ c. suc (place_of c xs))) (sym kids)

-- the tree of a listed record is listed
pub tree_listed : (ts : List Tree) (order : List ℕ) (i : ℕ) → i < length order → Memᴰ (tree_at ts (get_or order i 0)) (map (tree_at ts) order)
tree_listed ts [] i h = absurd (omega arith)
tree_listed ts (k ∷ order) zero h = Memᴰ.head refl
tree_listed ts (k ∷ order) (suc i) h = Memᴰ.tail (tree_listed ts order i (omega arith))
