-- Compaction: a walk from the roots, then the slide. Assumes nothing.
use Rattle.std.proofs.Common.{◌≡◌, ℕ, ◌<◌, true, ◌↔◌, List, [], ◌∷◌, map, length, get_or, take, Some, None, vec_items, Option, sym, refl, ap, ◌∙◌, subst, arith}
use mathlib.Core.List.Memᴰ
use mathlib.Core.List.{Memᴰ}
use Rattle.std.specs.List.{AllByRecursion}
use Rattle.std.proofs.ByRecursion.{All-weaker}
use Rattle.std.proofs.lemmas.List.{ext_get_or, get_or-map, length-map}
use Rattle.std.proofs.lemmas.Bool.{lt-ltb}
use Rattle.rewriting.specs.Terms.{Tree, children, to_list}
use Rattle.rewriting.specs.Subterms.{Distinct, SubtermIn, walks}
use Rattle.rewriting.proofs.Members.{mem_place, place_mem, same_members}
use Rattle.rewriting.proofs.Walking.{proper_list, walks_has}
use Rattle.dag.specs.declared.table.Table.{Table}
use Rattle.dag.specs.Roots.{ChildrenMarked, Compacted, held, held_trees, in_use, renumber_root, root_trees, RootsInUse, Slid}
use Rattle.dag.specs.Rows.{blank, children_of}
use Rattle.dag.specs.Tables.{trees}
use Rattle.dag.specs.Trees.{blank_tree, tree_at}
use Rattle.dag.specs.Walks.{listed, Walked}
use Rattle.dag.proofs.Folding.{children_before, tree_of_row}
use Rattle.dag.proofs.Invariant.{one_tree_each}
use Rattle.dag.proofs.Records.{over_mem, to_list_from_list}
use Rattle.dag.proofs.Rooting.{root_below, root_there}

-- WHAT A WALK MARKS

module _ (ts : List Tree) (marks order : List ℕ) (n : ℕ) (w : Walked ts marks order n) where
  listed_marked : (k : ℕ) → k < length ts → Memᴰ (tree_at ts k) (listed ts order n) → get_or marks k 0 ≡ 0 → ⊥
  listed_marked k h m z = w.unmarked k h z m

  all_marked : (ks : List ℕ) → AllByRecursion (λ k. k < length ts) ks → ((c : Tree) → Memᴰ c (map (tree_at ts) ks) → Memᴰ c (listed ts order n))
      → AllByRecursion (λ k. get_or marks k 0 ≡ 0 → ⊥) ks
  all_marked [] b h = tt
  all_marked (k ∷ ks) b h =
      (listed_marked k b.0 (h (tree_at ts k) (Memᴰ.head refl)), all_marked ks b.1 (λ c m. h c (Memᴰ.tail m)))

  -- a listed tree is that of a marked record
  marked_record : (s : Tree) → Memᴰ s (listed ts order n) → (k : ℕ) × (k < length ts) × (get_or marks k 0 ≡ 0 → ⊥) × (tree_at ts k ≡ s)
  marked_record s m =
      let p = mem_place blank_tree (over_mem ts (take n order) w.records s m) in
      (p.0, p.1, listed_marked p.0 p.1 (Memᴰ.cast p.2 m), p.2)

-- a walk marks with each record its children
pub children_marked : (t : Table) (marks order : List ℕ) (n : ℕ) → Walked (trees t) marks order n → ChildrenMarked (vec_items t.rows) t.count marks
children_marked t marks order n w i h m =
    let rows = vec_items t.rows in
    let r = get_or rows i blank in
    let v = t.valid in
    let len = one_tree_each t in
    let here = w.marked i (omega arith) m in
    let is = tree_of_row rows t.count v i h in
    let below = All-weaker (λ k. k < i) (λ k. k < length (trees t)) (λ k l. omega arith) (children_of r) (children_before rows t.count v i h) in
    all_marked (trees t) marks order n w (children_of r) below
    (λ c k. w.children_there (tree_at (trees t) i) c here
    (subst (λ x. Memᴰ c (to_list (children x))) (sym is) (subst (Memᴰ c) (sym (to_list_from_list (map (tree_at (trees t)) (children_of r)))) k)))

-- WALK FROM THE ROOTS, SLIDE, GIVE THE ROOTS THEIR NEW NUMBERS

module _ (ts : List Tree) (roots : List (Option ℕ)) (marks order : List ℕ) (n : ℕ) (w : Walked ts marks order n)
    (all : listed ts order n ≡ walks (root_trees ts roots) []) (inside : RootsInUse (length ts) roots)
    (ts' : List Tree) (numbers : List ℕ) (s : Slid ts marks (length ts) ts' numbers) where
  root_placed : (i : ℕ) → i < length roots → (k : ℕ) → get_or roots i None ≡ Some k → (get_or numbers k 0 < length ts') × (tree_at ts' (get_or numbers k 0) ≡ tree_at ts k)
  root_placed i h k e =
      let l = root_below (length ts) k (get_or roots i None) e (inside i h) in
      s.placed k l (listed_marked ts marks order n w k l (subst (Memᴰ (tree_at ts k)) (sym all) (walks_has (tree_at ts k) (root_trees ts roots) [] (root_there ts roots i k h e))))

  root_in_use : (i : ℕ) → i < length roots → (o : Option ℕ) → get_or roots i None ≡ o → in_use (length ts') (renumber_root numbers o) ≡ true
  root_in_use i h None e = refl
  root_in_use i h (Some k) e = lt-ltb (get_or numbers k 0) (length ts') (root_placed i h k e).0

  root_same : (i : ℕ) → i < length roots → (o : Option ℕ) → get_or roots i None ≡ o → held ts' (renumber_root numbers o) ≡ held ts o
  root_same i h None e = refl
  root_same i h (Some k) e = ap Some (root_placed i h k e).1

  kept_members : (t : Tree) → Memᴰ t ts' ↔ SubtermIn t (root_trees ts roots)
  kept_members t = (
    (λ m.
        let o = s.only t m in
        (proper_list t (root_trees ts roots)).0 (subst (Memᴰ t) all (Memᴰ.cast (sym o.3) (w.marked o.0 o.1 o.2)))),
    (λ u.
        let r = marked_record ts marks order n w t (subst (Memᴰ t) (sym all) ((proper_list t (root_trees ts roots)).1 u)) in
        let p = s.placed r.0 r.1 r.2 in
        Memᴰ.cast (sym (p.1 ∙ r.3)) (place_mem blank_tree ts' (get_or numbers r.0 0) p.0)),
  )

  pub compacted : Distinct ts' → (roots' : List (Option ℕ)) → length roots' ≡ length roots
      → ((i : ℕ) → i < length roots → get_or roots' i None ≡ renumber_root numbers (get_or roots i None)) → Compacted ts roots ts' roots'
  compacted d roots' l e =
      let a = length-map roots' (held ts') in
      let b = length-map roots (held ts) in
      record {
        roots_in_use = λ i h. ap (in_use (length ts')) (e i (omega arith)) ∙ root_in_use i (omega arith) (get_or roots i None) refl;
        same_trees =
            ext_get_or None (held_trees ts' roots') (held_trees ts roots) (omega arith)
            (λ i h. get_or-map (held ts') roots' i None None (omega arith)
            ∙ (ap (held ts') (e i (omega arith)) ∙ (root_same i (omega arith) (get_or roots i None) refl ∙ sym (get_or-map (held ts) roots i None None (omega arith)))));
        members = kept_members;
        counted =
            same_members ts' (walks (root_trees ts roots) []) d (subst Distinct all w.distinct)
            (λ t. ((λ m. (proper_list t (root_trees ts roots)).1 ((kept_members t).0 m)), (λ m. (kept_members t).1 ((proper_list t (root_trees ts roots)).0 m))));
      }
