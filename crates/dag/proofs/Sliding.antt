-- Sliding marked records down, one record after the other. Assumes nothing.
use Rattle.std.proofs.Common.{◌≡◌, ℕ, ◌+◌, ◌<◌, ◌≤◌, List, [], ◌∷◌, ◌++◌, map, length, get_or, set, vec_items, sym, refl, ap, ◌∙◌, subst, ap₂, ⊎_elim, arith}
use mathlib.Core.List.Memᴰ
use mathlib.Core.List.{Memᴰ}
use Rattle.std.specs.List.{AllByRecursion}
use Rattle.std.proofs.lemmas.List.{get_or_append_left, get_or_push, get_or-set_other, get_or-set_same, length_push}
use Rattle.std.proofs.lemmas.Bool.{cases_eq}
use Rattle.rewriting.specs.Terms.{Tree, node}
use Rattle.rewriting.specs.Subterms.{Distinct}
use Rattle.rewriting.proofs.Walking.{grown_distinct}
use Rattle.dag.specs.declared.node.Node.{Node}
use Rattle.dag.specs.declared.row.Row.{Row}
use Rattle.dag.specs.declared.table.Table.{Table}
use Rattle.dag.specs.Roots.{ChildrenMarked, renumber, Slid}
use Rattle.dag.specs.Rows.{blank, children_of, ChildrenBelow}
use Rattle.dag.specs.Tables.{capacity, node_tree, OverRecords, trees}
use Rattle.dag.specs.Trees.{blank_tree, from_list, table_trees, tree_at, tree_over, Valid}
use Rattle.dag.proofs.Folding.{children_before, length_trees, tree_of_row}
use Rattle.dag.proofs.Invariant.{one_tree_each}
use Rattle.dag.proofs.Records.{trees_grown}
use Rattle.dag.proofs.Shapes.{children_each}

pub slide_starts : (ts : List Tree) (marks numbers : List ℕ) → Slid ts marks 0 [] numbers
slide_starts ts marks numbers = record { placed = λ k h m. absurd (omega arith); only = λ s m. absurd (Memᴰ.not-nil m) }

module _ (ts : List Tree) (marks : List ℕ) (i : ℕ) (ts' : List Tree) (numbers : List ℕ) (s : Slid ts marks i ts' numbers) where
  -- records that were slid have their trees under their new numbers
  pub over_slid : (ks : List ℕ) → AllByRecursion (λ k. k < i) ks → AllByRecursion (λ k. get_or marks k 0 ≡ 0 → ⊥) ks
      → (map (tree_at ts') (renumber numbers ks) ≡ map (tree_at ts) ks) × AllByRecursion (λ k. k < length ts') (renumber numbers ks)
  over_slid [] b m = (refl, tt)
  over_slid (k ∷ ks) b m =
      let p = s.placed k b.0 m.0 in
      let q = over_slid ks b.1 m.1 in
      (cc (p.1, q.0), (p.0, q.1))

  -- a record that was not slid has another tree than those that were
  pub not_slid : Distinct ts → i < length ts → Memᴰ (tree_at ts i) ts' → ⊥
  not_slid d h m =
      let o = s.only (tree_at ts i) m in
      let l = o.1 in
      let e = d blank_tree o.0 i (omega arith) h o.3 in
      omega arith

  pub slide_skips : get_or marks i 0 ≡ 0 → Slid ts marks (i + 1) ts' numbers
  slide_skips z =
      record {
        placed = λ k h m. ⊎_elim (λ e. absurd (m (ap (λ j. get_or marks j 0) e ∙ z))) (λ e. s.placed k (omega arith) m) (cases_eq k i);
        only = λ t m. let o = s.only t m in (o.0, omega (arith, o.1), o.2, o.3);
      }

  pub slide_takes : (get_or marks i 0 ≡ 0 → ⊥) → i < length numbers → Slid ts marks (i + 1) (ts' ++ (tree_at ts i ∷ [])) (set numbers i (length ts'))
  slide_takes m h =
      let l = length_push ts' (tree_at ts i) in
      record {
        placed = λ k b n.
            ⊎_elim
            (λ e. let g : get_or (set numbers i (length ts')) k 0 ≡ length ts' = ap (λ j. get_or (set numbers i (length ts')) j 0) e ∙ get_or-set_same numbers i (length ts') 0 h in (
              omega arith,
              ap (tree_at (ts' ++ (tree_at ts i ∷ []))) g ∙ (get_or_push ts' (tree_at ts i) blank_tree (length ts') refl ∙ ap (tree_at ts) (sym e)),
            ))
            (λ e. let g : get_or (set numbers i (length ts')) k 0 ≡ get_or numbers k 0 = get_or-set_other numbers i k (length ts') 0 e in
            let p = s.placed k (omega arith) n in (
              omega (arith, p.0),
              ap (tree_at (ts' ++ (tree_at ts i ∷ []))) g ∙ (get_or_append_left ts' (tree_at ts i ∷ []) blank_tree (get_or numbers k 0) p.0 ∙ p.1),
            ))
            (cases_eq k i);
        only = λ t n.
            ⊎_elim (λ a. let o = s.only t a in (o.0, omega (arith, o.1), o.2, o.3))
            (λ a. (i, omega arith, m, sym (Memᴰ.eq_of_singleton a))) (Memᴰ.append_cases ts' n);
      }

-- THE TABLE THAT IS SLID

-- a marked record's node over the new numbers of its children has the record's tree, which is not there yet
pub record SlidNode (ts : List Tree) (i : ℕ) (t : Table) (n : Node) : Type 0 where
  pub over : OverRecords t n
  pub same : node_tree t n ≡ tree_at ts i
  pub new : Memᴰ (node_tree t n) (trees t) → ⊥

pub slid_node : (rows : List Row) (n : ℕ) → Valid rows n → (marks : List ℕ) → ChildrenMarked rows n marks → (i : ℕ) → i < n → (get_or marks i 0 ≡ 0 → ⊥)
    → (t : Table) (numbers : List ℕ) → Slid (table_trees rows n) marks i (trees t) numbers
    → (m : Node) → m.row.symbol ≡ (get_or rows i blank).symbol → children_of m.row ≡ renumber numbers (children_of (get_or rows i blank))
    → SlidNode (table_trees rows n) i t m
slid_node rows n v marks cm i h mk t numbers s m f e =
    let r = get_or rows i blank in
    let ts = table_trees rows n in
    let p = over_slid ts marks i (trees t) numbers s (children_of r) (children_before rows n v i h) (cm i h mk) in
    let same : node_tree t m ≡ tree_at ts i =
    ap₂ (tree_over (trees t)) f e ∙ (ap (λ ks. node r.symbol (from_list ks)) p.0 ∙ sym (tree_of_row rows n v i h)) in
    record {
      over = subst (λ k. ChildrenBelow k m.row) (one_tree_each t) (children_each (length (trees t)) m.row (omega (arith, m.few, m.four)) (subst (AllByRecursion (λ k. k < length (trees t))) (sym e) p.1));
      same = same;
      new = λ q. not_slid ts marks i (trees t) numbers s (grown_distinct (trees_grown rows n v)) (omega (arith, length_trees rows n v.fits)) (Memᴰ.cast (sym same) q);
    }

-- what holds while records are slid: the marked ones below i were, and the rows from i on are as they were
pub record Sliding (rows : List Row) (n : ℕ) (marks : List ℕ) (full i : ℕ) (t : Table) (numbers : List ℕ) : Type 0 where
  pub slid : Slid (table_trees rows n) marks i (trees t) numbers
  pub rest : (j : ℕ) → i ≤ j → get_or (vec_items t.rows) j blank ≡ get_or rows j blank
  pub fewer : t.count ≤ i
  pub full_is : capacity t ≡ full

pub sliding_starts : (n : ℕ) (marks numbers : List ℕ) (t : Table) → trees t ≡ [] → Sliding (vec_items t.rows) n marks (capacity t) 0 t numbers
sliding_starts n marks numbers t e =
    record {
      slid = subst (λ ts. Slid (table_trees (vec_items t.rows) n) marks 0 ts numbers) (sym e) (slide_starts (table_trees (vec_items t.rows) n) marks numbers);
      rest = λ j h. refl;
      fewer = omega (arith, one_tree_each t, ap length e);
      full_is = refl;
    }

module _ (rows : List Row) (n : ℕ) (marks : List ℕ) (full i : ℕ) (t : Table) (numbers : List ℕ) (s : Sliding rows n marks full i t numbers) where
  pub sliding_skips : get_or marks i 0 ≡ 0 → Sliding rows n marks full (i + 1) t numbers
  sliding_skips z =
      let few = s.fewer in
      record {
        slid = slide_skips (table_trees rows n) marks i (trees t) numbers s.slid z;
        rest = λ j h. s.rest j (omega arith);
        fewer = omega arith;
        full_is = s.full_is;
      }

  -- record i goes behind those that were slid
  pub sliding_takes : (get_or marks i 0 ≡ 0 → ⊥) → i < length numbers → (m : Node) → SlidNode (table_trees rows n) i t m
      → (t' : Table) → t'.count ≡ t.count + 1 → vec_items t'.rows ≡ set (vec_items t.rows) t.count m.row
      → capacity t' ≡ capacity t → trees t' ≡ trees t ++ (node_tree t m ∷ [])
      → (k : ℕ) → k ≡ t.count → Sliding rows n marks full (i + 1) t' (set numbers i k)
  sliding_takes mk h m sn t' c r f e k at =
      let few = s.fewer in
      let ts = table_trees rows n in
      let e' : trees t' ≡ trees t ++ (tree_at ts i ∷ []) = e ∙ ap (λ x. trees t ++ (x ∷ [])) sn.same in
      let k' : length (trees t) ≡ k = one_tree_each t ∙ sym at in
      record {
        slid =
            subst (λ xs. Slid ts marks (i + 1) xs (set numbers i k)) (sym e')
            (subst (λ x. Slid ts marks (i + 1) (trees t ++ (tree_at ts i ∷ [])) (set numbers i x)) k' (slide_takes ts marks i (trees t) numbers s.slid mk h));
        rest = λ j l. ap (λ x. get_or x j blank) r ∙ (get_or-set_other (vec_items t.rows) t.count j m.row blank (omega arith) ∙ s.rest j (omega arith));
        fewer = omega arith;
        full_is = f ∙ s.full_is;
      }

-- the rows that are slid are those of a table whose marked records have marked children
module _ (old : Table) (rows : List Row) (n : ℕ) (e : rows ≡ vec_items old.rows) (f : n ≡ old.count) (marks : List ℕ) (full i : ℕ) (t : Table) (numbers : List ℕ)
    (s : Sliding rows n marks full i t numbers) (h : i < n) (r : Row) (is : r ≡ get_or (vec_items t.rows) i blank) where
  old_row : r ≡ get_or rows i blank
  old_row = is ∙ s.rest i (omega arith)

  old_valid : Valid rows n
  old_valid = subst (Valid rows) (sym f) (subst (λ xs. Valid xs old.count) (sym e) old.valid)

  pub sliding_children : AllByRecursion (λ k. k < i) (children_of r)
  sliding_children =
      subst (λ q. AllByRecursion (λ k. k < i) (children_of q)) (sym old_row)
      (children_before rows n old_valid i h)

  pub sliding_node : ChildrenMarked (vec_items old.rows) old.count marks → (get_or marks i 0 ≡ 0 → ⊥)
      → (m : Node) → m.row.symbol ≡ r.symbol → children_of m.row ≡ renumber numbers (children_of r) → SlidNode (table_trees rows n) i t m
  sliding_node cm mk m p q =
      slid_node rows n old_valid marks (subst (λ k. ChildrenMarked rows k marks) (sym f) (subst (λ xs. ChildrenMarked xs old.count marks) (sym e) cm)) i h mk t numbers s.slid m
      (p ∙ ap (λ x. x.symbol) old_row) (q ∙ ap (λ x. renumber numbers (children_of x)) old_row)
