-- What the type of a table says of its rows and trees. Assumes nothing.
use Rattle.std.proofs.Common.{◌≡◌, ℕ, ◌<◌, ◌≤◌, List, ◌++◌, length, take, Some, None, vec_items, Option, MatchOption, sym, ap, ◌∙◌, subst, arith}
use mathlib.Core.List.Memᴰ
use mathlib.Core.List.{Memᴰ}
use Rattle.std.specs.List.{AllWithin, HoldsAt}
use Rattle.std.proofs.lemmas.List.{get_or-take, length-append, length-take-le, take_at}
use Rattle.rewriting.specs.Terms.{children, to_list, Tree}
use Rattle.rewriting.specs.Subterms.{ChildrenFirst, Distinct}
use Rattle.rewriting.proofs.Members.{mem_place, place_mem}
use Rattle.rewriting.proofs.Walking.{Grown, grown_children_first, grown_distinct}
use Rattle.dag.specs.declared.node.Node.{Node}
use Rattle.dag.specs.declared.row.Row.{Row}
use Rattle.dag.specs.declared.table.Table.{Table}
use Rattle.dag.specs.Rows.{blank}
use Rattle.dag.specs.Trees.{blank_tree, row_tree, table_trees, tree_at}
use Rattle.dag.specs.Walks.{ChildrenThere}
use Rattle.dag.specs.Tables.{Holds, node_tree, OverRecords, trees}
use Rattle.dag.proofs.Folding.{length_trees, tree_of_row, trees_front}
use Rattle.dag.proofs.Records.{row_there, trees_grown}

module _ (t : Table) where
  pub one_tree_each : length (trees t) ≡ t.count
  one_tree_each = length_trees (vec_items t.rows) t.count t.valid.fits

  pub grown_trees : Grown (trees t)
  grown_trees = trees_grown (vec_items t.rows) t.count t.valid

  pub distinct_trees : Distinct (trees t)
  distinct_trees = grown_distinct grown_trees

  pub children_first : ChildrenFirst (trees t)
  children_first = grown_children_first grown_trees

  pub children_there : ChildrenThere (trees t)
  children_there s c m k =
      let p = mem_place blank_tree m in
      let r = children_first blank_tree p.0 p.1 c (subst (λ x. Memᴰ c (to_list (children x))) (sym p.2) k) in
      let l = p.1 in
      Memᴰ.cast (sym r.2) (place_mem blank_tree (trees t) r.0 (omega (arith, r.1)))

  pub record_mem : (k : ℕ) → k < t.count → Memᴰ (tree_at (trees t) k) (trees t)
  record_mem k h = place_mem blank_tree (trees t) k (omega (arith, one_tree_each))

pub trees_take : (rows : List Row) (k n : ℕ) → k ≤ n → n ≤ length rows → table_trees rows k ≡ take k (table_trees rows n)
trees_take rows k n h l =
    let f = trees_front rows k n h in
    sym (ap (take k) f.1 ∙ take_at (table_trees rows k) f.0 k (length_trees rows k (omega arith)))

-- the first row in use that is a node's, if there is one, is that of the record of the node's tree
pub first_row_found : (t : Table) (n : Node) → OverRecords t n → (r : Option ℕ)
    → MatchOption r (AllWithin (λ q. q ≡ n.row → ⊥) (take t.count (vec_items t.rows)) 0 (length (take t.count (vec_items t.rows))))
    (λ i. (i < length (take t.count (vec_items t.rows))) × HoldsAt (λ q. q ≡ n.row) (take t.count (vec_items t.rows)) i × AllWithin (λ q. q ≡ n.row → ⊥) (take t.count (vec_items t.rows)) 0 i)
    → MatchOption r (Memᴰ (node_tree t n) (trees t) → ⊥) (λ k. Holds t k (node_tree t n))
first_row_found t n over None none = λ m.
    let rows = vec_items t.rows in
    let len = length-take-le t.count rows t.valid.fits in
    let f = row_there rows t.count t.valid n.row n.four (n.few, n.unused) over (grown_trees t) m in
    none f.0 blank (omega arith) (omega (arith, f.1)) (get_or-take t.count rows f.0 blank f.1 ∙ f.2)
first_row_found t n over (Some k) h =
    let rows = vec_items t.rows in
    let len = length-take-le t.count rows t.valid.fits in
    let l : k < t.count = omega (arith, h.0) in
    (l, tree_of_row rows t.count t.valid k l ∙ ap (row_tree (trees t)) (sym (get_or-take t.count rows k blank l) ∙ h.1 blank))

pub count_grows : (before after : Table) (added : List Tree) → trees after ≡ trees before ++ added → before.count ≤ after.count
count_grows before after added e =
    omega (arith, one_tree_each before, one_tree_each after, ap length e, length-append (trees before) added)
