-- The records of a tree's subterms in sheet order make its sheet. Assumes nothing.
use Rattle.std.proofs.Common.{◌≡◌, ℕ, ◌<◌, ◌≤◌, List, [], ◌∷◌, ◌++◌, map, length, sym, ap, ◌∙◌, subst, arith, length-append}
use mathlib.Core.List.Memᴰ
use mathlib.Core.List.{Memᴰ}
use Rattle.std.specs.List.{AllByRecursion}
use Rattle.std.proofs.ByRecursion.{All-get_or}
use Rattle.std.proofs.lemmas.List.{length-map}
use Rattle.rewriting.specs.Terms.{Tree, children, to_list}
use Rattle.rewriting.specs.Subterms.{Distinct, row, subterms, walks}
use Rattle.rewriting.proofs.Members.{mem_member, mem_place, place_mem}
use Rattle.rewriting.proofs.Walking.{grown_children_first, grown_distinct, subterms_grown, subterms_last}
use Rattle.sheet.specs.SheetText.{before_last, lines_from, sheet_text, trailer_text}
use Rattle.dag.specs.declared.table.Table.{Table}
use Rattle.dag.specs.Tables.{trees}
use Rattle.dag.specs.Trees.{blank_tree, tree_at}
use Rattle.dag.specs.Walks.{ChildrenThere}
use Rattle.dag.proofs.Invariant.{distinct_trees, one_tree_each}
use Rattle.store.specs.Printing.{ListedOnce, listed_text, NumberedTo, Ready, trees_at}
use Rattle.store.proofs.Numbering.{all_numbered, listed_once}

pub subterms_there : (t : Tree) → ChildrenThere (subterms t)
subterms_there t s c m k =
    let p = mem_place blank_tree m in
    let r = grown_children_first (subterms_grown t) blank_tree p.0 p.1 c (subst (λ x. Memᴰ c (to_list (children x))) (sym p.2) k) in
    Memᴰ.cast (sym r.2) (place_mem blank_tree (subterms t) r.0 (omega (arith, r.1, p.1)))

module _ (table : Table) (t : Tree) (order : List ℕ) (listed : trees_at table order ≡ subterms t) where
  apart : Distinct (trees_at table order)
  apart = subst Distinct (sym listed) (grown_distinct (subterms_grown t))

  pub each_once : ListedOnce order
  each_once = listed_once (trees table) order apart

  pub root_listed : 0 < length order
  root_listed =
      let n = ap length (listed ∙ subterms_last t) ∙ length-append (walks (children t) []) (t ∷ []) in
      omega (arith, n, length-map order (tree_at (trees table)))

  pub sheet_is : (names : ℕ → List ℕ) → listed_text names table order ≡ sheet_text names t
  unfolding listed_text
  sheet_is names = ap (λ xs. lines_from names 1 (map (row xs) xs) ++ trailer_text (length (map (row xs) xs)) (before_last names 1 (map (row xs) xs))) listed

  pub numbered_ready : (numbers : List ℕ) → AllByRecursion (λ k. k < table.count) order → length order ≤ 4096 → table.count ≤ length numbers → NumberedTo (length order) order numbers → Ready table order numbers
  numbered_ready numbers inside few long numbered =
      record {
        inside = λ i h. All-get_or (λ k. k < table.count) order i 0 h inside;
        few = few;
        children_there = λ s c m k. mem_member c (subst ChildrenThere (sym listed) (subterms_there t) s c m k);
        long = long;
        numbered = all_numbered (trees table) order apart numbers (distinct_trees table) (subst (λ n. AllByRecursion (λ k. k < n) order) (sym (one_tree_each table)) inside) numbered;
      }
