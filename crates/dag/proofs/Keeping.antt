-- Compact tables: their records are those of the roots' subterms, and no other. Assumes nothing.
use Rattle.std.proofs.Common.{◌≡◌, ℕ, suc, ◌<◌, Bool, true, false, List, [], ◌∷◌, length, get_or, Some, None, Option, sym, refl, ap, ◌∙◌, ⊎_elim, arith}
use mathlib.Core.List.Memᴰ
use mathlib.Core.List.{Memᴰ}
use Rattle.rewriting.specs.Counting.{distinct_count}
use Rattle.rewriting.specs.Subterms.{in_first, in_rest, member, SubtermIn, walk, walks}
use Rattle.rewriting.specs.Terms.{cons, to_list, Tree}
use Rattle.rewriting.proofs.Members.{member_mem, not_member, same_members}
use Rattle.rewriting.proofs.Walking.{empty, grown_distinct, proper_list, walk_grown, walk_has, walk_keeps, walk_mem, walks_grown}
use Rattle.dag.specs.declared.table.Table.{Table}
use Rattle.dag.specs.Compactness.{CompactTablesCountExactly, CompactTablesHoldRootSubterms, CompactedTablesAreCompact}
use Rattle.dag.specs.Roots.{Compact, present, root_trees, RootsInUse}
use Rattle.dag.specs.Tables.{trees}
use Rattle.dag.specs.Trees.{tree_at}
use Rattle.dag.proofs.Adding.{in_there, one_missing}
use Rattle.dag.proofs.Invariant.{children_there, grown_trees, record_mem}
use Rattle.dag.proofs.Rooting.{root_below}

pub compacted_compact : CompactedTablesAreCompact
compacted_compact ts ts' roots roots' c = c.counted ∙ ap (λ os. distinct_count (present os)) (sym c.same_trees)

-- a root's tree is the tree of a record
root_tree_there : (ts : List Tree) (xs : List Tree) (roots : List (Option ℕ)) → ((i k : ℕ) → i < length roots → get_or roots i None ≡ Some k → Memᴰ (tree_at ts k) xs)
    → (s : Tree) → Memᴰ s (to_list (root_trees ts roots)) → Memᴰ s xs
root_tree_there ts xs [] h s m = absurd (Memᴰ.not-nil m)
root_tree_there ts xs (None ∷ os) h s m = root_tree_there ts xs os (λ i k l e. h (suc i) k (omega arith) e) s m
root_tree_there ts xs (Some k ∷ os) h s m =
    ⊎_elim (λ e. Memᴰ.cast e (h 0 k (omega arith) refl)) (root_tree_there ts xs os (λ i x l e. h (suc i) x (omega arith) e) s) (Memᴰ.cases_cons m)

module _ (t : Table) (roots : List (Option ℕ)) (inside : RootsInUse t.count roots) where
  root_subterms_there : (s : Tree) → SubtermIn s (root_trees (trees t) roots) → Memᴰ s (trees t)
  root_subterms_there s u =
      in_there (trees t) (children_there t)
      (root_tree_there (trees t) (trees t) roots (λ i k l e. record_mem t k (root_below t.count k (get_or roots i None) e (inside i l)))) u

  only_root_subterms : Compact (trees t) roots → (s : Tree) → Memᴰ s (trees t) → SubtermIn s (root_trees (trees t) roots)
  only_root_subterms c s m = go (member s (walks (root_trees (trees t) roots) [])) refl
    where
      go : (b : Bool) → member s (walks (root_trees (trees t) roots) []) ≡ b → SubtermIn s (root_trees (trees t) roots)
      go true e = (proper_list s (root_trees (trees t) roots)).0 (member_mem s (walks (root_trees (trees t) roots) []) e)
      go false e =
          let k = one_missing s (walks (root_trees (trees t) roots) []) (trees t) (grown_distinct (walks_grown (root_trees (trees t) roots) [] empty))
          (λ x n. root_subterms_there x ((proper_list x (root_trees (trees t) roots)).0 n)) m (not_member s (walks (root_trees (trees t) roots) []) e) in
          absurd (omega (arith, c))

pub compact_members : CompactTablesHoldRootSubterms
compact_members t roots inside c s = (only_root_subterms t roots inside c s, root_subterms_there t roots inside s)

pub compact_count : CompactTablesCountExactly
compact_count t roots inside c s =
    let rs = root_trees (trees t) roots in
    same_members (walk s (trees t)) (walks (cons s rs) []) (grown_distinct (walk_grown s (trees t) (grown_trees t))) (grown_distinct (walks_grown (cons s rs) [] empty))
    (λ x. (
      (λ m. (proper_list x (cons s rs)).1 (⊎_elim (λ k. in_rest ((compact_members t roots inside c x).0 k)) in_first (walk_mem x s (trees t) m))),
      (λ m. back x ((proper_list x (cons s rs)).0 m)),
    ))
  where
    back : (x : Tree) → SubtermIn x (cons s (root_trees (trees t) roots)) → Memᴰ x (walk s (trees t))
    back x (in_first u) = walk_has x s (trees t) u
    back x (in_rest u) = walk_keeps x s (trees t) (root_subterms_there t roots inside x u)
