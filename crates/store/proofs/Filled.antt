-- A tree that goes into a tin: when it fits, and what the tins hold then. Assumes nothing.
use Rattle.std.proofs.Common.{◌≡◌, ℕ, ◌<◌, ◌≤◌, true, false, List, ◌++◌, length, set, Some, Ok, Err, sym, ap, ◌∙◌, subst, arith}
use Rattle.std.proofs.lemmas.Bool.{le-leb, lt-leb}
use Rattle.rewriting.specs.Terms.{Tree, cons}
use Rattle.rewriting.specs.Subterms.{walk}
use Rattle.rewriting.specs.Counting.{distinct_count}
use Rattle.card.specs.declared.refusal.Refusal.TheVariants.{NoRoom}
use Rattle.dag.specs.Roots.{Compact, Compacted, present}
use Rattle.dag.specs.Tables.{capacity, Holds, trees}
use Rattle.dag.specs.Trees.{tree_at}
use Rattle.dag.proofs.Keeping.{compact_count}
use Rattle.store.specs.declared.tins.Tins.{Tins}
use Rattle.store.specs.Holding.{tin_trees, room}
use Rattle.store.specs.Results.{fits, placed}
use Rattle.store.proofs.Placing.{tins_set}
use Rattle.store.proofs.Settled.{used_trees}

module _ (before : Tins) (compact : Compact (trees before.table) before.roots) (t : Tree) where
  exact : length (walk t (trees before.table)) ≡ distinct_count (cons t (present (tin_trees before)))
  exact = compact_count before.table before.roots before.used compact t

  pub does_fit : length (walk t (trees before.table)) ≤ capacity before.table → fits (room before) (tin_trees before) t ≡ true
  does_fit h = le-leb (distinct_count (cons t (present (tin_trees before)))) (room before) (omega (arith, exact))

  pub does_not_fit : capacity before.table < length (walk t (trees before.table)) → fits (room before) (tin_trees before) t ≡ false
  does_not_fit h = lt-leb (distinct_count (cons t (present (tin_trees before)))) (room before) (omega (arith, exact))

  pub placed_refused : (tin : ℕ) → capacity before.table < length (walk t (trees before.table)) → placed (room before) (tin_trees before) tin t ≡ Err NoRoom
  placed_refused tin h = let f = does_not_fit h in rw (f, placed)

  module _ (mid after : Tins) (tin k : ℕ) (same_roots : mid.roots ≡ before.roots) (added : List Tree) (front : trees mid.table ≡ trees before.table ++ added) (holds : Holds mid.table k t)
      (settled : Compacted (trees mid.table) (set mid.roots tin (Some k)) (trees after.table) after.roots) where
    pub filled_tins : tin_trees after ≡ set (tin_trees before) tin (Some t)
    filled_tins =
        tins_set (trees before.table) added (trees after.table) before.roots after.roots tin (Some k) (Some t) (used_trees before)
        (ap Some (ap (λ ts. tree_at ts k) (sym front) ∙ holds.1))
        (subst (λ ts. Compacted ts (set before.roots tin (Some k)) (trees after.table) after.roots) front
        (subst (λ rs. Compacted (trees mid.table) (set rs tin (Some k)) (trees after.table) after.roots) same_roots settled))

    pub placed_done : length (walk t (trees before.table)) ≤ capacity before.table → placed (room before) (tin_trees before) tin t ≡ Ok (tin_trees after)
    placed_done h = let f = does_fit h in rw (f, placed) (ap Ok (sym filled_tins))
