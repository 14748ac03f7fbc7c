-- The trees in the tins after one tin was set. Assumes nothing.
use Rattle.std.proofs.Common.{◌≡◌, ℕ, ◌<◌, true, [], length, get_or, set, None, Option, sym, ap, subst, append-nil, arith}
use Rattle.std.proofs.lemmas.List.{get_or-map, length-map}
use Rattle.dag.specs.Roots.{Compacted, held, in_use, RootsInUse}
use Rattle.dag.specs.Tables.{trees}
use Rattle.dag.proofs.Invariant.{one_tree_each}
use Rattle.store.specs.declared.tins.Tins.{Tins}
use Rattle.store.specs.Holding.{tin_trees}
use Rattle.store.proofs.Placing.{tins_set}

-- by the number of trees in place of the count
pub used_trees : (t : Tins) → RootsInUse (length (trees t.table)) t.roots
used_trees t = subst (λ n. RootsInUse n t.roots) (sym (one_tree_each t.table)) t.used

-- no record was added before
pub set_alone : (before after : Tins) (tin : ℕ) (root : Option ℕ) → Compacted (trees before.table) (set before.roots tin root) (trees after.table) after.roots
    → tin_trees after ≡ set (tin_trees before) tin (held (trees before.table) root)
set_alone before after tin root c =
    let nil = append-nil (trees before.table) in
    tins_set (trees before.table) [] (trees after.table) before.roots after.roots tin root (held (trees before.table) root) (used_trees before) (ap (λ ts. held ts root) nil)
    (subst (λ ts. Compacted ts (set before.roots tin root) (trees after.table) after.roots) (sym nil) c)

pub emptied : (before after : Tins) (tin : ℕ) → Compacted (trees before.table) (set before.roots tin None) (trees after.table) after.roots
    → tin_trees after ≡ set (tin_trees before) tin None
emptied before after tin c = set_alone before after tin None c

-- what a tin holds, by its root
pub tin_held : (t : Tins) (tin : ℕ) → tin < 16 → get_or (tin_trees t) tin None ≡ held (trees t.table) (get_or t.roots tin None)
tin_held t tin h = let n = t.sixteen in get_or-map (held (trees t.table)) t.roots tin None None (omega arith)

pub tin_inside : (t : Tins) (tin : ℕ) → tin < 16 → tin < length (tin_trees t)
tin_inside t tin h = let n = t.sixteen in omega (arith, length-map t.roots (held (trees t.table)))

-- a tin's root is in use
pub root_used : (t : Tins) (tin : ℕ) (root : Option ℕ) → tin < 16 → root ≡ get_or t.roots tin None → in_use t.table.count root ≡ true
root_used t tin root h e = let n = t.sixteen in subst (λ o. in_use t.table.count o ≡ true) (sym e) (t.used tin (omega arith))
