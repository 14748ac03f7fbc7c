-- Tins as roots of a node table that grows. Assumes nothing.
use Rattle.std.proofs.Common.{◌≡◌, ℕ, zero, suc, ◌<◌, ◌≤◌, true, List, [], ◌∷◌, length, get_or, set, replicate, Some, None, Option, sym, refl, ap, subst, ⊎_elim, arith, length-append, length-set, MatchOption}
use Rattle.std.proofs.lemmas.List.{get_or-set_same, get_or-set_other}
use Rattle.std.proofs.lemmas.Bool.{cases_eq}
use Rattle.rewriting.specs.Terms.{Tree}
use Rattle.rewriting.specs.Subterms.{add}
use Rattle.rewriting.proofs.Members.{add_cases}
use Rattle.dag.specs.declared.table.Table.{Table}
use Rattle.dag.specs.Places.{Built, NoRoom}
use Rattle.dag.specs.Roots.{in_use, RootsInUse}
use Rattle.dag.specs.Tables.{Full, Interned, trees}
use Rattle.dag.proofs.Invariant.{one_tree_each}
use Rattle.dag.proofs.Rooting.{in_use_more}

-- a tin more that holds a record in use
pub set_used : (n : ℕ) (roots : List (Option ℕ)) (tin : ℕ) (root : Option ℕ) → RootsInUse n roots → in_use n root ≡ true → RootsInUse n (set roots tin root)
set_used n roots tin root used h i l =
    let m : i < length roots = omega (arith, length-set roots tin root) in
    ⊎_elim
    (λ e. subst (λ j. in_use n (get_or (set roots j root) i None) ≡ true) e (subst (λ o. in_use n o ≡ true) (sym (get_or-set_same roots i root None m)) h))
    (λ ne. subst (λ o. in_use n o ≡ true) (sym (get_or-set_other roots tin i root None ne)) (used i m))
    (cases_eq i tin)

-- records in use stay in use where records are added
pub used_more : (n m : ℕ) (roots : List (Option ℕ)) → n ≤ m → RootsInUse n roots → RootsInUse m roots
used_more n m roots h used i l = in_use_more n m (get_or roots i None) h (used i l)

longer_trees : (before after : Table) → length (trees before) ≤ length (trees after) → before.count ≤ after.count
longer_trees before after h = let n = one_tree_each before in let m = one_tree_each after in omega arith

pub build_grows : (before after : Table) (t : Tree) (r : Option ℕ) → MatchOption r (NoRoom before after t) (Built before after t) → before.count ≤ after.count
build_grows before after t None h = longer_trees before after (omega (arith, ap length h.same_trees))
build_grows before after t (Some k) h = longer_trees before after (omega (arith, ap length h.front, length-append (trees before) h.added))

added_longer : (s : Tree) (xs : List Tree) → length xs ≤ length (add s xs)
added_longer s xs = add_cases (λ ys. length xs ≤ length ys) s xs (λ m. omega arith) (λ m. omega (arith, length-append xs (s ∷ [])))

pub intern_grows : (before after : Table) (t : Tree) (r : Option ℕ) → MatchOption r (Full before after t) (Interned before after t) → before.count ≤ after.count
intern_grows before after t None h = let e : after.count ≡ before.count = ap (λ (x : Table). x.count) h.same in omega arith
intern_grows before after t (Some k) h = longer_trees before after (omega (arith, ap length h.added, added_longer t (trees before)))

-- empty tins need no record
pub none_used : (n k : ℕ) → RootsInUse n (replicate k None)
none_used n (suc k) zero l = refl
none_used n (suc k) (suc i) l = none_used n k i (omega arith)
none_used n zero i l = absurd (omega arith)
