-- Two records have equal trees exactly if they are one record. Assumes nothing.
use Rattle.std.proofs.Common.{◌≡◌, ℕ, ◌<◌, Bool, true, false, eqb, get_or, Some, None, Ok, Option, sym, refl, ap, ◌∙◌, ap₂, ⊎_elim, arith}
use Rattle.std.proofs.lemmas.Bool.{cases_eq, eq-eqb, ne_eqb}
use Rattle.rewriting.specs.Terms.{same}
use Rattle.rewriting.proofs.Equality.{same_eq, same_refl}
use Rattle.dag.specs.declared.table.Table.{Table}
use Rattle.dag.specs.Roots.{held}
use Rattle.dag.specs.Tables.{trees}
use Rattle.dag.specs.Trees.{tree_at, blank_tree}
use Rattle.dag.proofs.Invariant.{distinct_trees, one_tree_each}
use Rattle.store.specs.declared.tins.Tins.{Tins}
use Rattle.store.specs.Holding.{tin_trees}
use Rattle.store.specs.Results.{compared, same_result}
use Rattle.store.proofs.Outcomes.{tin_there}
use Rattle.store.proofs.Settled.{tin_held}

same_records : (t : Table) (x y : ℕ) → x < t.count → y < t.count → eqb x y ≡ same (tree_at (trees t) x) (tree_at (trees t) y)
same_records t x y h k = ⊎_elim equal apart (cases_eq x y)
  where
    equal : x ≡ y → eqb x y ≡ same (tree_at (trees t) x) (tree_at (trees t) y)
    equal e = eq-eqb x y e ∙ (sym (same_refl (tree_at (trees t) x)) ∙ ap (λ z. same (tree_at (trees t) x) (tree_at (trees t) z)) e)

    go : (b : Bool) → same (tree_at (trees t) x) (tree_at (trees t) y) ≡ b → (x ≡ y → ⊥) → false ≡ b
    go false e ne = refl
    go true e ne = let n = one_tree_each t in absurd (ne (distinct_trees t blank_tree x y (omega arith) (omega arith) (same_eq (tree_at (trees t) x) (tree_at (trees t) y) e)))

    apart : (x ≡ y → ⊥) → eqb x y ≡ same (tree_at (trees t) x) (tree_at (trees t) y)
    apart ne = ne_eqb x y ne ∙ go (same (tree_at (trees t) x) (tree_at (trees t) y)) refl ne

module _ (t : Tins) (left right : ℕ) (h : left < 16) (k : right < 16) where
  told : (o p : Option ℕ) → o ≡ get_or t.roots left None → p ≡ get_or t.roots right None → same_result (tin_trees t) left right ≡ compared (held (trees t.table) o) (held (trees t.table) p)
  told o p e f =
      let l = tin_there left h in
      let r = tin_there right k in
      rw (l, same_result) (rw r (ap₂ compared (tin_held t left h ∙ ap (held (trees t.table)) (sym e)) (tin_held t right k ∙ ap (held (trees t.table)) (sym f))))

  pub both_there : (x y : ℕ) → x < t.table.count → y < t.table.count → Some x ≡ get_or t.roots left None → Some y ≡ get_or t.roots right None
      → same_result (tin_trees t) left right ≡ Ok (eqb x y)
  both_there x y a b e f = told (Some x) (Some y) e f ∙ ap Ok (sym (same_records t.table x y a b))
