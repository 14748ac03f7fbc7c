-- Joining: the tree of a symbol over the sources, and every outcome. Assumes nothing.
use Rattle.std.proofs.Common.{◌≡◌, ℕ, suc, ◌<◌, ◌≤◌, true, false, ◌&&◌, List, [], ◌∷◌, ◌++◌, map, length, get_or, is_some, Some, None, Err, Option, unwrap_or, sym, refl, ap, ◌∙◌, subst, ap₂, ⊎_elim, append-nil, arith}
use mathlib.Core.List.{Memᴰ}
use Rattle.std.proofs.lemmas.Bool.{and_parts, eq-eqb, ltb-true, ne_eqb, true≢false}
use Rattle.std.proofs.lemmas.List.{length-map}
use Rattle.rewriting.specs.Terms.{Tree, node, Trees, cons, count}
use Rattle.rewriting.specs.Cards.{Signature, OnSignature, AllOnSignature}
use Rattle.rewriting.specs.Subterms.{self, walk}
use Rattle.rewriting.proofs.Members.{add_cases, add_keeps, fewer_members}
use Rattle.rewriting.proofs.Walking.{grown_distinct, walk_grown, walk_has, walk_keeps, walk_mem}
use Rattle.card.specs.Records.{arities}
use Rattle.card.specs.declared.record.SymbolRecord.{SymbolRecord}
use Rattle.card.specs.declared.refusal.Refusal.TheVariants.{WrongChildren}
use Rattle.dag.specs.declared.table.Table.{Table}
use Rattle.dag.specs.Roots.{Compact, held, held_trees}
use Rattle.dag.specs.Tables.{capacity, Full, Interned, trees}
use Rattle.dag.specs.Trees.{from_list, tree_at}
use Rattle.dag.proofs.Adding.{one_missing, subterm_there}
use Rattle.dag.proofs.Invariant.{children_there, distinct_trees, grown_trees, one_tree_each, record_mem}
use Rattle.store.specs.declared.tins.Tins.{Tins}
use Rattle.store.specs.Holding.{tin_trees}
use Rattle.store.specs.OnCard.{takes, tin_on}
use Rattle.store.specs.Results.{all_tins, Held, is_tin, join_over, join_result, joined, placed, source_trees, taken_with}
use Rattle.store.specs.Sources.{all_filled, source_records}
use Rattle.store.proofs.OnCard.{on_from, on_told}
use Rattle.store.proofs.Outcomes.{tin_there}
use Rattle.store.proofs.Placing.{AllOn}
use Rattle.store.proofs.Settled.{tin_held, tin_inside}
use Rattle.store.proofs.Signatures.{arity_there}

-- THE SOURCES' TREES

abbrev pub over : Tins → List ℕ → Trees
over t sources = from_list (map (tree_at (trees t.table)) (source_records t.roots sources))

module _ (t : Tins) where
  pub sources_there : (sources : List ℕ) → all_tins sources ≡ true → all_filled t.roots sources ≡ true → source_trees (tin_trees t) sources ≡ Some (over t sources)
  sources_there [] tins filled = refl
  sources_there (tin ∷ sources) tins filled =
      let p = and_parts (is_tin tin) (all_tins sources) tins in
      let q = and_parts (is_some (get_or t.roots tin None)) (all_filled t.roots sources) filled in
      ap₂ taken_with (tin_held t tin (ltb-true tin 16 p.0)) (sources_there sources p.1 q.1) ∙ go (get_or t.roots tin None) q.0
    where
      go : (o : Option ℕ) → is_some o ≡ true → taken_with (held (trees t.table) o) (Some (over t sources)) ≡ Some (cons (tree_at (trees t.table) (unwrap_or o 0)) (over t sources))
      go None s = absurd (true≢false (sym s))
      go (Some k) s = refl

  taken_none : (o : Option Tree) → taken_with o None ≡ None
  taken_none None = refl
  taken_none (Some u) = refl

  pub sources_empty : (sources : List ℕ) → all_tins sources ≡ true → all_filled t.roots sources ≡ false → source_trees (tin_trees t) sources ≡ None
  sources_empty [] tins filled = absurd (true≢false filled)
  sources_empty (tin ∷ sources) tins filled =
      let p = and_parts (is_tin tin) (all_tins sources) tins in
      ap (λ o. taken_with o (source_trees (tin_trees t) sources)) (tin_held t tin (ltb-true tin 16 p.0)) ∙ go (get_or t.roots tin None) filled (sources_empty sources p.1)
    where
      go : (o : Option ℕ) → (is_some o && all_filled t.roots sources) ≡ false → (all_filled t.roots sources ≡ false → source_trees (tin_trees t) sources ≡ None)
          → taken_with (held (trees t.table) o) (source_trees (tin_trees t) sources) ≡ None
      go None e later = refl
      go (Some k) e later = ap (taken_with (Some (tree_at (trees t.table) k))) (later e) ∙ taken_none (Some (tree_at (trees t.table) k))

-- A NODE MORE

module _ (before after : Table) (s : Tree) where
  -- an interned tree stands behind the others, or was there
  pub interned_front : (k : ℕ) → Interned before after s k → (added : List Tree) × (trees after ≡ trees before ++ added)
  interned_front k i =
      subst (λ ts. (added : List Tree) × (ts ≡ trees before ++ added)) (sym i.added)
      (add_cases (λ ts. (added : List Tree) × (ts ≡ trees before ++ added)) s (trees before) (λ m. ([], sym (append-nil (trees before)))) (λ m. (s ∷ [], refl)))

  pub interned_fits : (k : ℕ) → capacity after ≡ capacity before → Interned before after s k → length (walk s (trees before)) ≤ capacity before
  interned_fits k same i =
      let few = after.valid.fits in
      let n = one_tree_each after in
      let there = subst (λ x. Memᴰ x (trees after)) i.holds.1 (record_mem after k i.holds.0) in
      let h = fewer_members (walk s (trees before)) (trees after) (grown_distinct (walk_grown s (trees before) (grown_trees before)))
      (λ x m. ⊎_elim (λ old. subst (Memᴰ x) (sym i.added) (add_keeps x s (trees before) old)) (λ u. subterm_there (trees after) (children_there after) there u) (walk_mem x s (trees before) m)) in
      omega arith

  pub full_no_room : Full before after s → capacity before < length (walk s (trees before))
  full_no_room f =
      let n = one_tree_each before in
      let full = f.full in
      let h = one_missing s (trees before) (walk s (trees before)) (distinct_trees before) (λ x m. walk_keeps x s (trees before) m) (walk_has s s (trees before) (self refl)) f.lacks in
      omega arith

-- OUTCOMES

module _ (ss : List SymbolRecord) (r : ℕ) (tins : Held) (target : ℕ) (name sources : List ℕ) (h : target < 16) (k : all_tins sources ≡ true) where
  pub join_told : (o : Option Trees) → source_trees tins sources ≡ o → join_result ss r tins target name sources ≡ join_over ss r tins target name o
  join_told o e = let t = tin_there target h in rw (t, join_result) (rw k (ap (join_over ss r tins target name) e))

module _ (ss : List SymbolRecord) (r : ℕ) (tins : Held) (target : ℕ) (ts : Trees) (f : ℕ) where
  pub joined_wrong : takes (arities ss f) (count ts) ≡ false → joined ss r tins target ts (Some f) ≡ Err WrongChildren
  joined_wrong e = rw (e, joined)

  pub joined_right : takes (arities ss f) (count ts) ≡ true → joined ss r tins target ts (Some f) ≡ placed r tins target (node f ts)
  joined_right e = rw (e, joined)

count_from_list : (us : List Tree) → count (from_list us) ≡ length us
count_from_list [] = refl
count_from_list (u ∷ us) = ap suc (count_from_list us)

module _ (t : Tins) where
  pub count_over : (sources : List ℕ) → count (over t sources) ≡ length sources
  count_over sources =
      count_from_list (map (tree_at (trees t.table)) (source_records t.roots sources))
      ∙ (length-map (source_records t.roots sources) (tree_at (trees t.table)) ∙ length-map sources (λ tin. unwrap_or (get_or t.roots tin None) 0))

  module _ (ss : List SymbolRecord) (f : ℕ) (d : SymbolRecord) (inside : f < length ss) (sources : List ℕ) where
    pub takes_others : ((get_or ss f d).arity ≡ length sources → ⊥) → takes (arities ss f) (count (over t sources)) ≡ false
    takes_others ne = ap₂ takes (arity_there ss f d inside) (count_over sources) ∙ ne_eqb (get_or ss f d).arity (length sources) ne

    pub takes_these : (get_or ss f d).arity ≡ length sources → takes (arities ss f) (count (over t sources)) ≡ true
    takes_these e = ap₂ takes (arity_there ss f d inside) (count_over sources) ∙ eq-eqb (get_or ss f d).arity (length sources) e

  -- the sources' trees are trees of the card
  sources_on : (Σ : Signature) (sources : List ℕ) → AllOn Σ (tin_trees t) → all_tins sources ≡ true → all_filled t.roots sources ≡ true → AllOnSignature Σ (over t sources)
  sources_on Σ [] on tins filled = tt
  sources_on Σ (tin ∷ sources) on tins filled =
      let p = and_parts (is_tin tin) (all_tins sources) tins in
      let q = and_parts (is_some (get_or t.roots tin None)) (all_filled t.roots sources) filled in
      let h = ltb-true tin 16 p.0 in
      (go (get_or t.roots tin None) q.0 (subst (λ o. tin_on Σ o ≡ true) (tin_held t tin h) (on tin (tin_inside t tin h))), sources_on Σ sources on p.1 q.1)
    where
      go : (o : Option ℕ) → is_some o ≡ true → tin_on Σ (held (trees t.table) o) ≡ true → OnSignature Σ (tree_at (trees t.table) (unwrap_or o 0))
      go None s e = absurd (true≢false (sym s))
      go (Some k) s e = on_told Σ (tree_at (trees t.table) k) e

  pub join_on : (ss : List SymbolRecord) (f : ℕ) (d : SymbolRecord) → f < length ss → (sources : List ℕ) → (get_or ss f d).arity ≡ length sources
      → AllOn (arities ss) (tin_trees t) → all_tins sources ≡ true → all_filled t.roots sources ≡ true → tin_on (arities ss) (Some (node f (over t sources))) ≡ true
  join_on ss f d inside sources e on tins filled =
      on_from (arities ss) (node f (over t sources)) (arity_there ss f d inside ∙ ap Some (e ∙ sym (count_over sources)), sources_on (arities ss) sources on tins filled)

-- tins whose table and roots are as they were
pub same_compact : (before after : Tins) → after.table ≡ before.table → after.roots ≡ before.roots → Compact (trees before.table) before.roots → Compact (trees after.table) after.roots
same_compact before after e f c = subst (λ roots. Compact (trees after.table) roots) (sym f) (subst (λ (x : Table). Compact (trees x) before.roots) (sym e) c)

pub same_on : (Σ : Signature) (before after : Tins) → after.table ≡ before.table → after.roots ≡ before.roots → AllOn Σ (tin_trees before) → AllOn Σ (tin_trees after)
same_on Σ before after e f on = subst (AllOn Σ) (sym (ap₂ (λ (x : Table) roots. held_trees (trees x) roots) e f)) on
