-- A tree is built once all places of its term are read: what the table then holds. Assumes nothing.
use Rattle.std.proofs.Common.{◌≡◌, ℕ, ◌+◌, ◌<◌, ◌≤◌, List, [], ◌∷◌, ◌++◌, map, length, get_or, drop, sym, ap, ◌∙◌, subst, ⊎_elim, arith}
use mathlib.Core.List.Memᴰ
use mathlib.Core.List.{Memᴰ}
use Rattle.std.specs.List.{AllByRecursion}
use Rattle.std.proofs.lemmas.List.{drop_more, get_or-append-add, get_or_append_left, length-append, length-map}
use Rattle.rewriting.specs.Cards.{Signature}
use Rattle.rewriting.specs.Places.{forest, places}
use Rattle.rewriting.specs.Subterms.{Distinct, Subterm, walk}
use Rattle.rewriting.specs.Terms.{apply, Term, Tree}
use Rattle.rewriting.proofs.Members.{fewer_members, mem_place}
use Rattle.rewriting.proofs.Walking.{grown_distinct, walk_grown, walk_mem}
use Rattle.card.specs.declared.record.Place.{Place}
use Rattle.dag.specs.declared.stack.Stack.{Stack}
use Rattle.dag.specs.declared.table.Table.{Table}
use Rattle.dag.specs.Places.{binding, Built, Spells}
use Rattle.dag.specs.Stacks.{records_on, stack_trees}
use Rattle.dag.specs.Tables.{trees}
use Rattle.dag.specs.Trees.{tree_at}
use Rattle.dag.proofs.Adding.{subterm_there}
use Rattle.dag.proofs.Invariant.{children_there, distinct_trees, grown_trees, one_tree_each, record_mem}
use Rattle.dag.proofs.Spelling.{all_read}
use Rattle.dag.proofs.Underway.{Underway}

apart : (xs ys : List Tree) → Distinct (xs ++ ys) → (s : Tree) → Memᴰ s ys → Memᴰ s xs → ⊥
apart xs ys d s m k =
    let p = mem_place s k in
    let r = mem_place s m in
    let i = p.1 in
    let j = r.1 in
    let both = d s p.0 (length xs + r.0) (omega (arith, length-append xs ys)) (omega (arith, length-append xs ys))
    (get_or_append_left xs ys s p.0 p.1 ∙ (p.2 ∙ sym (get_or-append-add xs ys r.0 s ∙ r.2))) in
    omega arith

module _ (Σ : Signature) (ps : List Place) (t : Term) (sp : Spells Σ ps t) (bindings : List ℕ) (before after : Table) (stack : Stack) (i : ℕ)
    (u : Underway Σ t bindings before after stack i) (end : i ≤ 0) where
  one_left : stack_trees (trees after) stack ≡ apply (binding (trees before) bindings) t ∷ []
  one_left =
      let z : i ≡ 0 = omega arith in
      u.stacked
      ∙ (ap (λ n. map (apply (binding (trees before) bindings)) (forest Σ (drop n (places t)))) z
      ∙ ap (map (apply (binding (trees before) bindings))) (all_read Σ t sp.on))

  pub one_there : 0 < length (records_on stack)
  one_there = omega (arith, length-map (records_on stack) (tree_at (trees after)), ap length one_left)

  pub built : Built before after (apply (binding (trees before) bindings) t) (get_or (records_on stack) 0 0)
  built =
      let T = apply (binding (trees before) bindings) t in
      let parts = drop_more (records_on stack) 0 0 one_there in
      let cell : tree_at (trees after) (get_or (records_on stack) 0 0) ≡ T = let h = sym (ap (map (tree_at (trees after))) parts) ∙ one_left in cc in
      let used : get_or (records_on stack) 0 0 < after.count = (subst (AllByRecursion (λ k. k < after.count)) parts u.records).0 in
      let all : (s : Tree) → Subterm s T → Memᴰ s (trees after) =
      λ s h. subterm_there (trees after) (children_there after) (Memᴰ.cast (sym cell) (record_mem after (get_or (records_on stack) 0 0) used)) h in
      let kept : (s : Tree) → Memᴰ s (walk T (trees before)) → Memᴰ s (trees after) =
      λ s m. ⊎_elim (λ k. subst (Memᴰ s) (sym u.front) (Memᴰ.append_left u.added k)) (all s) (walk_mem s T (trees before) m) in
      record {
        holds = (used, cell);
        added = u.added;
        front = u.front;
        subterms_only = u.only;
        new_only = apart (trees before) u.added (subst Distinct u.front (distinct_trees after));
        whole = all;
        fits =
            let k = fewer_members (walk T (trees before)) (trees after) (grown_distinct (walk_grown T (trees before) (grown_trees before))) kept in
            omega (arith, one_tree_each after, after.valid.fits, u.capacity_same);
      }
