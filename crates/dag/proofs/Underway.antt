-- Building a tree from the places of its term, from the last place to the first. Assumes nothing.
use Rattle.std.proofs.Common.{◌≡◌, ℕ, suc, ◌+◌, ◌-◌, ◌<◌, ◌≤◌, ◌⊎◌, List, [], ◌∷◌, ◌++◌, map, length, get_or, take, drop, reverse, vec_items, vec_len, sym, refl, ap, ◌∙◌, subst, ap₂, inl, inr, ⊎_elim, add-one, arith}
use mathlib.Core.List.Memᴰ
use mathlib.Core.List.{Memᴰ}
use Rattle.std.specs.List.{AllByRecursion}
use Rattle.std.proofs.lemmas.List.{append_assoc, append-nil, drop_all, drop_more, get_or_append_left, get_or_default, get_or-map, get_or-reverse, length-map, length-reverse, take_at, take-take}
use Rattle.rewriting.specs.Cards.{Signature}
use Rattle.rewriting.specs.Places.{forest, places}
use Rattle.rewriting.specs.Places as theory
use Rattle.rewriting.specs.Subterms.{add, Subterm, walk}
use Rattle.rewriting.specs.Terms.{apply, Substitution, Term, Tree}
use Rattle.rewriting.proofs.Members.{add_cases}
use Rattle.rewriting.proofs.Walking.{walk_has, walk_keeps}
use Rattle.card.specs.declared.record.Place.{Place}
use Rattle.card.specs.declared.record.Place.TheVariants.{Empty}
use Rattle.card.specs.Records.{stored}
use Rattle.dag.specs.declared.stack.Stack.{Stack}
use Rattle.dag.specs.declared.table.Table.{Table}
use Rattle.dag.specs.Places.{binding, Bound, FewChildren, NoRoom, place_tree, Pushed, Readable, Spells, taken}
use Rattle.dag.specs.Stacks.{records_on, stack_trees}
use Rattle.dag.specs.Tables.{capacity, Full, KeepsRecords, trees}
use Rattle.dag.specs.Trees.{blank_tree, tree_at}
use Rattle.dag.proofs.Adding.{one_missing}
use Rattle.dag.proofs.Invariant.{count_grows, distinct_trees, one_tree_each}
use Rattle.dag.proofs.Spelling.{grown_trees, place_there, stack_within, Supplied, term_supplied, variable_occurs}

-- what was added, with one tree more
record Longer (xs added : List Tree) (t : Tree) (ys : List Tree) : Type 0 where
  pub all : List Tree
  pub front : ys ≡ xs ++ all
  pub only : (s : Tree) → Memᴰ s all → Memᴰ s added ⊎ (s ≡ t)

longer : (xs added : List Tree) (t : Tree) → Longer xs added t (add t (xs ++ added))
longer xs added t =
    add_cases (Longer xs added t) t (xs ++ added) (λ m. record { all = added; front = refl; only = λ s k. inl k })
    (λ new. record {
      all = added ++ (t ∷ []);
      front = append_assoc xs added (t ∷ []);
      only = λ s k. ⊎_elim inl (λ e. inr (Memᴰ.eq_of_singleton e)) (Memᴰ.append_cases added k);
    })

-- the places from i on are read: their terms' trees are on the stack
pub record Underway (Σ : Signature) (t : Term) (bindings : List ℕ) (before after : Table) (stack : Stack) (i : ℕ) : Type 0 where
  pub capacity_same : capacity after ≡ capacity before
  pub kept : KeepsRecords before after
  pub added : List Tree
  pub front : trees after ≡ trees before ++ added
  pub only : (s : Tree) → Memᴰ s added → Subterm s (apply (binding (trees before) bindings) t)
  pub room : i ≤ stack.top
  pub records : AllByRecursion (λ k. k < after.count) (records_on stack)
  pub stacked : stack_trees (trees after) stack ≡ map (apply (binding (trees before) bindings)) (forest Σ (drop i (places t)))

length_spelled : (Σ : Signature) (ps : List Place) (t : Term) → Spells Σ ps t → length ps ≡ length (places t)
length_spelled Σ ps t sp = ap length sp.spelled ∙ length-map (places t) stored

pub building_starts : (Σ : Signature) (ps : List Place) (t : Term) → Spells Σ ps t → (bindings : List ℕ) (before : Table) (stack : Stack) → length ps ≤ stack.top → records_on stack ≡ []
    → Underway Σ t bindings before before stack (length ps)
building_starts Σ ps t sp bindings before stack h none =
    record {
      capacity_same = refl;
      kept = refl;
      added = [];
      front = sym (append-nil (trees before));
      only = λ s m. absurd (Memᴰ.not-nil m);
      room = h;
      records = subst (AllByRecursion (λ k. k < before.count)) (sym none) tt;
      stacked =
          ap (map (tree_at (trees before))) none
          ∙ sym (ap (λ ps. map (apply (binding (trees before) bindings)) (forest Σ ps)) (drop_all (length ps) (places t) (omega (arith, length_spelled Σ ps t sp))));
    }

-- the places are read from the last to the first
pub place_read : (ps : List Place) (n : ℕ) (p : Place) → (n < length (reverse ps)) × (p ≡ get_or (reverse ps) n p) → (n < length ps) × (p ≡ get_or ps ((length ps - n) - 1) Empty)
place_read ps n p h =
    let l : n < length ps = omega (arith, length-reverse ps, h.0) in
    let m : length ps - 1 - n ≡ (length ps - n) - 1 = omega arith in
    (l, h.1 ∙ (get_or-reverse ps n p l ∙ (ap (λ i. get_or ps i p) m ∙ get_or_default ps ((length ps - n) - 1) p Empty (omega arith))))

keeps_trans : (a b c : Table) → a.count ≤ b.count → KeepsRecords a b → KeepsRecords b c → KeepsRecords a c
keeps_trans a b c l p q =
    sym (take-take a.count b.count (vec_items c.rows) l)
    ∙ (ap (take a.count) q ∙ (take-take a.count b.count (vec_items b.rows) l ∙ p))

-- ONE PLACE MORE

module _ (Σ : Signature) (ps : List Place) (t : Term) (sp : Spells Σ ps t) (bindings : List ℕ) (before : Table) (bound : Bound before.count bindings t) (after : Table) (stack : Stack) (j : ℕ)
    (u : Underway Σ t bindings before after stack j) (more : 0 < j) (fits : j ≤ length ps) where
  -- the place that is next
  abbrev i : ℕ
  i = j - 1

  e : i + 1 ≡ j
  e = omega arith

  l : i < length (places t)
  l = omega (arith, length_spelled Σ ps t sp)

  abbrev σ : Substitution
  σ = binding (trees before) bindings

  abbrev q : theory.Place
  q = get_or (places t) i (theory.Variable 0)

  abbrev on_stack : List Tree
  on_stack = map (apply σ) (forest Σ (drop j (places t)))

  place_is : get_or ps i Empty ≡ stored q
  place_is = ap (λ xs. get_or xs i Empty) sp.spelled ∙ get_or-map stored (places t) i (theory.Variable 0) Empty l

  next_trees : map (apply σ) (forest Σ (drop i (places t))) ≡ place_tree Σ σ (stored q) on_stack ∷ drop (taken Σ (stored q)) on_stack
  next_trees =
      ap (λ xs. map (apply σ) (forest Σ xs)) (drop_more (places t) i (theory.Variable 0) l ∙ ap (λ n. q ∷ drop n (places t)) e)
      ∙ grown_trees σ Σ q (forest Σ (drop j (places t)))

  bound_at : (v : ℕ) → q ≡ theory.Variable v → (v < length bindings) × (get_or bindings v 0 < before.count)
  bound_at v h = bound v (variable_occurs v t (subst (λ p. Memᴰ p (places t)) h (place_there (places t) i (theory.Variable 0) l)))

  same_tree : (xs : List Tree) (p : theory.Place) → q ≡ p → place_tree Σ (binding (trees after) bindings) (stored p) xs ≡ place_tree Σ σ (stored p) xs
  same_tree xs (theory.Symbol f) h = refl
  same_tree xs (theory.Variable v) h =
      let b = (bound_at v h).1 in
      ap (λ ts. tree_at ts (get_or bindings v 0)) u.front
      ∙ get_or_append_left (trees before) u.added blank_tree (get_or bindings v 0) (omega (arith, one_tree_each before))

  many : length (records_on stack) ≡ length (forest Σ (drop (suc i) (places t)))
  many =
      sym (length-map (records_on stack) (tree_at (trees after)))
      ∙ (ap length u.stacked
      ∙ (length-map (forest Σ (drop j (places t))) (apply σ) ∙ ap (λ n. length (forest Σ (drop n (places t)))) (sym e ∙ add-one i)))

  pub readable : FewChildren Σ → Readable Σ after.count bindings (get_or ps i Empty) (length (records_on stack))
  readable few = subst (λ p. Readable Σ after.count bindings p (length (records_on stack))) (sym place_is) (go q refl (term_supplied Σ t sp.on i (theory.Variable 0) l))
    where
      go : (p : theory.Place) → q ≡ p → Supplied Σ p (length (forest Σ (drop (suc i) (places t)))) → Readable Σ after.count bindings (stored p) (length (records_on stack))
      go (theory.Symbol f) h s = (s.0, s.1, omega (arith, many, s.2), few f s.0 s.1)
      go (theory.Variable v) h s = ((bound_at v h).0, omega (arith, (bound_at v h).1, count_grows before after u.added u.front))

  -- the tree that the place puts on the stack
  abbrev put : Tree
  put = place_tree Σ (binding (trees after) bindings) (get_or ps i Empty) (stack_trees (trees after) stack)

  put_is : put ≡ place_tree Σ σ (stored q) on_stack
  put_is =
      ap (λ p. place_tree Σ (binding (trees after) bindings) p (stack_trees (trees after) stack)) place_is
      ∙ (ap (place_tree Σ (binding (trees after) bindings) (stored q)) u.stacked ∙ same_tree on_stack q refl)

  put_within : Subterm put (apply σ t)
  put_within = stack_within σ Σ t sp.on i put (subst (Memᴰ put) (sym next_trees) (Memᴰ.head put_is))

  pub building_goes_on : (after' : Table) (stack' : Stack) → Pushed after after' stack stack' (taken Σ (get_or ps i Empty)) put
      → capacity after' ≡ capacity after → KeepsRecords after after' → Underway Σ t bindings before after' stack' i
  building_goes_on after' stack' p c k =
      let more = longer (trees before) u.added put in
      let room = u.room in
      let moved = p.moved in
      let stacked : stack_trees (trees after') stack' ≡ map (apply σ) (forest Σ (drop i (places t))) =
      p.stacked ∙ (ap₂ ◌∷◌ put_is (ap₂ drop (ap (taken Σ) place_is) u.stacked) ∙ sym next_trees) in
      record {
        capacity_same = c ∙ u.capacity_same;
        kept = keeps_trans before after after' (count_grows before after u.added u.front) u.kept k;
        added = more.all;
        front = p.added ∙ (ap (add put) u.front ∙ more.front);
        only = λ s m. ⊎_elim (u.only s) (λ h. subst (λ x. Subterm x (apply σ t)) (sym h) put_within) (more.only s m);
        room = omega arith;
        records = p.records;
        stacked = stacked;
      }

  -- the table is full: put back as it was
  pub building_stops : (after' : Table) → Full after after' put → (end : Table) (n : ℕ) → n ≡ before.count → end.rows ≡ after'.rows → trees end ≡ take n (trees after')
      → (capacity end ≡ capacity before) × KeepsRecords before end × NoRoom before end (apply σ t)
  building_stops after' f end n m r e' =
      let same = ap (λ x. x.rows) f.same in (
        ap vec_len (r ∙ same) ∙ u.capacity_same,
        ap (λ x. take before.count (vec_items x)) (r ∙ same) ∙ u.kept,
        record {
          same_trees = e' ∙ (ap₂ take m (ap trees f.same ∙ u.front) ∙ take_at (trees before) u.added before.count (one_tree_each before));
          too_many =
              let k = one_missing put (trees after) (walk (apply σ t) (trees before)) (distinct_trees after) among (walk_has put (apply σ t) (trees before) put_within) f.lacks in
              omega (arith, one_tree_each after, f.full, u.capacity_same);
        },
      )
    where
      among : (s : Tree) → Memᴰ s (trees after) → Memᴰ s (walk (apply σ t) (trees before))
      among s m =
          ⊎_elim (walk_keeps s (apply σ t) (trees before)) (λ k. walk_has s (apply σ t) (trees before) (u.only s k))
          (Memᴰ.append_cases (trees before) (subst (Memᴰ s) u.front m))
