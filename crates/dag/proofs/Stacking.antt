-- A stack of records in a table of numbers, filled from its end: what it holds when trees are added and records replaced. Assumes nothing.
use Rattle.std.proofs.Common.{◌≡◌, ℕ, ◌+◌, ◌<◌, ◌≤◌, List, [], ◌∷◌, ◌++◌, map, length, get_or, take, drop, sym, refl, ap, ◌∙◌, subst, ap₂, arith}
use Rattle.std.specs.List.{AllByRecursion}
use Rattle.std.proofs.ByRecursion.{All-drop, All-weaker}
use Rattle.std.proofs.lemmas.List.{append-nil, drop-map, length-append, take-map}
use Rattle.rewriting.specs.Cards.{Signature}
use Rattle.rewriting.specs.Terms.{Tree, node}
use Rattle.rewriting.specs.Subterms.{add}
use Rattle.rewriting.proofs.Members.{add_cases}
use Rattle.card.specs.declared.record.Place.{Place}
use Rattle.card.specs.declared.record.Place.TheVariants.{Variable}
use Rattle.dag.specs.declared.node.Node.{Node}
use Rattle.dag.specs.declared.stack.Stack.{Stack}
use Rattle.dag.specs.declared.table.Table.{Table}
use Rattle.dag.specs.Places.{binding, place_tree, Pushed, Readable, taken}
use Rattle.dag.specs.Rows.{children_of}
use Rattle.dag.specs.Stacks.{records_on, stack_trees}
use Rattle.dag.specs.Tables.{Interned, node_tree, trees}
use Rattle.dag.specs.Trees.{from_list, tree_at, tree_over}
use Rattle.dag.proofs.Adding.{add_old}
use Rattle.dag.proofs.Folding.{over_front}
use Rattle.dag.proofs.Invariant.{one_tree_each, record_mem}

pub add_front : (t : Tree) (xs : List Tree) → (us : List Tree) × (add t xs ≡ xs ++ us)
add_front t xs = add_cases (λ ys. (us : List Tree) × (ys ≡ xs ++ us)) t xs (λ m. ([], sym (append-nil xs))) (λ new. (t ∷ [], refl))

-- a record on top, in the place of some, after its tree was added
module _ (ts ts' : List Tree) (t : Tree) (e : ts' ≡ add t ts) (ks ks' : List ℕ) (n k : ℕ)
    (below : AllByRecursion (λ x. x < length ts) ks) (h : k < length ts') (is : tree_at ts' k ≡ t) (on : ks' ≡ k ∷ drop n ks) where
  longer : length ts ≤ length ts'
  longer = let f = add_front t ts in omega (arith, ap length e, ap length f.1, length-append ts f.0)

  rest_below : AllByRecursion (λ x. x < length ts) (drop n ks)
  rest_below = All-drop (λ x. x < length ts) n ks below

  pub stacked_below : AllByRecursion (λ x. x < length ts') ks'
  stacked_below =
      let l = longer in
      subst (AllByRecursion (λ x. x < length ts')) (sym on) (h, All-weaker (λ x. x < length ts) (λ x. x < length ts') (λ x b. omega arith) (drop n ks) rest_below)

  pub stacked_trees : map (tree_at ts') ks' ≡ t ∷ drop n (map (tree_at ts) ks)
  stacked_trees =
      let f = add_front t ts in
      ap (map (tree_at ts')) on
      ∙ ap₂ ◌∷◌ is (ap (λ xs. map (tree_at xs) (drop n ks)) (e ∙ f.1) ∙ (over_front ts f.0 (drop n ks) rest_below ∙ sym (drop-map (tree_at ts) n ks)))

-- a node over the topmost records
pub over_top : (t : Table) (ks : List ℕ) (n : Node) (f a : ℕ) → n.row.symbol ≡ f → children_of n.row ≡ take a ks
    → node_tree t n ≡ node f (from_list (take a (map (tree_at (trees t)) ks)))
over_top t ks n f a p q =
    ap₂ (tree_over (trees t)) p q ∙ ap (λ xs. node f (from_list xs)) (sym (take-map (tree_at (trees t)) a ks))

pub pushed : (before after : Table) (t : Tree) (stack stack' : Stack) (n k : ℕ) → AllByRecursion (λ x. x < before.count) (records_on stack)
    → Interned before after t k → stack'.top + 1 ≡ stack.top + n → records_on stack' ≡ k ∷ drop n (records_on stack) → Pushed before after stack stack' n t
pushed before after t stack stack' n k b h m on =
    let ks = records_on stack in
    let ks' = records_on stack' in
    let below = subst (λ x. AllByRecursion (λ y. y < x) ks) (sym (one_tree_each before)) b in
    let inside : k < length (trees after) = omega (arith, one_tree_each after, h.holds.0) in
    record {
      moved = m;
      added = h.added;
      records = subst (λ x. AllByRecursion (λ y. y < x) ks') (one_tree_each after) (stacked_below (trees before) (trees after) t h.added ks ks' n k below inside h.holds.1 on);
      stacked = stacked_trees (trees before) (trees after) t h.added ks ks' n k below inside h.holds.1 on;
    }

pub interned_front : (before after : Table) (t : Tree) (k : ℕ) → Interned before after t k → (us : List Tree) × (trees after ≡ trees before ++ us)
interned_front before after t k h = let f = add_front t (trees before) in (f.0, h.added ∙ f.1)

-- a record in use has its tree already
pub interned_before : (t : Table) (k : ℕ) → k < t.count → Interned t t (tree_at (trees t) k) k
interned_before t k h = record { added = sym (add_old (tree_at (trees t) k) (trees t) (record_mem t k h)); holds = (h, refl) }

pub pushed_variable : (Σ : Signature) (t : Table) (bindings : List ℕ) (stack stack' : Stack) (p : Place) (v many : ℕ) → p ≡ Variable v → Readable Σ t.count bindings p many
    → AllByRecursion (λ x. x < t.count) (records_on stack) → stack'.top + 1 ≡ stack.top + 0 → records_on stack' ≡ get_or bindings v 0 ∷ records_on stack
    → Pushed t t stack stack' (taken Σ p) (place_tree Σ (binding (trees t) bindings) p (stack_trees (trees t) stack))
pushed_variable Σ t bindings stack stack' p v many e r b m on =
    let h = (subst (λ q. Readable Σ t.count bindings q many) e r).1 in
    subst (λ q. Pushed t t stack stack' (taken Σ q) (place_tree Σ (binding (trees t) bindings) q (stack_trees (trees t) stack))) (sym e)
    (pushed t t (binding (trees t) bindings v) stack stack' 0 (get_or bindings v 0) b (interned_before t (get_or bindings v 0) h) m on)
