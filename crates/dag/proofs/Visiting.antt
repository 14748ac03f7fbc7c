-- The walk through the records of a table: its start, a record that is listed already, a child, the record itself. Assumes nothing.
use Rattle.std.proofs.Common.{◌≡◌, ℕ, ◌+◌, ◌<◌, ◌≤◌, List, [], ◌∷◌, ◌++◌, map, length, get_or, take, drop, set, sym, ap, ◌∙◌, subst, ⊎_elim, arith}
use mathlib.Core.List.Memᴰ
use mathlib.Core.List.{Memᴰ}
use Rattle.std.specs.List.{AllByRecursion}
use Rattle.std.proofs.ByRecursion.{All-push}
use Rattle.std.proofs.lemmas.List.{at_drop_all, at_drop_more, get_or-set_other, get_or-set_same, length-map, length-set, length-take-le, map_push, take_more_set}
use Rattle.std.proofs.lemmas.Bool.{cases_eq}
use Rattle.rewriting.specs.Terms.{Tree, node, Trees, children, to_list}
use Rattle.rewriting.specs.Subterms.{add, Distinct, walk, walks}
use Rattle.rewriting.proofs.Walking.{child_in, proper_size, walks_has, walks_mem}
use Rattle.rewriting.proofs.Members.{fewer_members, place_mem}
use Rattle.dag.specs.declared.table.Table.{Table}
use Rattle.dag.specs.Tables.{trees}
use Rattle.dag.specs.Trees.{blank_tree, from_list, tree_at}
use Rattle.dag.specs.Walks.{ChildrenThere, Clear, listed, Walked}
use Rattle.dag.proofs.Adding.{add_new, distinct_push, one_missing, walk_old}
use Rattle.dag.proofs.Invariant.{one_tree_each}
use Rattle.dag.proofs.Records.{over_mem}

pub walk_starts : (ts : List Tree) (marks order : List ℕ) → length ts ≤ length marks → length ts ≤ length order → Clear marks → Walked ts marks order 0
walk_starts ts marks order m o c =
    record {
      marks_long = m;
      order_long = o;
      filled = omega arith;
      records = tt;
      distinct = λ d i j h k e. absurd (omega arith);
      children_there = λ s c h k. absurd (Memᴰ.not-nil h);
      marked = λ k h ne. absurd (ne (c k (omega arith)));
      unmarked = λ k h e n. Memᴰ.not-nil n;
    }

pub length_listed : (ts : List Tree) (order : List ℕ) (n : ℕ) → n ≤ length order → length (listed ts order n) ≡ n
length_listed ts order n h = length-map (take n order) (tree_at ts) ∙ length-take-le n order h

-- no more records are listed than there are
pub walked_few : (ts : List Tree) (marks order : List ℕ) (n : ℕ) → Walked ts marks order n → n ≤ length ts
walked_few ts marks order n w =
    let k = fewer_members (listed ts order n) ts w.distinct (over_mem ts (take n order) w.records) in
    omega (arith, length_listed ts order n w.filled)

-- the listed records, in whatever table of numbers they stand now, are records in use
pub listed_records : (t : Table) (marks order now : List ℕ) (n : ℕ) → now ≡ order → Walked (trees t) marks order n → AllByRecursion (λ k. k < t.count) (take n now)
listed_records t marks order now n e w =
    subst (λ o. AllByRecursion (λ k. k < t.count) (take n o)) (sym e) (subst (λ m. AllByRecursion (λ k. k < m) (take n order)) (one_tree_each t) w.records)

-- a record that is marked is listed, and so is all that is under it
pub visited_before : (ts : List Tree) (marks order : List ℕ) (n i : ℕ) → Walked ts marks order n → i < length ts → (get_or marks i 0 ≡ 0 → ⊥)
    → listed ts order n ≡ walk (tree_at ts i) (listed ts order n)
visited_before ts marks order n i w h m = sym (walk_old (tree_at ts i) (listed ts order n) w.children_there (w.marked i h m))

-- one child more
pub child_visited : (ts : List Tree) (ks : List ℕ) (j k : ℕ) (xs ys end : List Tree) → j < length ks → k ≡ get_or ks j 0
    → walks (from_list (map (tree_at ts) (drop j ks))) xs ≡ end → ys ≡ walk (tree_at ts k) xs
    → walks (from_list (map (tree_at ts) (drop (j + 1) ks))) ys ≡ end
child_visited ts ks j k xs ys end l e h w =
    let step : walks (from_list (map (tree_at ts) (drop j ks))) xs
    ≡ walks (from_list (map (tree_at ts) (drop (j + 1) ks))) (walk (tree_at ts (get_or ks j 0)) xs) =
    at_drop_more (λ ls. walks (from_list (map (tree_at ts) ls)) xs) ks j 0 l in
    ap (walks (from_list (map (tree_at ts) (drop (j + 1) ks)))) (w ∙ ap (λ x. walk (tree_at ts x) xs) e) ∙ (sym step ∙ h)

pub children_visited : (ts : List Tree) (ks : List ℕ) (j : ℕ) (xs end : List Tree) → length ks ≤ j
    → walks (from_list (map (tree_at ts) (drop j ks))) xs ≡ end → xs ≡ end
children_visited ts ks j xs end l h =
    let stop : walks (from_list (map (tree_at ts) (drop j ks))) xs ≡ xs = at_drop_all (λ ls. walks (from_list (map (tree_at ts) ls)) xs) ks j l in
    sym stop ∙ h

-- record i is next: its children are listed, and it is not
pub record Next (ts : List Tree) (i : ℕ) (xs : List Tree) (marks order : List ℕ) (n : ℕ) : Type 0 where
  pub symbol : ℕ
  pub children : Trees
  pub apart : Distinct ts
  pub is : tree_at ts i ≡ node symbol children
  pub inside : i < length ts
  pub new : Memᴰ (tree_at ts i) xs → ⊥
  pub walked : Walked ts marks order n
  pub kids : listed ts order n ≡ walks children xs

-- it is marked and listed behind them
module _ (ts : List Tree) (i : ℕ) (xs : List Tree) (marks order : List ℕ) (n : ℕ) (s : Next ts i xs marks order n) where
  not_under_itself : Memᴰ (node s.symbol s.children) (walks s.children xs) → Memᴰ (node s.symbol s.children) xs
  not_under_itself m = ⊎_elim (λ k. k) (λ u. absurd (omega (arith, proper_size (node s.symbol s.children) (node s.symbol s.children) u))) (walks_mem (node s.symbol s.children) s.children xs m)

  not_listed : Memᴰ (tree_at ts i) (listed ts order n) → ⊥
  not_listed m = s.new (Memᴰ.cast s.is (not_under_itself (Memᴰ.cast (sym s.is) (subst (Memᴰ (tree_at ts i)) s.kids m))))

  pub room : n < length ts
  room =
      let k = one_missing (tree_at ts i) (listed ts order n) ts s.walked.distinct (over_mem ts (take n order) s.walked.records) (place_mem blank_tree ts i s.inside) not_listed in
      omega (arith, length_listed ts order n s.walked.filled)

  grows : listed ts (set order n i) (n + 1) ≡ listed ts order n ++ (tree_at ts i ∷ [])
  grows =
      let o = s.walked.order_long in
      let r = room in
      ap (map (tree_at ts)) (take_more_set order n i (omega arith)) ∙ map_push (tree_at ts) (take n order) i

  pub visited : listed ts (set order n i) (n + 1) ≡ walk (tree_at ts i) xs
  visited =
      grows
      ∙ (sym (add_new (tree_at ts i) (listed ts order n) not_listed)
      ∙ (ap (λ t. add t (listed ts order n)) s.is ∙ (ap (add (node s.symbol s.children)) s.kids ∙ ap (λ t. walk t xs) (sym s.is))))

  behind : (x : Tree) → Memᴰ x (listed ts order n ++ (tree_at ts i ∷ [])) → (P : Type 0) → (Memᴰ x (listed ts order n) → P) → (x ≡ tree_at ts i → P) → P
  behind x m P a b = ⊎_elim a (λ e. b (Memᴰ.eq_of_singleton e)) (Memᴰ.append_cases (listed ts order n) m)

  more_children : ChildrenThere (listed ts order n ++ (tree_at ts i ∷ []))
  more_children x c m k =
      behind x m (Memᴰ c (listed ts order n ++ (tree_at ts i ∷ []))) (λ h. Memᴰ.append_left (tree_at ts i ∷ []) (s.walked.children_there x c h k))
      (λ e. Memᴰ.append_left (tree_at ts i ∷ [])
      (subst (Memᴰ c) (sym s.kids) (walks_has c s.children xs (child_in c s.children (subst (λ t. Memᴰ c (to_list (children t))) (e ∙ s.is) k)))))

  pub walked_more : Walked ts (set marks i 1) (set order n i) (n + 1)
  walked_more =
      let ml = s.walked.marks_long in
      let ol = s.walked.order_long in
      let r = room in
      let sets = length-set marks i 1 in
      let olds = length-set order n i in
      record {
        marks_long = omega arith;
        order_long = omega arith;
        filled = omega arith;
        records = subst (AllByRecursion (λ k. k < length ts)) (sym (take_more_set order n i (omega arith))) (All-push (λ k. k < length ts) (take n order) i s.walked.records s.inside);
        distinct = subst Distinct (sym grows) (distinct_push (tree_at ts i) (listed ts order n) s.walked.distinct not_listed);
        children_there = subst ChildrenThere (sym grows) more_children;
        marked = λ k h m.
            subst (Memᴰ (tree_at ts k)) (sym grows)
            (⊎_elim (λ e. Memᴰ.append_right (listed ts order n) (Memᴰ.head (ap (tree_at ts) e)))
            (λ e. Memᴰ.append_left (tree_at ts i ∷ []) (s.walked.marked k h (λ z. m (get_or-set_other marks i k 1 0 e ∙ z)))) (cases_eq k i));
        unmarked = λ k h z m.
            ⊎_elim (λ e. omega (arith, get_or-set_same marks i 1 0 (omega arith), ap (λ x. get_or (set marks i 1) x 0) e))
            (λ e. behind (tree_at ts k) (subst (Memᴰ (tree_at ts k)) grows m) ⊥ (s.walked.unmarked k h (sym (get_or-set_other marks i k 1 0 e) ∙ z))
            (λ q. e (s.apart blank_tree k i h s.inside q))) (cases_eq k i);
      }
