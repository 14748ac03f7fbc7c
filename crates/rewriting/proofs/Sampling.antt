-- The small cards: well-formed, run, and confluent on their own trees. Assumes nothing.
use Rattle.std.proofs.Common.{◌≡◌, ℕ, zero, suc, Bool, true, false, ◌||◌, eqb, [], ◌∷◌, sym, refl, ap, ◌∙◌, subst, ⊎_elim, arith}
use mathlib.Core.List.Memᴰ
use mathlib.Core.List.{Memᴰ}
use Rattle.std.proofs.lemmas.Bool.{or_left}
use Rattle.rewriting.specs.Terms.{Tree, node, Trees, nil, cons, children, Substitution, apply}
use Rattle.rewriting.specs.Cards.{Rule, OnCard, WellFormed, WellFormedRule}
use Rattle.rewriting.specs.Relations.{Joins}
use Rattle.rewriting.specs.Steps.{Step, here, inside, Steps, first, later, Reaches}
use Rattle.rewriting.specs.Samples.{tea, collapsing, ScentedDoubleRuns, ConfluenceIsOverTheTreesOfTheCard}
use Rattle.rewriting.proofs.Closures.{star_one, final_stays}
use Rattle.rewriting.proofs.Stepping.{reaches_refl, reached_on_card}

-- every rule of a card of two rules
each_of_two : (P : Rule → Type 0) (a b : Rule) → P a → P b → (r : Rule) → Memᴰ r (a ∷ b ∷ []) → P r
each_of_two P a b p q r m =
    ⊎_elim (λ e. subst P (sym e) p) (λ k. subst P (sym (Memᴰ.eq_of_singleton k)) q) (Memᴰ.cases_cons m)

swapped : (a b : Bool) → ((a || false) || ((b || false) || false)) ≡ true → ((a || (b || false)) || false) ≡ true
swapped true b h = refl
swapped false true h = refl
swapped false false h = h

pub tea_well_formed : WellFormed tea
tea_well_formed =
    record {
      each_rule =
          each_of_two (WellFormedRule tea.arity) _ _
          (record {
            left_on_card = (refl, (tt, (tt, tt)));
            right_on_card = tt;
            left_no_variable = tt;
            right_within_left = λ v h. or_left (eqb 0 v) (eqb 0 v || false) h;
          })
          (record {
            left_on_card = (refl, ((refl, (tt, (tt, tt))), tt));
            right_on_card = (refl, ((refl, (tt, tt)), ((refl, (tt, tt)), tt)));
            left_no_variable = tt;
            right_within_left = λ v h. swapped (eqb 0 v) (eqb 1 v) h;
          });
      ascending = ((λ q m. omega (arith, ap (λ (r : Rule). r.number) (Memᴰ.eq_of_singleton m))), ((λ q m. absurd (Memᴰ.not-nil m)), tt));
    }

pub scented_double_runs : ScentedDoubleRuns
scented_double_runs = record { whole = refl; part = refl; none = refl; rows = refl }

-- f(t) by each of the two rules
by_first : (t : Tree) → Step collapsing.rules (node 1 (cons t nil)) (node 0 nil)
by_first t = here (record { rule = _; listed = Memᴰ.head refl; substitution = λ v. t; left_is = refl; right_is = refl })

by_second : (t : Tree) → Step collapsing.rules (node 1 (cons t nil)) t
by_second t = here (record { rule = _; listed = Memᴰ.tail (Memᴰ.head refl); substitution = λ v. t; left_is = refl; right_is = refl })

-- both left sides have a child
starts_with_f : (r : Rule) → Memᴰ r collapsing.rules → (σ : Substitution) (f : ℕ) → apply σ r.left ≡ node f nil → ⊥
starts_with_f =
    each_of_two (λ r. (σ : Substitution) (f : ℕ) → apply σ r.left ≡ node f nil → ⊥) _ _ child child
  where
    child : (σ : Substitution) (f : ℕ) → node 1 (cons (σ 0) nil) ≡ node f nil → ⊥
    child σ f e = let z : ◌≡◌ {A = ℕ} 0 1 = cc in omega arith

reach_bottom : (t : Tree) → OnCard collapsing t → Reaches collapsing t (node 0 nil)
reach_bottom (node zero nil) on = reaches_refl collapsing on
reach_bottom (node zero (cons t ts)) on = let z : ◌≡◌ {A = ℕ} 0 1 = cc in absurd (omega arith)
reach_bottom (node (suc zero) nil) on = let z : ◌≡◌ {A = ℕ} 0 1 = cc in absurd (omega arith)
reach_bottom (node (suc zero) (cons t nil)) on =
    record { from = on; steps = star_one (record { from = on; to = (refl, tt); step = by_first t }) }
reach_bottom (node (suc zero) (cons t (cons u us))) on = let z : ◌≡◌ {A = ℕ} 0 1 = cc in absurd (omega arith)
reach_bottom (node (suc (suc f)) ts) on = let z : ◌≡◌ {A = ℕ} 0 1 = cc in absurd (omega arith)

-- no step of this card leaves a constant
mutual
  constant_final : {t u : Tree} → Step collapsing.rules t u → (f : ℕ) → t ≡ node f nil → ⊥
  constant_final (here c) f e = starts_with_f c.rule c.listed c.substitution f (c.left_is ∙ e)
  constant_final (inside p) f e = no_child_final p (ap children e)

  no_child_final : {ts us : Trees} → Steps collapsing.rules ts us → ts ≡ nil → ⊥
  no_child_final (first p) e = let z : ◌≡◌ {A = ℕ} 0 1 = cc in absurd (omega arith)
  no_child_final (later p) e = let z : ◌≡◌ {A = ℕ} 0 1 = cc in absurd (omega arith)

not_joined : Joins (Step collapsing.rules) → ⊥
not_joined joins =
    let m = joins (node 1 (cons (node 2 nil) nil)) (node 0 nil) (node 2 nil) (star_one (by_first (node 2 nil))) (star_one (by_second (node 2 nil))) in
    let p : node 0 nil ≡ m.meet = final_stays (λ u s. constant_final s 0 refl) m.left in
    let q : node 2 nil ≡ m.meet = final_stays (λ u s. constant_final s 2 refl) m.right in
    let z : ◌≡◌ {A = ℕ} 0 2 = cc in
    omega arith

pub card_trees_decide : ConfluenceIsOverTheTreesOfTheCard
card_trees_decide =
    record {
      on_card = λ t u v p q. record {
        tree = node 0 nil;
        left = reach_bottom u (reached_on_card collapsing p);
        right = reach_bottom v (reached_on_card collapsing q);
      };
      beyond = not_joined;
    }
