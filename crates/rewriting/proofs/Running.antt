-- Runs: their turns, how they stop, what they reach, and how they add up. Assumes nothing.
use Rattle.std.proofs.Common.{◌≡◌, ℕ, zero, suc, ◌+◌, ◌<◌, Bool, true, false, ◌↔◌, List, [], ◌∷◌, length, sym, refl, ap, ◌∙◌, subst, suc-add, zero-add, arith}
use Rattle.std.proofs.lemmas.Bool.{true≢false}
use Rattle.rewriting.specs.Terms.{Tree}
use Rattle.rewriting.specs.Cards.{Card, OnCard, WellFormed}
use Rattle.rewriting.specs.Steps.{Reaches}
use Rattle.rewriting.specs.Subterms.{subterms}
use Rattle.rewriting.specs.Sites.{sites, redexes, IsSite}
use Rattle.rewriting.specs.Runs.{Choice, Chooses, Room, Stop, normal, spent, full, Outcome, ended, one_more, is_empty, at_rest, chosen, next, run, Runs, rests, uses_up, lacks_room, goes_on, AddsUp, StopsRightly}
use Rattle.rewriting.proofs.Members.{place_mem}
use Rattle.rewriting.proofs.Stepping.{reaches_refl, reaches_trans, reached_on_card}
use Rattle.rewriting.proofs.Redexes.{redexes_are_sites}
use Rattle.rewriting.proofs.Listing.{no_site_no_redex, sites_length}
use Rattle.rewriting.proofs.Replacing.{shared_step_reached}

empty_nil : (xs : List Tree) → is_empty xs ≡ true → xs ≡ []
empty_nil [] h = refl
empty_nil (x ∷ xs) h = absurd (true≢false (sym h))

pub at_rest_no_site : (C : Card) (t : Tree) → at_rest C t ≡ true → sites C t ≡ []
at_rest_no_site C t h = (no_site_no_redex C t).1 (empty_nil (redexes C t) h)

pub not_at_rest : (C : Card) (t : Tree) → at_rest C t ≡ false → sites C t ≡ [] → ⊥
not_at_rest C t h e = true≢false (sym (ap is_empty ((no_site_no_redex C t).0 e)) ∙ h)

no_site_at_rest : (C : Card) (t : Tree) → sites C t ≡ [] → at_rest C t ≡ true
no_site_at_rest C t e = ap is_empty ((no_site_no_redex C t).0 e)

site_not_at_rest : (C : Card) (t : Tree) → (sites C t ≡ [] → ⊥) → at_rest C t ≡ false
site_not_at_rest C t ne = go (at_rest C t) refl
  where
    go : (b : Bool) → at_rest C t ≡ b → b ≡ false
    go true e = absurd (ne (at_rest_no_site C t e))
    go false e = refl

module _ (C : Card) (pick : Choice) (room : Room) where
  -- the four kinds of turn
  pub run_rests : (n : ℕ) (t : Tree) → at_rest C t ≡ true → run C pick room n t ≡ ended normal t
  run_rests zero t e = rw (e, run)
  run_rests (suc n) t e = rw (e, run)

  pub run_spent : (t : Tree) → at_rest C t ≡ false → run C pick room zero t ≡ ended spent t
  run_spent t e = rw (e, run)

  pub run_full : (n : ℕ) (t : Tree) → at_rest C t ≡ false → room t (next C pick t) ≡ false → run C pick room (suc n) t ≡ ended full t
  run_full n t e f = rw (e, run) (rw f)

  pub run_goes_on : (n : ℕ) (t : Tree) → at_rest C t ≡ false → room t (next C pick t) ≡ true → run C pick room (suc n) t ≡ one_more (run C pick room n (next C pick t))
  run_goes_on n t e f = rw (e, run) (rw f)

  -- a law of runs, by the four kinds of turn
  pub by_turns : (P : ℕ → Tree → Outcome → Type 0)
      → ((n : ℕ) (t : Tree) → at_rest C t ≡ true → P n t (ended normal t))
      → ((t : Tree) → at_rest C t ≡ false → P zero t (ended spent t))
      → ((n : ℕ) (t : Tree) → at_rest C t ≡ false → room t (next C pick t) ≡ false → P (suc n) t (ended full t))
      → ((n : ℕ) (t : Tree) → at_rest C t ≡ false → room t (next C pick t) ≡ true → (r : Outcome) → P n (next C pick t) r → P (suc n) t (one_more r))
      → (n : ℕ) (t : Tree) → P n t (run C pick room n t)
  by_turns P a b c d zero t = go (at_rest C t) refl
    where
      go : (x : Bool) → at_rest C t ≡ x → P zero t (run C pick room zero t)
      go true e = rw (run_rests zero t e) (a zero t e)
      go false e = rw (run_spent t e) (b t e)
  by_turns P a b c d (suc n) t = go (by_turns P a b c d n (next C pick t)) (at_rest C t) refl (room t (next C pick t)) refl
    where
      go : P n (next C pick t) (run C pick room n (next C pick t)) → (x : Bool) → at_rest C t ≡ x → (y : Bool) → room t (next C pick t) ≡ y → P (suc n) t (run C pick room (suc n) t)
      go ih true e y f = rw (run_rests (suc n) t e) (a (suc n) t e)
      go ih false e true f = rw (run_goes_on n t e f) (d n t e f (run C pick room n (next C pick t)) ih)
      go ih false e false f = rw (run_full n t e f) (c n t e f)

  turns_run : {n : ℕ} {t : Tree} {r : Outcome} → Runs C pick room n t r → r ≡ run C pick room n t
  turns_run (rests {n} {t} e) = sym (run_rests n t (no_site_at_rest C t e))
  turns_run (uses_up {t} ne) = sym (run_spent t (site_not_at_rest C t ne))
  turns_run (lacks_room {n} {t} ne f) = sym (run_full n t (site_not_at_rest C t ne) f)
  turns_run (goes_on {n} {t} ne f p) = ap one_more (turns_run p) ∙ sym (run_goes_on n t (site_not_at_rest C t ne) f)

  run_turns : (n : ℕ) (t : Tree) → Runs C pick room n t (run C pick room n t)
  run_turns =
      by_turns (Runs C pick room) (λ n t e. rests (at_rest_no_site C t e)) (λ t e. uses_up (not_at_rest C t e))
      (λ n t e f. lacks_room (not_at_rest C t e) f) (λ n t e f r p. goes_on (not_at_rest C t e) f p)

  pub runs_exactly : (n : ℕ) (t : Tree) (r : Outcome) → Runs C pick room n t r ↔ (r ≡ run C pick room n t)
  runs_exactly n t r = (turns_run, λ e. subst (Runs C pick room n t) (sym e) (run_turns n t))

  pub stops_rightly : (n : ℕ) (t : Tree) → StopsRightly C pick room n (run C pick room n t)
  stops_rightly =
      by_turns (λ n t r. StopsRightly C pick room n r)
      (λ n t e. record {
        within_budget = omega arith;
        normal_at_rest = ((λ q. at_rest_no_site C t e), λ q. refl);
        spent_at_budget = λ q. absurd (let z : ◌≡◌ {A = ℕ} 0 1 = cc in omega arith);
        full_before_budget = λ q. absurd (let z : ◌≡◌ {A = ℕ} 0 1 = cc in omega arith);
      })
      (λ t e. record {
        within_budget = omega arith;
        normal_at_rest = ((λ q. absurd (let z : ◌≡◌ {A = ℕ} 0 1 = cc in omega arith)), λ q. absurd (not_at_rest C t e q));
        spent_at_budget = λ q. refl;
        full_before_budget = λ q. absurd (let z : ◌≡◌ {A = ℕ} 0 1 = cc in omega arith);
      })
      (λ n t e f. record {
        within_budget = omega arith;
        normal_at_rest = ((λ q. absurd (let z : ◌≡◌ {A = ℕ} 0 1 = cc in omega arith)), λ q. absurd (not_at_rest C t e q));
        spent_at_budget = λ q. absurd (let z : ◌≡◌ {A = ℕ} 0 1 = cc in omega arith);
        full_before_budget = λ q. (omega arith, f);
      })
      (λ n t e f r k. record {
        within_budget = omega (arith, k.within_budget);
        normal_at_rest = k.normal_at_rest;
        spent_at_budget = λ q. ap suc (k.spent_at_budget q);
        full_before_budget = λ q. let p = k.full_before_budget q in (omega (arith, p.0), p.1);
      })

  -- where a run has stopped for want of sites or room, a further one counts nothing and stays
  stays : (n : ℕ) (t : Tree) (w v : Stop) → run C pick room n t ≡ ended v t → (0 < n → w ≡ v) → AddsUp C pick room n (ended w t) (ended w t)
  stays n t w v e h =
      record {
        counts = omega (arith, ap (λ (r : Outcome). r.count) e);
        trees = sym (ap (λ (r : Outcome). r.tree) e);
        stops = λ k. h k ∙ sym (ap (λ (r : Outcome). r.stop) e);
      }

  full_stays : (n : ℕ) (t : Tree) → at_rest C t ≡ false → room t (next C pick t) ≡ false → AddsUp C pick room n (ended full t) (ended full t)
  full_stays zero t e f = stays zero t full spent (run_spent t e) (λ h. absurd (omega arith))
  full_stays (suc n) t e f = stays (suc n) t full full (run_full n t e f) (λ h. refl)

  pub runs_add_up : (m n : ℕ) (t : Tree) → AddsUp C pick room n (run C pick room m t) (run C pick room (m + n) t)
  runs_add_up zero n t = rw zero-add (go (at_rest C t) refl)
    where
      go : (b : Bool) → at_rest C t ≡ b → AddsUp C pick room n (run C pick room zero t) (run C pick room n t)
      go true e = rw (run_rests zero t e) (record { counts = omega arith; trees = refl; stops = λ h. refl })
      go false e = rw (run_spent t e) (record { counts = omega arith; trees = refl; stops = λ h. refl })
  runs_add_up (suc m) n t = rw suc-add (go (runs_add_up m n (next C pick t)) (at_rest C t) refl (room t (next C pick t)) refl)
    where
      go : AddsUp C pick room n (run C pick room m (next C pick t)) (run C pick room (m + n) (next C pick t))
          → (b : Bool) → at_rest C t ≡ b → (f : Bool) → room t (next C pick t) ≡ f
          → AddsUp C pick room n (run C pick room (suc m) t) (run C pick room (suc (m + n)) t)
      go ih true e f q =
          rw (run_rests (suc m) t e, run_rests (suc (m + n)) t e) (stays n t normal normal (run_rests n t e) (λ h. refl))
      go ih false e true q =
          rw (run_goes_on m t e q, run_goes_on (m + n) t e q)
          (record { counts = omega (arith, ih.counts); trees = ih.trees; stops = ih.stops })
      go ih false e false q = rw (run_full m t e q, run_full (m + n) t e q) (full_stays n t e q)

not_empty : (xs : List Tree) → is_empty xs ≡ false → 0 < length xs
not_empty [] h = absurd (true≢false h)
not_empty (x ∷ xs) h = omega arith

module _ (C : Card) (w : WellFormed C) (pick : Choice) (ok : Chooses pick) where
  pub chosen_is_site : (t : Tree) → at_rest C t ≡ false → IsSite C t (chosen C pick t)
  chosen_is_site t e =
      let l = sites_length C (redexes C t) 1 (subterms t) in
      let n = not_empty (redexes C t) e in
      let i : pick (sites C t) < length (redexes C t) = omega (arith, l, ok (sites C t) (omega (arith, l))) in
      (redexes_are_sites C w t (chosen C pick t)).1 (place_mem t (redexes C t) (pick (sites C t)) i)

  pub next_reached : (t : Tree) → OnCard C t → at_rest C t ≡ false → Reaches C t (next C pick t)
  next_reached t on e = shared_step_reached C w t (chosen C pick t) on (chosen_is_site t e)

  pub run_reached : (room : Room) (n : ℕ) (t : Tree) → OnCard C t → Reaches C t (run C pick room n t).tree
  run_reached room =
      by_turns C pick room (λ n t r. OnCard C t → Reaches C t r.tree)
      (λ n t e on. reaches_refl C on) (λ t e on. reaches_refl C on) (λ n t e f on. reaches_refl C on)
      (λ n t e f r k on. let p = next_reached t on e in reaches_trans C p (k (reached_on_card C p)))
