-- Steps stay on the card, and the laws of reaching and convertible trees. Assumes nothing.
use Rattle.std.proofs.Common.{◌≡◌, ℕ, suc, true, ◌↔◌, Some, sym, refl, ap, ◌∙◌, subst, ⊎_elim}
use Rattle.std.proofs.lemmas.Bool.{eqb-true, eq-eqb, or_left, or_right, or_cases, true≢false}
use Rattle.rewriting.specs.Terms.{Tree, Trees, Term, var, app, Terms, nilᵗ, consᵗ, count, countᵗ, Substitution, apply, applies, occurs, occurs_in}
use Rattle.rewriting.specs.Cards.{Signature, Card, OnSignature, AllOnSignature, TermOn, TermsOn, OnCard, WellFormed}
use Rattle.rewriting.specs.Relations.{Star, stop, step, Chain, end, forward, backward, Joins}
use Rattle.rewriting.specs.Steps.{Contracts, Step, here, inside, Steps, first, later, CardStep, Reaches, Convertible, ReachCommon, Confluent, NormalForm}
use Rattle.rewriting.proofs.Closures.{star_trans, chain_trans, chain_sym, star_chain, chain_joined, final_equal_exactly}

count_applies : (σ : Substitution) (ts : Terms) → count (applies σ ts) ≡ countᵗ ts
count_applies σ nilᵗ = refl
count_applies σ (consᵗ t ts) = ap suc (count_applies σ ts)

module _ (Σ : Signature) where
  -- what a term's variables stand for is on the signature if what it makes is
  mutual
    pub variable_on : (σ : Substitution) (l : Term) → OnSignature Σ (apply σ l) → (v : ℕ) → occurs v l ≡ true → OnSignature Σ (σ v)
    variable_on σ (var w) on v h = subst (λ x. OnSignature Σ (σ x)) (eqb-true w v h) on
    variable_on σ (app f ls) on v h = variable_in σ ls on.1 v h

    variable_in : (σ : Substitution) (ls : Terms) → AllOnSignature Σ (applies σ ls) → (v : ℕ) → occurs_in v ls ≡ true → OnSignature Σ (σ v)
    variable_in σ nilᵗ on v h = absurd (true≢false (sym h))
    variable_in σ (consᵗ l ls) on v h =
        ⊎_elim (λ k. variable_on σ l on.0 v k) (λ k. variable_in σ ls on.1 v k) (or_cases (occurs v l) (occurs_in v ls) h)

  mutual
    pub apply_on : (σ : Substitution) (r : Term) → TermOn Σ r → ((v : ℕ) → occurs v r ≡ true → OnSignature Σ (σ v)) → OnSignature Σ (apply σ r)
    apply_on σ (var w) on h = h w (eq-eqb w w refl)
    apply_on σ (app f rs) on h = (on.0 ∙ ap Some (sym (count_applies σ rs)), applies_on σ rs on.1 h)

    applies_on : (σ : Substitution) (rs : Terms) → TermsOn Σ rs → ((v : ℕ) → occurs_in v rs ≡ true → OnSignature Σ (σ v)) → AllOnSignature Σ (applies σ rs)
    applies_on σ nilᵗ on h = tt
    applies_on σ (consᵗ r rs) on h = (
      apply_on σ r on.0 (λ v k. h v (or_left (occurs v r) (occurs_in v rs) k)),
      applies_on σ rs on.1 (λ v k. h v (or_right (occurs v r) (occurs_in v rs) k)),
    )

module _ (C : Card) (w : WellFormed C) where
  pub contracts_on_card : {t u : Tree} → Contracts C.rules t u → OnCard C t → OnCard C u
  contracts_on_card c on =
      let r = w.each_rule c.rule c.listed in
      let σ = c.substitution in
      subst (OnCard C) c.right_is
      (apply_on C.arity σ c.rule.right r.right_on_card
      (λ v h. variable_on C.arity σ c.rule.left (subst (OnCard C) (sym c.left_is) on) v (r.right_within_left v h)))

  steps_count : {ts us : Trees} → Steps C.rules ts us → count us ≡ count ts
  steps_count (first p) = refl
  steps_count (later p) = ap suc (steps_count p)

  mutual
    pub step_on_card : {t u : Tree} → Step C.rules t u → OnCard C t → OnCard C u
    step_on_card (here c) on = contracts_on_card c on
    step_on_card (inside p) on = (on.0 ∙ ap Some (sym (steps_count p)), steps_on_card p on.1)

    pub steps_on_card : {ts us : Trees} → Steps C.rules ts us → AllOnSignature C.arity ts → AllOnSignature C.arity us
    steps_on_card (first p) on = (step_on_card p on.0, on.1)
    steps_on_card (later p) on = (on.0, steps_on_card p on.1)

  -- tree steps from a tree of the card are steps between trees of the card
  pub reaches_by_steps : {t u : Tree} → OnCard C t → Star (Step C.rules) t u → Star (CardStep C) t u
  reaches_by_steps on stop = stop
  reaches_by_steps on (step s p) =
      let on' = step_on_card s on in
      step (record { from = on; to = on'; step = s }) (reaches_by_steps on' p)

module _ (C : Card) where
  star_on_card : {t u : Tree} → Star (CardStep C) t u → OnCard C t → OnCard C u
  star_on_card stop on = on
  star_on_card (step s p) on = star_on_card p s.to

  chain_on_card : {t u : Tree} → Chain (CardStep C) t u → OnCard C t → OnCard C u
  chain_on_card end on = on
  chain_on_card (forward s p) on = chain_on_card p s.to
  chain_on_card (backward s p) on = chain_on_card p s.from

  pub reached_on_card : {t u : Tree} → Reaches C t u → OnCard C u
  reached_on_card p = star_on_card p.steps p.from

  pub convertible_on_card : {t u : Tree} → Convertible C t u → OnCard C u
  convertible_on_card p = chain_on_card p.chain p.from

  pub reaches_refl : {t : Tree} → OnCard C t → Reaches C t t
  reaches_refl on = record { from = on; steps = stop }

  pub reaches_trans : {t u v : Tree} → Reaches C t u → Reaches C u v → Reaches C t v
  reaches_trans p q = record { from = p.from; steps = star_trans p.steps q.steps }

  pub reaches_convertible : {t u : Tree} → Reaches C t u → Convertible C t u
  reaches_convertible p = record { from = p.from; chain = star_chain p.steps }

  pub convertible_refl : {t : Tree} → OnCard C t → Convertible C t t
  convertible_refl on = record { from = on; chain = end }

  pub convertible_sym : {t u : Tree} → Convertible C t u → Convertible C u t
  convertible_sym p = record { from = convertible_on_card p; chain = chain_sym p.chain }

  pub convertible_trans : {t u v : Tree} → Convertible C t u → Convertible C u v → Convertible C t v
  convertible_trans p q = record { from = p.from; chain = chain_trans p.chain q.chain }

  -- a confluent card's steps join from any tree: one that is not on the card has no step
  confluent_joins : Confluent C → Joins (CardStep C)
  confluent_joins k t u v stop q = record { meet = v; left = q; right = stop }
  confluent_joins k t u v (step s p) q =
      let m = k t u v (record { from = s.from; steps = step s p }) (record { from = s.from; steps = q }) in
      record { meet = m.tree; left = m.left.steps; right = m.right.steps }

  pub convertible_reach_common : Confluent C → {t u : Tree} → Convertible C t u → ReachCommon C t u
  convertible_reach_common k p =
      let j = chain_joined (confluent_joins k) p.chain in
      record {
        tree = j.meet;
        left = record { from = p.from; steps = j.left };
        right = record { from = convertible_on_card p; steps = j.right };
      }

  pub normal_forms_equal : Confluent C → {t t' u u' : Tree} → Reaches C t t' → Reaches C u u' → NormalForm C t' → NormalForm C u' → (t' ≡ u') ↔ Convertible C t u
  normal_forms_equal k {t} {t'} {u} {u'} p q nt nu =
      let e = final_equal_exactly (confluent_joins k) p.steps q.steps nt nu in
      ((λ h. record { from = p.from; chain = e.0 h }), λ c. e.1 c.chain)
