-- Replacing every occurrence of a redex is a run of tree steps. Assumes nothing.
use Rattle.std.proofs.Common.{◌≡◌, Bool, true, false, ◌↔◌, List, sym, refl, ap, ◌∙◌, subst, ap₂}
use Rattle.rewriting.specs.Terms.{Tree, node, Trees, nil, cons, same}
use Rattle.rewriting.specs.Cards.{Rule, Card, OnCard, WellFormed}
use Rattle.rewriting.specs.Relations.{Star, stop}
use Rattle.rewriting.specs.Steps.{Contracts, Step, here, inside, Steps, first, later, Reaches}
use Rattle.rewriting.specs.Sites.{contractum, replace, replaces, shared_step, IsSite, Replaced, occurrence, elsewhere, ReplacedIn, nowhere, both}
use Rattle.rewriting.proofs.Equality.{same_eq, same_differs}
use Rattle.rewriting.proofs.Closures.{star_one, star_trans, star_map}
use Rattle.rewriting.proofs.Stepping.{reaches_by_steps}
use Rattle.rewriting.proofs.Redexes.{redex_contracts, site_redex}

-- `replace` by its two cases
replace_cases : (P : Tree → Type 0) (s r t u : Tree) → (s ≡ t → P r) → ((s ≡ t → ⊥) → P u)
    → P (elim (same s t) as (λ x. Tree) [ true ↦ r | false ↦ u ])
replace_cases P s r t u hit miss = go (same s t) refl
  where
    go : (b : Bool) → same s t ≡ b → P (elim b as (λ x. Tree) [ true ↦ r | false ↦ u ])
    go true e = hit (same_eq s t e)
    go false e = miss (same_differs s t e)

module _ (s r : Tree) where
  mutual
    pub replace_replaced : (t : Tree) → Replaced s r t (replace s r t)
    replace_replaced (node f ts) =
        replace_cases (Replaced s r (node f ts)) s r (node f ts) (node f (replaces s r ts)) (λ e. occurrence (sym e) refl)
        (λ ne. elsewhere (λ e. ne (sym e)) (replaces_replaced ts))

    replaces_replaced : (ts : Trees) → ReplacedIn s r ts (replaces s r ts)
    replaces_replaced nil = nowhere
    replaces_replaced (cons t ts) = both (replace_replaced t) (replaces_replaced ts)

  mutual
    pub replaced_is : {t u : Tree} → Replaced s r t u → u ≡ replace s r t
    replaced_is (occurrence {t} {u} e q) = q ∙ hit t e
      where
        hit : (t : Tree) → t ≡ s → r ≡ replace s r t
        hit (node f ts) k =
            replace_cases (λ x. r ≡ x) s r (node f ts) (node f (replaces s r ts)) (λ h. refl) (λ ne. absurd (ne (sym k)))
    replaced_is (elsewhere {f} {ts} {us} ne p) =
        let ih = replaced_in_is p in
        replace_cases (λ x. node f us ≡ x) s r (node f ts) (node f (replaces s r ts)) (λ e. absurd (ne (sym e))) (λ k. ap (node f) ih)

    replaced_in_is : {ts us : Trees} → ReplacedIn s r ts us → us ≡ replaces s r ts
    replaced_in_is nowhere = refl
    replaced_in_is (both p q) = ap₂ cons (replaced_is p) (replaced_in_is q)

pub replaced_exactly : (s r t u : Tree) → Replaced s r t u ↔ (u ≡ replace s r t)
replaced_exactly s r t u = ((λ p. replaced_is s r p), λ e. subst (Replaced s r t) (sym e) (replace_replaced s r t))

module _ (R : List Rule) (s r : Tree) (c : Contracts R s r) where
  mutual
    pub replace_steps : (t : Tree) → Star (Step R) t (replace s r t)
    replace_steps (node f ts) =
        let inner = star_map (node f) (λ a b p. inside p) (replaces_steps ts) in
        replace_cases (Star (Step R) (node f ts)) s r (node f ts) (node f (replaces s r ts))
        (λ e. star_one (here (subst (λ x. Contracts R x r) e c))) (λ ne. inner)

    pub replaces_steps : (ts : Trees) → Star (Steps R) ts (replaces s r ts)
    replaces_steps nil = stop
    replaces_steps (cons t ts) =
        star_trans (star_map (λ x. cons x ts) (λ a b p. first p) (replace_steps t))
        (star_map (cons (replace s r t)) (λ a b p. later p) (replaces_steps ts))

pub shared_step_reached : (C : Card) → WellFormed C → (t s : Tree) → OnCard C t → IsSite C t s → Reaches C t (shared_step C s t)
shared_step_reached C w t s on k =
    record {
      from = on;
      steps = reaches_by_steps C w on (replace_steps C.rules s (contractum C s) (redex_contracts C w s (site_redex C w k)) t);
    }
