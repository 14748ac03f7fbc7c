-- Laws of the closures of any relation: chains, the theorem of Church and Rosser, final elements. Assumes nothing.
use Rattle.std.proofs.Common.{◌≡◌, ◌↔◌, sym, refl, ◌∙◌, subst}
use Rattle.rewriting.specs.Relations.{Star, stop, step, Chain, end, forward, backward, Joined, Joins, Final}

module _ {A : Type 0} {S : A → A → Type 0} where
  pub star_one : {a b : A} → S a b → Star S a b
  star_one s = step s stop

  pub star_trans : {a b c : A} → Star S a b → Star S b c → Star S a c
  star_trans stop q = q
  star_trans (step s p) q = step s (star_trans p q)

  pub chain_trans : {a b c : A} → Chain S a b → Chain S b c → Chain S a c
  chain_trans end q = q
  chain_trans (forward s p) q = forward s (chain_trans p q)
  chain_trans (backward s p) q = backward s (chain_trans p q)

  pub chain_sym : {a b : A} → Chain S a b → Chain S b a
  chain_sym end = end
  chain_sym (forward s p) = chain_trans (chain_sym p) (backward s end)
  chain_sym (backward s p) = chain_trans (chain_sym p) (forward s end)

  pub star_chain : {a b : A} → Star S a b → Chain S a b
  star_chain stop = end
  star_chain (step s p) = forward s (star_chain p)

  -- the theorem of Church and Rosser
  pub chain_joined : Joins S → {a b : A} → Chain S a b → Joined S a b
  chain_joined k {a} end = record { meet = a; left = stop; right = stop }
  chain_joined k (forward s p) =
      let j = chain_joined k p in
      record { meet = j.meet; left = step s j.left; right = j.right }
  chain_joined k (backward s p) =
      let j = chain_joined k p in
      let m = k _ _ _ (star_one s) j.left in
      record { meet = m.meet; left = m.left; right = star_trans j.right m.right }

  pub final_stays : {a b : A} → Final S a → Star S a b → a ≡ b
  final_stays r stop = refl
  final_stays r (step s p) = absurd (r _ s)

  pub final_equal_exactly : Joins S → {a a' b b' : A} → Star S a a' → Star S b b' → Final S a' → Final S b' → (a' ≡ b') ↔ Chain S a b
  final_equal_exactly k {a} {a'} {b} {b'} p q fa fb = (
    (λ e. chain_trans (star_chain p) (subst (λ x. Chain S x b) (sym e) (chain_sym (star_chain q)))),
    (λ z. let j = chain_joined k (chain_trans (chain_sym (star_chain p)) (chain_trans z (star_chain q))) in
        final_stays fa j.left ∙ sym (final_stays fb j.right)),
  )

pub star_map : {A B : Type 0} {S : A → A → Type 0} {S' : B → B → Type 0} (f : A → B) → ((a b : A) → S a b → S' (f a) (f b)) → {a b : A} → Star S a b → Star S' (f a) (f b)
star_map f g stop = stop
star_map f g (step s p) = step (g _ _ s) (star_map f g p)
