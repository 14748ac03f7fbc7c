-- The test for equality decides it, and what substitution and occurrence have to do with each other. Assumes nothing.
use Rattle.std.proofs.Common.{◌≡◌, ℕ, true, false, eqb, Decides, sym, refl, ap, ◌∙◌, subst, ap₂}
use Rattle.std.proofs.lemmas.Bool.{and_parts, and_from, eqb-true, eq-eqb, or_left, or_right, true≢false}
use Rattle.rewriting.specs.Terms.{Tree, node, Trees, nil, cons, Term, var, app, Terms, nilᵗ, consᵗ, same, sames, Substitution, apply, applies, occurs, occurs_in}

mutual
  pub same_eq : (t u : Tree) → same t u ≡ true → t ≡ u
  same_eq (node f ts) (node g us) h =
      let p = and_parts (eqb f g) (sames ts us) h in
      ap₂ node (eqb-true f g p.0) (sames_eq ts us p.1)

  pub sames_eq : (ts us : Trees) → sames ts us ≡ true → ts ≡ us
  sames_eq nil nil h = refl
  sames_eq nil (cons u us) h = absurd (true≢false (sym h))
  sames_eq (cons t ts) nil h = absurd (true≢false (sym h))
  sames_eq (cons t ts) (cons u us) h =
      let p = and_parts (same t u) (sames ts us) h in
      ap₂ cons (same_eq t u p.0) (sames_eq ts us p.1)

mutual
  pub same_refl : (t : Tree) → same t t ≡ true
  same_refl (node f ts) = and_from (eqb f f) (sames ts ts) (eq-eqb f f refl) (sames_refl ts)

  pub sames_refl : (ts : Trees) → sames ts ts ≡ true
  sames_refl nil = refl
  sames_refl (cons t ts) = and_from (same t t) (sames ts ts) (same_refl t) (sames_refl ts)

pub same_decides : (t u : Tree) → Decides (same t u) (t ≡ u)
same_decides t u = (same_eq t u, λ e. subst (λ x. same t x ≡ true) e (same_refl t))

pub same_differs : (t u : Tree) → same t u ≡ false → t ≡ u → ⊥
same_differs t u h e = true≢false (sym ((same_decides t u).1 e) ∙ h)

mutual
  pub apply_agrees : (σ τ : Substitution) (t : Term) → ((v : ℕ) → occurs v t ≡ true → σ v ≡ τ v) → apply σ t ≡ apply τ t
  apply_agrees σ τ (var w) h = h w (eq-eqb w w refl)
  apply_agrees σ τ (app f ts) h = ap (node f) (applies_agree σ τ ts h)

  pub applies_agree : (σ τ : Substitution) (ts : Terms) → ((v : ℕ) → occurs_in v ts ≡ true → σ v ≡ τ v) → applies σ ts ≡ applies τ ts
  applies_agree σ τ nilᵗ h = refl
  applies_agree σ τ (consᵗ t ts) h =
      ap₂ cons (apply_agrees σ τ t (λ v k. h v (or_left (occurs v t) (occurs_in v ts) k)))
      (applies_agree σ τ ts (λ v k. h v (or_right (occurs v t) (occurs_in v ts) k)))
