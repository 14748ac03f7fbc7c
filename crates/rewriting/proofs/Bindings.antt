-- The computed match is the only one, and the first rule that fits is the lowest-numbered. Assumes nothing.
use Rattle.std.proofs.Common.{◌≡◌, ℕ, ◌≤◌, Bool, true, false, ◌||◌, eqb, List, [], ◌∷◌, Some, None, Option, unwrap_or, sym, refl, ap, ◌∙◌, subst, ap₂, arith, MatchOption}
use mathlib.Core.List.Memᴰ
use mathlib.Core.List.{Memᴰ}
use Rattle.std.specs.Option.{option_or}
use Rattle.std.specs.Bool.{then_some}
use Rattle.std.proofs.lemmas.Bool.{eqb-true, true≢false}
use Rattle.rewriting.specs.Terms.{Tree, Term, var, app, Terms, nilᵗ, consᵗ, Substitution, apply, applies, occurs, occurs_in}
use Rattle.rewriting.specs.Cards.{Rule, Ascending}
use Rattle.rewriting.specs.Matching.{bound, bound_in, bindings, matches, match, fitting, Fits, LowestFitting}
use Rattle.rewriting.proofs.Equality.{same_eq, same_decides, apply_agrees}

or_when : (a b : Bool) (x : Tree) → option_or (then_some a x) (then_some b x) ≡ then_some (a || b) x
or_when true b x = refl
or_when false b x = refl

mutual
  bound_apply : (τ : Substitution) (l : Term) (v : ℕ) → bound l (apply τ l) v ≡ then_some (occurs v l) (τ v)
  bound_apply τ (var w) v = go (eqb w v) refl
    where
      go : (b : Bool) → eqb w v ≡ b → elim b as (λ x. Option Tree) [ true ↦ Some (τ w) | false ↦ None ] ≡ then_some b (τ v)
      go true e = ap (λ x. Some (τ x)) (eqb-true w v e)
      go false e = refl
  bound_apply τ (app f ls) v = bound_applies τ ls v

  bound_applies : (τ : Substitution) (ls : Terms) (v : ℕ) → bound_in ls (applies τ ls) v ≡ then_some (occurs_in v ls) (τ v)
  bound_applies τ nilᵗ v = refl
  bound_applies τ (consᵗ l ls) v =
      ap₂ option_or (bound_apply τ l v) (bound_applies τ ls v) ∙ or_when (occurs v l) (occurs_in v ls) (τ v)

pub bindings_apply : (τ : Substitution) (l : Term) (v : ℕ) → occurs v l ≡ true → bindings l (apply τ l) v ≡ τ v
bindings_apply τ l v h = ap (λ o. unwrap_or o (apply τ l)) (bound_apply τ l v ∙ ap (λ b. then_some b (τ v)) h)

-- any match has what the computed one has, on the variables of the left side
pub bindings_agree : (l : Term) (t : Tree) (τ : Substitution) → apply τ l ≡ t → (v : ℕ) → occurs v l ≡ true → bindings l t v ≡ τ v
bindings_agree l t τ e v h = subst (λ x. bindings l x v ≡ τ v) e (bindings_apply τ l v h)

pub matches_sound : (l : Term) (t : Tree) → matches l t ≡ true → apply (bindings l t) l ≡ t
matches_sound l t h = same_eq (apply (bindings l t) l) t h

pub matches_complete : (l : Term) (t : Tree) (τ : Substitution) → apply τ l ≡ t → matches l t ≡ true
matches_complete l t τ e =
    (same_decides (apply (bindings l t) l) t).1 (apply_agrees (bindings l t) τ l (bindings_agree l t τ e) ∙ e)

pub bindings_unique : (l : Term) (t : Tree) (σ τ : Substitution) → apply σ l ≡ t → apply τ l ≡ t → (v : ℕ) → occurs v l ≡ true → σ v ≡ τ v
bindings_unique l t σ τ p q v h = sym (bindings_agree l t σ p v h) ∙ bindings_agree l t τ q v h

pub match_found : (l : Term) (t : Tree) → MatchOption (match l t) ((σ : Substitution) → apply σ l ≡ t → ⊥) (λ σ. apply σ l ≡ t)
match_found l t = go (matches l t) refl
  where
    go : (b : Bool) → matches l t ≡ b
        → MatchOption (elim b as (λ x. Option Substitution) [ true ↦ Some (bindings l t) | false ↦ None ]) ((σ : Substitution) → apply σ l ≡ t → ⊥) (λ σ. apply σ l ≡ t)
    go true e = matches_sound l t e
    go false e = λ σ k. true≢false (sym (matches_complete l t σ k) ∙ e)

-- a tail's lowest fitting rule stays so behind a rule with a lower number that does not fit
later_lowest : {q r : Rule} {R : List Rule} {t : Tree} → (Fits q t → ⊥) → LowestFitting R t r → LowestFitting (q ∷ R) t r
later_lowest {q} {r} {R} {t} misses k = record { listed = Memᴰ.tail k.listed; fits = k.fits; lowest = low }
  where
    low : (p : Rule) → Memᴰ p (q ∷ R) → Fits p t → r.number ≤ p.number
    low p (Memᴰ.head e) f = absurd (misses (subst (λ x. Fits x t) e f))
    low p (Memᴰ.tail m) f = k.lowest p m f

pub fits_matches : {r : Rule} {t : Tree} → Fits r t → matches r.left t ≡ true
fits_matches {r} {t} f = matches_complete r.left t f.substitution f.makes

pub matches_fits : (r : Rule) (t : Tree) → matches r.left t ≡ true → Fits r t
matches_fits r t e = record { substitution = bindings r.left t; makes = matches_sound r.left t e }

abbrev pub NoneFits : List Rule → Tree → Type 0
NoneFits R t = (r : Rule) → Memᴰ r R → Fits r t → ⊥

none_behind : {q : Rule} {R : List Rule} {t : Tree} → (Fits q t → ⊥) → NoneFits R t → NoneFits (q ∷ R) t
none_behind {t} misses k r (Memᴰ.head e) f = misses (subst (λ x. Fits x t) e f)
none_behind misses k r (Memᴰ.tail m) f = k r m f

first_lowest : (q : Rule) (R : List Rule) (t : Tree) → Ascending (q ∷ R) → Fits q t → LowestFitting (q ∷ R) t q
first_lowest q R t a f = record { listed = Memᴰ.head refl; fits = f; lowest = low }
  where
    low : (p : Rule) → Memᴰ p (q ∷ R) → Fits p t → q.number ≤ p.number
    low p (Memᴰ.head e) k = omega (arith, ap (λ (x : Rule). x.number) e)
    low p (Memᴰ.tail m) k = omega (arith, a.0 p m)

pub fitting_lowest : (R : List Rule) → Ascending R → (t : Tree) → MatchOption (fitting R t) (NoneFits R t) (λ r. LowestFitting R t r)
fitting_lowest [] a t = λ r m f. Memᴰ.not-nil m
fitting_lowest (q ∷ R) a t = go (fitting_lowest R a.1 t) (matches q.left t) refl
  where
    behind : (o : Option Rule) → (Fits q t → ⊥) → MatchOption o (NoneFits R t) (λ r. LowestFitting R t r) → MatchOption o (NoneFits (q ∷ R) t) (λ r. LowestFitting (q ∷ R) t r)
    behind None misses k = none_behind misses k
    behind (Some r) misses k = later_lowest misses k

    go : MatchOption (fitting R t) (NoneFits R t) (λ r. LowestFitting R t r) → (b : Bool) → matches q.left t ≡ b
        → MatchOption (elim b as (λ x. Option Rule) [ true ↦ Some q | false ↦ fitting R t ]) (NoneFits (q ∷ R) t) (λ r. LowestFitting (q ∷ R) t r)
    go ih true e = first_lowest q R t a (matches_fits q t e)
    go ih false e = behind (fitting R t) (λ f. true≢false (sym (fits_matches f) ∙ e)) ih
