-- Terms and their preorder lists of places give each other back. Assumes nothing.
use Rattle.std.proofs.Common.{◌≡◌, ℕ, zero, suc, ◌+◌, Bool, true, false, List, [], ◌∷◌, ◌++◌, drop, Some, None, Decides, Option, unwrap_or, sym, refl, ap, ◌∙◌, ap₂, append_assoc, append-nil, add-zero, suc-add, zero-add, arith}
use Rattle.std.proofs.lemmas.Bool.{true≢false}
use Rattle.rewriting.specs.Terms.{Term, var, app, Terms, nilᵗ, consᵗ, countᵗ}
use Rattle.rewriting.specs.Cards.{Signature, TermOn, TermsOn}
use Rattle.rewriting.specs.Places.{Place, Symbol, Variable, places, places_of, all_places, firsts, grow, forest, counts_off, PlacesOf}

abbrev listed : Terms → List Term
listed nilᵗ = []
listed (consᵗ t ts) = t ∷ listed ts

firsts_listed : (ts : Terms) (rest : List Term) → firsts (countᵗ ts) (listed ts ++ rest) ≡ ts
firsts_listed nilᵗ rest = refl
firsts_listed (consᵗ t ts) rest = ap (consᵗ t) (firsts_listed ts rest)

drop_listed : (ts : Terms) (rest : List Term) → drop (countᵗ ts) (listed ts ++ rest) ≡ rest
drop_listed nilᵗ rest = refl
drop_listed (consᵗ t ts) rest = drop_listed ts rest

module _ (Σ : Signature) where
  mutual
    pub forest_of_places : (t : Term) → TermOn Σ t → (ps : List Place) → forest Σ (places t ++ ps) ≡ t ∷ forest Σ ps
    forest_of_places (var v) h ps = refl
    forest_of_places (app f ts) h ps =
        ap (grow Σ (Symbol f)) (forest_of_all ts h.1 ps)
        ∙ rw h.0 (ap₂ (λ x xs. app f x ∷ xs) (firsts_listed ts (forest Σ ps)) (drop_listed ts (forest Σ ps)))

    forest_of_all : (ts : Terms) → TermsOn Σ ts → (ps : List Place) → forest Σ (places_of ts ++ ps) ≡ listed ts ++ forest Σ ps
    forest_of_all nilᵗ h ps = refl
    forest_of_all (consᵗ t ts) h ps =
        ap (forest Σ) (append_assoc (places t) (places_of ts) ps)
        ∙ (forest_of_places t h.0 (places_of ts ++ ps) ∙ ap (λ xs. t ∷ xs) (forest_of_all ts h.1 ps))

places_split : (n : ℕ) (ts : List Term) → places_of (firsts n ts) ++ all_places (drop n ts) ≡ all_places ts
places_split zero ts = refl
places_split (suc n) [] = refl
places_split (suc n) (t ∷ ts) =
    append_assoc (places t) (places_of (firsts n ts)) (all_places (drop n ts)) ∙ ap (λ xs. places t ++ xs) (places_split n ts)

pub places_of_forest : (Σ : Signature) (ps : List Place) → all_places (forest Σ ps) ≡ ps
places_of_forest Σ [] = refl
places_of_forest Σ (Variable v ∷ ps) = ap (λ xs. Variable v ∷ xs) (places_of_forest Σ ps)
places_of_forest Σ (Symbol f ∷ ps) =
    ap (λ xs. Symbol f ∷ xs) (places_split (unwrap_or (Σ f) 0) (forest Σ ps) ∙ places_of_forest Σ ps)

-- terms, the first n of them and the others
record Parted (Σ : Signature) (a n : ℕ) (ps : List Place) : Type 0 where
  pub front : Terms
  pub back : Terms
  pub front_many : countᵗ front ≡ a
  pub back_many : countᵗ back ≡ n
  pub front_on : TermsOn Σ front
  pub back_on : TermsOn Σ back
  pub spelled : places_of front ++ places_of back ≡ ps

part : (Σ : Signature) (a n : ℕ) (ps : List Place) (ts : Terms) → countᵗ ts ≡ a + n → TermsOn Σ ts → places_of ts ≡ ps → Parted Σ a n ps
part Σ zero n ps ts m on e = record { front = nilᵗ; back = ts; front_many = refl; back_many = omega arith; front_on = tt; back_on = on; spelled = e }
part Σ (suc a) n ps nilᵗ m on e = absurd (omega arith)
part Σ (suc a) n ps (consᵗ t ts) m on e =
    let r = part Σ a n (places_of ts) ts (omega arith) on.1 refl in
    record {
      front = consᵗ t r.front;
      back = r.back;
      front_many = ap suc r.front_many;
      back_many = r.back_many;
      front_on = (on.0, r.front_on);
      back_on = r.back_on;
      spelled = append_assoc (places t) (places_of r.front) (places_of r.back) ∙ (ap (λ qs. places t ++ qs) r.spelled ∙ e);
    }

module _ (Σ : Signature) where
  counted_terms : (n : ℕ) (ps : List Place) → counts_off Σ n ps ≡ true → PlacesOf Σ n ps
  counted_terms zero [] h = record { terms = nilᵗ; as_many = refl; on = tt; spelled = refl }
  counted_terms zero (p ∷ ps) h = absurd (true≢false (sym h))
  counted_terms (suc n) [] h = absurd (true≢false (sym h))
  counted_terms (suc n) (Variable v ∷ ps) h =
      let r = counted_terms n ps h in
      record { terms = consᵗ (var v) r.terms; as_many = ap suc r.as_many; on = (tt, r.on); spelled = ap (λ qs. Variable v ∷ qs) r.spelled }
  counted_terms (suc n) (Symbol f ∷ ps) h = go (λ a k. counted_terms (a + n) ps k) (Σ f) refl h
    where
      go : ((a : ℕ) → counts_off Σ (a + n) ps ≡ true → PlacesOf Σ (a + n) ps) → (o : Option ℕ) → Σ f ≡ o
          → elim o as (λ x. Bool) [ None ↦ false | Some a ↦ counts_off Σ (a + n) ps ] ≡ true → PlacesOf Σ (suc n) (Symbol f ∷ ps)
      go rec None e k = absurd (true≢false (sym k))
      go rec (Some a) e k =
          let r = rec a k in
          let q = part Σ a n ps r.terms r.as_many r.on r.spelled in
          record {
            terms = consᵗ (app f q.front) q.back;
            as_many = ap suc q.back_many;
            on = ((e ∙ ap Some (sym q.front_many), q.front_on), q.back_on);
            spelled = ap (λ qs. Symbol f ∷ qs) q.spelled;
          }

  -- the places of some terms are counted off as those terms
  mutual
    pub places_counted : (t : Term) → TermOn Σ t → (n : ℕ) (ps : List Place) → counts_off Σ (suc n) (places t ++ ps) ≡ counts_off Σ n ps
    places_counted (var v) on n ps = refl
    places_counted (app f ts) on n ps =
        rw (on.0, counts_off) (all_places_counted ts on.1 n ps)

    pub all_places_counted : (ts : Terms) → TermsOn Σ ts → (n : ℕ) (ps : List Place) → counts_off Σ (countᵗ ts + n) (places_of ts ++ ps) ≡ counts_off Σ n ps
    all_places_counted nilᵗ on n ps = ap (λ m. counts_off Σ m ps) (zero-add n)
    all_places_counted (consᵗ t ts) on n ps =
        ap₂ (counts_off Σ) (suc-add (countᵗ ts) n) (append_assoc (places t) (places_of ts) ps)
        ∙ (places_counted t on.0 (countᵗ ts + n) (places_of ts ++ ps) ∙ all_places_counted ts on.1 n ps)

  pub counts_off_tells : (n : ℕ) (ps : List Place) → Decides (counts_off Σ n ps) (PlacesOf Σ n ps)
  counts_off_tells n ps = (counted_terms n ps, back)
    where
      back : PlacesOf Σ n ps → counts_off Σ n ps ≡ true
      back r =
          ap₂ (counts_off Σ) (sym r.as_many ∙ sym (add-zero (countᵗ r.terms))) (sym r.spelled ∙ sym (append-nil (places_of r.terms)))
          ∙ all_places_counted r.terms r.on 0 []
