-- Sides: a walk with the number of terms that are due tells whether a side holds a term. Assumes nothing.
use Rattle.std.proofs.Common.{◌≡◌, ℕ, zero, suc, ◌+◌, ◌-◌, ◌<◌, ◌≤◌, Bool, true, false, ◌||◌, eqb, ltb, List, [], ◌∷◌, ◌++◌, map, length, get_or, drop, replicate, Some, None, Decides, Option, sym, refl, ap, ◌∙◌, subst, ap₂, ⊎_elim, append-nil, arith}
use Rattle.std.specs.List.{list_any}
use Rattle.std.specs.Option.{option_eq}
use Rattle.std.proofs.lemmas.List.{at_drop_more, map-append}
use Rattle.std.proofs.lemmas.Bool.{eqb-true, eq-eqb, lt-ltb, ltb-false, ltb-true, or_cases, or_left, or_right, true≢false}
use Rattle.rewriting.specs.Terms.{Term, var, app, Terms, nilᵗ, consᵗ, countᵗ, occurs, occurs_in}
use Rattle.rewriting.specs.Cards.{Signature, TermOn, TermsOn}
use Rattle.rewriting.specs.Places as theory
use Rattle.rewriting.proofs.Reading.{counts_off_tells, forest_of_places, places_counted}
use Rattle.card.specs.declared.record.Place.{Place}
use Rattle.card.specs.declared.record.Place.TheVariants.{Empty, Symbol, Variable}
use Rattle.card.specs.declared.record.SymbolRecord.{SymbolRecord}
use Rattle.card.specs.Records.{arities, first_term, side_places, side_term, SideIs, stored}
use Rattle.card.specs.Scans.{due_after, due_behind, HoldsTerm, mentions, variable_of}

-- PLACES AND VARIABLES

pub mentions_append : (v : ℕ) (xs ys : List Place) → mentions v (xs ++ ys) ≡ (mentions v xs || mentions v ys)
mentions_append v [] ys = refl
mentions_append v (Empty ∷ xs) ys = mentions_append v xs ys
mentions_append v (Symbol f ∷ xs) ys = mentions_append v xs ys
mentions_append v (Variable w ∷ xs) ys = ap (λ b. eqb w v || b) (mentions_append v xs ys) ∙ sym (or_assoc (eqb w v) (mentions v xs) (mentions v ys))
  where
    or_assoc : (a b c : Bool) → ((a || b) || c) ≡ (a || (b || c))
    or_assoc true b c = refl
    or_assoc false b c = refl

mentions_blanks : (v k : ℕ) → mentions v (replicate k Empty) ≡ false
mentions_blanks v zero = refl
mentions_blanks v (suc k) = mentions_blanks v k

or_nothing : (b : Bool) → (b || false) ≡ b
or_nothing true = refl
or_nothing false = refl

mutual
  mentions_places : (v : ℕ) (t : Term) → mentions v (map stored (theory.places t)) ≡ occurs v t
  mentions_places v (var w) = or_nothing (eqb w v)
  mentions_places v (app f ts) = mentions_places_of v ts

  mentions_places_of : (v : ℕ) (ts : Terms) → mentions v (map stored (theory.places_of ts)) ≡ occurs_in v ts
  mentions_places_of v nilᵗ = refl
  mentions_places_of v (consᵗ t ts) =
      ap (mentions v) (map-append stored (theory.places t) (theory.places_of ts))
      ∙ (mentions_append v (map stored (theory.places t)) (map stored (theory.places_of ts))
      ∙ ap₂ ◌||◌ (mentions_places v t) (mentions_places_of v ts))

-- a side that holds a term mentions just the variables that occur in it
mentions_held : (v : ℕ) (side : List Place) (t : Term) (k : ℕ)
    → side ≡ map stored (theory.places t) ++ replicate k Empty → mentions v side ≡ occurs v t
mentions_held v side t k e =
    ap (mentions v) e
    ∙ (mentions_append v (map stored (theory.places t)) (replicate k Empty)
    ∙ (ap₂ ◌||◌ (mentions_places v t) (mentions_blanks v k) ∙ or_nothing (occurs v t)))

pub mentions_side : {Σ : Signature} {side : List Place} {t : Term} → SideIs Σ side t → (v : ℕ) → mentions v side ≡ occurs v t
mentions_side {Σ} {side} {t} s v = mentions_held v side t (32 - length (theory.places t)) s.holds

-- THE WALK

-- whether the places of n terms stand here, and empty ones behind them
abbrev pub walk : Signature → ℕ → List Place → Bool
walk Σ n [] = eqb n 0
walk Σ n (p ∷ ps) = elim (due_after Σ n p) [ None ↦ false | Some m ↦ walk Σ m ps ]

record Walked (Σ : Signature) (n : ℕ) (ps : List Place) : Type 0 where
  pub counted : theory.counts_off Σ n (side_places ps) ≡ true
  pub fits : length (side_places ps) ≤ length ps
  pub split : ps ≡ map stored (side_places ps) ++ replicate (length ps - length (side_places ps)) Empty
  pub small : (v : ℕ) → mentions v ps ≡ true → v < 8

module _ (Σ : Signature) where
  blanks : (ps : List Place) → walk Σ 0 ps ≡ true → ps ≡ replicate (length ps) Empty
  blanks [] h = refl
  blanks (Empty ∷ ps) h = ap (λ xs. Empty ∷ xs) (blanks ps h)
  blanks (Symbol f ∷ ps) h = absurd (true≢false (sym h))
  blanks (Variable v ∷ ps) h = absurd (true≢false (sym h))

  walked : (n : ℕ) (ps : List Place) → walk Σ n ps ≡ true → Walked Σ n ps
  walked zero [] h = record { counted = refl; fits = omega arith; split = refl; small = λ v k. absurd (true≢false (sym k)) }
  walked (suc n) [] h = absurd (omega (arith, eqb-true (suc n) 0 h))
  walked zero (Empty ∷ ps) h =
      let e = blanks ps h in
      let n : suc (length ps) ≡ suc (length ps) - 0 = omega arith in
      record {
        counted = refl;
        fits = omega arith;
        split = ap (λ xs. Empty ∷ xs) e ∙ ap (λ m. replicate m Empty) n;
        small = λ v k. absurd (true≢false (sym k ∙ (ap (mentions v) e ∙ mentions_blanks v (length ps))));
      }
  walked zero (Symbol f ∷ ps) h = absurd (true≢false (sym h))
  walked zero (Variable v ∷ ps) h = absurd (true≢false (sym h))
  walked (suc n) (Empty ∷ ps) h = absurd (true≢false (sym h))
  walked (suc n) (Symbol f ∷ ps) h = go (λ a. walked (a + n) ps) (Σ f) refl h
    where
      go : ((a : ℕ) → walk Σ (a + n) ps ≡ true → Walked Σ (a + n) ps) → (o : Option ℕ) → Σ f ≡ o
          → elim (elim o as (λ x. Option ℕ) [ None ↦ None | Some a ↦ Some (a + n) ]) as (λ x. Bool) [ None ↦ false | Some m ↦ walk Σ m ps ] ≡ true
          → Walked Σ (suc n) (Symbol f ∷ ps)
      go rec None e k = absurd (true≢false (sym k))
      go rec (Some a) e k =
          let r = rec a k in
          let m : length ps - length (side_places ps) ≡ suc (length ps) - suc (length (side_places ps)) = omega arith in
          record {
            counted = ap (λ o. elim o as (λ x. Bool) [ None ↦ false | Some b ↦ theory.counts_off Σ (b + n) (side_places ps) ]) e ∙ r.counted;
            fits = omega (arith, r.fits);
            split = ap (λ xs. Symbol f ∷ xs) (r.split ∙ ap (λ j. map stored (side_places ps) ++ replicate j Empty) m);
            small = r.small;
          }
  walked (suc n) (Variable v ∷ ps) h = go (walked n ps) (ltb v 8) refl h
    where
      go : (walk Σ n ps ≡ true → Walked Σ n ps) → (t : Bool) → ltb v 8 ≡ t
          → elim (elim t as (λ x. Option ℕ) [ true ↦ Some n | false ↦ None ]) as (λ x. Bool) [ None ↦ false | Some m ↦ walk Σ m ps ] ≡ true
          → Walked Σ (suc n) (Variable v ∷ ps)
      go rec false e k = absurd (true≢false (sym k))
      go rec true e k =
          let r = rec k in
          let m : length ps - length (side_places ps) ≡ suc (length ps) - suc (length (side_places ps)) = omega arith in
          record {
            counted = r.counted;
            fits = omega (arith, r.fits);
            split = ap (λ xs. Variable v ∷ xs) (r.split ∙ ap (λ j. map stored (side_places ps) ++ replicate j Empty) m);
            small = λ w q. ⊎_elim (λ b. subst (λ x. x < 8) (eqb-true v w b) (ltb-true v 8 e)) (r.small w) (or_cases (eqb v w) (mentions w ps) q);
          }

  blanks_pass : (k : ℕ) → walk Σ 0 (replicate k Empty) ≡ true
  blanks_pass zero = refl
  blanks_pass (suc k) = blanks_pass k

  places_pass : (n : ℕ) (qs : List theory.Place) (k : ℕ) → theory.counts_off Σ n qs ≡ true
      → ((v : ℕ) → mentions v (map stored qs) ≡ true → v < 8) → walk Σ n (map stored qs ++ replicate k Empty) ≡ true
  places_pass zero [] k c small = blanks_pass k
  places_pass zero (q ∷ qs) k c small = absurd (true≢false (sym c))
  places_pass (suc n) [] k c small = absurd (true≢false (sym c))
  places_pass (suc n) (theory.Symbol f ∷ qs) k c small = go (λ a h. places_pass (a + n) qs k h small) (Σ f) c
    where
      go : ((a : ℕ) → theory.counts_off Σ (a + n) qs ≡ true → walk Σ (a + n) (map stored qs ++ replicate k Empty) ≡ true)
          → (o : Option ℕ)
          → elim o as (λ x. Bool) [ None ↦ false | Some a ↦ theory.counts_off Σ (a + n) qs ] ≡ true
          → elim (elim o as (λ x. Option ℕ) [ None ↦ None | Some a ↦ Some (a + n) ]) as (λ x. Bool) [ None ↦ false | Some m ↦ walk Σ m (map stored qs ++ replicate k Empty) ] ≡ true
      go rec None h = h
      go rec (Some a) h = rec a h
  places_pass (suc n) (theory.Variable v ∷ qs) k c small =
      let rest = map stored qs ++ replicate k Empty in
      ap (λ t. elim (elim t as (λ x. Option ℕ) [ true ↦ Some n | false ↦ None ]) as (λ x. Bool) [ None ↦ false | Some m ↦ walk Σ m rest ])
      (lt-ltb v 8 (small v (or_left (eqb v v) (mentions v (map stored qs)) (eq-eqb v v refl))))
      ∙ places_pass n qs k c (λ w h. small w (or_right (eqb v w) (mentions w (map stored qs)) h))

  -- THE TERM OF A SIDE

  record OneTerm (qs : List theory.Place) : Type 0 where
    pub term : Term
    pub on : TermOn Σ term
    pub spelled : theory.places term ≡ qs

  one_term : (qs : List theory.Place) (ts : Terms) → countᵗ ts ≡ 1 → TermsOn Σ ts → theory.places_of ts ≡ qs → OneTerm qs
  one_term qs nilᵗ m on e = absurd (omega arith)
  one_term qs (consᵗ t nilᵗ) m on e = record { term = t; on = on.0; spelled = sym (append-nil (theory.places t)) ∙ e }
  one_term qs (consᵗ t (consᵗ u us)) m on e = absurd (omega arith)

  side_from : (side : List Place) → length side ≡ 32 → walk Σ 1 side ≡ true → HoldsTerm Σ side
  side_from side long h =
      let w = walked 1 side h in
      let p = (counts_off_tells Σ 1 (side_places side)).0 w.counted in
      let o = one_term (side_places side) p.terms p.as_many p.on p.spelled in
      let holds : side ≡ map stored (theory.places o.term) ++ replicate (32 - length (theory.places o.term)) Empty =
      w.split ∙ ap₂ (λ n qs. map stored qs ++ replicate (n - length qs) Empty) long (sym o.spelled) in
      let fits = w.fits in
      record {
        term = o.term;
        is = record {
          on = o.on;
          few_places = omega (arith, ap length o.spelled);
          holds = holds;
          eight_variables = λ v k. w.small v (mentions_held v side o.term (32 - length (theory.places o.term)) holds ∙ k);
        };
      }

  side_passes : (side : List Place) → HoldsTerm Σ side → walk Σ 1 side ≡ true
  side_passes side s =
      let t = s.term in
      let counted = ap (theory.counts_off Σ 1) (sym (append-nil (theory.places t))) ∙ places_counted Σ t s.is.on 0 [] in
      ap (walk Σ 1) s.is.holds
      ∙ places_pass 1 (theory.places t) (32 - length (theory.places t)) counted
      (λ v k. s.is.eight_variables v (sym (mentions_places v t) ∙ k))

  pub side_told : (side : List Place) → length side ≡ 32 → Decides (walk Σ 1 side) (HoldsTerm Σ side)
  side_told side long = (side_from side long, side_passes side)

places_back : (qs : List theory.Place) (k : ℕ) → side_places (map stored qs ++ replicate k Empty) ≡ qs
places_back [] zero = refl
places_back [] (suc k) = refl
places_back (theory.Symbol f ∷ qs) k = ap (λ xs. theory.Symbol f ∷ xs) (places_back qs k)
places_back (theory.Variable v ∷ qs) k = ap (λ xs. theory.Variable v ∷ xs) (places_back qs k)

pub side_holds_one_term : (Σ : Signature) (side : List Place) (t : Term) → SideIs Σ side t → t ≡ side_term Σ side
side_holds_one_term Σ side t s =
    let read = ap side_places s.holds ∙ (places_back (theory.places t) (32 - length (theory.places t)) ∙ sym (append-nil (theory.places t))) in
    sym (ap (λ qs. first_term (theory.forest Σ qs)) read ∙ ap first_term (forest_of_places Σ t s.on []))

-- THE WALK'S STEPS

pub arity_known : (ss : List SymbolRecord) (f : ℕ) (d : SymbolRecord) → f < length ss
    → arities ss f ≡ Some (get_or ss f d).arity
arity_known [] f d h = absurd (omega arith)
arity_known (s ∷ ss) zero d h = refl
arity_known (s ∷ ss) (suc f) d h = arity_known ss f d (omega arith)

pub arity_lacking : (ss : List SymbolRecord) (f : ℕ) → length ss ≤ f → arities ss f ≡ None
arity_lacking [] f h = refl
arity_lacking (s ∷ ss) zero h = absurd (omega arith)
arity_lacking (s ∷ ss) (suc f) h = arity_lacking ss f (omega arith)

pub arity_found : (ss : List SymbolRecord) (f : ℕ) (s : SymbolRecord) → true ≡ ltb f (length ss) → s ≡ get_or ss f s
    → arities ss f ≡ Some s.arity
arity_found ss f s inside there =
    arity_known ss f s (ltb-true f (length ss) (sym inside)) ∙ ap (λ r. Some r.arity) (sym there)

pub arity_not_found : (ss : List SymbolRecord) (f : ℕ) → false ≡ ltb f (length ss) → arities ss f ≡ None
arity_not_found ss f outside = arity_lacking ss f (ltb-false f (length ss) (sym outside))

module _ (Σ : Signature) where
  pub due_after_known : (n f a : ℕ) → 0 < n → Σ f ≡ Some a → due_after Σ n (Symbol f) ≡ Some (a + (n - 1))
  due_after_known zero f a h e = absurd (omega arith)
  due_after_known (suc n) f a h e =
      let m : a + n ≡ a + (suc n - 1) = omega arith in
      ap (λ o. elim o as (λ x. Option ℕ) [ None ↦ None | Some b ↦ Some (b + n) ]) e ∙ ap Some m

  pub due_after_lacking : (n f : ℕ) → Σ f ≡ None → due_after Σ n (Symbol f) ≡ None
  due_after_lacking zero f e = refl
  due_after_lacking (suc n) f e = ap (λ o. elim o as (λ x. Option ℕ) [ None ↦ None | Some b ↦ Some (b + n) ]) e

  pub went_on : (side : List Place) (i n : ℕ) (d : Place) (o : Option ℕ) → i < length side
      → o ≡ due_after Σ n (get_or side i d)
      → due_behind Σ n (drop i side) ≡ elim o as (λ x. Option ℕ) [ None ↦ None | Some m ↦ due_behind Σ m (drop (i + 1) side) ]
  went_on side i n d o more e =
      at_drop_more (due_behind Σ n) side i d more
      ∙ ap (λ x. elim x as (λ y. Option ℕ) [ None ↦ None | Some m ↦ due_behind Σ m (drop (i + 1) side) ]) (sym e)

  -- none is due behind a side exactly if the walk ends well
  pub walk_told : (n : ℕ) (ps : List Place) → option_eq eqb (due_behind Σ n ps) (Some 0) ≡ walk Σ n ps
  walk_told n [] = refl
  walk_told n (p ∷ ps) = go (due_after Σ n p) (λ m. walk_told m ps)
    where
      go : (o : Option ℕ) → ((m : ℕ) → option_eq eqb (due_behind Σ m ps) (Some 0) ≡ walk Σ m ps)
          → option_eq eqb (elim o as (λ x. Option ℕ) [ None ↦ None | Some m ↦ due_behind Σ m ps ]) (Some 0)
          ≡ elim o as (λ x. Bool) [ None ↦ false | Some m ↦ walk Σ m ps ]
      go None rec = refl
      go (Some m) rec = rec m

pub mentions_any : (v : ℕ) (side : List Place) → mentions v side ≡ list_any (λ p. option_eq eqb (variable_of p) (Some v)) side
mentions_any v [] = refl
mentions_any v (Empty ∷ ps) = mentions_any v ps
mentions_any v (Symbol f ∷ ps) = mentions_any v ps
mentions_any v (Variable w ∷ ps) = ap (λ b. eqb w v || b) (mentions_any v ps)
