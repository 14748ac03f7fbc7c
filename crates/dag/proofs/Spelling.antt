-- Terms by their places, read from the last to the first: each tree on the way is a subterm of the term's tree. Assumes nothing.
use Rattle.std.proofs.Common.{◌≡◌, ℕ, zero, suc, ◌+◌, ◌<◌, ◌≤◌, Bool, true, false, ◌⊎◌, List, [], ◌∷◌, map, length, get_or, take, drop, Some, None, Option, unwrap_or, sym, refl, ap, ◌∙◌, subst, ap₂, inl, inr, ⊎_elim, append-nil, arith}
use mathlib.Core.List.Memᴰ
use mathlib.Core.List.{Memᴰ}
use Rattle.std.proofs.lemmas.List.{drop-map, length-drop}
use Rattle.std.proofs.lemmas.Bool.{eq-eqb, or_left, or_right, true≢false}
use Rattle.rewriting.specs.Cards.{Signature, TermOn}
use Rattle.rewriting.specs.Places.{counts_off, firsts, forest, grow, Place, places, places_of, Symbol, Variable}
use Rattle.rewriting.specs.Subterms.{below, in_first, in_rest, self, Subterm, SubtermIn}
use Rattle.rewriting.specs.Terms.{app, applies, apply, cons, consᵗ, nilᵗ, node, occurs, occurs_in, Substitution, Term, Terms, Tree, Trees, var}
use Rattle.rewriting.proofs.Reading.{forest_of_places, places_counted}
use Rattle.card.specs.Records.{first_term, side_places, stored}
use Rattle.dag.specs.Places.{place_tree, PlacesSpellOneTerm, taken}
use Rattle.dag.specs.Trees.{from_list}

-- SUBTERMS OF SUBTERMS

mutual
  pub subterm_trans : {s t u : Tree} → Subterm s t → Subterm t u → Subterm s u
  subterm_trans {s} {t} {u} p (self e) = subst (Subterm s) e p
  subterm_trans p (below q) = below (in_trans p q)

  in_trans : {s t : Tree} {us : Trees} → Subterm s t → SubtermIn t us → SubtermIn s us
  in_trans p (in_first q) = in_first (subterm_trans p q)
  in_trans p (in_rest q) = in_rest (in_trans p q)

-- the places of a term make the term
pub all_read : (Σ : Signature) (t : Term) → TermOn Σ t → forest Σ (places t) ≡ t ∷ []
all_read Σ t on = ap (forest Σ) (sym (append-nil (places t))) ∙ forest_of_places Σ t on []

-- ONE PLACE MORE

module _ (σ : Substitution) where
  applies_firsts : (a : ℕ) (ts : List Term) → applies σ (firsts a ts) ≡ from_list (take a (map (apply σ) ts))
  applies_firsts zero ts = refl
  applies_firsts (suc a) [] = refl
  applies_firsts (suc a) (t ∷ ts) = ap (cons (apply σ t)) (applies_firsts a ts)

  -- what a place puts on the stack, and what it takes away
  pub grown_trees : (Σ : Signature) (p : Place) (ts : List Term)
      → map (apply σ) (grow Σ p ts) ≡ place_tree Σ σ (stored p) (map (apply σ) ts) ∷ drop (taken Σ (stored p)) (map (apply σ) ts)
  grown_trees Σ (Symbol f) ts = ap₂ (λ us xs. node f us ∷ xs) (applies_firsts (unwrap_or (Σ f) 0) ts) (sym (drop-map (apply σ) (unwrap_or (Σ f) 0) ts))
  grown_trees Σ (Variable v) ts = refl

  -- a tree on the stack is taken as a child, or stays
  taken_or_stays : (a : ℕ) (ts : List Term) (u : Tree) → Memᴰ u (map (apply σ) ts) → SubtermIn u (applies σ (firsts a ts)) ⊎ Memᴰ u (map (apply σ) (drop a ts))
  taken_or_stays zero ts u m = inr m
  taken_or_stays (suc a) [] u m = inr m
  taken_or_stays (suc a) (t ∷ ts) u m =
      ⊎_elim (λ e. inl (in_first (self e))) (λ k. ⊎_elim (λ s. inl (in_rest s)) inr (taken_or_stays a ts u k)) (Memᴰ.cases_cons m)

  -- a tree that has another as a subterm
  record Around (u : Tree) (xs : List Tree) : Type 0 where
    pub tree : Tree
    pub there : Memᴰ tree xs
    pub within : Subterm u tree

  around_more : (Σ : Signature) (p : Place) (ts : List Term) (u : Tree) → Memᴰ u (map (apply σ) ts) → Around u (map (apply σ) (grow Σ p ts))
  around_more Σ (Variable v) ts u m = record { tree = u; there = Memᴰ.tail m; within = self refl }
  around_more Σ (Symbol f) ts u m =
      ⊎_elim (λ s. record { tree = node f (applies σ (firsts (unwrap_or (Σ f) 0) ts)); there = Memᴰ.head refl; within = below s })
      (λ k. record { tree = u; there = Memᴰ.tail k; within = self refl }) (taken_or_stays (unwrap_or (Σ f) 0) ts u m)

  around : (Σ : Signature) (ps : List Place) (i : ℕ) (u : Tree) → Memᴰ u (map (apply σ) (forest Σ (drop i ps))) → Around u (map (apply σ) (forest Σ ps))
  around Σ ps zero u m = record { tree = u; there = m; within = self refl }
  around Σ [] (suc i) u m = record { tree = u; there = m; within = self refl }
  around Σ (p ∷ ps) (suc i) u m =
      let a = around Σ ps i u m in
      let b = around_more Σ p (forest Σ ps) a.tree a.there in
      record { tree = b.tree; there = b.there; within = subterm_trans a.within b.within }

  -- each tree on the stack is a subterm of the tree that is being built
  pub stack_within : (Σ : Signature) (t : Term) → TermOn Σ t → (i : ℕ) (u : Tree) → Memᴰ u (map (apply σ) (forest Σ (drop i (places t)))) → Subterm u (apply σ t)
  stack_within Σ t on i u m =
      let a = around Σ (places t) i u m in
      let k = subst (λ ts. Memᴰ a.tree (map (apply σ) ts)) (all_read Σ t on) a.there in
      subst (Subterm u) (Memᴰ.eq_of_singleton k) a.within

-- ENOUGH TERMS FOR EACH SYMBOL

module _ (Σ : Signature) where
  counted_length : (n : ℕ) (ps : List Place) → counts_off Σ n ps ≡ true → length (forest Σ ps) ≡ n
  counted_length zero [] h = refl
  counted_length zero (p ∷ ps) h = absurd (true≢false (sym h))
  counted_length (suc n) [] h = absurd (true≢false (sym h))
  counted_length (suc n) (Variable v ∷ ps) h = ap suc (counted_length n ps h)
  counted_length (suc n) (Symbol f ∷ ps) h = go (λ a. counted_length (a + n) ps) (Σ f) refl h
    where
      go : ((a : ℕ) → counts_off Σ (a + n) ps ≡ true → length (forest Σ ps) ≡ a + n) → (o : Option ℕ) → Σ f ≡ o
          → elim o as (λ x. Bool) [ None ↦ false | Some a ↦ counts_off Σ (a + n) ps ] ≡ true → suc (length (drop (unwrap_or (Σ f) 0) (forest Σ ps))) ≡ suc n
      go rec None e k = absurd (true≢false (sym k))
      go rec (Some a) e k =
          let v : unwrap_or (Σ f) 0 ≡ a = ap (λ o. unwrap_or o 0) e in
          omega (arith, length-drop (unwrap_or (Σ f) 0) (forest Σ ps), rec a k)

  -- a symbol of the signature with enough trees behind it, or a variable
  abbrev pub Supplied : Place → ℕ → Type 0
  Supplied (Symbol f) many = (a : ℕ) × (Σ f ≡ Some a) × (a ≤ many)
  Supplied (Variable v) many = Unit {0}

  -- the first place of some terms, and the others
  record Parted (p : Place) (ps : List Place) : Type 0 where
    pub supplied : Supplied p (length (forest Σ ps))
    pub due : ℕ
    pub counted : counts_off Σ due ps ≡ true

  parted : (n : ℕ) (p : Place) (ps : List Place) → counts_off Σ n (p ∷ ps) ≡ true → Parted p ps
  parted zero p ps h = absurd (true≢false (sym h))
  parted (suc n) (Variable v) ps h = record { supplied = tt; due = n; counted = h }
  parted (suc n) (Symbol f) ps h = go (Σ f) refl h
    where
      go : (o : Option ℕ) → Σ f ≡ o → elim o as (λ x. Bool) [ None ↦ false | Some a ↦ counts_off Σ (a + n) ps ] ≡ true → Parted (Symbol f) ps
      go None e k = absurd (true≢false (sym k))
      go (Some a) e k = record { supplied = (a, e, omega (arith, counted_length (a + n) ps k)); due = a + n; counted = k }

  supplied_at : (n : ℕ) (ps : List Place) → counts_off Σ n ps ≡ true → (i : ℕ) (d : Place) → i < length ps → Supplied (get_or ps i d) (length (forest Σ (drop (suc i) ps)))
  supplied_at n [] h i d l = absurd (omega arith)
  supplied_at n (p ∷ ps) h zero d l = (parted n p ps h).supplied
  supplied_at n (p ∷ ps) h (suc i) d l = supplied_at (parted n p ps h).due ps (parted n p ps h).counted i d (omega arith)

  pub term_supplied : (t : Term) → TermOn Σ t → (i : ℕ) (d : Place) → i < length (places t) → Supplied (get_or (places t) i d) (length (forest Σ (drop (suc i) (places t))))
  term_supplied t on i d l =
      supplied_at 1 (places t) (ap (counts_off Σ 1) (sym (append-nil (places t))) ∙ places_counted Σ t on 0 []) i d l

-- THE VARIABLES OF A TERM ARE THOSE AMONG ITS PLACES

mutual
  pub variable_occurs : (v : ℕ) (t : Term) → Memᴰ (Variable v) (places t) → occurs v t ≡ true
  variable_occurs v (var w) m = let e = Memᴰ.eq_of_singleton m in let q : w ≡ v = cc in eq-eqb w v q
  variable_occurs v (app f ts) m =
      ⊎_elim (λ e. let z : ◌≡◌ {A = ℕ} 0 1 = cc in absurd (omega arith)) (λ k. variable_occurs_in v ts k) (Memᴰ.cases_cons m)

  variable_occurs_in : (v : ℕ) (ts : Terms) → Memᴰ (Variable v) (places_of ts) → occurs_in v ts ≡ true
  variable_occurs_in v nilᵗ m = absurd (Memᴰ.not-nil m)
  variable_occurs_in v (consᵗ t ts) m =
      ⊎_elim (λ k. or_left (occurs v t) (occurs_in v ts) (variable_occurs v t k)) (λ k. or_right (occurs v t) (occurs_in v ts) (variable_occurs_in v ts k))
      (Memᴰ.append_cases (places t) m)

pub place_there : (ps : List Place) (i : ℕ) (d : Place) → i < length ps → Memᴰ (get_or ps i d) ps
place_there [] i d h = absurd (omega arith)
place_there (p ∷ ps) zero d h = Memᴰ.head refl
place_there (p ∷ ps) (suc i) d h = Memᴰ.tail (place_there ps i d (omega arith))

-- A LIST OF PLACES SPELLS ONE TERM

places_back : (ps : List Place) → side_places (map stored ps) ≡ ps
places_back [] = refl
places_back (Symbol f ∷ ps) = ap (λ xs. Symbol f ∷ xs) (places_back ps)
places_back (Variable v ∷ ps) = ap (λ xs. Variable v ∷ xs) (places_back ps)

pub one_term_spelled : PlacesSpellOneTerm
one_term_spelled Σ ps t s =
    ap (λ xs. first_term (forest Σ xs)) (ap side_places s.spelled ∙ places_back (places t)) ∙ ap first_term (all_read Σ t s.on)
