-- The first site that passes a test, and why the sites of a tree always have an outer one. Assumes nothing.
use Rattle.std.proofs.Common.{◌≡◌, ℕ, zero, suc, ◌+◌, ◌<◌, ◌≤◌, Bool, true, false, List, [], ◌∷◌, length, get_or, is_some, Some, None, Option, unwrap_or, sym, refl, ap, ◌∙◌, subst, ⊎_elim, arith}
use mathlib.Core.List.Memᴰ
use mathlib.Core.List.{Memᴰ}
use Rattle.std.proofs.lemmas.Bool.{cases_lt, true≢false}
use Rattle.rewriting.specs.Terms.{Tree, size}
use Rattle.rewriting.specs.Cards.{Card, WellFormed}
use Rattle.rewriting.specs.Sites.{Site, sites, redexes, IsSite, Outer}
use Rattle.rewriting.specs.Runs.{Chooses, first_from, outermost, chosen}
use Rattle.rewriting.proofs.Members.{mem_place}
use Rattle.rewriting.proofs.Walking.{proper_size}
use Rattle.rewriting.proofs.Redexes.{redexes_are_sites}
use Rattle.rewriting.proofs.Listing.{sites_listed, no_site_no_redex}

-- a place of the list whose site passes, counted from i
pub record PassesAt (p : Site → Bool) (d : Site) (i : ℕ) (ks : List Site) (j : ℕ) : Type 0 where
  pub offset : ℕ
  pub is : j ≡ i + offset
  pub inside : offset < length ks
  pub passes : p (get_or ks offset d) ≡ true

module _ (p : Site → Bool) (d : Site) where
  pub first_found : (i : ℕ) (ks : List Site) (j : ℕ) → first_from p i ks ≡ Some j → PassesAt p d i ks j
  first_found i [] j e = let z : ◌≡◌ {A = ℕ} 0 1 = cc in absurd (omega arith)
  first_found i (k ∷ ks) j e = go (first_found (suc i) ks j) (p k) refl e
    where
      go : (first_from p (suc i) ks ≡ Some j → PassesAt p d (suc i) ks j) → (b : Bool) → p k ≡ b
          → elim b as (λ z. Option ℕ) [ true ↦ Some i | false ↦ first_from p (suc i) ks ] ≡ Some j → PassesAt p d i (k ∷ ks) j
      go rec true h q = let s : i ≡ j = cc in record { offset = 0; is = omega arith; inside = omega arith; passes = h }
      go rec false h q =
          let r = rec q in
          record { offset = suc r.offset; is = omega (arith, r.is); inside = omega (arith, r.inside); passes = r.passes }

  pub some_passes : (i : ℕ) (ks : List Site) (j : ℕ) → j < length ks → p (get_or ks j d) ≡ true → is_some (first_from p i ks) ≡ true
  some_passes i [] j h e = absurd (omega arith)
  some_passes i (k ∷ ks) j h e = go (some_passes (suc i) ks) (p k) refl j h e
    where
      go : ((j : ℕ) → j < length ks → p (get_or ks j d) ≡ true → is_some (first_from p (suc i) ks) ≡ true) → (b : Bool) → p k ≡ b
          → (j : ℕ) → j < length (k ∷ ks) → p (get_or (k ∷ ks) j d) ≡ true
          → is_some (elim b as (λ z. Option ℕ) [ true ↦ Some i | false ↦ first_from p (suc i) ks ]) ≡ true
      go rec true h j l e = refl
      go rec false h zero l e = absurd (true≢false (sym e ∙ h))
      go rec false h (suc j) l e = rec j (omega arith) e

  -- a place of every list that is not empty
  pub first_below : (ks : List Site) → 0 < length ks → unwrap_or (first_from p 0 ks) 0 < length ks
  first_below ks h = go (first_from p 0 ks) refl
    where
      go : (o : Option ℕ) → first_from p 0 ks ≡ o → unwrap_or o 0 < length ks
      go None e = h
      go (Some j) e = let r = first_found 0 ks j e in omega (arith, r.is, r.inside)

  pub first_passes : (ks : List Site) (j : ℕ) → j < length ks → p (get_or ks j d) ≡ true → p (get_or ks (unwrap_or (first_from p 0 ks) 0) d) ≡ true
  first_passes ks j h e = go (first_from p 0 ks) refl
    where
      go : (o : Option ℕ) → first_from p 0 ks ≡ o → p (get_or ks (unwrap_or o 0) d) ≡ true
      go None q = absurd (true≢false (sym (some_passes 0 ks j h e) ∙ ap is_some q))
      go (Some k) q =
          let r = first_found 0 ks k q in
          subst (λ n. p (get_or ks n d) ≡ true) (omega (arith, r.is)) r.passes

-- what a read past a list's end gives
abbrev blank : Site
blank = record { number = 0; rule = 0; outer = false; inner = false }

pub outermost_chooses : Chooses outermost
outermost_chooses ks h = first_below (λ k. k.outer) blank ks h

-- a tree of a list with as many places as any other has
record Largest (xs : List Tree) : Type 0 where
  pub tree : Tree
  pub listed : Memᴰ tree xs
  pub largest : (y : Tree) → Memᴰ y xs → size y ≤ size tree

largest : (x : Tree) (xs : List Tree) → Largest (x ∷ xs)
largest x [] =
    record {
      tree = x;
      listed = Memᴰ.head refl;
      largest = λ y m. ⊎_elim (λ e. omega (arith, ap size e)) (λ k. absurd (Memᴰ.not-nil k)) (Memᴰ.cases_cons m);
    }
largest x (z ∷ zs) =
    let r = largest z zs in
    ⊎_elim
    (λ l. record {
      tree = r.tree;
      listed = Memᴰ.tail r.listed;
      largest = λ y m. ⊎_elim (λ e. omega (arith, ap size e)) (r.largest y) (Memᴰ.cases_cons m);
    })
    (λ g. record {
      tree = x;
      listed = Memᴰ.head refl;
      largest = λ y m. ⊎_elim (λ e. omega (arith, ap size e)) (λ k. omega (arith, r.largest y k)) (Memᴰ.cases_cons m);
    })
    (cases_lt (size x) (size r.tree))

module _ (C : Card) (w : WellFormed C) (t : Tree) where
  -- a largest redex is a proper subterm of no other
  largest_outer : (k : Largest (redexes C t)) → Outer C t k.tree
  largest_outer k r s q = omega (arith, proper_size k.tree r q, k.largest r ((redexes_are_sites C w t r).0 s))

  some_largest : (sites C t ≡ [] → ⊥) → Largest (redexes C t)
  some_largest ne = go (redexes C t) refl
    where
      go : (xs : List Tree) → redexes C t ≡ xs → Largest xs
      go [] e = absurd (ne ((no_site_no_redex C t).1 e))
      go (x ∷ xs) e = largest x xs

  pub outermost_is_outer : (sites C t ≡ [] → ⊥) → IsSite C t (chosen C outermost t) × Outer C t (chosen C outermost t)
  outermost_is_outer ne =
      let l = sites_listed C w t in
      let d : Site = blank in
      let k = some_largest ne in
      let m = mem_place t k.listed in
      let i : m.0 < length (sites C t) = omega (arith, m.1, l.as_many) in
      let marked = (l.described d m.0 i).outer_is.1 (subst (Outer C t) (sym m.2) (largest_outer k)) in
      let s = l.described d (outermost (sites C t)) (outermost_chooses (sites C t) (omega arith)) in
      (s.is_site, s.outer_is.0 (first_passes (λ k. k.outer) d (sites C t) m.0 i marked))
