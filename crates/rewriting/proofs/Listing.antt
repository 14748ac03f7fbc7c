-- The list of site records: each describes the redex at its place, and numbers ascend. Assumes nothing.
use Rattle.std.proofs.Common.{◌≡◌, ℕ, zero, suc, ◌+◌, ◌<◌, ◌≤◌, Bool, true, false, not, ◌↔◌, List, [], ◌∷◌, length, get_or, Decides, sym, refl, ap, ◌∙◌, subst, arith}
use mathlib.Core.List.Memᴰ
use Rattle.std.proofs.lemmas.Bool.Decides.{Decides-not, Decides-like}
use Rattle.rewriting.specs.Terms.{Tree, node, nil}
use Rattle.rewriting.specs.Cards.{Card, OnCard, WellFormed}
use Rattle.rewriting.specs.Steps.{NormalForm}
use Rattle.rewriting.specs.Subterms.{Proper, subterms}
use Rattle.rewriting.specs.Sites.{Site, redex, rule_number, keep, any, proper, redexes, site, sites_from, sites, IsSite, Outer, Inner, Describes, SitesListed}
use Rattle.rewriting.proofs.Members.{place_mem}
use Rattle.rewriting.proofs.Walking.{subterms_list}
use Rattle.rewriting.proofs.Redexes.{keep_mem, any_decides, proper_decides, redex_rule, redexes_are_sites, no_redex_normal}

module _ (C : Card) (all : List Tree) where
  pub sites_length : (n : ℕ) (xs : List Tree) → length (sites_from C all n xs) ≡ length (keep (redex C) xs)
  sites_length n [] = refl
  sites_length n (x ∷ xs) = go (sites_length (suc n) xs) (redex C x) refl
    where
      go : length (sites_from C all (suc n) xs) ≡ length (keep (redex C) xs) → (b : Bool) → redex C x ≡ b
          → length (sites_from C all n (x ∷ xs)) ≡ length (keep (redex C) (x ∷ xs))
      go ih true e = rw (e, sites_from, keep) (ap suc ih)
      go ih false e = rw (e, sites_from, keep) ih

  -- a record and the tree that it is of, somewhere in a list whose first tree has the number n
  record Entry (n : ℕ) (t : Tree) (xs : List Tree) (k : Site) (s : Tree) : Type 0 where
    pub place : ℕ
    pub inside : place < length xs
    pub there : get_or xs place t ≡ s
    pub is : k ≡ site C all (n + place) s

  shift : {n : ℕ} {t x : Tree} {xs : List Tree} {k : Site} {s : Tree} → Entry (suc n) t xs k s → Entry n t (x ∷ xs) k s
  shift {n} {s = s} r =
      record {
        place = suc r.place;
        inside = omega (arith, r.inside);
        there = r.there;
        is = r.is ∙ ap (λ m. site C all m s) (omega arith);
      }

  entry : (d : Site) (t : Tree) (n : ℕ) (xs : List Tree) (i : ℕ) → i < length (sites_from C all n xs)
      → Entry n t xs (get_or (sites_from C all n xs) i d) (get_or (keep (redex C) xs) i t)
  entry d t n [] i h = absurd (omega arith)
  entry d t n (x ∷ xs) i h = go (λ j k. entry d t (suc n) xs j k) (redex C x) i h
    where
      go : ((j : ℕ) → j < length (sites_from C all (suc n) xs) → Entry (suc n) t xs (get_or (sites_from C all (suc n) xs) j d) (get_or (keep (redex C) xs) j t))
          → (b : Bool) (j : ℕ) → j < length (elim b as (λ z. List Site) [ true ↦ site C all n x ∷ sites_from C all (suc n) xs | false ↦ sites_from C all (suc n) xs ])
          → Entry n t (x ∷ xs) (get_or (elim b as (λ z. List Site) [ true ↦ site C all n x ∷ sites_from C all (suc n) xs | false ↦ sites_from C all (suc n) xs ]) j d)
          (get_or (elim b as (λ z. List Tree) [ true ↦ x ∷ keep (redex C) xs | false ↦ keep (redex C) xs ]) j t)
      go rec true zero k = record { place = 0; inside = omega arith; there = refl; is = ap (λ m. site C all m x) (omega arith) }
      go rec true (suc j) k = shift (rec j (omega arith))
      go rec false j k = shift (rec j k)

  -- numbers ascend, since they count up along the order
  number_from : (d : Site) (n : ℕ) (xs : List Tree) (i : ℕ) → i < length (sites_from C all n xs) → n ≤ (get_or (sites_from C all n xs) i d).number
  number_from d n xs i h =
      let r = entry d (node 0 nil) n xs i h in
      omega (arith, ap (λ (k : Site). k.number) r.is)

  numbers_ascend : (d : Site) (n : ℕ) (xs : List Tree) (i j : ℕ) → i < j → j < length (sites_from C all n xs)
      → (get_or (sites_from C all n xs) i d).number < (get_or (sites_from C all n xs) j d).number
  numbers_ascend d n [] i j l h = absurd (omega arith)
  numbers_ascend d n (x ∷ xs) i j l h = go (numbers_ascend d (suc n) xs) (redex C x) i j l h
    where
      go : ((i j : ℕ) → i < j → j < length (sites_from C all (suc n) xs) → (get_or (sites_from C all (suc n) xs) i d).number < (get_or (sites_from C all (suc n) xs) j d).number)
          → (b : Bool) (i j : ℕ) → i < j
          → j < length (elim b as (λ z. List Site) [ true ↦ site C all n x ∷ sites_from C all (suc n) xs | false ↦ sites_from C all (suc n) xs ])
          → (get_or (elim b as (λ z. List Site) [ true ↦ site C all n x ∷ sites_from C all (suc n) xs | false ↦ sites_from C all (suc n) xs ]) i d).number
          < (get_or (elim b as (λ z. List Site) [ true ↦ site C all n x ∷ sites_from C all (suc n) xs | false ↦ sites_from C all (suc n) xs ]) j d).number
      go rec true i zero l h = absurd (omega arith)
      go rec true zero (suc j) l h = omega (arith, number_from d (suc n) xs j (omega arith))
      go rec true (suc i) (suc j) l h = rec i j (omega arith) (omega arith)
      go rec false i j l h = rec i j l h

module _ (C : Card) (w : WellFormed C) (t : Tree) where
  -- a flag that says that no redex of the tree passes a test, against what it is to say of the tree's sites
  flag_decides : (p : Tree → Bool) (P : Tree → Type 0) → ((r : Tree) → Decides (p r) (P r))
      → Decides (not (any p (redexes C t))) ((r : Tree) → IsSite C t r → P r → ⊥)
  flag_decides p P each =
      Decides-like (not (any p (redexes C t)))
      (λ none r k q. none (record { tree = r; listed = (redexes_are_sites C w t r).0 k; passes = (each r).1 q }))
      (λ none k. none k.tree ((redexes_are_sites C w t k.tree).1 k.listed) ((each k.tree).0 k.passes))
      (Decides-not (any p (redexes C t)) (any_decides p (redexes C t)))

  outer_decides : (s : Tree) → Decides (not (any (λ r. proper s r) (redexes C t))) (Outer C t s)
  outer_decides s = flag_decides (λ r. proper s r) (λ r. Proper s r) (λ r. proper_decides s r)

  inner_decides : (s : Tree) → Decides (not (any (λ r. proper r s) (redexes C t))) (Inner C t s)
  inner_decides s = flag_decides (λ r. proper r s) (λ r. Proper r s) (λ r. proper_decides r s)

  site_described : (s : Tree) (p : ℕ) → p < length (subterms t) → get_or (subterms t) p t ≡ s → redex C s ≡ true
      → (k : Site) → k ≡ site C (redexes C t) (suc p) s → Describes C t k s
  site_described s p h e x k q =
      let r = redex_rule C w s x in
      let on = (subterms_list s t).0 (Memᴰ.cast (sym e) (place_mem t (subterms t) p h)) in
      record {
        is_site = record { subterm = on; rule = r.rule; fits = r.lowest };
        place = p;
        numbered = ap (λ (z : Site). z.number) q;
        placed = (h, e);
        rule_is = ap (λ (z : Site). z.rule) q ∙ ap rule_number r.found;
        outer_is = subst (λ (z : Site). Decides z.outer (Outer C t s)) (sym q) (outer_decides s);
        inner_is = subst (λ (z : Site). Decides z.inner (Inner C t s)) (sym q) (inner_decides s);
      }

  pub sites_listed : SitesListed C t
  sites_listed =
      record {
        as_many = sites_length C (redexes C t) 1 (subterms t);
        described = described;
        all_there = redexes_are_sites C w t;
        ascending = λ d i j. numbers_ascend C (redexes C t) d 1 (subterms t) i j;
      }
    where
      described : (d : Site) (i : ℕ) → i < length (sites C t) → Describes C t (get_or (sites C t) i d) (get_or (redexes C t) i t)
      described d i h =
          let r = entry C (redexes C t) d t 1 (subterms t) i h in
          let l : i < length (redexes C t) = omega (arith, sites_length C (redexes C t) 1 (subterms t)) in
          let m = keep_mem (redex C) (get_or (redexes C t) i t) (subterms t) (place_mem t (redexes C t) i l) in
          site_described (get_or (redexes C t) i t) r.place r.inside r.there m.0 (get_or (sites C t) i d)
          (r.is ∙ ap (λ n. site C (redexes C t) n (get_or (redexes C t) i t)) (omega arith))

-- no record, no redex
same_emptiness : {A B : Type 0} (xs : List A) (ys : List B) → length xs ≡ length ys → xs ≡ [] → ys ≡ []
same_emptiness xs [] e h = refl
same_emptiness xs (y ∷ ys) e h = absurd (omega (arith, ap length h))

pub no_site_no_redex : (C : Card) (t : Tree) → (sites C t ≡ []) ↔ (redexes C t ≡ [])
no_site_no_redex C t =
    let e = sites_length C (redexes C t) 1 (subterms t) in
    (same_emptiness (sites C t) (redexes C t) e, same_emptiness (redexes C t) (sites C t) (sym e))

pub no_site_normal : (C : Card) → WellFormed C → (t : Tree) → OnCard C t → (sites C t ≡ []) ↔ NormalForm C t
no_site_normal C w t on =
    let a = no_site_no_redex C t in
    let b = no_redex_normal C w t on in
    ((λ h. b.0 (a.0 h)), λ n. a.1 (b.1 n))
