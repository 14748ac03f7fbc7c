-- Redexes as the test finds them are the sites of the relation; a tree without one is a normal form. Assumes nothing.
use Rattle.std.proofs.Common.{◌≡◌, Bool, true, false, ◌↔◌, List, [], ◌∷◌, is_some, Some, None, Decides, Option, sym, refl, ap, ◌∙◌, subst, ⊎_elim, MatchOption}
use mathlib.Core.List.Memᴰ
use mathlib.Core.List.{Memᴰ}
use Rattle.std.proofs.lemmas.Bool.{or_cases, or_left, or_right, true≢false}
use Rattle.rewriting.specs.Terms.{Tree, node, Trees, cons, children}
use Rattle.rewriting.specs.Cards.{Rule, Card, OnCard, WellFormed}
use Rattle.rewriting.specs.Matching.{fitting, bindings, contracted, Fits, LowestFitting}
use Rattle.rewriting.specs.Steps.{Contracts, Step, here, inside, Steps, first, later, NormalForm}
use Rattle.rewriting.specs.Subterms.{Subterm, self, below, SubtermIn, in_first, in_rest, Proper, walks, subterms}
use Rattle.rewriting.specs.Sites.{redex, contractum, contract_by, keep, any, proper, redexes, IsSite}
use Rattle.rewriting.proofs.Bindings.{matches_sound, fits_matches, NoneFits, fitting_lowest}
use Rattle.rewriting.proofs.Members.{member_decides}
use Rattle.rewriting.proofs.Walking.{subterms_list, proper_list}
use Rattle.rewriting.proofs.Stepping.{step_on_card}

-- what a filter keeps
pub keep_mem : (p : Tree → Bool) (x : Tree) (xs : List Tree) → Memᴰ x (keep p xs) → (p x ≡ true) × Memᴰ x xs
keep_mem p x [] m = absurd (Memᴰ.not-nil m)
keep_mem p x (y ∷ ys) m = go (λ k. keep_mem p x ys k) (p y) refl m
  where
    deeper : (p x ≡ true) × Memᴰ x ys → (p x ≡ true) × Memᴰ x (y ∷ ys)
    deeper r = (r.0, Memᴰ.tail r.1)

    go : (Memᴰ x (keep p ys) → (p x ≡ true) × Memᴰ x ys) → (b : Bool) → p y ≡ b
        → Memᴰ x (elim b as (λ z. List Tree) [ true ↦ y ∷ keep p ys | false ↦ keep p ys ]) → (p x ≡ true) × Memᴰ x (y ∷ ys)
    go rec true e k = ⊎_elim (λ q. (ap p q ∙ e, Memᴰ.head q)) (λ j. deeper (rec j)) (Memᴰ.cases_cons k)
    go rec false e k = deeper (rec k)

pub keep_has : (p : Tree → Bool) (x : Tree) {xs : List Tree} → Memᴰ x xs → p x ≡ true → Memᴰ x (keep p xs)
keep_has p x (Memᴰ.head {x = y} {xs} q) e = rw (sym (ap p q) ∙ e, keep) (Memᴰ.head q)
keep_has p x (Memᴰ.tail {x = y} {xs} m) e = go (keep_has p x m e) (p y)
  where
    go : Memᴰ x (keep p xs) → (b : Bool) → Memᴰ x (elim b as (λ z. List Tree) [ true ↦ y ∷ keep p xs | false ↦ keep p xs ])
    go h true = Memᴰ.tail h
    go h false = h

-- some member passes a test
pub record Passes (p : Tree → Bool) (xs : List Tree) : Type 0 where
  pub tree : Tree
  pub listed : Memᴰ tree xs
  pub passes : p tree ≡ true

pub any_decides : (p : Tree → Bool) (xs : List Tree) → Decides (any p xs) (Passes p xs)
any_decides p xs = (to xs, λ k. from k.tree k.listed k.passes)
  where
    to : (ys : List Tree) → any p ys ≡ true → Passes p ys
    to [] h = absurd (true≢false (sym h))
    to (y ∷ ys) h =
        ⊎_elim (λ e. record { tree = y; listed = Memᴰ.head refl; passes = e })
        (λ k. let r = to ys k in record { tree = r.tree; listed = Memᴰ.tail r.listed; passes = r.passes })
        (or_cases (p y) (any p ys) h)

    from : (x : Tree) {ys : List Tree} → Memᴰ x ys → p x ≡ true → any p ys ≡ true
    from x (Memᴰ.head {x = y} {xs = ys} q) e = or_left (p y) (any p ys) (ap p (sym q) ∙ e)
    from x (Memᴰ.tail {x = y} {xs = ys} m) e = or_right (p y) (any p ys) (from x m e)

pub proper_decides : (s t : Tree) → Decides (proper s t) (Proper s t)
proper_decides s t =
    let d = member_decides s (walks (children t) []) in
    let l = proper_list s (children t) in
    ((λ h. l.0 (d.0 h)), λ p. d.1 (l.1 p))

some_exists : (o : Option Rule) → is_some o ≡ true → (r : Rule) × (o ≡ Some r)
some_exists None h = absurd (true≢false (sym h))
some_exists (Some r) h = (r, refl)

pub record FittingRule (C : Card) (s : Tree) : Type 0 where
  pub rule : Rule
  pub found : fitting C.rules s ≡ Some rule
  pub lowest : LowestFitting C.rules s rule

module _ (C : Card) (w : WellFormed C) where
  pub redex_rule : (s : Tree) → redex C s ≡ true → FittingRule C s
  redex_rule s h =
      let r = some_exists (fitting C.rules s) h in
      record {
        rule = r.0;
        found = r.1;
        lowest = subst (λ o. MatchOption o (NoneFits C.rules s) (λ q. LowestFitting C.rules s q)) r.1 (fitting_lowest C.rules w.ascending s);
      }

  pub fits_redex : (s : Tree) (r : Rule) → Memᴰ r C.rules → Fits r s → redex C s ≡ true
  fits_redex s r m f = go (fitting C.rules s) (fitting_lowest C.rules w.ascending s)
    where
      go : (o : Option Rule) → MatchOption o (NoneFits C.rules s) (λ q. LowestFitting C.rules s q) → is_some o ≡ true
      go None k = absurd (k r m f)
      go (Some q) k = refl

  pub contractum_by : (s : Tree) (r : Rule) → fitting C.rules s ≡ Some r → contractum C s ≡ contracted r s
  contractum_by s r e = ap (λ o. contract_by o s) e

  -- a redex contracts to its contractum
  pub redex_contracts : (s : Tree) → redex C s ≡ true → Contracts C.rules s (contractum C s)
  redex_contracts s h =
      let k = redex_rule s h in
      record {
        rule = k.rule;
        listed = k.lowest.listed;
        substitution = bindings k.rule.left s;
        left_is = matches_sound k.rule.left s (fits_matches k.lowest.fits);
        right_is = sym (contractum_by s k.rule k.found);
      }

  pub site_redex : {t s : Tree} → IsSite C t s → redex C s ≡ true
  site_redex {t} {s} k = fits_redex s k.rule k.fits.listed k.fits.fits

  pub redexes_are_sites : (t s : Tree) → IsSite C t s ↔ Memᴰ s (redexes C t)
  redexes_are_sites t s = (
    (λ k. keep_has (redex C) s ((subterms_list s t).1 k.subterm) (site_redex k)),
    (λ m. let k = keep_mem (redex C) s (subterms t) m in
        let r = redex_rule s k.0 in
        record { subterm = (subterms_list s t).0 k.1; rule = r.rule; fits = r.lowest }),
  )

  -- a step happens at a subterm, and at a subterm that contracts there is a step
  record At (t : Tree) : Type 0 where
    pub redex : Tree
    pub result : Tree
    pub subterm : Subterm redex t
    pub contracts : Contracts C.rules redex result

  record AtIn (ts : Trees) : Type 0 where
    pub redex : Tree
    pub result : Tree
    pub subterm : SubtermIn redex ts
    pub contracts : Contracts C.rules redex result

  mutual
    step_at : {t u : Tree} → Step C.rules t u → At t
    step_at (here {t} {u} c) = record { redex = t; result = u; subterm = self refl; contracts = c }
    step_at (inside p) =
        let r = steps_at p in
        record { redex = r.redex; result = r.result; subterm = below r.subterm; contracts = r.contracts }

    steps_at : {ts us : Trees} → Steps C.rules ts us → AtIn ts
    steps_at (first p) =
        let r = step_at p in
        record { redex = r.redex; result = r.result; subterm = in_first r.subterm; contracts = r.contracts }
    steps_at (later p) =
        let r = steps_at p in
        record { redex = r.redex; result = r.result; subterm = in_rest r.subterm; contracts = r.contracts }

  mutual
    at_step : {s t : Tree} (r : Tree) → Subterm s t → Contracts C.rules s r → (u : Tree) × Step C.rules t u
    at_step r (self e) c = (r, here (subst (λ x. Contracts C.rules x r) e c))
    at_step r (below {f = f} p) c = let k = at_steps r p c in (node f k.0, inside k.1)

    at_steps : {s : Tree} {ts : Trees} (r : Tree) → SubtermIn s ts → Contracts C.rules s r → (us : Trees) × Steps C.rules ts us
    at_steps r (in_first {ts} p) c = let k = at_step r p c in (cons k.0 ts, first k.1)
    at_steps r (in_rest {t} p) c = let k = at_steps r p c in (cons t k.0, later k.1)

  empty_is_normal : (t : Tree) → redexes C t ≡ [] → NormalForm C t
  empty_is_normal t e u p =
      let k = step_at p.step in
      let f : Fits k.contracts.rule k.redex = record { substitution = k.contracts.substitution; makes = k.contracts.left_is } in
      let m = keep_has (redex C) k.redex ((subterms_list k.redex t).1 k.subterm) (fits_redex k.redex k.contracts.rule k.contracts.listed f) in
      Memᴰ.not-nil (subst (λ xs. Memᴰ k.redex xs) e m)

  normal_is_empty : (t : Tree) → OnCard C t → NormalForm C t → redexes C t ≡ []
  normal_is_empty t on n = go (redexes C t) refl
    where
      go : (xs : List Tree) → redexes C t ≡ xs → xs ≡ []
      go [] e = refl
      go (x ∷ xs) e =
          let k = keep_mem (redex C) x (subterms t) (subst (λ l. Memᴰ x l) (sym e) (Memᴰ.head refl)) in
          let s = at_step (contractum C x) ((subterms_list x t).0 k.1) (redex_contracts x k.0) in
          absurd (n s.0 (record { from = on; to = step_on_card C w s.1 on; step = s.1 }))

  pub no_redex_normal : (t : Tree) → OnCard C t → (redexes C t ≡ []) ↔ NormalForm C t
  no_redex_normal t on = (empty_is_normal t, normal_is_empty t on)
