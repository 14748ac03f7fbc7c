-- A choice among a tree's sites is a place among its redexes. Assumes nothing.
use Rattle.std.proofs.Common.{◌≡◌, ℕ, suc, ◌+◌, ◌<◌, ◌≤◌, Bool, true, false, List, [], ◌∷◌, map, length, get_or, IfSome, Some, None, Option, unwrap_or, sym, refl, ap, ◌∙◌, arith, Bor}
use Rattle.std.proofs.lemmas.List.{get_or-map, length-map}
use Rattle.rewriting.specs.Terms.{Tree}
use Rattle.rewriting.specs.Cards.{Card}
use Rattle.rewriting.specs.Runs.{first_from, outermost, is_empty, at_rest, chosen}
use Rattle.rewriting.specs.Matching.{fitting}
use Rattle.rewriting.specs.Sites as theory
use Rattle.rewriting.specs.Subterms.{subterms}
use Rattle.reference.specs.declared.step.Step.{Step}
use Rattle.sites.specs.declared.site.Site.{Site}
use Rattle.sites.specs.Records.{site_of}
use Rattle.explicit.specs.declared.tree.Tree as declared
use Rattle.explicit.specs.Meaning.{tree_of, listed}
use Rattle.reference.specs.Records.{StepsOutermost}

-- the rule that a tree is used by
abbrev rule_at : Card → Tree → ℕ
rule_at C t = theory.rule_number (fitting C.rules t)

-- the sites of a list, and its redexes, each with its rule
rules_listed : (C : Card) (all : List Tree) (n : ℕ) (xs : List Tree)
    → map (λ (k : theory.Site). k.rule) (theory.sites_from C all n xs) ≡ map (rule_at C) (theory.keep (theory.redex C) xs)
rules_listed C all n [] = refl
rules_listed C all n (x ∷ xs) = go (theory.redex C x) (rules_listed C all (suc n) xs)
  where
    go : (b : Bool) → map (λ (k : theory.Site). k.rule) (theory.sites_from C all (suc n) xs) ≡ map (rule_at C) (theory.keep (theory.redex C) xs)
        → map (λ (k : theory.Site). k.rule) (elim b [ true ↦ theory.site C all n x ∷ theory.sites_from C all (suc n) xs | false ↦ theory.sites_from C all (suc n) xs ])
        ≡ map (rule_at C) (elim b [ true ↦ x ∷ theory.keep (theory.redex C) xs | false ↦ theory.keep (theory.redex C) xs ])
    go true e = ap (λ ns. rule_at C x ∷ ns) e
    go false e = e

rules_are : (C : Card) (t : Tree) → map (λ (k : theory.Site). k.rule) (theory.sites C t) ≡ map (rule_at C) (theory.redexes C t)
rules_are C t = rules_listed C (theory.redexes C t) 1 (subterms t)

as_many : (C : Card) (t : Tree) → length (theory.sites C t) ≡ length (theory.redexes C t)
as_many C t = sym (length-map (theory.sites C t) (λ (k : theory.Site). k.rule)) ∙ ap length (rules_are C t) ∙ length-map (theory.redexes C t) (rule_at C)

first_within : (p : theory.Site → Bool) (i : ℕ) (ks : List theory.Site) → IfSome (first_from p i ks) (λ j. j < i + length ks)
first_within p i [] = tt
first_within p i (k ∷ ks) = go (p k) (first_from p (suc i) ks) (first_within p (suc i) ks)
  where
    later : (o : Option ℕ) → IfSome o (λ j. j < suc i + length ks) → IfSome o (λ j. j < i + suc (length ks))
    later None h = tt
    later (Some j) h = omega arith

    go : (b : Bool) (o : Option ℕ) → IfSome o (λ j. j < suc i + length ks)
        → IfSome (elim b [ true ↦ Some i | false ↦ o ]) (λ j. j < i + suc (length ks))
    go true o h = omega arith
    go false o h = later o h

chosen_within : (o : Option ℕ) (n : ℕ) → 0 < n → IfSome o (λ j. j < 0 + n) → unwrap_or o 0 < n
chosen_within None n pos h = pos
chosen_within (Some j) n pos h = omega arith

-- where there is a redex, the outermost place is one of the redexes' places
outermost_within : (C : Card) (t : Tree) → 0 < length (theory.redexes C t) → outermost (theory.sites C t) < length (theory.redexes C t)
outermost_within C t pos =
    let within : outermost (theory.sites C t) < length (theory.sites C t) =
    chosen_within (first_from (λ k. k.outer) 0 (theory.sites C t)) (length (theory.sites C t)) (omega (arith, as_many C t)) (first_within (λ k. k.outer) 0 (theory.sites C t)) in
    omega (arith, as_many C t, within)

module _ (C : Card) (t : Tree) (us : List (Bor declared.Tree)) (all : listed us ≡ theory.redexes C t) (ks : List Site) (made : map site_of ks ≡ theory.sites C t)
    (n : ℕ) (is : n ≡ outermost (map site_of ks)) where
  pub many_redexes : length us ≡ length (theory.redexes C t)
  many_redexes = sym (length-map us (λ u. tree_of u.now)) ∙ ap length all

  many_sites : length ks ≡ length (theory.redexes C t)
  many_sites = sym (length-map ks site_of) ∙ ap length made ∙ as_many C t

  rests_past : length (theory.redexes C t) ≤ n → at_rest C t ≡ true
  rests_past past = go (theory.redexes C t) (λ pos. omega (arith, past, is, ap outermost made, outermost_within C t pos))
    where
      go : (xs : List Tree) → (0 < length xs → ⊥) → is_empty xs ≡ true
      go [] h = refl
      go (x ∷ xs) h = absurd (h (omega arith))

  pub no_redex : length us ≤ n → at_rest C t ≡ true
  no_redex past = rests_past (omega (arith, many_redexes))

  pub no_site : length ks ≤ n → at_rest C t ≡ true
  no_site past = rests_past (omega (arith, many_sites))

  module _ (u : Bor declared.Tree) (k : Site) (within : n < length us) (read : u ≡ get_or us n u) (at : k ≡ get_or ks n k) where
    pub is_chosen : tree_of u.now ≡ chosen C outermost t
    is_chosen =
        ap (λ v. tree_of v.now) read ∙ sym (get_or-map (λ v. tree_of v.now) us n u t within)
        ∙ ap (λ xs. get_or xs n t) all ∙ ap (λ j. get_or (theory.redexes C t) j t) (is ∙ ap outermost made)

    goes : at_rest C t ≡ false
    goes = go (theory.redexes C t) (omega (arith, many_redexes))
      where
        go : (xs : List Tree) → 0 < length xs → is_empty xs ≡ false
        go [] h = absurd (omega arith)
        go (x ∷ xs) h = refl

    rule_is : k.rule ≡ rule_at C (chosen C outermost t)
    rule_is =
        ap (λ (s : Site). s.rule) at ∙ sym (get_or-map (λ (s : Site). s.rule) ks n k 0 (omega (arith, many_redexes, many_sites)))
        ∙ ap (λ ns. get_or ns n 0) (rules ∙ ap (map (λ (s : theory.Site). s.rule)) made ∙ rules_are C t)
        ∙ get_or-map (rule_at C) (theory.redexes C t) n t 0 (omega (arith, many_redexes))
        ∙ ap (λ j. rule_at C (get_or (theory.redexes C t) j t)) (is ∙ ap outermost made)
      where
        rules : map (λ (s : Site). s.rule) ks ≡ map (λ (s : theory.Site). s.rule) (map site_of ks)
        rules = go ks
          where
            go : (qs : List Site) → map (λ (s : Site). s.rule) qs ≡ map (λ (s : theory.Site). s.rule) (map site_of qs)
            go [] = refl
            go (q ∷ qs) = ap (λ ns. q.rule ∷ ns) (go qs)

    pub steps : (s : Step) → s.rule ≡ k.rule → tree_of s.redex ≡ tree_of u.now → tree_of s.after ≡ theory.shared_step C (tree_of u.now) t → StepsOutermost C t s
    steps s rule redex after =
        record {
          has_site = goes;
          redex_is = redex ∙ is_chosen;
          rule_is = rule ∙ rule_is;
          after_is = after ∙ ap (λ v. theory.shared_step C v t) is_chosen;
        }
