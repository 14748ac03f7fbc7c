-- One turn of the loop that collects sites: what is found so far, and then what is left, is the whole. Assumes nothing.
use Rattle.std.proofs.Common.{◌≡◌, ℕ, suc, ◌+◌, ◌<◌, Bool, true, false, not, List, [], ◌∷◌, ◌++◌, map, length, get_or, drop, is_some, Some, None, Option, refl, ap, ◌∙◌, add-one, append_assoc, Bor}
use Rattle.std.specs.Option.{option_map}
use Rattle.std.proofs.lemmas.List.{map_push}
use Rattle.rewriting.specs.Terms as theory
use Rattle.rewriting.specs.Cards as cards
use Rattle.rewriting.specs.Matching.{fitting}
use Rattle.rewriting.specs.Sites as sites
use Rattle.explicit.specs.declared.tree.Tree.{Tree}
use Rattle.explicit.specs.Meaning.{tree_of, listed}
use Rattle.explicit.proofs.Loops.{reads}
use Rattle.sites.specs.declared.site.Site.{Site}
use Rattle.sites.specs.Records.{site_of}

-- a rule's number is there where a rule is
rule_there : (o : Option cards.Rule) (n : ℕ) → Some n ≡ option_map (λ r. r.number) o → (true ≡ is_some o) × (n ≡ sites.rule_number o)
rule_there None n e = cc
rule_there (Some r) n e = (refl, cc)

no_rule : (o : Option cards.Rule) → None ≡ option_map (λ r. r.number) o → false ≡ is_some o
no_rule None e = refl
no_rule (Some r) e = cc

-- the sites that are left from place i on
abbrev pub left : cards.Card → List theory.Tree → ℕ → List (Bor Tree) → List sites.Site
left C R i us = sites.sites_from C R (i + 1) (listed (drop i us))

module _ (us : List (Bor Tree)) (i : ℕ) (u : Bor Tree) (h : i < length us) (e : u ≡ get_or us i u) (C : cards.Card) (R : List theory.Tree) (found : List Site)
    (y : List sites.Site) (inv : map site_of found ++ left C R i us ≡ y) where
  turn : (b : Bool) → b ≡ sites.redex C (tree_of u.now)
      → map site_of found ++ elim b [ true ↦ sites.site C R (i + 1) (tree_of u.now) ∷ left C R (i + 1) us | false ↦ left C R (i + 1) us ] ≡ y
  turn b test =
      ap (λ n. map site_of found ++ elim b [ true ↦ sites.site C R (i + 1) (tree_of u.now) ∷ sites.sites_from C R n (listed (drop (i + 1) us)) | false ↦ sites.sites_from C R n (listed (drop (i + 1) us)) ]) (add-one (i + 1))
      ∙ ap (λ c. map site_of found ++ elim c [ true ↦ sites.site C R (i + 1) (tree_of u.now) ∷ sites.sites_from C R (suc (i + 1)) (listed (drop (i + 1) us)) | false ↦ sites.sites_from C R (suc (i + 1)) (listed (drop (i + 1) us)) ]) test
      ∙ reads (λ vs. map site_of found ++ sites.sites_from C R (i + 1) (listed vs)) us i u h e inv

  pub site_made : (k : Site) {grown : List Site} → k.number ≡ i + 1 → Some k.rule ≡ option_map (λ r. r.number) (fitting C.rules (tree_of u.now))
      → k.outer ≡ not (sites.any (λ r. sites.proper (tree_of u.now) r) R) → k.inner ≡ not (sites.any (λ r. sites.proper r (tree_of u.now)) R)
      → grown ≡ found ++ (k ∷ []) → map site_of grown ++ left C R (i + 1) us ≡ y
  site_made k number rule outer inner push =
      let there = rule_there (fitting C.rules (tree_of u.now)) k.rule rule in
      let at : k.rule ≡ sites.rule_number (fitting C.rules (tree_of u.now)) = there.1 in
      let is : site_of k ≡ sites.site C R (i + 1) (tree_of u.now) = cc in
      ap (λ ks. map site_of ks ++ left C R (i + 1) us) push ∙ ap (λ qs. qs ++ left C R (i + 1) us) (map_push site_of found k)
      ∙ append_assoc (map site_of found) (site_of k ∷ []) (left C R (i + 1) us)
      ∙ ap (λ q. map site_of found ++ (q ∷ left C R (i + 1) us)) is ∙ turn true there.0

  pub no_site : {same : List Site} → None ≡ option_map (λ r. r.number) (fitting C.rules (tree_of u.now)) → same ≡ found
      → map site_of same ++ left C R (i + 1) us ≡ y
  no_site rule at = ap (λ ks. map site_of ks ++ left C R (i + 1) us) at ∙ turn false (no_rule (fitting C.rules (tree_of u.now)) rule)
