-- What the library's searches and filters of a list are in the theory. Assumes nothing.
use Rattle.std.proofs.Common.{◌≡◌, ℕ, suc, ◌+◌, Bool, true, false, ◌||◌, List, [], ◌∷◌, map, filter, Some, refl, ap, ◌∙◌, cond, add-one, Bor}
use Rattle.std.specs.List.{list_any, position_from}
use Rattle.rewriting.specs.Terms as theory
use Rattle.rewriting.specs.Runs.{first_from}
use Rattle.rewriting.specs.Sites.{any, keep}
use Rattle.explicit.specs.declared.tree.Tree.{Tree}
use Rattle.explicit.specs.Meaning.{tree_of, listed}
use Rattle.sites.specs.declared.site.Site.{Site}
use Rattle.sites.specs.Records.{site_of}

module _ (p : theory.Tree → Bool) where
  pub any_is : (us : List (Bor Tree)) → list_any (λ u. p (tree_of u.now)) us ≡ any p (listed us)
  any_is [] = refl
  any_is (u ∷ us) = ap (λ b. p (tree_of u.now) || b) (any_is us)

  pub keep_is : (us : List (Bor Tree)) → listed (filter (λ u. p (tree_of u.now)) us) ≡ keep p (listed us)
  keep_is [] = refl
  keep_is (u ∷ us) = go (p (tree_of u.now)) (keep_is us)
    where
      go : (b : Bool) → listed (filter (λ v. p (tree_of v.now)) us) ≡ keep p (listed us)
          → listed (cond b (u ∷ filter (λ v. p (tree_of v.now)) us) (filter (λ v. p (tree_of v.now)) us))
          ≡ elim b [ true ↦ tree_of u.now ∷ keep p (listed us) | false ↦ keep p (listed us) ]
      go true e = ap (λ xs. tree_of u.now ∷ xs) e
      go false e = e

pub first_is : (i : ℕ) (ks : List Site) → position_from (λ k. k.outer) i ks ≡ first_from (λ k. k.outer) i (map site_of ks)
first_is i [] = refl
first_is i (k ∷ ks) = go k.outer (ap (λ n. position_from (λ q. q.outer) n ks) (add-one i) ∙ first_is (suc i) ks)
  where
    go : (b : Bool) → position_from (λ q. q.outer) (i + 1) ks ≡ first_from (λ q. q.outer) (suc i) (map site_of ks)
        → cond b (Some i) (position_from (λ q. q.outer) (i + 1) ks) ≡ elim b [ true ↦ Some i | false ↦ first_from (λ q. q.outer) (suc i) (map site_of ks) ]
    go true e = refl
    go false e = e
