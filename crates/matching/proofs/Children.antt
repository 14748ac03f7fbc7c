-- A left side's children held against those of a tree, and the first rule that fits. Assumes nothing.
use Rattle.std.proofs.Common.{◌≡◌, ◌≢◌, ℕ, suc, Bool, true, false, ◌&&◌, List, [], ◌∷◌, map, length, Some, None, Option, refl, sym, ap, ◌∙◌, cond, ⊎_elim, ◌⊎◌, Bor}
use Rattle.std.specs.Option.{option_map}
use Rattle.std.specs.List.{find}
use Rattle.rewriting.specs.Terms as theory
use Rattle.rewriting.specs.Matching as matching
use Rattle.explicit.specs.declared.tree.Tree.{Tree, out-Tree}
use Rattle.explicit.specs.declared.term.Term.{Term}
use Rattle.explicit.specs.declared.card.Rule.{Rule}
use Rattle.explicit.proofs.Levels.{tree_of-out}
use Rattle.explicit.specs.Meaning.{rule_of, term_of, terms_of, tree_of, trees_of}

-- where one of the two lists is empty, nothing is bound
pub none_bound : (ls : List Term) (ts : List Tree) (v : ℕ) → (ls ≡ []) ⊎ (ts ≡ []) → matching.bound_in (terms_of ls) (trees_of ts) v ≡ None
none_bound ls ts v = ⊎_elim
    (λ e. ap (λ ks. matching.bound_in (terms_of ks) (trees_of ts) v) e)
    (λ e. ap (λ us. matching.bound_in (terms_of ls) (trees_of us) v) e ∙ no_tree (terms_of ls))
  where
    no_tree : (ks : theory.Terms) → matching.bound_in ks theory.nil v ≡ None
    no_tree theory.nilᵗ = refl
    no_tree (theory.consᵗ k ks) = refl

-- lists of different lengths are not the same
pub sames_long : (σ : theory.Substitution) (ls : List Term) (ts : List Tree) → length ls ≢ length ts
    → theory.sames (theory.applies σ (terms_of ls)) (trees_of ts) ≡ false
sames_long σ [] [] ne = absurd (ne refl)
sames_long σ [] (t ∷ ts) ne = refl
sames_long σ (l ∷ ls) [] ne = refl
sames_long σ (l ∷ ls) (t ∷ ts) ne = go (theory.same (theory.apply σ (term_of l)) (tree_of t)) (sames_long σ ls ts (λ e. ne (ap suc e)))
  where
    go : (b : Bool) {c : Bool} → c ≡ false → (b && c) ≡ false
    go true e = e
    go false e = refl

pub fitting_found : (t : theory.Tree) (rs : List Rule)
    → option_map rule_of (find (λ r. matching.matches (term_of r.left) t) rs) ≡ matching.fitting (map rule_of rs) t
fitting_found t [] = refl
fitting_found t (r ∷ rs) = go (matching.matches (term_of r.left) t) (fitting_found t rs)
  where
    go : (b : Bool) → option_map rule_of (find (λ q. matching.matches (term_of q.left) t) rs) ≡ matching.fitting (map rule_of rs) t
        → option_map rule_of (cond b (Some r) (find (λ q. matching.matches (term_of q.left) t) rs))
        ≡ elim b [ true ↦ Some (rule_of r) | false ↦ matching.fitting (map rule_of rs) t ]
    go true e = refl
    go false e = e

pub of_refs : {A B : Type 0} (f : A → B) (o : Option (Bor A)) → option_map (λ u. f u.now) o ≡ option_map f (option_map (λ u. u.now) o)
of_refs f None = refl
of_refs f (Some u) = refl

-- more parts than children, or fewer
pub other_count : (σ : theory.Substitution) (ls : List Term) (t : Tree) → length ls ≢ length (out-Tree t).children.items
    → false ≡ theory.sames (theory.applies σ (terms_of ls)) (theory.children (tree_of t))
other_count σ ls t ne =
    sym (ap (λ u. theory.sames (theory.applies σ (terms_of ls)) (theory.children u)) (tree_of-out t) ∙ sames_long σ ls (out-Tree t).children.items ne)
