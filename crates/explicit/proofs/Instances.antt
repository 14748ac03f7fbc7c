-- What a substitution makes of terms side by side, and the variables that occur in them. Assumes nothing.
use Rattle.std.proofs.Common.{◌≡◌, ℕ, zero, suc, ◌<◌, ◌≤◌, true, List, [], ◌∷◌, map, length, get_or, take, Vec, Global, refl, sym, ap, ◌∙◌, arith}
use Rattle.std.proofs.lemmas.List.{take_all}
use Rattle.std.proofs.lemmas.Bool.{or_left, or_right}
use Rattle.rewriting.specs.Terms.{Substitution, apply, applies, occurs, occurs_in, cons, node}
use Rattle.explicit.specs.declared.tree.Tree.{Tree}
use Rattle.explicit.specs.declared.term.Term.{Term, Symbol}
use Rattle.explicit.specs.Meaning.{row, tree_of, trees_of, term_of, terms_of}
use Rattle.explicit.proofs.Levels.{term_of-symbol}

pub applies-row : (σ : Substitution) (ls : List Term) → applies σ (terms_of ls) ≡ row (map (λ l. apply σ (term_of l)) ls)
applies-row σ [] = refl
applies-row σ (l ∷ ls) = ap (cons (apply σ (term_of l))) (applies-row σ ls)

-- the children that a loop has made for all the terms
pub instance_made : (σ : Substitution) (t : Term) (f : ℕ) (ts : Vec Term Global) (ls : List Term) (us : List Tree) (n : ℕ)
    → t ≡ Symbol f ts → ls ≡ ts.items → map tree_of us ≡ map (λ l. apply σ (term_of l)) (take n ls) → length ls ≤ n
    → node f (trees_of us) ≡ apply σ (term_of t)
instance_made σ t f ts ls us n is at made past =
    ap (node f) (ap row (made ∙ ap (map (λ l. apply σ (term_of l))) (take_all n ls past ∙ at)) ∙ sym (applies-row σ ts.items))
    ∙ ap (apply σ) (sym (term_of-symbol f ts)) ∙ ap (λ u. apply σ (term_of u)) (sym is)

-- a variable that occurs in one of the terms of a symbol
pub occurs_below : (t : Term) (f : ℕ) (ts : Vec Term Global) (ls : List Term) (i : ℕ) (l : Term)
    → t ≡ Symbol f ts → ls ≡ ts.items → i < length ls → l ≡ get_or ls i l → (v : ℕ) × (occurs v (term_of l) ≡ true) → (v : ℕ) × (occurs v (term_of t) ≡ true)
occurs_below t f ts ls i l is at h read o =
    (o.0, ap (λ u. occurs o.0 (term_of u)) is ∙ ap (occurs o.0) (term_of-symbol f ts) ∙ ap (λ ks. occurs_in o.0 (terms_of ks)) (sym at) ∙ go ls i h read)
  where
    go : (ks : List Term) (j : ℕ) → j < length ks → l ≡ get_or ks j l → occurs_in o.0 (terms_of ks) ≡ true
    go [] j h read = absurd (omega arith)
    go (k ∷ ks) zero h read = or_left (occurs o.0 (term_of k)) (occurs_in o.0 (terms_of ks)) (ap (λ m. occurs o.0 (term_of m)) (sym read) ∙ o.1)
    go (k ∷ ks) (suc j) h read = or_right (occurs o.0 (term_of k)) (occurs_in o.0 (terms_of ks)) (go ks j (omega arith) read)
