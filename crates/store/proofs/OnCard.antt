-- The test for trees of a signature tells them. Assumes nothing.
use Rattle.std.proofs.Common.{◌≡◌, ℕ, true, Some, None, Option, sym, refl, ap, arith}
use Rattle.std.proofs.lemmas.Bool.{and_from, and_parts, eq-eqb, eqb-true, true≢false}
use Rattle.rewriting.specs.Terms.{Tree, node, Trees, nil, cons, count}
use Rattle.rewriting.specs.Cards.{Signature, OnSignature, AllOnSignature}
use Rattle.store.specs.OnCard.{takes, on_signature, all_on_signature}

takes_told : (o : Option ℕ) (n : ℕ) → takes o n ≡ true → o ≡ Some n
takes_told None n h = absurd (true≢false (sym h))
takes_told (Some a) n h = ap Some (eqb-true a n h)

takes_from : (o : Option ℕ) (n : ℕ) → o ≡ Some n → takes o n ≡ true
takes_from None n e = let z : ◌≡◌ {A = ℕ} 0 1 = cc in absurd (omega arith)
takes_from (Some a) n e = let k : a ≡ n = cc in eq-eqb a n k

module _ (Σ : Signature) where
  mutual
    pub on_told : (t : Tree) → on_signature Σ t ≡ true → OnSignature Σ t
    on_told (node f ts) h = let p = and_parts (takes (Σ f) (count ts)) (all_on_signature Σ ts) h in (takes_told (Σ f) (count ts) p.0, all_on_told ts p.1)

    all_on_told : (ts : Trees) → all_on_signature Σ ts ≡ true → AllOnSignature Σ ts
    all_on_told nil h = tt
    all_on_told (cons t ts) h = let p = and_parts (on_signature Σ t) (all_on_signature Σ ts) h in (on_told t p.0, all_on_told ts p.1)

  mutual
    pub on_from : (t : Tree) → OnSignature Σ t → on_signature Σ t ≡ true
    on_from (node f ts) on = and_from (takes (Σ f) (count ts)) (all_on_signature Σ ts) (takes_from (Σ f) (count ts) on.0) (all_on_from ts on.1)

    pub all_on_from : (ts : Trees) → AllOnSignature Σ ts → all_on_signature Σ ts ≡ true
    all_on_from nil on = refl
    all_on_from (cons t ts) on = and_from (on_signature Σ t) (all_on_signature Σ ts) (on_from t on.0) (all_on_from ts on.1)
