-- What stands in front of the first byte of another kind. Assumes nothing.
use Rattle.std.proofs.Common.{◌≡◌, ℕ, Bool, true, false, List, [], ◌∷◌, ◌++◌, sym, refl, ap, ◌∙◌, ap₂}
use Rattle.std.specs.List.{AllByRecursion}
use Rattle.std.proofs.lemmas.Bool.{true≢false}

-- the text goes on with a byte of another kind
abbrev pub Stops : (ℕ → Bool) → List ℕ → Type 0
Stops kind [] = ⊥
Stops kind (b ∷ bs) = kind b ≡ false

-- bytes of one kind and what stands behind them can be told apart
pub split_same : (kind : ℕ → Bool) (xs ys rest rest' : List ℕ) → AllByRecursion (λ b. kind b ≡ true) xs → AllByRecursion (λ b. kind b ≡ true) ys → Stops kind rest → Stops kind rest'
    → xs ++ rest ≡ ys ++ rest' → (xs ≡ ys) × (rest ≡ rest')
split_same kind [] [] rest rest' a b s s' e = (refl, e)
split_same kind [] (y ∷ ys) [] rest' a b s s' e = absurd s
split_same kind [] (y ∷ ys) (c ∷ cs) rest' a b s s' e = let h : c ≡ y = cc in absurd (true≢false (sym b.0 ∙ (ap kind (sym h) ∙ s)))
split_same kind (x ∷ xs) [] rest [] a b s s' e = absurd s'
split_same kind (x ∷ xs) [] rest (c ∷ cs) a b s s' e = let h : x ≡ c = cc in absurd (true≢false (sym a.0 ∙ (ap kind h ∙ s')))
split_same kind (x ∷ xs) (y ∷ ys) rest rest' a b s s' e =
    let h : x ≡ y = cc in
    let k : xs ++ rest ≡ ys ++ rest' = cc in
    let r = split_same kind xs ys rest rest' a.1 b.1 s s' k in
    (ap₂ (λ z zs. z ∷ zs) h r.0, r.1)
