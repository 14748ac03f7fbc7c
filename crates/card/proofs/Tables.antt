-- Tests of an answer that may be missing. Assumes nothing.
use Rattle.std.proofs.Common.{◌≡◌, ℕ, Bool, eqb, Some, None, Decides, Option, sym, ap, ◌∙◌, arith}
use Rattle.std.specs.Option.{option_eq}
use Rattle.std.proofs.lemmas.Bool.{eq-eqb, eqb-true, true≢false}

-- what `==` with a number that is there tells
module _ (o : Option ℕ) (n : ℕ) where
  pub equals_some : (r : Bool) → r ≡ option_eq eqb o (Some n) → Decides r (o ≡ Some n)
  equals_some = go o
    where
      go : (o : Option ℕ) (r : Bool) → r ≡ option_eq eqb o (Some n) → Decides r (o ≡ Some n)
      go None r h = (λ e. absurd (true≢false (sym e ∙ h)), λ e. let z : ◌≡◌ {A = ℕ} 0 1 = cc in absurd (omega arith))
      go (Some m) r h = (λ e. ap Some (eqb-true m n (sym h ∙ e)), λ e. h ∙ eq-eqb m n (cc))
