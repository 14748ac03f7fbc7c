-- Going by a test. Assumes nothing.
use Rattle.std.proofs.Common.{◌≡◌, Bool, true, false, refl}

-- what holds in both cases of a test holds of the value that is chosen by it
pub by_test : {S : Type 0} {a b : S} (Q : S → Type 0) (x : Bool) → (x ≡ true → Q a) → (x ≡ false → Q b) → Q (elim x as (λ y. S) [ true ↦ a | false ↦ b ])
by_test Q true t f = t refl
by_test Q false t f = f refl

-- what the value that is chosen by a test is, tells of the case
pub chosen : {S R : Type 0} {a b r : S} (x : Bool) → (x ≡ true → a ≡ r → R) → (x ≡ false → b ≡ r → R) → elim x as (λ y. S) [ true ↦ a | false ↦ b ] ≡ r → R
chosen {R = R} {r = r} = by_test (λ s. s ≡ r → R)
