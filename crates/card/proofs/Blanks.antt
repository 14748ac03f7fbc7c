-- The blank records are the default ones. Assumes nothing.
use Rattle.std.proofs.Common.{◌≡◌, ℕ, suc, ◌<◌, List, [], ◌∷◌, length, get_or, replicate, refl, ap, ◌∙◌, ap₂, arith}
use Rattle.std.specs.Array.{AllOfLen}
use Rattle.card.specs.declared.record.Place.{Place}
use Rattle.card.specs.declared.record.Place.TheVariants.{Empty}
use Rattle.card.specs.declared.record.RuleRecord.{RuleRecord}
use Rattle.card.specs.Records.{blank_rule}

repeated : {X : Type 0} (x : X) (xs : List X) → ((i : ℕ) (d : X) → i < length xs → get_or xs i d ≡ x) → xs ≡ replicate (length xs) x
repeated x [] h = refl
repeated x (y ∷ ys) h = ap₂ (λ z zs. z ∷ zs) (h 0 x (omega arith)) (repeated x ys (λ i d l. h (suc i) d (omega arith)))

empty_side : (side : List Place) → AllOfLen (λ p. p ≡ Empty) side 32 → side ≡ replicate 32 Empty
empty_side side h =
    let long = h.long in
    repeated Empty side (λ i d l. h.at i d (omega (arith, long))) ∙ ap (λ n. replicate n Empty) long

pub default_rule_is_blank : (r : RuleRecord) → AllOfLen (λ p. p ≡ Empty) r.left 32 → AllOfLen (λ p. p ≡ Empty) r.right 32 → r ≡ blank_rule
default_rule_is_blank r left right =
    ap₂ (λ x y. record { left = x; right = y }) (empty_side r.left left) (empty_side r.right right)
