-- The records that a reader is lent are the counted ones. Assumes nothing.
use Rattle.std.proofs.Common.{◌≡◌, ℕ, ◌≤◌, List, take, arith, length-take}
use Rattle.std.proofs.lemmas.List.{take_all}

-- no more than 64 are counted, so a reader that looks at 64 looks at all of them
pub counted : {A : Type 0} (m : ℕ) (xs : List A) → m ≤ 64 → take 64 (take m xs) ≡ take m xs
counted m xs few = take_all 64 (take m xs) (simp length-take (omega arith))
