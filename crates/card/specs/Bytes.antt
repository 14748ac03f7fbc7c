-- Names as bytes. Assumes nothing.
use Rattle.std.specs.Prelude.{◌≡◌, ℕ, zero, suc, ◌-◌, ◌≤◌, Bool, true, false, ◌&&◌, List, [], ◌∷◌, ◌++◌, length, replicate, ◌==◌, nat_le}
use Rattle.std.specs.List.{AllByRecursion}

-- one of a to z
abbrev pub letter : ℕ → Bool
letter b = nat_le 97 b && nat_le b 122

pub record Name (name : List ℕ) : Type 0 where
  pub some : 1 ≤ length name
  pub few : length name ≤ 12
  pub letters : AllByRecursion (λ b. letter b ≡ true) name

-- a name as a record holds it: zeros fill it to 12 bytes
abbrev pub filled : List ℕ → List ℕ
filled name = name ++ replicate (12 - length name) 0

-- the letters of a name that zeros fill
abbrev pub letters_of : List ℕ → List ℕ
letters_of [] = []
letters_of (zero ∷ bs) = []
letters_of (suc b ∷ bs) = suc b ∷ letters_of bs

abbrev pub same_bytes : List ℕ → List ℕ → Bool
same_bytes [] [] = true
same_bytes [] (y ∷ ys) = false
same_bytes (x ∷ xs) [] = false
same_bytes (x ∷ xs) (y ∷ ys) = x == y && same_bytes xs ys
