-- What a source still has to give. Assumes nothing.
use Rattle.std.specs.Prelude.{◌≡◌, ℕ, ◌≤◌, Bool, true, false, List, [], ◌∷◌, ◌++◌, length, Some, None, Option, ◌==◌}
use Rattle.std.specs.List.{AllByRecursion}
use Rattle.card.specs.Bytes.{letter, filled}
use Rattle.reading.specs.declared.fault.Fault.{Fault}
use Rattle.reading.specs.declared.fault.Fault.TheVariants.{WrongByte, EarlyEnd}

-- the next byte
abbrev pub first : List ℕ → Option ℕ
first [] = None
first (b ∷ bs) = Some b

-- whether the next byte is a letter a to z
abbrev pub at_letter : List ℕ → Bool
at_letter [] = false
at_letter (b ∷ bs) = letter b

-- whether the next byte is this one
abbrev pub next_is : ℕ → List ℕ → Bool
next_is x [] = false
next_is x (b ∷ bs) = b == x

-- why a text cannot go on: it ends, or its next byte cannot come next
abbrev pub unexpected : List ℕ → Fault
unexpected [] = EarlyEnd
unexpected (b ∷ bs) = WrongByte

-- n letters were taken off the front, and are held filled with zeros
pub record Taken (n : ℕ) (held : List ℕ) (before after : List ℕ) : Type 0 where
  pub letters : List ℕ
  pub as_many : length letters ≡ n
  pub few : n ≤ 12
  pub each : AllByRecursion (λ b. letter b ≡ true) letters
  pub spelled : before ≡ letters ++ after
  pub holds : held ≡ filled letters

-- all the letters at the front, no more than 12 of them
pub record NameTaken (held : List ℕ) (before after : List ℕ) : Type 0 where
  pub count : ℕ
  pub taken : Taken count held before after
  pub over : at_letter after ≡ false

-- twelve letters, with a 13th to come
pub record NameGoesOn (before after : List ℕ) : Type 0 where
  pub held : List ℕ
  pub taken : Taken 12 held before after
  pub goes_on : at_letter after ≡ true
