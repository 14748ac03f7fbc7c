-- The lines of a text, and those of a cleaned text. Assumes nothing.
use Rattle.std.specs.Prelude.{◌≡◌, ℕ, Bool, true, false, not, ◌≢◌, List, [], ◌∷◌, ◌++◌, map, ◌==◌, slice_index_or}
use Rattle.std.specs.List.{flat_map, AllByRecursion}
use Rattle.cardtext.specs.Cleaning.{cleaned}

-- a byte that is no line end
abbrev pub inner : ℕ → Bool
inner b = not (b == 10)

-- lines with one more byte before them: an inner byte begins the first line, and a line end makes an empty line
abbrev pub put_byte : Bool → ℕ → List (List ℕ) → List (List ℕ)
put_byte true b [] = (b ∷ []) ∷ []
put_byte true b (l ∷ ls) = (b ∷ l) ∷ ls
put_byte false b ls = [] ∷ ls

-- byte 10 ends a line; the last line may lack it, and behind it there is no line unless a byte follows
abbrev pub lines : List ℕ → List (List ℕ)
lines [] = []
lines (b ∷ bs) = put_byte (inner b) b (lines bs)

-- LAWS

abbrev pub NoLineHasALineEnd : Type 0
NoLineHasALineEnd = (text : List ℕ) → AllByRecursion (AllByRecursion (λ b. b ≢ 10)) (lines text)

-- the byte that a text ends with, or b if it is empty
abbrev pub last_byte : ℕ → List ℕ → ℕ
last_byte b [] = b
last_byte b (c ∷ cs) = last_byte c cs

-- each line has its end
abbrev pub Ended : List ℕ → Type 0
Ended text = last_byte 10 text ≡ 10

-- each line with its end behind it
abbrev pub joined_lines : List (List ℕ) → List ℕ
joined_lines = flat_map (λ line. line ++ 10 ∷ [])

-- the lines make the text again, with a line end added if the last line lacks it
pub record Joins (text : List ℕ) : Type 0 where
  pub ended : Ended text → joined_lines (lines text) ≡ text
  pub open_ended : (Ended text → ⊥) → joined_lines (lines text) ≡ text ++ 10 ∷ []

abbrev pub LinesMakeTheText : Type 0
LinesMakeTheText = (text : List ℕ) → Joins text

-- a line by its number, counted from 0; empty behind the last
abbrev pub line_at : ℕ → List ℕ → List ℕ
line_at i text = slice_index_or (lines text) i []

-- a line and its cleaned line have the same number
abbrev pub LineOfCleanedIsCleanedLine : Type 0
LineOfCleanedIsCleanedLine = (text : List ℕ) (i : ℕ) → line_at i (cleaned text) ≡ cleaned (line_at i text)

-- all lines at once. A last line that lacks its end is left out: if nothing of it is kept, the cleaned text has no such line
abbrev pub LinesOfCleanedAreCleanedLines : Type 0
LinesOfCleanedAreCleanedLines = (text : List ℕ) → Ended text → lines (cleaned text) ≡ map cleaned (lines text)
