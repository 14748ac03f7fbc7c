-- A card text without its blanks, tabs and notes. Assumes nothing.
use Rattle.std.specs.Prelude.{◌≡◌, ℕ, ◌-◌, ◌<◌, ◌≤◌, Bool, true, false, not, ◌&&◌, ◌||◌, ◌≢◌, List, [], ◌∷◌, ◌++◌, length, replicate, count_by, filter, ◌==◌, nat_eq}
use Rattle.std.specs.List.{before_first, AllByRecursion}

-- a blank or a tab
abbrev pub blank : ℕ → Bool
blank b = b == 32 || b == 9

-- a note runs from "#" up to its line's end, which is no part of it: whether a byte is in a note, where `before` says so
-- of the byte before it
abbrev pub in_note : Bool → ℕ → Bool
in_note before b = not (b == 10) && (before || b == 35)

-- whether a byte is kept, where `before` says whether the byte before it is in a note
abbrev pub kept : Bool → ℕ → Bool
kept before b = not (in_note before b) && not (blank b)

abbrev pub put_if : Bool → ℕ → List ℕ → List ℕ
put_if true b bs = b ∷ bs
put_if false b bs = bs

-- what is kept of a text, behind a byte that is in a note or outside one
abbrev pub cleaned_behind : Bool → List ℕ → List ℕ
cleaned_behind before [] = []
cleaned_behind before (b ∷ bs) =
    put_if (kept before b) b (cleaned_behind (in_note before b) bs)

abbrev pub cleaned : List ℕ → List ℕ
cleaned = cleaned_behind false

-- THE BUFFER

-- the text may not fit, and the buffer is left as it was
pub record TooShort (text before after : List ℕ) : Type 0 where
  pub short : length before < length text
  pub same : after ≡ before

-- the buffer holds the cleaned text, which has n bytes, and zeros behind it
pub record Holds (text before after : List ℕ) (n : ℕ) : Type 0 where
  pub room : length text ≤ length before
  pub count : n ≡ length (cleaned text)
  pub holds : after ≡ cleaned text ++ replicate (length before - n) 0

-- LAWS

abbrev pub CleanedTextIsNoLonger : Type 0
CleanedTextIsNoLonger = (text : List ℕ) → length (cleaned text) ≤ length text

-- no blank, no tab, no "#"
pub record Plain (b : ℕ) : Type 0 where
  pub no_blank : b ≢ 32
  pub no_tab : b ≢ 9
  pub no_note : b ≢ 35

abbrev pub CleanedTextIsPlain : Type 0
CleanedTextIsPlain = (text : List ℕ) → AllByRecursion Plain (cleaned text)

abbrev pub line_ends : List ℕ → ℕ
line_ends = count_by (λ b. nat_eq b 10)

abbrev pub CleaningKeepsLineEnds : Type 0
CleaningKeepsLineEnds = (text : List ℕ) → line_ends (cleaned text) ≡ line_ends text

abbrev pub CleaningTwiceIsCleaningOnce : Type 0
CleaningTwiceIsCleaningOnce = (text : List ℕ) → cleaned (cleaned text) ≡ cleaned text

-- a line up to its first "#"
abbrev pub before_note : List ℕ → List ℕ
before_note = before_first (λ b. b == 35)

-- of one line the bytes before the first "#" are kept, but for blanks and tabs
abbrev pub CleanedLineIsWhatStandsBeforeItsNote : Type 0
CleanedLineIsWhatStandsBeforeItsNote =
    (line : List ℕ) → AllByRecursion (λ b. b ≢ 10) line → cleaned line ≡ filter (λ b. not (blank b)) (before_note line)
