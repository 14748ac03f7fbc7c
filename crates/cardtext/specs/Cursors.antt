-- What a cursor has still to hand out. Assumes nothing.
use Rattle.std.specs.Prelude.{◌≡◌, ℕ, ◌+◌, ◌<◌, List, [], ◌∷◌, length}
use Rattle.cardtext.specs.declared.cursor.Lines.{Lines}
use Rattle.cardtext.specs.Lines.{lines}

abbrev pub rest_lines : Lines → List (List ℕ)
rest_lines cursor = lines cursor.rest.now

-- bytes still to read, which fall with each line
abbrev pub unread : Lines → ℕ
unread cursor = length cursor.rest.now

-- no line is to come, and the cursor stays
pub record Spent (before after : Lines) : Type 0 where
  pub none : rest_lines before ≡ []
  pub same : after ≡ before

-- the first line to come is handed out and counted, and the others are still to come
pub record HandsOut (before after : Lines) (line : List ℕ) : Type 0 where
  pub first : rest_lines before ≡ line ∷ rest_lines after
  pub number : after.number ≡ before.number + 1
  pub less : unread after < unread before
