-- What a short text holds, and what it leaves in a buffer. Assumes nothing.
use Rattle.std.specs.Prelude.{◌≡◌, ℕ, List, ◌++◌, length, take, drop}
use Rattle.sheet.specs.declared.text.Text.{Text}

abbrev pub bytes_of : Text → List ℕ
bytes_of t = take t.count t.bytes

-- the text stands at the front of the buffer, the bytes behind it are as they were, and n is its length
pub record PutAtFront (text : List ℕ) (n : ℕ) (before after : List ℕ) : Type 0 where
  pub count : n ≡ length text
  pub holds : after ≡ text ++ drop (length text) before
