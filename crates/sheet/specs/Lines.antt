-- The bytes of a line as a value. Assumes nothing.
use Rattle.std.specs.Prelude.{ℕ, List, take}
use Rattle.card.specs.Bytes.{letters_of}
use Rattle.sheet.specs.declared.line.Line.{Line}
use Rattle.sheet.specs.SheetText.{line_text}

abbrev pub line_bytes : Line → List ℕ
line_bytes l = line_text l.number (letters_of l.name) (take 4 l.children.now)
