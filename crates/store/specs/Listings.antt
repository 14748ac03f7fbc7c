-- The lines of a listing, and its whole text. Assumes nothing.
use Rattle.std.specs.Prelude.{ℕ, List}
use Rattle.card.specs.Records.{name_of}
use Rattle.store.specs.declared.tins.listing.Listing.{Listing}
use Rattle.store.specs.Printing.{line_at, lines_to, listed_text}

abbrev pub line_in : Listing → ℕ → List ℕ
line_in l i = line_at (name_of l.symbols.now) l.table.now l.order.now i

abbrev pub lines_in : Listing → ℕ → List ℕ
lines_in l n = lines_to (name_of l.symbols.now) l.table.now l.order.now n

abbrev pub text_in : Listing → List ℕ
text_in l = listed_text (name_of l.symbols.now) l.table.now l.order.now
