-- What the program's rows stand for in the theory. Assumes nothing.
use Rattle.std.specs.Prelude.{vec_items}
use Rattle.rewriting.specs.Subterms as subterms
use Rattle.listing.specs.declared.sheet.Row.{Row}

-- a row of the sheet
abbrev pub row_of : Row → subterms.Row
row_of r = record { symbol = r.symbol; children = vec_items r.children }
