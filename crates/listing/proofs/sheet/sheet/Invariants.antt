use Rattle.std.proofs.Common.{◌≡◌, map, take}
use Rattle.rewriting.specs.Subterms as theory
use Rattle.explicit.specs.Meaning.{listed}
use Rattle.listing.specs.Rows.{row_of}
use Rattle.listing.proofs.sheet.sheet.Given as goal

abbrev pub invariant-loop-subterm : goal.invariant-loop-subterm
invariant-loop-subterm l =
    map row_of l.rows.items ≡ map (theory.row (listed l.subterm-items)) (listed (take l.subterm-index l.subterm-items))
