use Rattle.sheet.specs.Texts.{PutAtFront}
use Rattle.store.specs.Listings.{lines_in}
use Rattle.store.proofs.tins.listing.Listing.write_lines.Given as goal

abbrev pub invariant-loop-place : goal.invariant-loop-place
invariant-loop-place l = PutAtFront (lines_in l.self l.place) l.end l.initial.out l.out
