use Rattle.std.proofs.Common.{◌≡◌, ◌*◌, ◌≤◌, length}
use Rattle.store.specs.Listings.{lines_in}
use Rattle.store.proofs.tins.listing.Listing.length.Given as goal

abbrev pub invariant-loop-place : goal.invariant-loop-place
invariant-loop-place l = (l.sum ≡ length (lines_in l.self l.place)) × (l.sum ≤ 48 * l.place)
