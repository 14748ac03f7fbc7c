use Rattle.std.proofs.Common.{◌≡◌, ◌+◌, ◌++◌, map, drop, vec_items}
use Rattle.rewriting.specs.Sites as theory
use Rattle.explicit.specs.Meaning.{card_of, listed}
use Rattle.sites.specs.Records.{site_of}
use Rattle.sites.proofs.site.sites_among.Given as goal

abbrev pub invariant-loop-i : goal.invariant-loop-i
invariant-loop-i l =
    map site_of (vec_items l.sites) ++ theory.sites_from (card_of l.card) (listed l.redexes) (l.i + 1) (listed (drop l.i l.order))
    ≡ theory.sites_from (card_of l.card) (listed l.redexes) 1 (listed l.order)
