use Rattle.std.proofs.Common.{vec_items, ap, ◌∙◌, refl}
use Rattle.explicit.specs.Meaning.{card_of, listed}
use Rattle.sites.proofs.Collections.{site_made, no_site}
use Rattle.sites.proofs.site.sites_among.Goals as goal
use Rattle.sites.proofs.site.sites_among.Goals.{in-Some+in_ok-push, in_default}

pub loop-i-preserved : goal.loop-i-preserved
loop-i-preserved c =
    let C = card_of c.args.card.now in
    let R = listed c.args.redexes.now in
    elim c.match-fitting_number.branch [
      | in-Some+in_ok-push w ↦
          site_made c.args.order.now c.loop-i.i c.index-order-i.result c.loop-i-test.true c.index-order-i.is C R c.loop-i.sites.items _ c.loop-i.invariant
          _ refl w.in-Some.ensures w.is_outer.ensures w.is_inner.ensures (ap vec_items w.sites-is ∙ w.in_ok-push.ensures.items)
      | in_default w ↦
          no_site c.args.order.now c.loop-i.i c.index-order-i.result c.loop-i-test.true c.index-order-i.is C R c.loop-i.sites.items _ c.loop-i.invariant
          w.in_default.ensures (ap vec_items w.sites-is)
    ]
