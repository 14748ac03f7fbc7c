use Rattle.std.proofs.Common.{◌+◌, sym, subst, arith}
use Rattle.card.specs.Records.{name_of}
use Rattle.sheet.specs.Texts.{bytes_of, PutAtFront}
use Rattle.store.specs.Listings.{lines_in}
use Rattle.store.proofs.Behind.{nothing_put, put_more}
use Rattle.store.proofs.Printed.{lines_longer, lines_more, lines_shorter, no_lines}
use Rattle.store.proofs.tins.listing.Listing.write_lines.Goals as goal

pub loop-place-init : goal.loop-place-init
loop-place-init c = let l = c.args.self.now in nothing_put _ c.args.out.now (no_lines (name_of l.symbols.now) l.table.now l.order.now)

pub put_behind-end-requires : goal.put_behind-end-requires
put_behind-end-requires c =
    let l = c.args.self.now in
    let names = name_of l.symbols.now in
    let table = l.table.now in
    let order = l.order.now in
    let more = lines_longer names table order c.loop-place.place (bytes_of c.line.result) (omega arith) c.line.ensures in
    omega (arith, c.loop-place.invariant.count, more, lines_shorter names table order (c.loop-place.place + 1), c.requires, c.loop-place.auto.out)

pub loop-place-preserved : goal.loop-place-preserved
loop-place-preserved c =
    let l = c.args.self.now in
    let text = bytes_of c.line.result in
    subst (λ w. PutAtFront w c.put_behind-end.result c.args.out.now c.put_behind-end.new.out)
    (sym (lines_more (name_of l.symbols.now) l.table.now l.order.now c.loop-place.place text (omega arith) c.line.ensures))
    (put_more (lines_in l c.loop-place.place) text c.args.out.now c.loop-place.out c.put_behind-end.new.out c.loop-place.end c.put_behind-end.result c.loop-place.invariant
    c.put_behind-end.ensures.end c.put_behind-end.ensures.bytes)
