use Rattle.std.proofs.Common.{length, sym, ap, ◌∙◌, arith, length-take}
use Rattle.card.specs.Records.{name_of}
use Rattle.store.proofs.Printed.{lines_longer, no_lines}
use Rattle.store.proofs.tins.listing.Listing.length.Goals as goal

pub loop-place-init : goal.loop-place-init
loop-place-init c = let l = c.args.self.now in let e = ap length (no_lines (name_of l.symbols.now) l.table.now l.order.now) in (sym e, omega arith)

pub loop-place-preserved : goal.loop-place-preserved
loop-place-preserved c =
    let l = c.args.self.now in
    let text = c.line.result in
    let more = lines_longer (name_of l.symbols.now) l.table.now l.order.now c.loop-place.place c.as_bytes.result.now (omega (arith, length-take c.args.count l.order.now)) (c.as_bytes.ensures ∙ c.line.ensures) in
    let short = length-take text.count text.bytes in
    let same = ap length c.as_bytes.ensures in
    (omega (arith, c.loop-place.invariant.0, more), omega (arith, c.loop-place.invariant.1, same, short, text.few))
