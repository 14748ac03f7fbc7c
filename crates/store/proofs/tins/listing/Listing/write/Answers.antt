use Rattle.std.proofs.Common.{◌≡◌, ◌+◌, ◌-◌, ◌++◌, length, sym, refl, ap, ◌∙◌, subst, arith, length-append}
use Rattle.card.specs.Records.{name_of}
use Rattle.sheet.specs.Texts.{bytes_of, PutAtFront}
use Rattle.store.specs.Printing.{lines_to, listed_text}
use Rattle.store.proofs.Behind.{put_more}
use Rattle.store.proofs.Printed.{lines_length_is, text_is}
use Rattle.store.proofs.tins.listing.Listing.write.Goals as goal
use Rattle.store.proofs.tins.listing.Listing.write.Goals.{After-as_bytes-2}

-- what is to be written, and how long it is
module _ (c : After-as_bytes-2) where
  is_last : length c.args.self.now.order.now - 1 + 1 ≡ length c.args.self.now.order.now
  is_last = omega (arith, c.requires)

  whole : listed_text (name_of c.args.self.now.symbols.now) c.args.self.now.table.now c.args.self.now.order.now
      ≡ lines_to (name_of c.args.self.now.symbols.now) c.args.self.now.table.now c.args.self.now.order.now (length c.args.self.now.order.now) ++ bytes_of c.trailer-foot.result
  whole =
      text_is (name_of c.args.self.now.symbols.now) c.args.self.now.table.now c.args.self.now.order.now (length c.args.self.now.order.now - 1) is_last c.length-place.result
      (bytes_of c.trailer-foot.result) c.length-place.ensures.sum c.trailer-foot.ensures

  lines_long : length (lines_to (name_of c.args.self.now.symbols.now) c.args.self.now.table.now c.args.self.now.order.now (length c.args.self.now.order.now))
      ≡ c.length-place.result + length c.as_bytes.result.now
  lines_long =
      lines_length_is (name_of c.args.self.now.symbols.now) c.args.self.now.table.now c.args.self.now.order.now (length c.args.self.now.order.now - 1) is_last c.length-place.result
      c.as_bytes.result.now c.length-place.ensures.sum (c.as_bytes.ensures ∙ c.line-line.ensures)

  whole_long : length (listed_text (name_of c.args.self.now.symbols.now) c.args.self.now.table.now c.args.self.now.order.now)
      ≡ c.length-place.result + length c.as_bytes.result.now + length c.as_bytes-2.result.now
  whole_long =
      let lines = lines_to (name_of c.args.self.now.symbols.now) c.args.self.now.table.now c.args.self.now.order.now (length c.args.self.now.order.now) in
      omega (arith, ap length whole, length-append lines (bytes_of c.trailer-foot.result), lines_long, ap length c.as_bytes-2.ensures)

pub returns-then-out-place : goal.returns-then-out-place
returns-then-out-place c = (omega (arith, c.if-out-place.true, whole_long (goal.at.returns-then-out-place c).After-as_bytes-2), refl)

pub write_lines-end-requires : goal.write_lines-end-requires
write_lines-end-requires c = omega (arith, c.if-out-place.false, lines_long (goal.at.write_lines-end-requires c).After-as_bytes-2)

pub put_behind-requires : goal.put_behind-requires
put_behind-requires c =
    omega (arith, c.if-out-place.false, lines_long (goal.at.put_behind-requires c).After-as_bytes-2, ap length c.as_bytes-2.ensures, c.write_lines-end.ensures.count, c.write_lines-end.auto.out)

pub returns : goal.returns
returns c =
    subst (λ w. PutAtFront w c.put_behind.result c.args.out.now c.put_behind.new.out) (sym (whole (goal.at.returns c).After-as_bytes-2))
    (put_more _ (bytes_of c.trailer-foot.result) c.args.out.now c.write_lines-end.new.out c.put_behind.new.out c.write_lines-end.result c.put_behind.result
    c.write_lines-end.ensures c.put_behind.ensures.end c.put_behind.ensures.bytes)
