use Rattle.std.proofs.Common.{◌≡◌, ◌+◌, ◌-◌, ◌<◌, length, take, drop, ap, subst, MatchOption}
use Rattle.sheet.specs.Texts.{bytes_of, PutAtFront}
use Rattle.store.proofs.Behind.{tail_put}
use Rattle.store.proofs.tins.listing.put_behind.Goals as goal

pub returns : goal.returns
returns c =
    let text = bytes_of c.args.text.now in
    let tail = take (length c.args.out.now - c.args.at) (drop c.args.at c.args.out.now) in
    let put = subst (λ o. MatchOption o ((length tail < length text) × (c.write_to.new.out ≡ tail)) (λ n. PutAtFront text n tail c.write_to.new.out)) c.unwrap.ensures c.write_to.ensures in
    record { end = ap (λ n. c.args.at + n) put.count; bytes = tail_put text c.args.out.now c.write_to.new.out c.args.at c.unwrap.result put }
