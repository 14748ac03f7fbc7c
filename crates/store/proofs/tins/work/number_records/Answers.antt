use Rattle.std.proofs.Common.{◌<◌, length, arith}
use Rattle.std.proofs.ByRecursion.{All-get_or}
use Rattle.store.proofs.Numbering.{number_more}
use Rattle.store.proofs.tins.work.number_records.Goals as goal

pub bounds-numbers-record : goal.bounds-numbers-record
bounds-numbers-record c = omega (arith, All-get_or (λ k. k < length c.args.numbers.now) c.args.order.now c.loop-place.place 0 (omega arith) c.requires.inside)

pub loop-place-preserved : goal.loop-place-preserved
loop-place-preserved c =
    let h = All-get_or (λ k. k < length c.args.numbers.now) c.args.order.now c.loop-place.place 0 (omega arith) c.requires.inside in
    number_more c.args.order.now c.loop-place.numbers c.loop-place.place c.requires.once (omega arith) (omega arith) c.loop-place.invariant
