use Rattle.std.proofs.Common.{◌≡◌, ◌<◌, length, get_or, take, None, unwrap_or, sym, ap, ◌∙◌, arith, length-set}
use Rattle.std.proofs.lemmas.List.{length-map, take_all}
use Rattle.store.specs.Sources.{source_records}
use Rattle.store.proofs.Sources.{record_more}
use Rattle.store.proofs.tins.Tins.source_records.Goals as goal

pub loop-i-preserved : goal.loop-i-preserved
loop-i-preserved c =
    let e = c.unwrap_or.ensures ∙ ap (λ o. unwrap_or o 0) c.root.ensures in
    let n = c.loop-i.invariant.1 in
    let few = c.requires in
    let h : c.loop-i.i < length c.loop-i.records = omega arith in (
      record_more c.args.self.now.roots c.args.sources.now c.loop-i.records c.loop-i.i c.unwrap_or.result c.loop-i-test.true h e c.loop-i.invariant.0,
      length-set c.loop-i.records c.loop-i.i c.unwrap_or.result ∙ n,
    )

pub returns : goal.returns
returns c =
    let sources = c.args.sources.now in
    let all = source_records c.args.self.now.roots sources in
    let n = length-map sources (λ tin. unwrap_or (get_or c.args.self.now.roots tin None) 0) in
    let end : c.loop-i.i ≡ length sources = omega arith in
    ap (λ i. take i c.loop-i.records) (sym end) ∙ (c.loop-i.invariant.0 ∙ take_all c.loop-i.i all (omega arith))
