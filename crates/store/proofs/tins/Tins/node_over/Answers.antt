use Rattle.std.proofs.Common.{length, take}
use Rattle.store.proofs.Sources.{node_over_told}
use Rattle.store.proofs.tins.Tins.node_over.Goals as goal

pub returns : goal.returns
returns c =
    node_over_told c.args.self.now c.args.symbol c.args.sources.now (take (length c.args.sources.now) c.source_records-records.result) c.new.result c.source_records-records.ensures
    c.requires.tins c.requires.filled c.new.ensures
