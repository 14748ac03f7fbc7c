use Rattle.std.proofs.Common.{◌≡◌, length, take}
use Rattle.store.specs.Sources.{source_records}
use Rattle.store.proofs.tins.Tins.source_records.Given as goal

abbrev pub invariant-loop-i : goal.invariant-loop-i
invariant-loop-i l = (take l.i l.records ≡ take l.i (source_records l.self.roots l.sources)) × (length l.records ≡ 4)
