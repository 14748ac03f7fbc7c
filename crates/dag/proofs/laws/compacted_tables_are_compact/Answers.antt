use Rattle.dag.proofs.Keeping.{compacted_compact}
use Rattle.dag.proofs.laws.compacted_tables_are_compact.Goals as goal

pub returns : goal.returns
returns c = compacted_compact
