use Rattle.dag.proofs.Keeping.{compact_count}
use Rattle.dag.proofs.laws.compact_tables_count_exactly.Goals as goal

pub returns : goal.returns
returns c = compact_count
