use Rattle.dag.proofs.Keeping.{compact_members}
use Rattle.dag.proofs.laws.compact_tables_hold_root_subterms.Goals as goal

pub returns : goal.returns
returns c = compact_members
