use Rattle.std.proofs.Common.{vec_items, refl}
use Rattle.dag.proofs.Folding.{no_trees}
use Rattle.dag.proofs.table.Table.new.Goals as goal

pub returns : goal.returns
returns c = (no_trees (vec_items c.args.rows), refl)
