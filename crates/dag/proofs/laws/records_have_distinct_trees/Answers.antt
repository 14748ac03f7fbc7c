use Rattle.dag.proofs.Invariant.{distinct_trees}
use Rattle.dag.proofs.laws.records_have_distinct_trees.Goals as goal

pub returns : goal.returns
returns c = distinct_trees
