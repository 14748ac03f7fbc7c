use Rattle.dag.proofs.Invariant.{children_first}
use Rattle.dag.proofs.laws.children_stand_below.Goals as goal

pub returns : goal.returns
returns c = children_first
