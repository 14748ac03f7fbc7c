use Rattle.rewriting.proofs.Stepping.{convertible_reach_common}
use Rattle.rewriting.proofs.steps.convertible_trees_reach_a_common_tree.Goals as goal

pub returns : goal.returns
returns c = λ C k t u p. convertible_reach_common C k p
