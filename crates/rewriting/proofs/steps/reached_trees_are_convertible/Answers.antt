use Rattle.rewriting.proofs.Stepping.{reaches_convertible}
use Rattle.rewriting.proofs.steps.reached_trees_are_convertible.Goals as goal

pub returns : goal.returns
returns c = λ C t u p. reaches_convertible C p
