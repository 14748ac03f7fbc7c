use Rattle.rewriting.proofs.Stepping.{reached_on_card, convertible_on_card}
use Rattle.rewriting.proofs.steps.reached_trees_are_on_card.Goals as goal

pub returns : goal.returns
returns c = λ C. ((λ t u p. reached_on_card C p), λ t u p. convertible_on_card C p)
