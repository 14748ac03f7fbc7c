use Rattle.rewriting.proofs.Sampling.{card_trees_decide}
use Rattle.rewriting.proofs.samples.confluence_is_over_the_trees_of_the_card.Goals as goal

pub returns : goal.returns
returns c = card_trees_decide
