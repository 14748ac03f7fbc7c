use Rattle.rewriting.proofs.Stepping.{step_on_card}
use Rattle.rewriting.proofs.steps.steps_stay_on_card.Goals as goal

pub returns : goal.returns
returns c = λ C w t u on s. step_on_card C w s on
