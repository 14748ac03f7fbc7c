use Rattle.rewriting.proofs.Sampling.{tea_well_formed}
use Rattle.rewriting.proofs.samples.tea_card_is_well_formed.Goals as goal

pub returns : goal.returns
returns c = tea_well_formed
