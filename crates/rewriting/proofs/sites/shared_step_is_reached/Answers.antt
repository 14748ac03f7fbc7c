use Rattle.rewriting.proofs.Replacing.{shared_step_reached}
use Rattle.rewriting.proofs.sites.shared_step_is_reached.Goals as goal

pub returns : goal.returns
returns c = shared_step_reached
