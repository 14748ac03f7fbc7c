use Rattle.rewriting.proofs.Running.{runs_add_up}
use Rattle.rewriting.proofs.runs.runs_add_up.Goals as goal

pub returns : goal.returns
returns c = runs_add_up
