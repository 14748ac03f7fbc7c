use Rattle.rewriting.proofs.Running.{run_reached}
use Rattle.rewriting.proofs.runs.run_is_reached.Goals as goal

pub returns : goal.returns
returns c = λ C w pick ok room n t on. run_reached C w pick ok room n t on
