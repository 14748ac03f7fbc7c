use Rattle.rewriting.proofs.Sampling.{scented_double_runs}
use Rattle.rewriting.proofs.samples.scented_double_runs.Goals as goal

pub returns : goal.returns
returns c = scented_double_runs
