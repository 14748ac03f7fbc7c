use Rattle.rewriting.proofs.Running.{runs_exactly}
use Rattle.rewriting.proofs.runs.run_is_its_turns.Goals as goal

pub returns : goal.returns
returns c = runs_exactly
