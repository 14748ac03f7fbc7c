use Rattle.rewriting.proofs.Running.{stops_rightly}
use Rattle.rewriting.proofs.runs.run_stops_rightly.Goals as goal

pub returns : goal.returns
returns c = stops_rightly
