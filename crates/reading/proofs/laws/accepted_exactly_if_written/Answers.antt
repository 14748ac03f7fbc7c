use Rattle.reading.proofs.Acceptance.{accepted_exactly}
use Rattle.reading.proofs.laws.accepted_exactly_if_written.Goals as goal

pub returns : goal.returns
returns c = accepted_exactly
