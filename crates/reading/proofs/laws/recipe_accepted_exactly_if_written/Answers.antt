use Rattle.reading.proofs.Acceptance.{recipe_exactly}
use Rattle.reading.proofs.laws.recipe_accepted_exactly_if_written.Goals as goal

pub returns : goal.returns
returns c = recipe_exactly
