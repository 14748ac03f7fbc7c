use Rattle.card.proofs.Finding.{name_is_found_exactly}
use Rattle.card.proofs.laws.name_is_found_exactly.Goals as goal

pub returns : goal.returns
returns c = name_is_found_exactly
