use Rattle.rewriting.proofs.Replacing.{replaced_exactly}
use Rattle.rewriting.proofs.sites.every_occurrence_is_replaced_once.Goals as goal

pub returns : goal.returns
returns c = replaced_exactly
