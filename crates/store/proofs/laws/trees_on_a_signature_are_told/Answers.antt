use Rattle.store.proofs.StoreLaws.{trees_on_a_signature_are_told}
use Rattle.store.proofs.laws.trees_on_a_signature_are_told.Goals as goal

pub returns : goal.returns
returns c = trees_on_a_signature_are_told
