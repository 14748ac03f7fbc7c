use Rattle.rewriting.proofs.Bindings.{match_found}
use Rattle.rewriting.proofs.matching.match_is_found_exactly.Goals as goal

pub returns : goal.returns
returns c = match_found
