use Rattle.rewriting.proofs.Equality.{same_decides}
use Rattle.rewriting.proofs.terms.equality_is_decided.Goals as goal

pub returns : goal.returns
returns c = same_decides
