use Rattle.rewriting.proofs.Bindings.{fitting_lowest}
use Rattle.rewriting.proofs.matching.fitting_rule_is_lowest.Goals as goal

pub returns : goal.returns
returns c = fitting_lowest
