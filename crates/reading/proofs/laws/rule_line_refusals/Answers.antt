use Rattle.reading.proofs.Refusing.{rule_line_refusals}
use Rattle.reading.proofs.laws.rule_line_refusals.Goals as goal

pub returns : goal.returns
returns c = rule_line_refusals
