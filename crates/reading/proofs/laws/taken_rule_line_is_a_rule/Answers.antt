use Rattle.reading.proofs.RuleForms.{rule_taken}
use Rattle.reading.proofs.laws.taken_rule_line_is_a_rule.Goals as goal

pub returns : goal.returns
returns c = rule_taken
