use Rattle.reading.proofs.RuleSpelling.{rule_exactly}
use Rattle.reading.proofs.laws.rule_line_taken_exactly.Goals as goal

pub returns : goal.returns
returns c = rule_exactly
