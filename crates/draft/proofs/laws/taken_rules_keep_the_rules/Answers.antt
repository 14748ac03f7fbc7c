use Rattle.draft.proofs.Kept.{rule_keeps}
use Rattle.draft.proofs.laws.taken_rules_keep_the_rules.Goals as goal

pub returns : goal.returns
returns c = rule_keeps
