use Rattle.std.proofs.Common.{length, replicate, ap, ◌∙◌}
use Rattle.card.proofs.Blanks.{default_rule_is_blank}
use Rattle.draft.proofs.draft.blank_tables.Goals as goal

pub returns-clause-rules : goal.returns-clause-rules
returns-clause-rules c =
    c.wipe-2.ensures ∙ ap (replicate (length c.args.rules.now)) (default_rule_is_blank c.default-2.result c.default-2.ensures.0 c.default-2.ensures.1)
