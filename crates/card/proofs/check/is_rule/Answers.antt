use Rattle.std.proofs.Common.{is_some, sym, refl, ap, ◌∙◌}
use Rattle.card.specs.Records.{arities}
use Rattle.card.proofs.Rules.{lone_variable_told, rule_told}
use Rattle.card.proofs.check.is_rule.Goals as goal

pub returns-then-is_none : goal.returns-then-is_none
returns-then-is_none c =
    rule_told (arities c.args.symbols.now) c.args.rule.now (c.if-not-is_side.ensures.0 refl)
    (c.if-not-is_side-2.ensures.0 refl) c.variables_within.result
    (ap is_some (sym c.variable_of.ensures) ∙ c.if-is_none.ensures) c.variables_within.ensures

pub returns-else-is_none : goal.returns-else-is_none
returns-else-is_none c =
    lone_variable_told (arities c.args.symbols.now) c.args.rule.now c.is_none.result
    (ap is_some (sym c.variable_of.ensures) ∙ c.if-is_none.ensures) c.if-is_none.false
