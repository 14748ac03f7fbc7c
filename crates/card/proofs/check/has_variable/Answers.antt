use Rattle.std.proofs.Common.{eqb, Some, sym, ◌∙◌, rules, tests}
use Rattle.std.specs.Option.{option_eq}
use Rattle.std.proofs.lemmas.Iterator.{YieldsList-from_slice}
use Rattle.std.proofs.lemmas.Iterator.Search.{any_from_yields_List}
use Rattle.card.specs.Scans.{variable_of}
use Rattle.card.proofs.Sides.{mentions_any}
use Rattle.card.proofs.check.has_variable.Goals as goal

pub returns : goal.returns
returns c =
    any_from_yields_List (λ p. option_eq eqb (variable_of p) (Some c.args.variable)) _ _ c.any.result c.any.ensures.ran
    (YieldsList-from_slice c.args.side.now cc) (λ x b q k. search (rules, tests))
    ∙ sym (mentions_any c.args.variable c.args.side.now)
