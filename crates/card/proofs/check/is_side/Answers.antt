use Rattle.std.proofs.Common.{eqb, Some, ap, ◌∙◌}
use Rattle.std.specs.Option.{option_eq}
use Rattle.std.proofs.lemmas.Bool.Decides.{Decides-at}
use Rattle.card.specs.Records.{arities}
use Rattle.card.proofs.Sides.{side_told, walk, walk_told}
use Rattle.card.proofs.check.is_side.Goals as goal

pub returns : goal.returns
returns c =
    let Σ = arities c.args.symbols.now in
    let side = c.args.side.now in
    Decides-at _ (walk Σ 1 side) (c.eq.ensures ∙ (ap (λ o. option_eq eqb o (Some 0)) c.due_behind.ensures ∙ walk_told Σ 1 side))
    (side_told Σ side c.told-side)
