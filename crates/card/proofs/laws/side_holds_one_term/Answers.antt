use Rattle.card.proofs.Sides.{side_holds_one_term}
use Rattle.card.proofs.laws.side_holds_one_term.Goals as goal

pub returns : goal.returns
returns c = side_holds_one_term
