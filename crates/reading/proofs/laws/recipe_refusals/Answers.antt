use Rattle.reading.proofs.Refusing.{recipe_refusals}
use Rattle.reading.proofs.laws.recipe_refusals.Goals as goal

pub returns : goal.returns
returns c = recipe_refusals
