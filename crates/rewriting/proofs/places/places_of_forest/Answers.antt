use Rattle.rewriting.proofs.Reading.{places_of_forest}
use Rattle.rewriting.proofs.places.places_of_forest.Goals as goal

pub returns : goal.returns
returns c = places_of_forest
