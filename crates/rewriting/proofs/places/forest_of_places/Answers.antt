use Rattle.rewriting.proofs.Reading.{forest_of_places}
use Rattle.rewriting.proofs.places.forest_of_places.Goals as goal

pub returns : goal.returns
returns c = forest_of_places
