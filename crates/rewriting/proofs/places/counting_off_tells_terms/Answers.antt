use Rattle.rewriting.proofs.Reading.{counts_off_tells}
use Rattle.rewriting.proofs.places.counting_off_tells_terms.Goals as goal

pub returns : goal.returns
returns c = counts_off_tells
