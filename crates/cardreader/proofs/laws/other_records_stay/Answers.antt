use Rattle.cardreader.proofs.Texts.{other_records_stay}
use Rattle.cardreader.proofs.laws.other_records_stay.Goals as goal

pub returns : goal.returns
returns c = other_records_stay
