use Rattle.cardtext.proofs.Cleaning.{cleaning_twice_is_cleaning_once}
use Rattle.cardtext.proofs.laws.cleaning_twice_is_cleaning_once.Goals as goal

pub returns : goal.returns
returns c = cleaning_twice_is_cleaning_once
