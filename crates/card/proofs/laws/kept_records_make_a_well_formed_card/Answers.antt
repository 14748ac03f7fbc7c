use Rattle.card.proofs.Rules.{kept_records_make_a_well_formed_card}
use Rattle.card.proofs.laws.kept_records_make_a_well_formed_card.Goals as goal

pub returns : goal.returns
returns c = kept_records_make_a_well_formed_card
