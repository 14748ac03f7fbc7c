use Rattle.cardreader.proofs.CardAcceptance.{card_text_accepted_exactly}
use Rattle.cardreader.proofs.laws.card_text_accepted_exactly.Goals as goal

pub returns : goal.returns
returns c = card_text_accepted_exactly
