use Rattle.cardreader.proofs.CardAcceptance.{cards_have_different_texts}
use Rattle.cardreader.proofs.laws.cards_have_different_texts.Goals as goal

pub returns : goal.returns
returns c = cards_have_different_texts
