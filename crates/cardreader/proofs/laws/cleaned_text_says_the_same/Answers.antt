use Rattle.cardreader.proofs.Texts.{cleaned_text_says_the_same}
use Rattle.cardreader.proofs.laws.cleaned_text_says_the_same.Goals as goal

pub returns : goal.returns
returns c = cleaned_text_says_the_same
