use Rattle.cardtext.proofs.Cleaning.{cleaned_text_is_no_longer}
use Rattle.cardtext.proofs.laws.cleaned_text_is_no_longer.Goals as goal

pub returns : goal.returns
returns c = cleaned_text_is_no_longer
