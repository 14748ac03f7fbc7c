use Rattle.cardtext.proofs.Cleaning.{cleaned_text_is_plain}
use Rattle.cardtext.proofs.laws.cleaned_text_is_plain.Goals as goal

pub returns : goal.returns
returns c = cleaned_text_is_plain
