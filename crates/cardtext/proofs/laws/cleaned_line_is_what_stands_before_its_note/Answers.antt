use Rattle.cardtext.proofs.Cleaning.{cleaned_line_is_what_stands_before_its_note}
use Rattle.cardtext.proofs.laws.cleaned_line_is_what_stands_before_its_note.Goals as goal

pub returns : goal.returns
returns c = cleaned_line_is_what_stands_before_its_note
