use Rattle.cardtext.proofs.Cleaning.{cleaning_keeps_line_ends}
use Rattle.cardtext.proofs.laws.cleaning_keeps_line_ends.Goals as goal

pub returns : goal.returns
returns c = cleaning_keeps_line_ends
