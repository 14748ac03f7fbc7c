use Rattle.cardtext.proofs.Splitting.{no_line_has_a_line_end}
use Rattle.cardtext.proofs.laws.no_line_has_a_line_end.Goals as goal

pub returns : goal.returns
returns c = no_line_has_a_line_end
