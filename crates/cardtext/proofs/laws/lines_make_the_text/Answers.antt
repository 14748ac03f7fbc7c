use Rattle.cardtext.proofs.Splitting.{lines_make_the_text}
use Rattle.cardtext.proofs.laws.lines_make_the_text.Goals as goal

pub returns : goal.returns
returns c = lines_make_the_text
