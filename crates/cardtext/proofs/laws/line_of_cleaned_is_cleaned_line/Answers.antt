use Rattle.cardtext.proofs.Together.{line_of_cleaned_is_cleaned_line}
use Rattle.cardtext.proofs.laws.line_of_cleaned_is_cleaned_line.Goals as goal

pub returns : goal.returns
returns c = line_of_cleaned_is_cleaned_line
