use Rattle.cardtext.proofs.Together.{lines_of_cleaned_are_cleaned_lines}
use Rattle.cardtext.proofs.laws.lines_of_cleaned_are_cleaned_lines.Goals as goal

pub returns : goal.returns
returns c = lines_of_cleaned_are_cleaned_lines
