use Rattle.cardreader.proofs.Texts.{refused_line_stands_in_the_text}
use Rattle.cardreader.proofs.laws.refused_line_stands_in_the_text.Goals as goal

pub returns : goal.returns
returns c = refused_line_stands_in_the_text
