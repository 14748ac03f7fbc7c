use Rattle.reading.proofs.Refusing.{symbol_line_refusals}
use Rattle.reading.proofs.laws.symbol_line_refusals.Goals as goal

pub returns : goal.returns
returns c = symbol_line_refusals
