use Rattle.reading.proofs.SymbolForms.{symbol_exactly}
use Rattle.reading.proofs.laws.symbol_line_taken_exactly.Goals as goal

pub returns : goal.returns
returns c = symbol_exactly
