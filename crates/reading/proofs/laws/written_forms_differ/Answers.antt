use Rattle.reading.proofs.Acceptance.{written_apart}
use Rattle.reading.proofs.laws.written_forms_differ.Goals as goal

pub returns : goal.returns
returns c = written_apart
