use Rattle.dag.proofs.Spelling.{one_term_spelled}
use Rattle.dag.proofs.laws.places_spell_one_term.Goals as goal

pub returns : goal.returns
returns c = one_term_spelled
