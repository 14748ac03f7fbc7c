use Rattle.rewriting.proofs.Equality.{apply_agrees}
use Rattle.rewriting.proofs.terms.substitution_sees_occurring_variables.Goals as goal

pub returns : goal.returns
returns c = apply_agrees
