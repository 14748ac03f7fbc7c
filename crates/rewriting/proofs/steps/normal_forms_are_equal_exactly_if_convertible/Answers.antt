use Rattle.rewriting.proofs.Stepping.{normal_forms_equal}
use Rattle.rewriting.proofs.steps.normal_forms_are_equal_exactly_if_convertible.Goals as goal

pub returns : goal.returns
returns c = λ C k t t' u u' p q nt nu. normal_forms_equal C k p q nt nu
