use Rattle.rewriting.proofs.Stepping.{convertible_refl, convertible_sym, convertible_trans}
use Rattle.rewriting.proofs.steps.convertible_is_an_equivalence.Goals as goal

pub returns : goal.returns
returns c = λ C. ((λ t on. convertible_refl C on), (λ t u p. convertible_sym C p), λ t u v p q. convertible_trans C p q)
