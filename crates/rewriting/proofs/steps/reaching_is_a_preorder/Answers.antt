use Rattle.rewriting.proofs.Stepping.{reaches_refl, reaches_trans}
use Rattle.rewriting.proofs.steps.reaching_is_a_preorder.Goals as goal

pub returns : goal.returns
returns c = λ C. ((λ t on. reaches_refl C on), λ t u v p q. reaches_trans C p q)
