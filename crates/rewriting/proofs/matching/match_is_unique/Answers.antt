use Rattle.rewriting.proofs.Bindings.{bindings_unique}
use Rattle.rewriting.proofs.Equality.{apply_agrees}
use Rattle.rewriting.proofs.matching.match_is_unique.Goals as goal

pub returns : goal.returns
returns c = λ l t σ τ p q. (bindings_unique l t σ τ p q, λ r within. apply_agrees σ τ r (λ v h. bindings_unique l t σ τ p q v (within v h)))
