use Rattle.std.proofs.Common.{◌≡◌, take, map}
use Rattle.rewriting.specs.Terms.{apply}
use Rattle.explicit.specs.Meaning.{tree_of, term_of}
use Rattle.matching.specs.Bindings.{bindings_of}
use Rattle.matching.proofs.rule.Candidate.+instance.Given as goal

abbrev pub invariant-loop-p : goal.invariant-loop-p
invariant-loop-p l = map tree_of l.children.items ≡ map (λ q. apply (bindings_of l.self) (term_of q)) (take l.p-index l.p-items)
