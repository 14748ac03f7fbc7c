use Rattle.std.proofs.Common.{◌≡◌, take, map}
use Rattle.rewriting.specs.Terms.{Substitution, apply}
use Rattle.explicit.specs.Meaning.{tree_of, term_of}
use Rattle.explicit.proofs.term.+ground.Given as goal

abbrev pub invariant-loop-t : goal.invariant-loop-t
invariant-loop-t l =
    (σ : Substitution) → map tree_of l.children.items ≡ map (λ u. apply σ (term_of u)) (take l.t-index l.t-items)
