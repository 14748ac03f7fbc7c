use Rattle.std.proofs.Common.{◌≡◌, map, reverse}
use Rattle.rewriting.specs.Places as theory
use Rattle.explicit.specs.Meaning.{signature}
use Rattle.notation.specs.Stack.{place_of, stack_of}
use Rattle.notation.proofs.place.forest.Given as goal

-- the places that came so far are read, the last of them first
abbrev pub invariant-loop-place : goal.invariant-loop-place
invariant-loop-place l =
    stack_of l.stack.items ≡ theory.forest (signature l.symbols) (map place_of (reverse (map (λ p. p.now) l.yielded)))
