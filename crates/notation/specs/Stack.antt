-- Places and stacks of terms, as the theory has them. Assumes nothing.
use Rattle.std.specs.Prelude.{List, [], ◌∷◌, map, reverse, Some, None, Option}
use Rattle.rewriting.specs.Terms as theory
use Rattle.rewriting.specs.Places as places
use Rattle.notation.specs.declared.place.Place.{Place}
use Rattle.notation.specs.declared.place.Place.TheVariants.{Symbol, Variable}
use Rattle.explicit.specs.declared.term.Term.{Term}
use Rattle.explicit.specs.Meaning.{term_of}

-- an occurrence of a symbol or of a variable
abbrev pub place_of : Place → places.Place
place_of (Symbol f) = places.Symbol f
place_of (Variable v) = places.Variable v

-- a stack's top stands last in its vector, and first in the theory's list
abbrev pub stack_of : List Term → List theory.Term
stack_of ts = map term_of (reverse ts)

-- what a list begins with
abbrev pub first : {X : Type 0} → List X → Option X
first [] = None
first (x ∷ xs) = Some x
