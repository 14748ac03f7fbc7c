-- What the tests of names and sides decide, and what is known of a side's places one by one. Assumes nothing.
use Rattle.std.specs.Prelude.{◌≡◌, ℕ, zero, suc, ◌+◌, Bool, true, false, ◌||◌, List, [], ◌∷◌, Some, None, Option, ◌==◌, nat_lt}
use Rattle.rewriting.specs.Terms.{Term}
use Rattle.rewriting.specs.Cards as theory
use Rattle.card.specs.declared.record.Place.{Place}
use Rattle.card.specs.declared.record.Place.TheVariants.{Empty, Symbol, Variable}
use Rattle.card.specs.Bytes.{Name, filled}
use Rattle.card.specs.Records.{SideIs}

-- some name fills these bytes
pub record HoldsName (bytes : List ℕ) : Type 0 where
  pub name : List ℕ
  pub named : Name name
  pub holds : bytes ≡ filled name

-- a side holds some term
pub record HoldsTerm (Σ : theory.Signature) (side : List Place) : Type 0 where
  pub term : Term
  pub is : SideIs Σ side term

-- how many terms are due behind a place, where n of them are due before it; nothing where the place may not stand: an
-- empty one while a term is due, another one while none is, a symbol that the card lacks, a variable above 7
abbrev pub due_after : theory.Signature → ℕ → Place → Option ℕ
due_after Σ zero Empty = Some 0
due_after Σ zero (Symbol f) = None
due_after Σ zero (Variable v) = None
due_after Σ (suc n) Empty = None
due_after Σ (suc n) (Symbol f) = elim (Σ f) [ None ↦ None | Some a ↦ Some (a + n) ]
due_after Σ (suc n) (Variable v) = elim (nat_lt v 8) [ true ↦ Some n | false ↦ None ]

-- how many are due behind all of these places, or nothing where one of them may not stand
abbrev pub due_behind : theory.Signature → ℕ → List Place → Option ℕ
due_behind Σ n [] = Some n
due_behind Σ n (p ∷ ps) = elim (due_after Σ n p) [ None ↦ None | Some m ↦ due_behind Σ m ps ]

-- the variable that stands at a place, if one does
abbrev pub variable_of : Place → Option ℕ
variable_of Empty = None
variable_of (Symbol f) = None
variable_of (Variable v) = Some v

-- whether a variable stands at some place
abbrev pub mentions : ℕ → List Place → Bool
mentions v [] = false
mentions v (Empty ∷ ps) = mentions v ps
mentions v (Symbol f ∷ ps) = mentions v ps
mentions v (Variable w ∷ ps) = w == v || mentions v ps

-- each variable of the one side stands on the other too
abbrev pub Within : List Place → List Place → Type 0
Within inner outer = (v : ℕ) → mentions v inner ≡ true → mentions v outer ≡ true
