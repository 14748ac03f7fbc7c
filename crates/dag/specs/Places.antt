-- Terms given by their places, and the stack of records on which their trees are built. Assumes nothing.
use Rattle.std.specs.Prelude.{◌≡◌, ℕ, ◌+◌, ◌<◌, ◌≤◌, true, List, ◌∷◌, ◌++◌, map, length, take, drop, Some, slice_index}
use mathlib.Core.List.{Memᴰ}
use Rattle.std.specs.Option.{unwrap_or}
use Rattle.std.specs.List.{AllByRecursion}
use Rattle.rewriting.specs.Cards.{Signature, TermOn}
use Rattle.rewriting.specs.Places.{places}
use Rattle.rewriting.specs.Terms.{apply, node, occurs, Substitution, Term, Tree}
use Rattle.rewriting.specs.Subterms.{add, Subterm, walk}
use Rattle.card.specs.declared.record.Place.{Place}
use Rattle.card.specs.declared.record.Place.TheVariants.{Empty, Symbol, Variable}
use Rattle.card.specs.Records.{side_term, stored}
use Rattle.dag.specs.declared.stack.Stack.{Stack}
use Rattle.dag.specs.declared.table.Table.{Table}
use Rattle.dag.specs.Stacks.{records_on, stack_trees}
use Rattle.dag.specs.Tables.{capacity, Holds, trees}
use Rattle.dag.specs.Trees.{from_list, tree_at}

-- no symbol takes more children than a node has places for
abbrev pub FewChildren : Signature → Type 0
FewChildren Σ = (f a : ℕ) → Σ f ≡ Some a → a ≤ 4

-- the list holds the places of this term and nothing else
pub record Spells (Σ : Signature) (ps : List Place) (t : Term) : Type 0 where
  pub on : TermOn Σ t
  pub spelled : ps ≡ map stored (places t)

-- each variable of the term is bound to a record in use
abbrev pub Bound : ℕ → List ℕ → Term → Type 0
Bound n bindings t = (v : ℕ) → occurs v t ≡ true → (v < length bindings) × (slice_index bindings v < n)

-- a variable stands for the tree of the record that it is bound to
abbrev pub binding : List Tree → List ℕ → Substitution
binding ts bindings v = tree_at ts (slice_index bindings v)

-- the tree of the term that a list of places spells
abbrev pub spelled_tree : Signature → List Tree → List ℕ → List Place → Tree
spelled_tree Σ ts bindings ps = apply (binding ts bindings) (side_term Σ ps)

-- how many trees a place takes from the stack, and the tree that it puts there; an empty place is never read, and any
-- answer will do
abbrev pub taken : Signature → Place → ℕ
taken Σ Empty = 0
taken Σ (Symbol f) = unwrap_or (Σ f) 0
taken Σ (Variable v) = 0

abbrev pub place_tree : Signature → Substitution → Place → List Tree → Tree
place_tree Σ σ Empty us = σ 0
place_tree Σ σ (Symbol f) us = node f (from_list (take (unwrap_or (Σ f) 0) us))
place_tree Σ σ (Variable v) us = σ v

-- a place that can be read: enough trees are on the stack, the variable is bound
abbrev pub Readable : Signature → ℕ → List ℕ → Place → ℕ → Type 0
Readable Σ n bindings Empty many = ⊥
Readable Σ n bindings (Symbol f) many = (a : ℕ) × (Σ f ≡ Some a) × (a ≤ many) × (a ≤ 4)
Readable Σ n bindings (Variable v) many = (v < length bindings) × (slice_index bindings v < n)

-- the tree t is in the table, and its record is on top of the stack in the place of the n topmost ones
pub record Pushed (before after : Table) (stack stack' : Stack) (n : ℕ) (t : Tree) : Type 0 where
  pub moved : stack'.top + 1 ≡ stack.top + n
  pub added : trees after ≡ add t (trees before)
  pub records : AllByRecursion (λ k. k < after.count) (records_on stack')
  pub stacked : stack_trees (trees after) stack' ≡ t ∷ drop n (stack_trees (trees before) stack)

-- the tree t was built, and record k has it: the trees before stand in front, only subterms of t that were not there were
-- added, all its subterms are there, and so the table can hold the trees before and the subterms of t
pub record Built (before after : Table) (t : Tree) (k : ℕ) : Type 0 where
  pub holds : Holds after k t
  pub added : List Tree
  pub front : trees after ≡ trees before ++ added
  pub subterms_only : (s : Tree) → Memᴰ s added → Subterm s t
  pub new_only : (s : Tree) → Memᴰ s added → Memᴰ s (trees before) → ⊥
  pub whole : (s : Tree) → Subterm s t → Memᴰ s (trees after)
  pub fits : length (walk t (trees before)) ≤ capacity before

-- there was no room for the tree t, and the table is as it was: its trees and the subterms of t are more than it can hold
pub record NoRoom (before after : Table) (t : Tree) : Type 0 where
  pub same_trees : trees after ≡ trees before
  pub too_many : capacity before < length (walk t (trees before))

-- LAWS

-- a list of places spells one term only, so a caller who knows the term knows what is built
abbrev pub PlacesSpellOneTerm : Type 0
PlacesSpellOneTerm = (Σ : Signature) (ps : List Place) (t : Term) → Spells Σ ps t → side_term Σ ps ≡ t
