-- The records of a card: what a counted one has to be, and the card that the counted ones make. Assumes nothing.
use Rattle.std.specs.Prelude.{◌≡◌, ℕ, suc, ◌-◌, ◌<◌, ◌≤◌, true, false, List, [], ◌∷◌, ◌++◌, map, length, take, replicate, Some, None, Option, MatchOption, ◌≢◌, slice_index_or}
use Rattle.std.specs.List.{AllByRecursion}
use Rattle.rewriting.specs.Terms.{Term, var, occurs}
use Rattle.rewriting.specs.Cards as theory
use Rattle.rewriting.specs.Places as theory_places
use Rattle.card.specs.declared.record.Place.{Place}
use Rattle.card.specs.declared.record.Place.TheVariants.{Empty, Symbol, Variable}
use Rattle.card.specs.declared.record.SymbolRecord.{SymbolRecord}
use Rattle.card.specs.declared.record.RuleRecord.{RuleRecord}
use Rattle.card.specs.declared.record.Card.{Card}
use Rattle.card.specs.Bytes.{Name, filled, letters_of, same_bytes}

-- the records that are all zero
abbrev pub blank_symbol : SymbolRecord
blank_symbol = record { name = replicate 12 0; arity = 0 }

abbrev pub blank_rule : RuleRecord
blank_rule = record { left = replicate 32 Empty; right = replicate 32 Empty }

-- SYMBOLS

-- a record of a symbol with this name
pub record SymbolIs (s : SymbolRecord) (name : List ℕ) : Type 0 where
  pub named : Name name
  pub holds : s.name ≡ filled name
  pub few_children : s.arity ≤ 4

pub record WellFormedSymbol (s : SymbolRecord) : Type 0 where
  pub name : List ℕ
  pub is : SymbolIs s name

abbrev pub DistinctNames : List SymbolRecord → Type 0
DistinctNames ss = (i j : ℕ) → i < j → j < length ss → (slice_index_or ss i blank_symbol).name ≢ (slice_index_or ss j blank_symbol).name

-- symbols are numbered from 0 in the order of their records
abbrev pub arities : List SymbolRecord → theory.Signature
arities ss = theory.signature (map (λ s. s.arity) ss)

-- the number of the first symbol whose record holds these bytes, where the list's first symbol has the number i
abbrev pub find_from : List ℕ → ℕ → List SymbolRecord → Option ℕ
find_from bytes i [] = None
find_from bytes i (s ∷ ss) = elim (same_bytes s.name bytes) [ true ↦ Some i | false ↦ find_from bytes (suc i) ss ]

-- the name of the symbol with this number
abbrev pub name_of : List SymbolRecord → ℕ → List ℕ
name_of ss f = letters_of (slice_index_or ss f blank_symbol).name

-- RULES

abbrev pub stored : theory_places.Place → Place
stored (theory_places.Symbol f) = Symbol f
stored (theory_places.Variable v) = Variable v

-- the places of a side, up to the first empty one
abbrev pub side_places : List Place → List theory_places.Place
side_places [] = []
side_places (Empty ∷ ps) = []
side_places (Symbol f ∷ ps) = theory_places.Symbol f ∷ side_places ps
side_places (Variable v ∷ ps) = theory_places.Variable v ∷ side_places ps

-- a side holds this term: at most 32 places, the variables 0 to 7, and empty places behind
pub record SideIs (Σ : theory.Signature) (side : List Place) (t : Term) : Type 0 where
  pub on : theory.TermOn Σ t
  pub few_places : length (theory_places.places t) ≤ 32
  pub eight_variables : (v : ℕ) → occurs v t ≡ true → v < 8
  pub holds : side ≡ map stored (theory_places.places t) ++ replicate (32 - length (theory_places.places t)) Empty

pub record RuleIs (Σ : theory.Signature) (r : RuleRecord) (left right : Term) : Type 0 where
  pub left_is : SideIs Σ r.left left
  pub right_is : SideIs Σ r.right right
  pub left_no_variable : theory.NoLoneVariable left
  pub right_within_left : theory.VariablesWithin right left

pub record WellFormedRule (Σ : theory.Signature) (r : RuleRecord) : Type 0 where
  pub left : Term
  pub right : Term
  pub is : RuleIs Σ r left right

-- CARDS

-- the records of a card, all of them counted
pub record KeepsRules (ss : List SymbolRecord) (rs : List RuleRecord) : Type 0 where
  pub each_symbol : AllByRecursion WellFormedSymbol ss
  pub distinct : DistinctNames ss
  pub each_rule : AllByRecursion (WellFormedRule (arities ss)) rs

abbrev pub counted_symbols : Card → List SymbolRecord → List SymbolRecord
counted_symbols c ss = take c.symbols ss

abbrev pub counted_rules : Card → List RuleRecord → List RuleRecord
counted_rules c rs = take c.rules rs

-- both tables are long enough, and their counted records keep the card's rules
pub record Kept (ss : List SymbolRecord) (rs : List RuleRecord) (c : Card) : Type 0 where
  pub symbols_long : 64 ≤ length ss
  pub rules_long : 64 ≤ length rs
  pub few_symbols : c.symbols ≤ 64
  pub few_rules : c.rules ≤ 64
  pub keeps : KeepsRules (counted_symbols c ss) (counted_rules c rs)

-- the term of a side; a side without places stands for no term, and any will do
abbrev pub first_term : List Term → Term
first_term [] = var 0
first_term (t ∷ ts) = t

abbrev pub side_term : theory.Signature → List Place → Term
side_term Σ side = first_term (theory_places.forest Σ (side_places side))

-- rules are numbered from 1 in the order of their records
abbrev pub rules_from : theory.Signature → ℕ → List RuleRecord → List theory.Rule
rules_from Σ n [] = []
rules_from Σ n (r ∷ rs) =
    record { number = n; left = side_term Σ r.left; right = side_term Σ r.right } ∷ rules_from Σ (suc n) rs

-- the card of the counted records
abbrev pub card_of : List SymbolRecord → List RuleRecord → theory.Card
card_of ss rs = record { arity = arities ss; rules = rules_from (arities ss) 1 rs }

-- LAWS

abbrev pub KeptRecordsMakeAWellFormedCard : Type 0
KeptRecordsMakeAWellFormedCard =
    (ss : List SymbolRecord) (rs : List RuleRecord) → KeepsRules ss rs → theory.WellFormed (card_of ss rs)

-- a side holds one term only, which is the one that the card has for it
abbrev pub SideHoldsOneTerm : Type 0
SideHoldsOneTerm = (Σ : theory.Signature) (side : List Place) (t : Term) → SideIs Σ side t → t ≡ side_term Σ side

-- a name is found exactly if a record holds it, and then its number is that record's
abbrev pub NameIsFoundExactly : Type 0
NameIsFoundExactly =
    (bytes : List ℕ) (ss : List SymbolRecord)
    → MatchOption (find_from bytes 0 ss)
    ((i : ℕ) → i < length ss → (slice_index_or ss i blank_symbol).name ≢ bytes)
    (λ i. (i < length ss) × ((slice_index_or ss i blank_symbol).name ≡ bytes))
