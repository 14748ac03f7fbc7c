-- The byte automaton that reads a term: it settles each fault at the earliest byte. Assumes nothing.
use Rattle.std.specs.Prelude.{ℕ, zero, suc, ◌-◌, Bool, true, false, ◌&&◌, List, [], ◌∷◌, ◌++◌, length, get_or, Some, None, Ok, Err, Option, Result, ◌==◌, nat_le, slice_index_or}
use Rattle.card.specs.Bytes.{letter, filled}
use Rattle.card.specs.Records.{find_from, blank_symbol}
use Rattle.card.specs.declared.record.Place.{Place}
use Rattle.card.specs.declared.record.Place.TheVariants.{Symbol, Variable}
use Rattle.card.specs.declared.record.SymbolRecord.{SymbolRecord}
use Rattle.reading.specs.declared.fault.Fault.{Fault}
use Rattle.reading.specs.declared.fault.Fault.TheVariants.{NameTooLong, UnknownName, ConstantOpened, BracketMissing, TooManyChildren, TooFewChildren, TooDeep, TooManyPlaces, UnboundVariable, WrongByte, EarlyEnd}

-- what a reader of terms goes by: the symbols, the variables that may stand (none at all, or for each of the eight whether
-- it may), and how many places and open brackets there may be
pub record Grammar : Type 0 where
  pub symbols : List SymbolRecord
  pub variables : Option (List Bool)
  pub places : ℕ
  pub brackets : ℕ

-- where a reader stands: a term has to start, inside a name with these letters, or behind a whole term. Each open bracket
-- is a number: how many children are still due in it behind the present one
pub data Mode : Type 0 where
  at_start : List ℕ → Mode
  in_name : List ℕ → List ℕ → Mode
  behind : List ℕ → Mode

-- the places of a whole term and what is left of the text, or the rule that was broken and what is left, with the byte
-- that settled it in front
pub data Scan : Type 0 where
  whole : List Place → List ℕ → Scan
  stuck : Fault → List ℕ → Scan

-- a letter A to H
abbrev pub variable_letter : ℕ → Bool
variable_letter b = nat_le 65 b && nat_le b 72

abbrev pub arity_at : List SymbolRecord → ℕ → ℕ
arity_at ss k = (get_or ss k blank_symbol).arity

-- the variable that a byte stands for where a term has to start, with so many places there already
abbrev pub variable_at : Option (List Bool) → ℕ → ℕ → ℕ → Result ℕ Fault
variable_at None limit n b = Err WrongByte
variable_at (Some may) limit n b =
    elim (variable_letter b) [
      | false ↦ Err WrongByte
      | true ↦
          elim (nat_le limit n) [
            | true ↦ Err TooManyPlaces
            | false ↦
                elim (slice_index_or may (b - 65) false) [ false ↦ Err UnboundVariable | true ↦ Ok (b - 65) ]
          ]
    ]

abbrev pub scan_variable : (List Place → Scan) → Result ℕ Fault → List Place → List ℕ → Scan
scan_variable go (Ok v) acc text = go (acc ++ (Variable v ∷ []))
scan_variable go (Err f) acc text = stuck f text

-- the byte behind a whole term
abbrev pub scan_behind : (Mode → Scan) → List ℕ → List Place → ℕ → List ℕ → Scan
scan_behind go [] acc b bs = whole acc (b ∷ bs)
scan_behind go (k ∷ K) acc b bs =
    elim (b == 44) [
      | true ↦ elim k [ zero ↦ stuck TooManyChildren (b ∷ bs) | suc j ↦ go (at_start (j ∷ K)) ]
      | false ↦
          elim (b == 41) [ true ↦ elim k [ zero ↦ go (behind K) | suc j ↦ stuck TooFewChildren (b ∷ bs) ] | false ↦ stuck WrongByte (b ∷ bs) ]
    ]

abbrev pub end_behind : List ℕ → List Place → Scan
end_behind [] acc = whole acc []
end_behind (k ∷ K) acc = stuck EarlyEnd []

-- the byte behind the name of a symbol with this arity
abbrev pub scan_named : (Mode → List Place → Scan) → ℕ → List ℕ → List Place → ℕ → ℕ → ℕ → List ℕ → Scan
scan_named go brackets K acc k zero b bs =
    elim (b == 40) [
      | true ↦ stuck ConstantOpened (b ∷ bs)
      | false ↦
          scan_behind (λ m. go m (acc ++ (Symbol k ∷ []))) K (acc ++ (Symbol k ∷ [])) b bs
    ]
scan_named go brackets K acc k (suc n) b bs =
    elim (b == 40) [
      | false ↦ stuck BracketMissing (b ∷ bs)
      | true ↦
          elim (nat_le brackets (length K)) [ true ↦ stuck TooDeep (b ∷ bs) | false ↦ go (at_start (n ∷ K)) (acc ++ (Symbol k ∷ [])) ]
    ]

abbrev pub end_named : List ℕ → List Place → ℕ → ℕ → Scan
end_named K acc k zero = end_behind K (acc ++ (Symbol k ∷ []))
end_named K acc k (suc n) = stuck BracketMissing []

-- the byte behind a name, by what the card says of it
abbrev pub scan_judged : (Mode → List Place → Scan) → Grammar → List ℕ → List Place → Option ℕ → ℕ → List ℕ → Scan
scan_judged go G K acc None b bs = stuck UnknownName (b ∷ bs)
scan_judged go G K acc (Some k) b bs = scan_named go G.brackets K acc k (arity_at G.symbols k) b bs

abbrev pub end_judged : Grammar → List ℕ → List Place → Option ℕ → Scan
end_judged G K acc None = stuck UnknownName []
end_judged G K acc (Some k) = end_named K acc k (arity_at G.symbols k)

abbrev pub scan : Grammar → Mode → List Place → List ℕ → Scan
scan G (at_start K) acc [] = stuck EarlyEnd []
scan G (at_start K) acc (b ∷ bs) =
    elim (letter b) [
      | false ↦ scan_variable (λ acc'. scan G (behind K) acc' bs) (variable_at G.variables G.places (length acc) b) acc (b ∷ bs)
      | true ↦
          elim (nat_le G.places (length acc)) [ true ↦ stuck TooManyPlaces (b ∷ bs) | false ↦ scan G (in_name (b ∷ []) K) acc bs ]
    ]
scan G (in_name w K) acc [] = end_judged G K acc (find_from (filled w) 0 G.symbols)
scan G (in_name w K) acc (b ∷ bs) =
    elim (letter b) [
      | true ↦ elim (nat_le 12 (length w)) [ true ↦ stuck NameTooLong (b ∷ bs) | false ↦ scan G (in_name (w ++ (b ∷ [])) K) acc bs ]
      | false ↦ scan_judged (λ m acc'. scan G m acc' bs) G K acc (find_from (filled w) 0 G.symbols) b bs
    ]
scan G (behind K) acc [] = end_behind K acc
scan G (behind K) acc (b ∷ bs) = scan_behind (λ m. scan G m acc bs) K acc b bs
