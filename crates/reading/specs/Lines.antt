-- The lines of a card, byte by byte: symbols and rules. Assumes nothing.
use Rattle.std.specs.Prelude.{◌≡◌, ℕ, ◌-◌, ◌<◌, ◌≤◌, Bool, true, false, ◌&&◌, List, [], ◌∷◌, ◌++◌, length, replicate, Some, None, Ok, Err, Option, Result, ◌==◌, nat_le, slice_set}
use Rattle.card.specs.Bytes.{letter, filled}
use Rattle.card.specs.Records.{find_from}
use Rattle.card.specs.declared.record.Place.{Place}
use Rattle.card.specs.declared.record.Place.TheVariants.{Empty, Symbol, Variable}
use Rattle.card.specs.declared.record.SymbolRecord.{SymbolRecord}
use Rattle.card.specs.declared.record.RuleRecord.{RuleRecord}
use Rattle.reading.specs.declared.fault.Fault.{Fault}
use Rattle.reading.specs.declared.fault.Fault.TheVariants.{NameTooLong, WrongByte, EarlyEnd, TooManyLines, DigitTooLarge, NameTaken, LoneVariable}
use Rattle.reading.specs.Scanning.{Grammar, at_start, Scan, whole, stuck, scan}

-- the record of a line, or the rule that was broken and what is left of the line, with the byte that settled it in front
pub data Line (A : Type 0) : Type 0 where
  taken : A → Line A
  broken : Fault → List ℕ → Line A

-- nothing may follow
abbrev pub line_end : {A : Type 0} → A → List ℕ → Line A
line_end x [] = taken x
line_end x (b ∷ bs) = broken WrongByte (b ∷ bs)

-- A SYMBOL LINE: name, "/", one digit

abbrev pub digit : ℕ → Bool
digit b = nat_le 48 b && nat_le b 57

abbrev pub symbol_digit : List ℕ → List ℕ → Line SymbolRecord
symbol_digit name [] = broken EarlyEnd []
symbol_digit name (b ∷ bs) =
    elim (digit b) [
      | false ↦ broken WrongByte (b ∷ bs)
      | true ↦
          elim (nat_le b 52) [ false ↦ broken DigitTooLarge (b ∷ bs) | true ↦ line_end (record { name = name; arity = b - 48 }) bs ]
    ]

-- at the "/": the name must be new
abbrev pub symbol_new : Option ℕ → List ℕ → ℕ → List ℕ → Line SymbolRecord
symbol_new (Some k) name b bs = broken NameTaken (b ∷ bs)
symbol_new None name b bs = symbol_digit name bs

-- behind the letters of the name
abbrev pub symbol_slash : List SymbolRecord → List ℕ → List ℕ → Line SymbolRecord
symbol_slash ss w [] = broken EarlyEnd []
symbol_slash ss [] (b ∷ bs) = broken WrongByte (b ∷ bs)
symbol_slash ss (x ∷ w) (b ∷ bs) =
    elim (b == 47) [ false ↦ broken WrongByte (b ∷ bs) | true ↦ symbol_new (find_from (filled (x ∷ w)) 0 ss) (filled (x ∷ w)) b bs ]

abbrev pub symbol_name : List SymbolRecord → List ℕ → List ℕ → Line SymbolRecord
symbol_name ss w [] = broken EarlyEnd []
symbol_name ss w (b ∷ bs) =
    elim (letter b) [
      | false ↦ symbol_slash ss w (b ∷ bs)
      | true ↦
          elim (nat_le 12 (length w)) [ true ↦ broken NameTooLong (b ∷ bs) | false ↦ symbol_name ss (w ++ (b ∷ [])) bs ]
    ]

-- a symbol line behind the symbols that the card has
abbrev pub symbol_line : List SymbolRecord → List ℕ → Line SymbolRecord
symbol_line ss text = elim (nat_le 64 (length ss)) [ true ↦ broken TooManyLines text | false ↦ symbol_name ss [] text ]

-- A RULE LINE: left side, "=", right side

-- which variables a list of places has, besides those marked already
abbrev pub marked : List Bool → List Place → List Bool
marked may [] = may
marked may (Empty ∷ ps) = marked may ps
marked may (Symbol f ∷ ps) = marked may ps
marked may (Variable v ∷ ps) = marked (slice_set may v true) ps

abbrev pub variables_of : List Place → List Bool
variables_of ps = marked (replicate 8 false) ps

-- a side of a rule; 32 places cannot open more than 31 brackets
abbrev pub side_grammar : List SymbolRecord → List Bool → Grammar
side_grammar ss may = record { symbols = ss; variables = Some may; places = 32; brackets = 32 }

abbrev pub lone_variable : List Place → Bool
lone_variable [] = false
lone_variable (Empty ∷ ps) = false
lone_variable (Symbol f ∷ ps) = false
lone_variable (Variable v ∷ ps) = true

-- a side as a record holds it
abbrev pub side : List Place → List Place
side ps = ps ++ replicate (32 - length ps) Empty

abbrev pub rule_right : List Place → Scan → Line RuleRecord
rule_right l (stuck f rest) = broken f rest
rule_right l (whole r rest) = line_end (record { left = side l; right = side r }) rest

abbrev pub rule_equals : List SymbolRecord → List Place → List ℕ → Line RuleRecord
rule_equals ss l [] = broken EarlyEnd []
rule_equals ss l (b ∷ bs) =
    elim (b == 61) [
      | false ↦ broken WrongByte (b ∷ bs)
      | true ↦
          elim (lone_variable l) [
            | true ↦ broken LoneVariable (b ∷ bs)
            | false ↦
                rule_right l (scan (side_grammar ss (variables_of l)) (at_start []) [] bs)
          ]
    ]

abbrev pub rule_left : List SymbolRecord → Scan → Line RuleRecord
rule_left ss (stuck f rest) = broken f rest
rule_left ss (whole l rest) = rule_equals ss l rest

-- a rule line behind n rules
abbrev pub rule_line : List SymbolRecord → ℕ → List ℕ → Line RuleRecord
rule_line ss n text =
    elim (nat_le 64 n) [
      | true ↦ broken TooManyLines text
      | false ↦
          rule_left ss (scan (side_grammar ss (replicate 8 true)) (at_start []) [] text)
    ]

-- a side was read, and is held with empty places behind it
pub record SideRead (G : Grammar) (before after : List ℕ) (held : List Place) : Type 0 where
  pub places : List Place
  pub some : 0 < length places
  pub few : length places ≤ 32
  pub reads : scan G (at_start []) [] before ≡ whole places after
  pub holds : held ≡ side places

-- a reader's result, with what its source has left, as a line
abbrev pub line_of : {A : Type 0} → Result A Fault → List ℕ → Line A
line_of (Ok x) rest = taken x
line_of (Err f) rest = broken f rest
