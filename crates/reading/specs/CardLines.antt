-- The lines of a card in the words of symbols and rules. Assumes nothing.
use Rattle.std.specs.Prelude.{◌≡◌, ℕ, ◌+◌, ◌<◌, ◌≤◌, ◌↔◌, List, [], ◌∷◌, ◌++◌, length, ◌≢◌, slice_index_or}
use Rattle.rewriting.specs.Terms.{Term}
use Rattle.card.specs.Bytes.{Name, filled}
use Rattle.card.specs.Records.{arities, blank_symbol, RuleIs}
use Rattle.card.specs.declared.record.SymbolRecord.{SymbolRecord}
use Rattle.card.specs.declared.record.RuleRecord.{RuleRecord}
use Rattle.reading.specs.Lines.{taken, symbol_line, rule_line}
use Rattle.reading.specs.Written.{written, ProperSymbols}

-- the line of a symbol: its name, "/" and its arity as a digit
pub record SymbolSpelled (text : List ℕ) (s : SymbolRecord) : Type 0 where
  pub name : List ℕ
  pub arity : ℕ
  pub is_name : Name name
  pub few_children : arity ≤ 4
  pub spelled : text ≡ name ++ (47 ∷ (48 + arity) ∷ [])
  pub record_is : s ≡ record { name = filled name; arity = arity }

-- no symbol has the name of this one
abbrev pub Lacks : List SymbolRecord → SymbolRecord → Type 0
Lacks ss s = (i : ℕ) → i < length ss → (slice_index_or ss i blank_symbol).name ≢ s.name

-- the line of a symbol that the card lacks
pub record SymbolWritten (ss : List SymbolRecord) (text : List ℕ) (s : SymbolRecord) : Type 0 where
  pub line : SymbolSpelled text s
  pub new : Lacks ss s

-- the line of a rule over the card's symbols: its left side, "=" and its right side
pub record RuleWritten (ss : List SymbolRecord) (text : List ℕ) (r : RuleRecord) : Type 0 where
  pub left : Term
  pub right : Term
  pub is_rule : RuleIs (arities ss) r left right
  pub spelled : text ≡ written ss left ++ (61 ∷ written ss right)

-- LAWS

-- a symbol line is taken exactly if there is room for the symbol and the line is a new symbol's
abbrev pub SymbolLineTakenExactly : Type 0
SymbolLineTakenExactly =
    (ss : List SymbolRecord) (text : List ℕ) (s : SymbolRecord)
    → (symbol_line ss text ≡ taken s) ↔ ((length ss < 64) × SymbolWritten ss text s)

-- a rule line is taken only if there is room for the rule and the line is a rule's, which keeps the card's rules
abbrev pub TakenRuleLineIsARule : Type 0
TakenRuleLineIsARule =
    (ss : List SymbolRecord) (n : ℕ) (text : List ℕ) (r : RuleRecord)
    → rule_line ss n text ≡ taken r → (n < 64) × RuleWritten ss text r

-- a rule line is taken exactly if there is room for the rule and the line is a rule's, which keeps the card's rules
abbrev pub RuleLineTakenExactly : Type 0
RuleLineTakenExactly =
    (ss : List SymbolRecord) → ProperSymbols ss → (n : ℕ) (text : List ℕ) (r : RuleRecord)
    → (rule_line ss n text ≡ taken r) ↔ ((n < 64) × RuleWritten ss text r)
