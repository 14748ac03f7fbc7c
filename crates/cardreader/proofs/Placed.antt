-- A refused line stands among the lines. Assumes nothing.
use Rattle.std.proofs.Common.{◌≡◌, ℕ, suc, ◌+◌, ◌<◌, Bool, true, false, List, [], ◌∷◌, length, get_or, take, set, ◌∙◌, arith}
use Rattle.card.specs.declared.record.SymbolRecord.{SymbolRecord}
use Rattle.card.specs.declared.record.RuleRecord.{RuleRecord}
use Rattle.reading.specs.Lines.{Line, taken, broken, symbol_line, rule_line}
use Rattle.cardreader.specs.CardTexts.{Outcome, accepted, refused, has_equals, rule_step, rule_lines, symbol_step, symbol_lines}

-- behind k lines, the line with number j
pub record At (k : ℕ) (ls : List (List ℕ)) (j : ℕ) : Type 0 where
  pub index : ℕ
  pub counted : j ≡ suc (k + index)
  pub within : index < length ls
  pub not_empty : 0 < length (get_or ls index [])

abbrev pub Placed : ℕ → List (List ℕ) → Outcome → Type 0
Placed k ls (accepted c ss rs) = Unit {0}
Placed k ls (refused f j) = At k ls j

module _ (k : ℕ) (l : List ℕ) (ls : List (List ℕ)) where
  here : 0 < length l → At k (l ∷ ls) (suc k)
  here h = record { index = 0; counted = omega arith; within = omega arith; not_empty = h }

  later : (o : Outcome) → Placed (suc k) ls o → Placed k (l ∷ ls) o
  later (accepted c ss rs) p = tt
  later (refused f j) p = record { index = suc p.index; counted = p.counted ∙ omega arith; within = omega arith; not_empty = p.not_empty }

  either : (t : Bool) (o o' : Outcome) → Placed k (l ∷ ls) o → Placed k (l ∷ ls) o' → Placed k (l ∷ ls) (elim t [ false ↦ o | true ↦ o' ])
  either false o o' p q = p
  either true o o' p q = q

  rule_placed : 0 < length l → (go : RuleRecord → Outcome) → ((r : RuleRecord) → Placed (suc k) ls (go r)) → (x : Line RuleRecord) → Placed k (l ∷ ls) (rule_step go k x)
  rule_placed h go p (taken r) = later (go r) (p r)
  rule_placed h go p (broken f rest) = here h

  symbol_placed : 0 < length l → (go : SymbolRecord → Outcome) → ((s : SymbolRecord) → Placed (suc k) ls (go s)) → (x : Line SymbolRecord) → Placed k (l ∷ ls) (symbol_step go k x)
  symbol_placed h go p (taken s) = later (go s) (p s)
  symbol_placed h go p (broken f rest) = here h

rules_placed : (ls : List (List ℕ)) (ss : List SymbolRecord) (m : ℕ) (rs : List RuleRecord) (n k : ℕ) → Placed k ls (rule_lines ss m rs n k ls)
rules_placed [] ss m rs n k = tt
rules_placed ([] ∷ ls) ss m rs n k = later k [] ls _ (rules_placed ls ss m rs n (suc k))
rules_placed ((b ∷ bs) ∷ ls) ss m rs n k =
    either k (b ∷ bs) ls (has_equals (b ∷ bs)) _ _ (here k (b ∷ bs) ls (omega arith))
    (rule_placed k (b ∷ bs) ls (omega arith) _ (λ r. rules_placed ls ss m (set rs n r) (suc n) (suc k)) (rule_line (take m ss) n (b ∷ bs)))

pub symbols_placed : (ls : List (List ℕ)) (ss : List SymbolRecord) (m : ℕ) (rs : List RuleRecord) (k : ℕ) → Placed k ls (symbol_lines ss m rs k ls)
symbols_placed [] ss m rs k = tt
symbols_placed ([] ∷ ls) ss m rs k = later k [] ls _ (symbols_placed ls ss m rs (suc k))
symbols_placed ((b ∷ bs) ∷ ls) ss m rs k =
    either k (b ∷ bs) ls (has_equals (b ∷ bs)) _ _
    (symbol_placed k (b ∷ bs) ls (omega arith) _ (λ s. symbols_placed ls (set ss m s) (suc m) rs (suc k)) (symbol_line (take m ss) (b ∷ bs)))
    (rules_placed ((b ∷ bs) ∷ ls) ss m rs 0 k)
