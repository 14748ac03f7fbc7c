-- The records behind the counted ones stay as they were. Assumes nothing.
use Rattle.std.proofs.Common.{◌≡◌, ℕ, suc, ◌≤◌, Bool, true, false, List, [], ◌∷◌, take, drop, set, refl, ◌∙◌, arith, drop-set-lt}
use Rattle.card.specs.declared.record.SymbolRecord.{SymbolRecord}
use Rattle.card.specs.declared.record.RuleRecord.{RuleRecord}
use Rattle.reading.specs.Lines.{Line, taken, broken, symbol_line, rule_line}
use Rattle.cardreader.specs.CardTexts.{Outcome, accepted, refused, has_equals, rule_step, rule_lines, symbol_step, symbol_lines}

-- with m symbols and n rules counted before
pub record Behind (m n : ℕ) (ss ss' : List SymbolRecord) (rs rs' : List RuleRecord) (i j : ℕ) : Type 0 where
  pub more_symbols : m ≤ i
  pub more_rules : n ≤ j
  pub symbols : drop i ss' ≡ drop i ss
  pub rules : drop j rs' ≡ drop j rs

abbrev pub Stay : ℕ → ℕ → List SymbolRecord → List RuleRecord → Outcome → Type 0
Stay m n ss rs (accepted c ss' rs') = Behind m n ss ss' rs rs' c.symbols c.rules
Stay m n ss rs (refused f k) = Unit {0}

module _ (m n : ℕ) (ss : List SymbolRecord) (rs : List RuleRecord) where
  unwritten : Behind m n ss ss rs rs m n
  unwritten = record { more_symbols = omega arith; more_rules = omega arith; symbols = refl; rules = refl }

  either : (t : Bool) (o o' : Outcome) → Stay m n ss rs o → Stay m n ss rs o' → Stay m n ss rs (elim t [ false ↦ o | true ↦ o' ])
  either false o o' p q = p
  either true o o' p q = q

  rule_more : (r : RuleRecord) (o : Outcome) → Stay m (suc n) ss (set rs n r) o → Stay m n ss rs o
  rule_more r (accepted c ss' rs') p =
      record { more_symbols = p.more_symbols; more_rules = omega arith; symbols = p.symbols; rules = p.rules ∙ drop-set-lt c.rules rs n r p.more_rules }
  rule_more r (refused f k) p = tt

  symbol_more : (s : SymbolRecord) (o : Outcome) → Stay (suc m) n (set ss m s) rs o → Stay m n ss rs o
  symbol_more s (accepted c ss' rs') p =
      record { more_symbols = omega arith; more_rules = p.more_rules; symbols = p.symbols ∙ drop-set-lt c.symbols ss m s p.more_symbols; rules = p.rules }
  symbol_more s (refused f k) p = tt

  rule_stays : (k : ℕ) (go : RuleRecord → Outcome) → ((r : RuleRecord) → Stay m (suc n) ss (set rs n r) (go r)) → (x : Line RuleRecord) → Stay m n ss rs (rule_step go k x)
  rule_stays k go p (taken r) = rule_more r (go r) (p r)
  rule_stays k go p (broken f rest) = tt

  symbol_stays : (k : ℕ) (go : SymbolRecord → Outcome) → ((s : SymbolRecord) → Stay (suc m) n (set ss m s) rs (go s)) → (x : Line SymbolRecord) → Stay m n ss rs (symbol_step go k x)
  symbol_stays k go p (taken s) = symbol_more s (go s) (p s)
  symbol_stays k go p (broken f rest) = tt

rules_stay : (ls : List (List ℕ)) (ss : List SymbolRecord) (m : ℕ) (rs : List RuleRecord) (n k : ℕ) → Stay m n ss rs (rule_lines ss m rs n k ls)
rules_stay [] ss m rs n k = unwritten m n ss rs
rules_stay ([] ∷ ls) ss m rs n k = rules_stay ls ss m rs n (suc k)
rules_stay ((b ∷ bs) ∷ ls) ss m rs n k =
    either m n ss rs (has_equals (b ∷ bs)) _ _ tt
    (rule_stays m n ss rs k _ (λ r. rules_stay ls ss m (set rs n r) (suc n) (suc k)) (rule_line (take m ss) n (b ∷ bs)))

pub symbols_stay : (ls : List (List ℕ)) (ss : List SymbolRecord) (m : ℕ) (rs : List RuleRecord) (k : ℕ) → Stay m 0 ss rs (symbol_lines ss m rs k ls)
symbols_stay [] ss m rs k = unwritten m 0 ss rs
symbols_stay ([] ∷ ls) ss m rs k = symbols_stay ls ss m rs (suc k)
symbols_stay ((b ∷ bs) ∷ ls) ss m rs k =
    either m 0 ss rs (has_equals (b ∷ bs)) _ _
    (symbol_stays m 0 ss rs k _ (λ s. symbols_stay ls (set ss m s) (suc m) rs (suc k)) (symbol_line (take m ss) (b ∷ bs)))
    (rules_stay ((b ∷ bs) ∷ ls) ss m rs 0 k)
