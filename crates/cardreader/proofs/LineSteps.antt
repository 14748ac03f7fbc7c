-- The lines of a card one by one. Assumes nothing.
use Rattle.std.proofs.Common.{◌≡◌, ℕ, suc, ◌<◌, Bool, true, false, ◌==◌, eqb, List, [], ◌∷◌, length, take, set, Decides, sym, refl, ap, ◌∙◌, arith}
use Rattle.std.specs.List.{ContainsAt as Has}
use Rattle.std.proofs.lemmas.Bool.Decides.{Decides-by_or, Decides-eqb, same_from_decides}
use Rattle.std.proofs.lemmas.Bool.{true≢false}
use Rattle.card.specs.declared.record.SymbolRecord.{SymbolRecord}
use Rattle.card.specs.declared.record.RuleRecord.{RuleRecord}
use Rattle.reading.specs.declared.fault.Fault.{Fault}
use Rattle.reading.specs.Faults.{refusal_of}
use Rattle.reading.specs.Lines.{taken, broken, symbol_line, rule_line}
use Rattle.cardreader.specs.CardTexts.{refused, has_equals, misplaced, rule_step, rule_lines, symbol_step, symbol_lines}

-- the test for "=" is the definition's
pub equals_is : (xs : List ℕ) (r : Bool) → Decides r (Has xs 61) → r ≡ has_equals xs
equals_is xs r d =
    same_from_decides r (has_equals xs) d (Decides-by_or (λ b. eqb b 61) (λ b. b ≡ 61) has_equals (λ b. Decides-eqb b 61) refl (λ _ _. refl) xs)

pub not_empty : (line : List ℕ) (r : Bool) → r ≡ (length line == 0) → r ≡ false → 0 < length line
not_empty [] r e f = absurd (true≢false (sym e ∙ f))
not_empty (b ∷ bs) r e f = omega arith

module _ (ss : List SymbolRecord) (m : ℕ) (rs : List RuleRecord) (n k : ℕ) (line : List ℕ) (ls : List (List ℕ)) where
  pub rule_misplaced : 0 < length line → has_equals line ≡ false → rule_lines ss m rs n k (line ∷ ls) ≡ refused (misplaced m) (suc k)
  rule_misplaced h e = go line h e
    where
      go : (l : List ℕ) → 0 < length l → has_equals l ≡ false → rule_lines ss m rs n k (l ∷ ls) ≡ refused (misplaced m) (suc k)
      go [] h e = absurd (omega arith)
      go (b ∷ bs) h e = rw (e, rule_lines)

  rule_there : has_equals line ≡ true → rule_lines ss m rs n k (line ∷ ls) ≡ rule_step (λ r. rule_lines ss m (set rs n r) (suc n) (suc k) ls) k (rule_line (take m ss) n line)
  rule_there e = go line e
    where
      go : (l : List ℕ) → has_equals l ≡ true → rule_lines ss m rs n k (l ∷ ls) ≡ rule_step (λ r. rule_lines ss m (set rs n r) (suc n) (suc k) ls) k (rule_line (take m ss) n l)
      go [] e = absurd (true≢false (sym e))
      go (b ∷ bs) e = rw (e, rule_lines)

  pub rule_goes_on : has_equals line ≡ true → (r : RuleRecord) → rule_line (take m ss) n line ≡ taken r → rule_lines ss m rs n k (line ∷ ls) ≡ rule_lines ss m (set rs n r) (suc n) (suc k) ls
  rule_goes_on e r t = rule_there e ∙ ap (rule_step (λ q. rule_lines ss m (set rs n q) (suc n) (suc k) ls) k) t

  pub rule_stops : has_equals line ≡ true → (f : Fault) (rest : List ℕ) → rule_line (take m ss) n line ≡ broken f rest → rule_lines ss m rs n k (line ∷ ls) ≡ refused (refusal_of f) (suc k)
  rule_stops e f rest t = rule_there e ∙ ap (rule_step (λ q. rule_lines ss m (set rs n q) (suc n) (suc k) ls) k) t

module _ (ss : List SymbolRecord) (m : ℕ) (rs : List RuleRecord) (k : ℕ) (line : List ℕ) (ls : List (List ℕ)) where
  pub symbols_end : has_equals line ≡ true → symbol_lines ss m rs k (line ∷ ls) ≡ rule_lines ss m rs 0 k (line ∷ ls)
  symbols_end e = go line e
    where
      go : (l : List ℕ) → has_equals l ≡ true → symbol_lines ss m rs k (l ∷ ls) ≡ rule_lines ss m rs 0 k (l ∷ ls)
      go [] e = absurd (true≢false (sym e))
      go (b ∷ bs) e = rw (e, symbol_lines)

  symbol_there : 0 < length line → has_equals line ≡ false → symbol_lines ss m rs k (line ∷ ls) ≡ symbol_step (λ s. symbol_lines (set ss m s) (suc m) rs (suc k) ls) k (symbol_line (take m ss) line)
  symbol_there h e = go line h e
    where
      go : (l : List ℕ) → 0 < length l → has_equals l ≡ false → symbol_lines ss m rs k (l ∷ ls) ≡ symbol_step (λ s. symbol_lines (set ss m s) (suc m) rs (suc k) ls) k (symbol_line (take m ss) l)
      go [] h e = absurd (omega arith)
      go (b ∷ bs) h e = rw (e, symbol_lines)

  pub symbol_goes_on : 0 < length line → has_equals line ≡ false → (s : SymbolRecord) → symbol_line (take m ss) line ≡ taken s → symbol_lines ss m rs k (line ∷ ls) ≡ symbol_lines (set ss m s) (suc m) rs (suc k) ls
  symbol_goes_on h e s t = symbol_there h e ∙ ap (symbol_step (λ q. symbol_lines (set ss m q) (suc m) rs (suc k) ls) k) t

  pub symbol_stops : 0 < length line → has_equals line ≡ false → (f : Fault) (rest : List ℕ) → symbol_line (take m ss) line ≡ broken f rest → symbol_lines ss m rs k (line ∷ ls) ≡ refused (refusal_of f) (suc k)
  symbol_stops h e f rest t = symbol_there h e ∙ ap (symbol_step (λ q. symbol_lines (set ss m q) (suc m) rs (suc k) ls) k) t
