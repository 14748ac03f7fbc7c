-- The lines of an accepted card text are those of a card. Assumes nothing.
use Rattle.std.proofs.Common.{◌≡◌, ℕ, suc, ◌+◌, ◌<◌, Bool, true, false, List, [], ◌∷◌, ◌++◌, length, take, drop, set, sym, refl, ap, ◌∙◌, subst, ap₂, append_assoc, append-nil, add-one, arith, drop-set-lt}
use Rattle.std.proofs.lemmas.List.{take_more_set, take-append-drop, length-take-le}
use Rattle.card.specs.Records.{Kept}
use Rattle.card.specs.declared.record.Card.{Card}
use Rattle.card.specs.declared.record.SymbolRecord.{SymbolRecord}
use Rattle.card.specs.declared.record.RuleRecord.{RuleRecord}
use Rattle.card.specs.declared.refusal.Refusal.{Refusal}
use Rattle.draft.specs.Drafts.{counts}
use Rattle.draft.proofs.Kept.{symbol_keeps, rule_keeps}
use Rattle.reading.specs.Lines.{Line, taken, broken, symbol_line, rule_line}
use Rattle.reading.specs.CardLines.{SymbolSpelled, RuleWritten}
use Rattle.reading.proofs.SymbolForms as symbol_forms
use Rattle.reading.proofs.RuleForms as rule_forms
use Rattle.cardreader.specs.CardTexts.{Outcome, accepted, refused, has_equals, misplaced, rule_step, rule_lines, symbol_step, symbol_lines}
use Rattle.cardreader.specs.CardForms.{with_bytes, LineByLine}

pub never : {A : Type 0} {f : Refusal} {k : ℕ} {c : Card} {ss : List SymbolRecord} {rs : List RuleRecord} → refused f k ≡ accepted c ss rs → A
never e = let z : ◌≡◌ {A = ℕ} 0 1 = cc in absurd (omega arith)

-- a record written behind the first n, and more behind it
pub grown : {A : Type 0} (xs : List A) (n : ℕ) (x : A) (ys : List A) → n < length xs
    → take (suc n) (set xs n x) ++ (ys ++ drop (suc n + length ys) (set xs n x)) ≡ take n xs ++ ((x ∷ ys) ++ drop (n + suc (length ys)) xs)
grown xs n x ys h =
    let one : n + 1 ≡ suc n = add-one n in
    let front : take (suc n) (set xs n x) ≡ take n xs ++ (x ∷ []) = ap (λ i. take i (set xs n x)) (sym one) ∙ take_more_set xs n x h in
    let far : suc n + length ys ≡ n + suc (length ys) = omega arith in
    let back : drop (suc n + length ys) (set xs n x) ≡ drop (n + suc (length ys)) xs = drop-set-lt (suc n + length ys) xs n x (omega arith) ∙ ap (λ i. drop i xs) far in
    ap₂ (λ a b. a ++ (ys ++ b)) front back ∙ append_assoc (take n xs) (x ∷ []) (ys ++ drop (n + suc (length ys)) xs)

-- the lines state these rules behind n others
record RulesStated (ls : List (List ℕ)) (ss : List SymbolRecord) (m : ℕ) (rs : List RuleRecord) (n : ℕ) (c : Card) (ss' : List SymbolRecord) (rs' : List RuleRecord) : Type 0 where
  pub rules : List RuleRecord
  pub written : LineByLine (RuleWritten (take m ss)) (with_bytes ls) rules
  pub counted : c ≡ counts m (n + length rules)
  pub same_symbols : ss' ≡ ss
  pub rules_are : rs' ≡ take n rs ++ (rules ++ drop (n + length rules) rs)
  pub kept : Kept ss rs' c

-- one rule line more in front
rule_stated_first : (line : List ℕ) (ls : List (List ℕ)) (ss : List SymbolRecord) (m : ℕ) (rs : List RuleRecord) (n : ℕ) (c : Card) (ss' : List SymbolRecord) (rs' : List RuleRecord) (r : RuleRecord)
    → Kept ss rs (counts m n) → rule_line (take m ss) n line ≡ taken r → with_bytes (line ∷ ls) ≡ line ∷ with_bytes ls
    → (Kept ss (set rs n r) (counts m (suc n)) → RulesStated ls ss m (set rs n r) (suc n) c ss' rs')
    → RulesStated (line ∷ ls) ss m rs n c ss' rs'
rule_stated_first line ls ss m rs n c ss' rs' r kept q bytes rest =
    let w = rule_forms.rule_taken (take m ss) n line r q in
    let long = kept.rules_long in
    let room : n < length rs = omega (arith, w.0) in
    let one : n + 1 ≡ suc n = add-one n in
    let s = rest (subst (λ i. Kept ss (set rs n r) (counts m i)) one (rule_keeps m n line ss rs (set rs n r) (record { kept = kept; rule = r; line = q; written = refl }))) in
    let far : suc n + length s.rules ≡ n + suc (length s.rules) = omega arith in
    record {
      rules = r ∷ s.rules;
      written = subst (λ x. LineByLine (RuleWritten (take m ss)) x (r ∷ s.rules)) (sym bytes) (w.1, s.written);
      counted = s.counted ∙ ap (counts m) far;
      same_symbols = s.same_symbols;
      rules_are = s.rules_are ∙ grown rs n r s.rules room;
      kept = s.kept;
    }

rules_stated : (ls : List (List ℕ)) (ss : List SymbolRecord) (m : ℕ) (rs : List RuleRecord) (n k : ℕ) (c : Card) (ss' : List SymbolRecord) (rs' : List RuleRecord)
    → Kept ss rs (counts m n) → rule_lines ss m rs n k ls ≡ accepted c ss' rs' → RulesStated ls ss m rs n c ss' rs'
rules_stated [] ss m rs n k c ss' rs' kept e =
    let same_card : counts m n ≡ c = cc in
    let same_rules : rs ≡ rs' = cc in
    let same_symbols : ss ≡ ss' = cc in
    let none : n + 0 ≡ n = omega arith in
    record {
      rules = [];
      written = tt;
      counted = sym same_card ∙ ap (counts m) (sym none);
      same_symbols = sym same_symbols;
      rules_are = sym same_rules ∙ (sym (take-append-drop n rs) ∙ ap (λ i. take n rs ++ drop i rs) (sym none));
      kept = subst (λ x. Kept ss x c) same_rules (subst (Kept ss rs) same_card kept);
    }
rules_stated ([] ∷ ls) ss m rs n k c ss' rs' kept e =
    let r = rules_stated ls ss m rs n (suc k) c ss' rs' kept e in
    record { rules = r.rules; written = r.written; counted = r.counted; same_symbols = r.same_symbols; rules_are = r.rules_are; kept = r.kept }
rules_stated ((b ∷ bs) ∷ ls) ss m rs n k c ss' rs' kept e =
    go (λ r. rules_stated ls ss m (set rs n r) (suc n) (suc k) c ss' rs') (has_equals (b ∷ bs)) (rule_line (take m ss) n (b ∷ bs)) refl e
  where
    go : ((r : RuleRecord) → Kept ss (set rs n r) (counts m (suc n)) → rule_lines ss m (set rs n r) (suc n) (suc k) ls ≡ accepted c ss' rs' → RulesStated ls ss m (set rs n r) (suc n) c ss' rs')
        → (t : Bool) (x : Line RuleRecord) → rule_line (take m ss) n (b ∷ bs) ≡ x
        → elim t as (λ q. Outcome) [ false ↦ refused (misplaced m) (suc k) | true ↦ rule_step (λ r. rule_lines ss m (set rs n r) (suc n) (suc k) ls) k x ] ≡ accepted c ss' rs'
        → RulesStated ((b ∷ bs) ∷ ls) ss m rs n c ss' rs'
    go later false x q h = never h
    go later true (taken r) q h = rule_stated_first (b ∷ bs) ls ss m rs n c ss' rs' r kept q refl (λ more. later r more h)
    go later true (broken f rest) q h = never h

-- the lines state these symbols behind m others, and these rules
pub record SymbolsStated (ls : List (List ℕ)) (ss : List SymbolRecord) (m : ℕ) (rs : List RuleRecord) (c : Card) (ss' : List SymbolRecord) (rs' : List RuleRecord) : Type 0 where
  pub symbols : List SymbolRecord
  pub rules : List RuleRecord
  pub symbols_written : LineByLine SymbolSpelled (take (length symbols) (with_bytes ls)) symbols
  pub rules_written : LineByLine (RuleWritten (take m ss ++ symbols)) (drop (length symbols) (with_bytes ls)) rules
  pub counted : c ≡ counts (m + length symbols) (length rules)
  pub symbols_are : ss' ≡ take m ss ++ (symbols ++ drop (m + length symbols) ss)
  pub rules_are : rs' ≡ rules ++ drop (length rules) rs
  pub kept : Kept ss' rs' c

-- no symbol more
rules_only : (ls : List (List ℕ)) (ss : List SymbolRecord) (m : ℕ) (rs : List RuleRecord) (c : Card) (ss' : List SymbolRecord) (rs' : List RuleRecord)
    → RulesStated ls ss m rs 0 c ss' rs' → SymbolsStated ls ss m rs c ss' rs'
rules_only ls ss m rs c ss' rs' r =
    let none : m + 0 ≡ m = omega arith in
    let all : 0 + length r.rules ≡ length r.rules = omega arith in
    record {
      symbols = [];
      rules = r.rules;
      symbols_written = tt;
      rules_written = subst (λ x. LineByLine (RuleWritten x) (with_bytes ls) r.rules) (sym (append-nil (take m ss))) r.written;
      counted = r.counted ∙ ap₂ counts (sym none) all;
      symbols_are = r.same_symbols ∙ (sym (take-append-drop m ss) ∙ ap (λ i. take m ss ++ drop i ss) (sym none));
      rules_are = r.rules_are ∙ ap (λ i. r.rules ++ drop i rs) all;
      kept = subst (λ x. Kept x rs' c) (sym r.same_symbols) r.kept;
    }

symbol_stated_first : (line : List ℕ) (ls : List (List ℕ)) (ss : List SymbolRecord) (m : ℕ) (rs : List RuleRecord) (c : Card) (ss' : List SymbolRecord) (rs' : List RuleRecord) (s : SymbolRecord)
    → Kept ss rs (counts m 0) → symbol_line (take m ss) line ≡ taken s → with_bytes (line ∷ ls) ≡ line ∷ with_bytes ls
    → (Kept (set ss m s) rs (counts (suc m) 0) → SymbolsStated ls (set ss m s) (suc m) rs c ss' rs')
    → SymbolsStated (line ∷ ls) ss m rs c ss' rs'
symbol_stated_first line ls ss m rs c ss' rs' s kept q bytes rest =
    let w = symbol_forms.symbol_read (take m ss) line s q in
    let long = kept.symbols_long in
    let few = kept.few_symbols in
    let room : m < length ss = omega (arith, w.0, length-take-le m ss (omega arith)) in
    let one : m + 1 ≡ suc m = add-one m in
    let t = rest (subst (λ i. Kept (set ss m s) rs (counts i 0)) one (symbol_keeps m line rs ss (set ss m s) (record { kept = kept; symbol = s; line = q; written = refl }))) in
    let far : suc m + length t.symbols ≡ m + suc (length t.symbols) = omega arith in
    let front : take (suc m) (set ss m s) ≡ take m ss ++ (s ∷ []) = ap (λ i. take i (set ss m s)) (sym one) ∙ take_more_set ss m s room in
    let all : take (suc m) (set ss m s) ++ t.symbols ≡ take m ss ++ (s ∷ t.symbols) = ap (λ x. x ++ t.symbols) front ∙ append_assoc (take m ss) (s ∷ []) t.symbols in
    record {
      symbols = s ∷ t.symbols;
      rules = t.rules;
      symbols_written = subst (λ x. LineByLine SymbolSpelled (take (suc (length t.symbols)) x) (s ∷ t.symbols)) (sym bytes) (w.1, t.symbols_written);
      rules_written = subst (λ x. LineByLine (RuleWritten (take m ss ++ (s ∷ t.symbols))) (drop (suc (length t.symbols)) x) t.rules) (sym bytes)
          (subst (λ x. LineByLine (RuleWritten x) (drop (length t.symbols) (with_bytes ls)) t.rules) all t.rules_written);
      counted = t.counted ∙ ap (λ i. counts i (length t.rules)) far;
      symbols_are = t.symbols_are ∙ grown ss m s t.symbols room;
      rules_are = t.rules_are;
      kept = t.kept;
    }

pub symbols_stated : (ls : List (List ℕ)) (ss : List SymbolRecord) (m : ℕ) (rs : List RuleRecord) (k : ℕ) (c : Card) (ss' : List SymbolRecord) (rs' : List RuleRecord)
    → Kept ss rs (counts m 0) → symbol_lines ss m rs k ls ≡ accepted c ss' rs' → SymbolsStated ls ss m rs c ss' rs'
symbols_stated [] ss m rs k c ss' rs' kept e = rules_only [] ss m rs c ss' rs' (rules_stated [] ss m rs 0 k c ss' rs' kept e)
symbols_stated ([] ∷ ls) ss m rs k c ss' rs' kept e =
    let t = symbols_stated ls ss m rs (suc k) c ss' rs' kept e in
    record { symbols = t.symbols; rules = t.rules; symbols_written = t.symbols_written; rules_written = t.rules_written; counted = t.counted; symbols_are = t.symbols_are; rules_are = t.rules_are; kept = t.kept }
symbols_stated ((b ∷ bs) ∷ ls) ss m rs k c ss' rs' kept e =
    go (λ s. symbols_stated ls (set ss m s) (suc m) rs (suc k) c ss' rs') (has_equals (b ∷ bs)) (symbol_line (take m ss) (b ∷ bs)) refl e
  where
    go : ((s : SymbolRecord) → Kept (set ss m s) rs (counts (suc m) 0) → symbol_lines (set ss m s) (suc m) rs (suc k) ls ≡ accepted c ss' rs' → SymbolsStated ls (set ss m s) (suc m) rs c ss' rs')
        → (t : Bool) (x : Line SymbolRecord) → symbol_line (take m ss) (b ∷ bs) ≡ x
        → elim t as (λ q. Outcome) [ true ↦ rule_lines ss m rs 0 k ((b ∷ bs) ∷ ls) | false ↦ symbol_step (λ s. symbol_lines (set ss m s) (suc m) rs (suc k) ls) k x ] ≡ accepted c ss' rs'
        → SymbolsStated ((b ∷ bs) ∷ ls) ss m rs c ss' rs'
    go later true x q h = rules_only ((b ∷ bs) ∷ ls) ss m rs c ss' rs' (rules_stated ((b ∷ bs) ∷ ls) ss m rs 0 k c ss' rs' kept h)
    go later false (taken s) q h = symbol_stated_first (b ∷ bs) ls ss m rs c ss' rs' s kept q refl (λ more. later s more h)
    go later false (broken f rest) q h = never h
