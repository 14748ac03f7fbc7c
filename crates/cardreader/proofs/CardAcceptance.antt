-- A card text is accepted exactly if its lines are those of a card. Assumes nothing.
use Rattle.std.proofs.Common.{◌≡◌, ℕ, suc, ◌+◌, ◌<◌, ◌≤◌, Bool, true, false, ◌||◌, eqb, leb, List, [], ◌∷◌, ◌++◌, length, get_or, take, drop, set, replicate, sym, refl, ap, ◌∙◌, subst, ap₂, append_assoc, append-nil, zero-add, add-one, arith, length-append, length-set}
use lib.ListN.{get_or-append}
use lib.Seq.{take-append_seam}
use Rattle.std.specs.List.{AllByRecursion}
use Rattle.std.proofs.lemmas.List.{take_more_set, take-append-drop, length-take-le}
use Rattle.std.proofs.lemmas.Bool.{leb-true, and_parts, ne_eqb}
use Rattle.card.specs.Bytes.{letter}
use Rattle.card.specs.Records.{Kept, KeepsRules, DistinctNames, blank_symbol, blank_rule}
use Rattle.card.specs.declared.record.Card.{Card}
use Rattle.card.specs.declared.record.SymbolRecord.{SymbolRecord}
use Rattle.card.specs.declared.record.RuleRecord.{RuleRecord}
use Rattle.card.specs.declared.refusal.Refusal.{Refusal}
use Rattle.cardtext.specs.Cleaning.{cleaned}
use Rattle.cardtext.specs.Lines.{lines}
use Rattle.draft.specs.Drafts.{counts}
use Rattle.reading.specs.CardLines.{SymbolSpelled, RuleWritten, Lacks}
use Rattle.reading.specs.Written.{written, ProperSymbols}
use Rattle.reading.proofs.SymbolForms as symbol_forms
use Rattle.reading.proofs.RuleSpelling as rule_spelling
use Rattle.cardreader.specs.CardTexts.{Outcome, accepted, refused, has_equals, rule_lines, symbol_lines}
use Rattle.cardreader.specs.Calls.{card_text}
use Rattle.cardreader.specs.CardForms.{with_bytes, LineByLine, CardWritten, CardStated, CardTextAcceptedExactly, CardsHaveDifferentTexts}
use Rattle.cardreader.proofs.LineSteps.{rule_goes_on, symbol_goes_on, symbols_end}
use Rattle.cardreader.proofs.CardForms.{never, grown, symbols_stated}

-- a rule line has a "="
equals_inside : (xs ys : List ℕ) → has_equals (xs ++ (61 ∷ ys)) ≡ true
equals_inside [] ys = refl
equals_inside (x ∷ xs) ys = go (equals_inside xs ys) (eqb x 61)
  where
    go : has_equals (xs ++ (61 ∷ ys)) ≡ true → (b : Bool) → (b || has_equals (xs ++ (61 ∷ ys))) ≡ true
    go ih true = refl
    go ih false = ih

rule_has_equals : (ss : List SymbolRecord) (line : List ℕ) (r : RuleRecord) → RuleWritten ss line r → has_equals line ≡ true
rule_has_equals ss line r w = ap has_equals w.spelled ∙ equals_inside (written ss w.left) (written ss w.right)

-- a symbol line has none
letters_lack_equals : (w rest : List ℕ) → AllByRecursion (λ b. letter b ≡ true) w → has_equals (w ++ rest) ≡ has_equals rest
letters_lack_equals [] rest all = refl
letters_lack_equals (b ∷ w) rest all =
    let above = leb-true 97 b (and_parts (leb 97 b) (leb b 122) all.0).0 in
    let other : eqb b 61 ≡ false = ne_eqb b 61 (λ e. omega arith) in
    rw other (letters_lack_equals w rest all.1)

symbol_lacks_equals : (line : List ℕ) (s : SymbolRecord) → SymbolSpelled line s → has_equals line ≡ false
symbol_lacks_equals line s w =
    let few = w.few_children in
    let other : eqb (48 + w.arity) 61 ≡ false = ne_eqb (48 + w.arity) 61 (λ e. omega arith) in
    ap has_equals w.spelled ∙ (letters_lack_equals w.name (47 ∷ (48 + w.arity) ∷ []) w.is_name.letters ∙ rw other)

rules_accepted : (ls : List (List ℕ)) (rules : List RuleRecord) (ss : List SymbolRecord) (m : ℕ) (rs : List RuleRecord) (n k : ℕ)
    → ProperSymbols (take m ss) → n + length rules ≤ 64 → 64 ≤ length rs → LineByLine (RuleWritten (take m ss)) (with_bytes ls) rules
    → rule_lines ss m rs n k ls ≡ accepted (counts m (n + length rules)) ss (take n rs ++ (rules ++ drop (n + length rules) rs))
rules_accepted [] [] ss m rs n k proper few long w =
    let none : n ≡ n + 0 = omega arith in
    ap₂ (λ i x. accepted (counts m i) ss x) none (sym (take-append-drop n rs) ∙ ap (λ i. take n rs ++ drop i rs) none)
rules_accepted [] (r ∷ rules) ss m rs n k proper few long w = absurd w
rules_accepted ([] ∷ ls) rules ss m rs n k proper few long w = rules_accepted ls rules ss m rs n (suc k) proper few long w
rules_accepted ((b ∷ bs) ∷ ls) [] ss m rs n k proper few long w = absurd w
rules_accepted ((b ∷ bs) ∷ ls) (r ∷ rules) ss m rs n k proper few long w =
    let far : suc n + length rules ≡ n + suc (length rules) = omega arith in
    rule_goes_on ss m rs n k (b ∷ bs) ls (rule_has_equals (take m ss) (b ∷ bs) r w.0) r (rule_spelling.written_taken (take m ss) proper n (b ∷ bs) r (omega arith) w.0)
    ∙ (rules_accepted ls rules ss m (set rs n r) (suc n) (suc k) proper (omega arith) (omega (arith, length-set rs n r)) w.1
    ∙ ap₂ (λ i x. accepted (counts m i) ss x) far (grown rs n r rules (omega arith)))

module _ (ss : List SymbolRecord) (m : ℕ) (rs : List RuleRecord) (k : ℕ) (few_symbols : m ≤ 64) (long : 64 ≤ length ss) where
  -- a symbol behind the others, whose name none of them has
  symbol_lacked : (s : SymbolRecord) (symbols : List SymbolRecord) → DistinctNames (take m ss ++ (s ∷ symbols)) → Lacks (take m ss) s
  symbol_lacked s symbols distinct i h e =
      let n : length (take m ss) ≡ m = length-take-le m ss (omega arith) in
      let all = length-append (take m ss) (s ∷ symbols) in
      let early : get_or (take m ss ++ (s ∷ symbols)) i blank_symbol ≡ get_or (take m ss) i blank_symbol = get_or-append (take m ss) (s ∷ symbols) blank_symbol i h in
      let here : get_or (take m ss ++ (s ∷ symbols)) (length (take m ss)) blank_symbol ≡ s = getD_seam (take m ss) s symbols in
      distinct i (length (take m ss)) h (omega arith) (ap (λ (x : SymbolRecord). x.name) early ∙ (e ∙ ap (λ (x : SymbolRecord). x.name) (sym here)))
    where
      getD_seam : (xs : List SymbolRecord) (y : SymbolRecord) (ys : List SymbolRecord) → get_or (xs ++ (y ∷ ys)) (length xs) blank_symbol ≡ y
      getD_seam [] y ys = refl
      getD_seam (x ∷ xs) y ys = getD_seam xs y ys

  rules_alone : (o : Outcome) (ls : List (List ℕ)) (rules : List RuleRecord) → o ≡ rule_lines ss m rs 0 k ls
      → ProperSymbols (take m ss ++ []) → length rules ≤ 64 → 64 ≤ length rs → LineByLine (RuleWritten (take m ss ++ [])) (with_bytes ls) rules
      → o ≡ accepted (counts (m + 0) (length rules)) (take m ss ++ drop (m + 0) ss) (rules ++ drop (length rules) rs)
  rules_alone o ls rules e proper few long_rules w =
      let same = append-nil (take m ss) in
      let none : m ≡ m + 0 = omega arith in
      let all : 0 + length rules ≡ length rules = omega arith in
      e
      ∙ (rules_accepted ls rules ss m rs 0 k (subst ProperSymbols same proper) (omega arith) long_rules (subst (λ x. LineByLine (RuleWritten x) (with_bytes ls) rules) same w)
      ∙ (ap (λ i. accepted (counts m i) ss (rules ++ drop i rs)) all
      ∙ ap₂ (λ i x. accepted (counts i (length rules)) x (rules ++ drop (length rules) rs)) none (sym (take-append-drop m ss) ∙ ap (λ i. take m ss ++ drop i ss) none)))

pub symbols_accepted : (ls : List (List ℕ)) (symbols : List SymbolRecord) (rules : List RuleRecord) (ss : List SymbolRecord) (m : ℕ) (rs : List RuleRecord) (k : ℕ)
    → ProperSymbols (take m ss ++ symbols) → m + length symbols ≤ 64 → length rules ≤ 64 → 64 ≤ length ss → 64 ≤ length rs
    → LineByLine SymbolSpelled (take (length symbols) (with_bytes ls)) symbols → LineByLine (RuleWritten (take m ss ++ symbols)) (drop (length symbols) (with_bytes ls)) rules
    → symbol_lines ss m rs k ls ≡ accepted (counts (m + length symbols) (length rules)) (take m ss ++ (symbols ++ drop (m + length symbols) ss)) (rules ++ drop (length rules) rs)
symbols_accepted [] [] rules ss m rs k proper few_symbols few_rules long_symbols long_rules w v =
    rules_alone ss m rs k (omega arith) long_symbols (symbol_lines ss m rs k []) [] rules refl proper few_rules long_rules v
symbols_accepted [] (s ∷ symbols) rules ss m rs k proper few_symbols few_rules long_symbols long_rules w v = absurd w
symbols_accepted ([] ∷ ls) symbols rules ss m rs k proper few_symbols few_rules long_symbols long_rules w v =
    symbols_accepted ls symbols rules ss m rs (suc k) proper few_symbols few_rules long_symbols long_rules w v
symbols_accepted ((b ∷ bs) ∷ ls) [] [] ss m rs k proper few_symbols few_rules long_symbols long_rules w v = absurd v
symbols_accepted ((b ∷ bs) ∷ ls) [] (r ∷ rules) ss m rs k proper few_symbols few_rules long_symbols long_rules w v =
    rules_alone ss m rs k (omega arith) long_symbols (symbol_lines ss m rs k ((b ∷ bs) ∷ ls)) ((b ∷ bs) ∷ ls) (r ∷ rules)
    (symbols_end ss m rs k (b ∷ bs) ls (rule_has_equals (take m ss ++ []) (b ∷ bs) r v.0)) proper few_rules long_rules v
symbols_accepted ((b ∷ bs) ∷ ls) (s ∷ symbols) rules ss m rs k proper few_symbols few_rules long_symbols long_rules w v =
    let n : length (take m ss) ≡ m = length-take-le m ss (omega arith) in
    let room : length (take m ss) < 64 = omega arith in
    let one : m + 1 ≡ suc m = add-one m in
    let front : take (suc m) (set ss m s) ≡ take m ss ++ (s ∷ []) = ap (λ i. take i (set ss m s)) (sym one) ∙ take_more_set ss m s (omega arith) in
    let all : take m ss ++ (s ∷ symbols) ≡ take (suc m) (set ss m s) ++ symbols = sym (ap (λ x. x ++ symbols) front ∙ append_assoc (take m ss) (s ∷ []) symbols) in
    let far : suc m + length symbols ≡ m + suc (length symbols) = omega arith in
    symbol_goes_on ss m rs k (b ∷ bs) ls (omega arith) (symbol_lacks_equals (b ∷ bs) s w.0) s
    (symbol_forms.spelled_taken (take m ss) (b ∷ bs) s room w.0 (symbol_lacked ss m rs k (omega arith) long_symbols s symbols proper.distinct))
    ∙ (symbols_accepted ls symbols rules (set ss m s) (suc m) rs (suc k) (subst ProperSymbols all proper) (omega arith) few_rules (omega (arith, length-set ss m s)) long_rules w.1
    (subst (λ x. LineByLine (RuleWritten x) (drop (length symbols) (with_bytes ls)) rules) all v)
    ∙ ap₂ (λ i x. accepted (counts i (length rules)) x (rules ++ drop (length rules) rs)) far (grown ss m s symbols (omega arith)))

-- BOTH WAYS

none_kept : (ss : List SymbolRecord) (rs : List RuleRecord) → 64 ≤ length ss → 64 ≤ length rs → Kept ss rs (counts 0 0)
none_kept ss rs long_symbols long_rules =
    record {
      symbols_long = long_symbols;
      rules_long = long_rules;
      few_symbols = omega arith;
      few_rules = omega arith;
      keeps = record { each_symbol = tt; distinct = λ i j l h e. omega arith; each_rule = tt };
    }

-- a card's lines are accepted as that card
lines_accepted : (ls : List (List ℕ)) (symbols : List SymbolRecord) (rules : List RuleRecord) (ss : List SymbolRecord) (rs : List RuleRecord)
    → 64 ≤ length ss → 64 ≤ length rs → CardWritten ls symbols rules
    → symbol_lines ss 0 rs 0 ls ≡ accepted (counts (length symbols) (length rules)) (symbols ++ drop (length symbols) ss) (rules ++ drop (length rules) rs)
lines_accepted ls symbols rules ss rs long_symbols long_rules w =
    let few = w.few_symbols in
    symbols_accepted ls symbols rules ss 0 rs 0 (record { each = w.keeps.each_symbol; distinct = w.keeps.distinct }) (omega arith) w.few_rules long_symbols long_rules w.symbols_first w.rules_behind
    ∙ ap (λ i. accepted (counts i (length rules)) (symbols ++ drop i ss) (rules ++ drop (length rules) rs)) (zero-add (length symbols))

-- a refused text is no card's
pub refused_states_none : (text : List ℕ) (ss : List SymbolRecord) (rs : List RuleRecord) (f : Refusal) (k : ℕ) → 64 ≤ length ss → 64 ≤ length rs
    → card_text ss rs text ≡ refused f k → (symbols : List SymbolRecord) (rules : List RuleRecord) → CardWritten (lines (cleaned text)) symbols rules → ⊥
refused_states_none text ss rs f k long_symbols long_rules e symbols rules w =
    never (sym e ∙ lines_accepted (lines (cleaned text)) symbols rules ss rs long_symbols long_rules w)

pub text_states : (text : List ℕ) (ss ss' : List SymbolRecord) (rs rs' : List RuleRecord) (card : Card) → 64 ≤ length ss → 64 ≤ length rs
    → card_text ss rs text ≡ accepted card ss' rs' → CardStated text ss ss' rs rs' card
text_states text ss ss' rs rs' card long_symbols long_rules e =
    let t = symbols_stated (lines (cleaned text)) ss 0 rs 0 card ss' rs' (none_kept ss rs long_symbols long_rules) e in
    let all : 0 + length t.symbols ≡ length t.symbols = zero-add (length t.symbols) in
    let counted : card ≡ counts (length t.symbols) (length t.rules) = t.counted ∙ ap (λ i. counts i (length t.rules)) all in
    let symbols_are : ss' ≡ t.symbols ++ drop (length t.symbols) ss = t.symbols_are ∙ ap (λ i. t.symbols ++ drop i ss) all in
    let front : take card.symbols ss' ≡ t.symbols = ap₂ take (ap (λ (c : Card). c.symbols) counted) symbols_are ∙ take-append_seam t.symbols (drop (length t.symbols) ss) in
    let front_rules : take card.rules rs' ≡ t.rules = ap₂ take (ap (λ (c : Card). c.rules) counted) t.rules_are ∙ take-append_seam t.rules (drop (length t.rules) rs) in
    record {
      symbols = t.symbols;
      rules = t.rules;
      written =
          record {
            symbols_first = t.symbols_written;
            rules_behind = t.rules_written;
            few_symbols = subst (λ (c : Card). c.symbols ≤ 64) counted t.kept.few_symbols;
            few_rules = subst (λ (c : Card). c.rules ≤ 64) counted t.kept.few_rules;
            keeps = subst (λ x. KeepsRules t.symbols x) front_rules (subst (λ x. KeepsRules x (take card.rules rs')) front t.kept.keeps);
          };
      counted = counted;
      symbols_are = symbols_are;
      rules_are = t.rules_are;
    }

pub card_text_accepted_exactly : CardTextAcceptedExactly
card_text_accepted_exactly text ss ss' rs rs' card long_symbols long_rules = (
  text_states text ss ss' rs rs' card long_symbols long_rules,
  λ t. lines_accepted (lines (cleaned text)) t.symbols t.rules ss rs long_symbols long_rules t.written
      ∙ (ap (λ c. accepted c (t.symbols ++ drop (length t.symbols) ss) (t.rules ++ drop (length t.rules) rs)) (sym t.counted)
      ∙ ap₂ (accepted card) (sym t.symbols_are) (sym t.rules_are)),
)

pub cards_have_different_texts : CardsHaveDifferentTexts
cards_have_different_texts ls symbols symbols' rules rules' w w' =
    let ss = replicate 64 blank_symbol in
    let rs = replicate 64 blank_rule in
    let e = sym (lines_accepted ls symbols rules ss rs (omega arith) (omega arith) w) ∙ lines_accepted ls symbols' rules' ss rs (omega arith) (omega arith) w' in
    let card_same : counts (length symbols) (length rules) ≡ counts (length symbols') (length rules') = cc in
    let symbols_same : symbols ++ drop (length symbols) ss ≡ symbols' ++ drop (length symbols') ss = cc in
    let rules_same : rules ++ drop (length rules) rs ≡ rules' ++ drop (length rules') rs = cc in (
      sym (take-append_seam symbols (drop (length symbols) ss)) ∙ (ap₂ take (ap (λ (c : Card). c.symbols) card_same) symbols_same ∙ take-append_seam symbols' (drop (length symbols') ss)),
      sym (take-append_seam rules (drop (length rules) rs)) ∙ (ap₂ take (ap (λ (c : Card). c.rules) card_same) rules_same ∙ take-append_seam rules' (drop (length rules') rs)),
    )
