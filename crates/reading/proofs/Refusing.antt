-- The refusals of recipes and lines. Assumes nothing.
use Rattle.std.proofs.Common.{◌≡◌, ℕ, ◌<◌, Bool, true, eqb, ltb, leb, List, [], ◌∷◌, ◌++◌, length, replicate, Some, None, Err, Option, refl, subst, arith}
use Rattle.std.proofs.lemmas.Bool.{leb-true, leb-false}
use Rattle.card.specs.Bytes.{letter, filled}
use Rattle.card.specs.Records.{find_from}
use Rattle.card.specs.declared.record.Place.{Place}
use Rattle.card.specs.declared.record.SymbolRecord.{SymbolRecord}
use Rattle.card.specs.declared.refusal.Refusal.TheVariants.{TextTooLong}
use Rattle.reading.specs.declared.fault.Fault.{Fault}
use Rattle.reading.specs.declared.fault.Fault.TheVariants.{WrongByte}
use Rattle.reading.specs.Faults.{refusal_of}
use Rattle.reading.specs.Scanning.{at_start, Scan, whole, stuck, scan}
use Rattle.reading.specs.Lines.{Line, taken, broken, line_end, digit, symbol_digit, symbol_new, symbol_slash, symbol_name, symbol_line, variables_of, side_grammar, lone_variable, rule_right, rule_equals, rule_left, rule_line}
use Rattle.reading.specs.Recipes.{recipe_grammar, recipe_read}
use Rattle.reading.specs.Refusing.{numbered, RecipeRefusals, SymbolLineRefusals, RuleLineRefusals}
use Rattle.reading.proofs.Tests.{by_test, chosen}
use Rattle.reading.proofs.Stopping.{Only, Covers, scan_only}

-- RECIPES

abbrev InRecipe : Fault → Type 0
InRecipe f = numbered (4 ∷ 5 ∷ 6 ∷ 7 ∷ 8 ∷ []) (refusal_of f) ≡ true

recipe_covers : (ss : List SymbolRecord) → Covers (recipe_grammar ss) 4096 InRecipe
recipe_covers ss =
    record {
      name_too_long = refl;
      unknown_name = refl;
      constant_opened = refl;
      bracket_missing = refl;
      too_many_children = refl;
      too_few_children = refl;
      wrong_byte = refl;
      early_end = refl;
      too_deep = λ depth places d p e. refl;
      too_many_places = λ places h e. absurd (omega (arith, leb-true 4096 places e));
      unbound_variable = λ may e. cc;
    }

pub recipe_refusals : RecipeRefusals
recipe_refusals ss text f =
    chosen (ltb 4096 (length text)) (λ l h. let same : TextTooLong ≡ f = cc in rw (← same) refl)
    (λ l h.
    let short : length text < 4097 = leb-false 4097 (length text) l in
    let r = scan (recipe_grammar ss) (at_start []) [] text in
    read r (scan_only (recipe_grammar ss) 4096 InRecipe (recipe_covers ss) text (at_start []) [] (omega arith, omega arith)) h)
  where
    read : (r : Scan) → Only InRecipe r → recipe_read r ≡ Err f → numbered (4 ∷ 5 ∷ 6 ∷ 7 ∷ 8 ∷ []) f ≡ true
    read (stuck g rest) o h = let same : refusal_of g ≡ f = cc in rw (← same) o
    read (whole ps []) o h = cc
    read (whole ps (b ∷ bs)) o h = let same : refusal_of WrongByte ≡ f = cc in rw (← same) refl

-- LINES

abbrev OnlyLine : {A : Type 0} → (Fault → Type 0) → Line A → Type 0
OnlyLine P (taken x) = Unit {0}
OnlyLine P (broken f rest) = P f

line_end_only : {A : Type 0} (P : Fault → Type 0) (x : A) (rest : List ℕ) → P WrongByte → OnlyLine P (line_end x rest)
line_end_only P x [] h = tt
line_end_only P x (b ∷ bs) h = h

abbrev InSymbolLine : Fault → Type 0
InSymbolLine f = numbered (5 ∷ 11 ∷ 12 ∷ []) (refusal_of f) ≡ true

digit_only : (name text : List ℕ) → OnlyLine InSymbolLine (symbol_digit name text)
digit_only name [] = refl
digit_only name (b ∷ bs) =
    by_test (OnlyLine InSymbolLine) (digit b)
    (λ p. by_test (OnlyLine InSymbolLine) (leb b 52) (λ q. line_end_only InSymbolLine _ bs refl) (λ q. refl))
    (λ p. refl)

new_only : (o : Option ℕ) (name : List ℕ) (b : ℕ) (bs : List ℕ) → OnlyLine InSymbolLine (symbol_new o name b bs)
new_only (Some k) name b bs = refl
new_only None name b bs = digit_only name bs

slash_only : (ss : List SymbolRecord) (w text : List ℕ) → OnlyLine InSymbolLine (symbol_slash ss w text)
slash_only ss w [] = refl
slash_only ss [] (b ∷ bs) = refl
slash_only ss (x ∷ w) (b ∷ bs) =
    by_test (OnlyLine InSymbolLine) (eqb b 47) (λ p. new_only (find_from (filled (x ∷ w)) 0 ss) (filled (x ∷ w)) b bs) (λ p. refl)

name_only : (ss : List SymbolRecord) (w text : List ℕ) → OnlyLine InSymbolLine (symbol_name ss w text)
name_only ss w [] = refl
name_only ss w (b ∷ bs) =
    by_test (OnlyLine InSymbolLine) (letter b)
    (λ p. by_test (OnlyLine InSymbolLine) (leb 12 (length w)) (λ q. refl) (λ q. name_only ss (w ++ (b ∷ [])) bs))
    (λ p. slash_only ss w (b ∷ bs))

symbol_only : (ss : List SymbolRecord) (text : List ℕ) → OnlyLine InSymbolLine (symbol_line ss text)
symbol_only ss text = by_test (OnlyLine InSymbolLine) (leb 64 (length ss)) (λ p. refl) (λ p. name_only ss [] text)

pub symbol_line_refusals : SymbolLineRefusals
symbol_line_refusals ss text f rest e = subst (OnlyLine InSymbolLine) e (symbol_only ss text)

abbrev InRuleLine : Fault → Type 0
InRuleLine f = numbered (5 ∷ 6 ∷ 7 ∷ 11 ∷ 13 ∷ 14 ∷ []) (refusal_of f) ≡ true

side_covers : (ss : List SymbolRecord) (may : List Bool) (bound : ℕ) → Covers (side_grammar ss may) bound InRuleLine
side_covers ss may bound =
    record {
      name_too_long = refl;
      unknown_name = refl;
      constant_opened = refl;
      bracket_missing = refl;
      too_many_children = refl;
      too_few_children = refl;
      wrong_byte = refl;
      early_end = refl;
      too_deep = λ depth places d p e. absurd (omega (arith, leb-true 32 depth e));
      too_many_places = λ places h e. refl;
      unbound_variable = λ may' e. refl;
    }

side_only : (ss : List SymbolRecord) (may : List Bool) (text : List ℕ) → Only InRuleLine (scan (side_grammar ss may) (at_start []) [] text)
side_only ss may text = scan_only (side_grammar ss may) (length text) InRuleLine (side_covers ss may (length text)) text (at_start []) [] (omega arith, omega arith)

right_only : (l : List Place) (r : Scan) → Only InRuleLine r → OnlyLine InRuleLine (rule_right l r)
right_only l (stuck f rest) o = o
right_only l (whole ps rest) o = line_end_only InRuleLine _ rest refl

equals_only : (ss : List SymbolRecord) (l : List Place) (text : List ℕ) → OnlyLine InRuleLine (rule_equals ss l text)
equals_only ss l [] = refl
equals_only ss l (b ∷ bs) =
    by_test (OnlyLine InRuleLine) (eqb b 61)
    (λ p. by_test (OnlyLine InRuleLine) (lone_variable l) (λ q. refl) (λ q. right_only l _ (side_only ss (variables_of l) bs)))
    (λ p. refl)

left_only : (ss : List SymbolRecord) (r : Scan) → Only InRuleLine r → OnlyLine InRuleLine (rule_left ss r)
left_only ss (stuck f rest) o = o
left_only ss (whole l rest) o = equals_only ss l rest

rule_only : (ss : List SymbolRecord) (n : ℕ) (text : List ℕ) → OnlyLine InRuleLine (rule_line ss n text)
rule_only ss n text = by_test (OnlyLine InRuleLine) (leb 64 n) (λ p. refl) (λ p. left_only ss _ (side_only ss (replicate 8 true) text))

pub rule_line_refusals : RuleLineRefusals
rule_line_refusals ss n text f rest e = subst (OnlyLine InRuleLine) e (rule_only ss n text)
