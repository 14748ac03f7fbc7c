-- The written form of a rule is taken as that rule. Assumes nothing.
use Rattle.std.proofs.Common.{◌≡◌, ℕ, ◌-◌, ◌<◌, ◌≤◌, Bool, true, false, leb, ◌↔◌, List, [], ◌∷◌, ◌++◌, map, length, get_or, replicate, sym, refl, ap, ◌∙◌, ap₂, arith, length-append}
use Rattle.std.proofs.lemmas.List.{length-map, get_or-replicate}
use Rattle.std.proofs.lemmas.Bool.{lt-leb}
use Rattle.rewriting.specs.Terms.{Term, var, app, Terms, nilᵗ, consᵗ, occurs}
use Rattle.rewriting.specs.Cards.{NoLoneVariable}
use Rattle.rewriting.specs.Places as theory
use Rattle.card.specs.Records.{arities, stored, SideIs}
use Rattle.card.specs.declared.record.Place.{Place}
use Rattle.card.specs.declared.record.Place.TheVariants.{Empty}
use Rattle.card.specs.declared.record.SymbolRecord.{SymbolRecord}
use Rattle.card.specs.declared.record.RuleRecord.{RuleRecord}
use Rattle.reading.specs.Scanning.{at_start, whole, scan}
use Rattle.reading.specs.Lines.{taken, variables_of, side_grammar, lone_variable, side, rule_right, rule_equals, rule_left, rule_line}
use Rattle.reading.specs.Written.{written, nesting, nesting_children, nesting_rest, Allowed, ProperSymbols}
use Rattle.reading.specs.CardLines.{RuleWritten}
use Rattle.reading.proofs.Automaton.{behind_top}
use Rattle.reading.proofs.Spelling.{Ends, term_read}
use Rattle.reading.proofs.Acceptance.{written_accepted}
use Rattle.reading.proofs.RuleForms.{marked_occurs, rule_taken}

-- A TERM HAS MORE PLACES THAN OPEN BRACKETS

mutual
  nesting_few : (t : Term) → nesting t < length (theory.places t)
  nesting_few (var v) = omega arith
  nesting_few (app f ts) = let h = nesting_children_few ts in omega arith

  nesting_children_few : (ts : Terms) → nesting_children ts ≤ length (theory.places_of ts)
  nesting_children_few nilᵗ = omega arith
  nesting_children_few (consᵗ t ts) =
      let a = nesting_few t in
      let b = nesting_rest_few ts in
      let n = length-append (theory.places t) (theory.places_of ts) in
      omega arith

  nesting_rest_few : (ts : Terms) → nesting_rest ts ≤ length (theory.places_of ts)
  nesting_rest_few nilᵗ = omega arith
  nesting_rest_few (consᵗ t ts) =
      let a = nesting_few t in
      let b = nesting_rest_few ts in
      let n = length-append (theory.places t) (theory.places_of ts) in
      omega arith

-- THE TWO SIDES

no_lone : (t : Term) → NoLoneVariable t → lone_variable (map stored (theory.places t)) ≡ false
no_lone (var v) h = absurd h
no_lone (app f ts) h = refl

ends_equals : (rest : List ℕ) → Ends (61 ∷ rest)
ends_equals rest = record { no_letter = refl; no_bracket = refl }

module _ (ss : List SymbolRecord) (proper : ProperSymbols ss) where
  side_allowed : (may : List Bool) (held : List Place) (t : Term) → SideIs (arities ss) held t → ((v : ℕ) → occurs v t ≡ true → get_or may v false ≡ true) → Allowed (side_grammar ss may) t
  side_allowed may held t s marks =
      record {
        on = s.on;
        variables = λ v o. (s.eight_variables v o, marks v o);
        few_places = s.few_places;
        few_brackets = (let n = nesting_few t in let f = s.few_places in omega arith);
      }

  side_held : (held : List Place) (t : Term) → SideIs (arities ss) held t → side (map stored (theory.places t)) ≡ held
  side_held held t s = ap (λ k. map stored (theory.places t) ++ replicate (32 - k) Empty) (length-map (theory.places t) stored) ∙ sym s.holds

  pub written_taken : (n : ℕ) (text : List ℕ) (r : RuleRecord) → n < 64 → RuleWritten ss text r → rule_line ss n text ≡ taken r
  written_taken n text r room w =
      let G = side_grammar ss (replicate 8 true) in
      let l = map stored (theory.places w.left) in
      let back = written ss w.right in
      let rule = w.is_rule in
      let a = side_allowed (replicate 8 true) r.left w.left rule.left_is (λ v o. get_or-replicate 8 v true false (rule.left_is.eight_variables v o)) in
      let b = side_allowed (variables_of l) r.right w.right rule.right_is (λ v o. marked_occurs w.left v (rule.right_is.eight_variables v o) ∙ rule.right_within_left v o) in
      let left_read : scan G (at_start []) [] text ≡ whole l (61 ∷ back) =
      ap (scan G (at_start []) []) w.spelled
      ∙ (term_read G proper w.left a.on a.variables [] [] (61 ∷ back) (omega (arith, a.few_places)) (omega (arith, a.few_brackets)) (ends_equals back) ∙ behind_top G l (61 ∷ back)) in
      let right_read = written_accepted (side_grammar ss (variables_of l)) proper w.right b in
      let open_line : leb 64 n ≡ false = lt-leb 64 n room in
      let lone = no_lone w.left rule.left_no_variable in
      rw (open_line, rule_line)
      (ap (rule_left ss) left_read
      ∙ rw (lone, rule_equals)
      (ap (rule_right l) right_read
      ∙ ap₂ (λ x y. taken (record { left = x; right = y })) (side_held r.left w.left rule.left_is) (side_held r.right w.right rule.right_is)))

pub rule_exactly : (ss : List SymbolRecord) → ProperSymbols ss → (n : ℕ) (text : List ℕ) (r : RuleRecord) → (rule_line ss n text ≡ taken r) ↔ ((n < 64) × RuleWritten ss text r)
rule_exactly ss proper n text r = (rule_taken ss n text r, λ w. written_taken ss proper n text r w.0 w.1)
