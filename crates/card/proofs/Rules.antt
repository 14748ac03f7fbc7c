-- Rules: what a rule's record is made of, and the well-formed card of records that keep the rules. Assumes nothing.
use Rattle.std.proofs.Common.{◌≡◌, ℕ, suc, ◌-◌, ◌≤◌, Bool, true, false, eqb, List, [], ◌∷◌, ◌++◌, map, length, get_or, take, replicate, is_some, Some, None, Decides, Option, sym, refl, ap, ◌∙◌, subst, ⊎_elim, arith}
use mathlib.Core.List.Memᴰ
use mathlib.Core.List.{Memᴰ}
use Rattle.std.specs.List.{AllByRecursion, filter_map, list_all}
use Rattle.std.proofs.lemmas.Bool.{and_from, and_parts, eq-eqb, eqb-true, or_cases, or_left, or_right, true≢false}
use Rattle.std.proofs.lemmas.Bool.Decides.{Decides-like}
use Rattle.rewriting.specs.Terms.{Term, var, app, occurs}
use Rattle.rewriting.specs.Cards as theory
use Rattle.rewriting.specs.Places as theory_places
use Rattle.card.specs.declared.record.Place.{Place}
use Rattle.card.specs.declared.record.Place.TheVariants.{Empty, Symbol, Variable}
use Rattle.card.specs.declared.record.RuleRecord.{RuleRecord}
use Rattle.card.specs.declared.record.SymbolRecord.{SymbolRecord}
use Rattle.card.specs.declared.record.Card.{Card}
use Rattle.card.specs.Records.{arities, card_of, DistinctNames, Kept, KeepsRules, rules_from, side_term, SideIs, stored, WellFormedRule, WellFormedSymbol}
use Rattle.card.specs.Scans.{HoldsTerm, mentions, variable_of, Within}
use Rattle.card.proofs.Sides.{mentions_side, side_holds_one_term}

-- A RULE'S RECORD

pub within_told : (inner outer : List Place)
    → Decides (list_all (λ v. mentions v outer) (filter_map variable_of inner)) (Within inner outer)
within_told inner outer = (within_from inner, within_passes inner)
  where
    within_from : (ps : List Place) → list_all (λ v. mentions v outer) (filter_map variable_of ps) ≡ true → Within ps outer
    within_from [] h = λ v m. absurd (true≢false (sym m))
    within_from (Empty ∷ ps) h = within_from ps h
    within_from (Symbol f ∷ ps) h = within_from ps h
    within_from (Variable w ∷ ps) h =
        let p = and_parts (mentions w outer) (list_all (λ v. mentions v outer) (filter_map variable_of ps)) h in
        λ v m. ⊎_elim (λ e. subst (λ x. mentions x outer ≡ true) (eqb-true w v e) p.0) (within_from ps p.1 v) (or_cases (eqb w v) (mentions v ps) m)

    within_passes : (ps : List Place) → Within ps outer → list_all (λ v. mentions v outer) (filter_map variable_of ps) ≡ true
    within_passes [] h = refl
    within_passes (Empty ∷ ps) h = within_passes ps h
    within_passes (Symbol f ∷ ps) h = within_passes ps h
    within_passes (Variable w ∷ ps) h =
        and_from (mentions w outer) (list_all (λ v. mentions v outer) (filter_map variable_of ps))
        (h w (or_left (eqb w w) (mentions w ps) (eq-eqb w w refl)))
        (within_passes ps (λ v m. h v (or_right (eqb w v) (mentions v ps) m)))

abbrev lone : Term → Option ℕ
lone (var v) = Some v
lone (app f ts) = None

first_place : (t : Term) (k : ℕ)
    → variable_of (get_or (map stored (theory_places.places t) ++ replicate k Empty) 0 Empty) ≡ lone t
first_place (var v) k = refl
first_place (app f ts) k = refl

side_starts : {Σ : theory.Signature} {side : List Place} {t : Term} → SideIs Σ side t
    → variable_of (get_or side 0 Empty) ≡ lone t
side_starts {Σ} {side} {t} s =
    ap (λ ps. variable_of (get_or ps 0 Empty)) s.holds ∙ first_place t (32 - length (theory_places.places t))

no_lone_from : (t : Term) → lone t ≡ None → theory.NoLoneVariable t
no_lone_from (var v) h = let z : ◌≡◌ {A = ℕ} 0 1 = cc in absurd (omega arith)
no_lone_from (app f ts) h = tt

no_lone_starts : (t : Term) → theory.NoLoneVariable t → lone t ≡ None
no_lone_starts (var v) h = absurd h
no_lone_starts (app f ts) h = refl

none_from : (o : Option ℕ) → is_some o ≡ false → o ≡ None
none_from None h = refl
none_from (Some n) h = absurd (true≢false h)

-- what is tested of a rule
pub record RuleParts (Σ : theory.Signature) (r : RuleRecord) : Type 0 where
  pub left_holds : HoldsTerm Σ r.left
  pub right_holds : HoldsTerm Σ r.right
  pub no_variable : variable_of (get_or r.left 0 Empty) ≡ None
  pub within : Within r.right r.left

module _ (Σ : theory.Signature) (r : RuleRecord) where
  pub rule_from_parts : RuleParts Σ r → WellFormedRule Σ r
  rule_from_parts p =
      let l = p.left_holds.is in
      let q = p.right_holds.is in
      record {
        left = p.left_holds.term;
        right = p.right_holds.term;
        is = record {
          left_is = l;
          right_is = q;
          left_no_variable = no_lone_from p.left_holds.term (sym (side_starts l) ∙ p.no_variable);
          right_within_left = λ v k. sym (mentions_side l v) ∙ p.within v (mentions_side q v ∙ k);
        };
      }

  pub parts_from_rule : WellFormedRule Σ r → RuleParts Σ r
  parts_from_rule w =
      let l = w.is.left_is in
      let q = w.is.right_is in
      record {
        left_holds = record { term = w.left; is = l };
        right_holds = record { term = w.right; is = q };
        no_variable = side_starts l ∙ no_lone_starts w.left w.is.left_no_variable;
        within = λ v k. mentions_side l v ∙ w.is.right_within_left v (sym (mentions_side q v) ∙ k);
      }

  -- where both sides hold a term, the rest of the test decides
  module _ (left_holds : HoldsTerm Σ r.left) (right_holds : HoldsTerm Σ r.right) where
    pub rule_told : (b : Bool) → is_some (variable_of (get_or r.left 0 Empty)) ≡ false
        → Decides b (Within r.right r.left) → Decides b (WellFormedRule Σ r)
    rule_told b none h =
        let nothing = none_from (variable_of (get_or r.left 0 Empty)) none in
        Decides-like b
        (λ w. rule_from_parts (record { left_holds = left_holds; right_holds = right_holds; no_variable = nothing; within = w }))
        (λ w. (parts_from_rule w).within) h

  pub lone_variable_told : (b : Bool) → is_some (variable_of (get_or r.left 0 Empty)) ≡ true → b ≡ false
      → Decides b (WellFormedRule Σ r)
  lone_variable_told b some fails =
      (λ e. absurd (true≢false (sym e ∙ fails)), λ w. absurd (true≢false (sym some ∙ ap is_some (parts_from_rule w).no_variable)))

-- THE CARD

abbrev rule_of : theory.Signature → ℕ → RuleRecord → theory.Rule
rule_of Σ n r = record { number = n; left = side_term Σ r.left; right = side_term Σ r.right }

rule_on_card : (Σ : theory.Signature) (n : ℕ) (r : RuleRecord) → WellFormedRule Σ r → theory.WellFormedRule Σ (rule_of Σ n r)
rule_on_card Σ n r w =
    let l = side_holds_one_term Σ r.left w.left w.is.left_is in
    let q = side_holds_one_term Σ r.right w.right w.is.right_is in
    record {
      left_on_card = subst (theory.TermOn Σ) l w.is.left_is.on;
      right_on_card = subst (theory.TermOn Σ) q w.is.right_is.on;
      left_no_variable = subst theory.NoLoneVariable l w.is.left_no_variable;
      right_within_left = λ v k. subst (λ t. occurs v t ≡ true) l (w.is.right_within_left v (subst (λ t. occurs v t ≡ true) (sym q) k));
    }

module _ (Σ : theory.Signature) where
  rules_on_card : (n : ℕ) (rs : List RuleRecord) → AllByRecursion (WellFormedRule Σ) rs → (q : theory.Rule)
      → Memᴰ q (rules_from Σ n rs) → theory.WellFormedRule Σ q
  rules_on_card n [] h q m = absurd (Memᴰ.not-nil m)
  rules_on_card n (r ∷ rs) h q (Memᴰ.head e) = subst (theory.WellFormedRule Σ) (sym e) (rule_on_card Σ n r h.0)
  rules_on_card n (r ∷ rs) h q (Memᴰ.tail m) = rules_on_card (suc n) rs h.1 q m

  numbered_from : (n : ℕ) (rs : List RuleRecord) (q : theory.Rule) → Memᴰ q (rules_from Σ n rs) → n ≤ q.number
  numbered_from n [] q m = absurd (Memᴰ.not-nil m)
  numbered_from n (r ∷ rs) q (Memᴰ.head e) = omega (arith, ap (λ x. x.number) e)
  numbered_from n (r ∷ rs) q (Memᴰ.tail m) = omega (arith, numbered_from (suc n) rs q m)

  rules_ascend : (n : ℕ) (rs : List RuleRecord) → theory.Ascending (rules_from Σ n rs)
  rules_ascend n [] = tt
  rules_ascend n (r ∷ rs) = (λ q m. omega (arith, numbered_from (suc n) rs q m), rules_ascend (suc n) rs)

pub kept_records_make_a_well_formed_card : (ss : List SymbolRecord) (rs : List RuleRecord) → KeepsRules ss rs
    → theory.WellFormed (card_of ss rs)
kept_records_make_a_well_formed_card ss rs k =
    record { each_rule = rules_on_card (arities ss) 1 rs k.each_rule; ascending = rules_ascend (arities ss) 1 rs }

-- THE TEST OF A CARD

-- what the tests of the first m symbols and of the first n rules tell
pub record Tested (ss : List SymbolRecord) (rs : List RuleRecord) (b : Bool) (m n : ℕ) : Type 0 where
  pub each_symbol : AllByRecursion WellFormedSymbol (take m ss)
  pub distinct : DistinctNames (take m ss)
  pub rules_told : Decides b (AllByRecursion (WellFormedRule (arities (take m ss))) (take n rs))

pub kept_told : (ss : List SymbolRecord) (rs : List RuleRecord) (card : Card) (b : Bool)
    → 64 ≤ length ss → 64 ≤ length rs → card.symbols ≤ 64 → card.rules ≤ 64
    → Tested ss rs b card.symbols card.rules → Decides b (Kept ss rs card)
kept_told ss rs card b long_symbols long_rules few_symbols few_rules t =
    Decides-like b
    (λ rules. record {
      symbols_long = long_symbols;
      rules_long = long_rules;
      few_symbols = few_symbols;
      few_rules = few_rules;
      keeps = record { each_symbol = t.each_symbol; distinct = t.distinct; each_rule = rules };
    })
    (λ k. k.keeps.each_rule) t.rules_told
