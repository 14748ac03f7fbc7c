-- A rule line that is taken is the written form of a rule that keeps the card's rules. Assumes nothing.
use Rattle.std.proofs.Common.{◌≡◌, ℕ, ◌-◌, ◌<◌, Bool, true, false, ◌||◌, eqb, leb, List, [], ◌∷◌, ◌++◌, map, length, get_or, set, replicate, sym, refl, ap, ◌∙◌, subst, ap₂, append-nil, arith}
use Rattle.std.proofs.lemmas.List.{length-map, get_or-set_other, get_or-replicate, length-set}
use Rattle.std.proofs.lemmas.Grind.{get_or-set_at}
use Rattle.std.proofs.Math.Bool.{or_assoc, or-false, or-true}
use Rattle.std.proofs.lemmas.Bool.{leb-false, eqb-false, eqb-true}
use Rattle.rewriting.specs.Terms.{Term, var, app, Terms, nilᵗ, consᵗ, occurs, occurs_in}
use Rattle.rewriting.specs.Cards.{NoLoneVariable}
use Rattle.rewriting.specs.Places as theory
use Rattle.card.specs.Records.{arities, stored, SideIs}
use Rattle.card.specs.declared.record.Place.{Place}
use Rattle.card.specs.declared.record.Place.TheVariants.{Empty}
use Rattle.card.specs.declared.record.SymbolRecord.{SymbolRecord}
use Rattle.card.specs.declared.record.RuleRecord.{RuleRecord}
use Rattle.reading.specs.Scanning.{at_start, Scan, whole, stuck, scan}
use Rattle.reading.specs.Lines.{taken, marked, variables_of, side_grammar, lone_variable, side, rule_right, rule_equals, rule_left, rule_line}
use Rattle.reading.specs.Written.{written, Allowed}
use Rattle.reading.specs.CardLines.{RuleWritten}
use Rattle.reading.proofs.Tests.{chosen}
use Rattle.reading.proofs.Peeling.{front_peeled}
use Rattle.reading.proofs.SymbolForms.{end_read}

-- MARKED VARIABLES ARE THOSE OF THE TERM

-- a variable stands among some places
abbrev stands : ℕ → List theory.Place → Bool
stands v [] = false
stands v (theory.Symbol f ∷ ps) = stands v ps
stands v (theory.Variable w ∷ ps) = eqb w v || stands v ps

stands_append : (v : ℕ) (ps qs : List theory.Place) → stands v (ps ++ qs) ≡ (stands v ps || stands v qs)
stands_append v [] qs = refl
stands_append v (theory.Symbol f ∷ ps) qs = stands_append v ps qs
stands_append v (theory.Variable w ∷ ps) qs = ap (λ b. eqb w v || b) (stands_append v ps qs) ∙ sym (or_assoc (eqb w v) (stands v ps) (stands v qs))

mutual
  stands_occurs : (v : ℕ) (t : Term) → stands v (theory.places t) ≡ occurs v t
  stands_occurs v (var w) = or-false (eqb w v)
  stands_occurs v (app f ts) = stands_occurs_in v ts

  stands_occurs_in : (v : ℕ) (ts : Terms) → stands v (theory.places_of ts) ≡ occurs_in v ts
  stands_occurs_in v nilᵗ = refl
  stands_occurs_in v (consᵗ t ts) = stands_append v (theory.places t) (theory.places_of ts) ∙ ap₂ ◌||◌ (stands_occurs v t) (stands_occurs_in v ts)

set_marks : (may : List Bool) (v w : ℕ) → v < length may → get_or (set may w true) v false ≡ (get_or may v false || eqb w v)
set_marks may v w h = go (eqb w v) refl
  where
    go : (b : Bool) → eqb w v ≡ b → get_or (set may w true) v false ≡ (get_or may v false || b)
    go true e = (let same = eqb-true w v e in get_or-set_at may w v true false (sym same) (rw same h)) ∙ sym (or-true (get_or may v false))
    go false e = get_or-set_other may w v true false (λ q. eqb-false w v e (sym q)) ∙ sym (or-false (get_or may v false))

marked_stands : (may : List Bool) (ps : List theory.Place) (v : ℕ) → v < length may
    → get_or (marked may (map stored ps)) v false ≡ (get_or may v false || stands v ps)
marked_stands may [] v h = sym (or-false (get_or may v false))
marked_stands may (theory.Symbol f ∷ ps) v h = marked_stands may ps v h
marked_stands may (theory.Variable w ∷ ps) v h =
    marked_stands (set may w true) ps v (omega (arith, length-set may w true))
    ∙ (ap (λ b. b || stands v ps) (set_marks may v w h) ∙ or_assoc (get_or may v false) (eqb w v) (stands v ps))

-- one of the eight variables is marked exactly if it occurs
pub marked_occurs : (t : Term) (v : ℕ) → v < 8 → get_or (variables_of (map stored (theory.places t))) v false ≡ occurs v t
marked_occurs t v h =
    marked_stands (replicate 8 false) (theory.places t) v h
    ∙ (ap (λ b. b || stands v (theory.places t)) (get_or-replicate 8 v false false h) ∙ stands_occurs v t)

not_lone : (t : Term) → lone_variable (map stored (theory.places t)) ≡ false → NoLoneVariable t
not_lone (var v) h = cc
not_lone (app f ts) h = tt

-- THE TWO SIDES

side_is : (ss : List SymbolRecord) (may : List Bool) (t : Term) (held ps : List Place) → Allowed (side_grammar ss may) t → ps ≡ map stored (theory.places t) → held ≡ side ps → SideIs (arities ss) held t
side_is ss may t held ps a e h =
    let n : length ps ≡ length (theory.places t) = ap length e ∙ length-map (theory.places t) stored in
    record {
      on = a.on;
      few_places = a.few_places;
      eight_variables = λ v o. (a.variables v o).0;
      holds = h ∙ ap₂ (λ x k. x ++ replicate (32 - k) Empty) e n;
    }

module _ (ss : List SymbolRecord) where
  record RightRead (l : List Place) (text : List ℕ) (r : RuleRecord) : Type 0 where
    pub term : Term
    pub allowed : Allowed (side_grammar ss (variables_of l)) term
    pub spelled : text ≡ written ss term
    pub left_held : r.left ≡ side l
    pub right_held : r.right ≡ side (map stored (theory.places term))

  right_read : (l : List Place) (text : List ℕ) (r : RuleRecord) → rule_right l (scan (side_grammar ss (variables_of l)) (at_start []) [] text) ≡ taken r → RightRead l text r
  right_read l text r e = go (scan (side_grammar ss (variables_of l)) (at_start []) [] text) refl e
    where
      go : (x : Scan) → scan (side_grammar ss (variables_of l)) (at_start []) [] text ≡ x → rule_right l x ≡ taken r → RightRead l text r
      go (stuck f rest) q k = cc
      go (whole ps rest) q k =
          let d = end_read (record { left = side l; right = side ps }) r rest k in
          let f = front_peeled (side_grammar ss (variables_of l)) text ps rest q in
          record {
            term = f.term;
            allowed = f.allowed;
            spelled = f.spelled ∙ (ap (λ x. written ss f.term ++ x) d.0 ∙ append-nil (written ss f.term));
            left_held = ap (λ (x : RuleRecord). x.left) (sym d.1);
            right_held = ap (λ (x : RuleRecord). x.right) (sym d.1) ∙ ap side f.places_are;
          }

  record EqualsRead (l : List Place) (text : List ℕ) (r : RuleRecord) : Type 0 where
    pub not_lone : lone_variable l ≡ false
    pub back : List ℕ
    pub spelled : text ≡ 61 ∷ back
    pub right : RightRead l back r

  equals_read : (l : List Place) (text : List ℕ) (r : RuleRecord) → rule_equals ss l text ≡ taken r → EqualsRead l text r
  equals_read l [] r = λ e. cc
  equals_read l (b ∷ bs) r =
      chosen (eqb b 61)
      (λ p. chosen (lone_variable l) (λ q k. cc)
      (λ q k. record { not_lone = q; back = bs; spelled = ap (λ x. x ∷ bs) (eqb-true b 61 p); right = right_read l bs r k }))
      (λ p k. cc)

  left_read : (text : List ℕ) (r : RuleRecord) → rule_left ss (scan (side_grammar ss (replicate 8 true)) (at_start []) [] text) ≡ taken r → RuleWritten ss text r
  left_read text r e = go (scan (side_grammar ss (replicate 8 true)) (at_start []) [] text) refl e
    where
      go : (x : Scan) → scan (side_grammar ss (replicate 8 true)) (at_start []) [] text ≡ x → rule_left ss x ≡ taken r → RuleWritten ss text r
      go (stuck f rest) q k = cc
      go (whole l rest) q k =
          let f = front_peeled (side_grammar ss (replicate 8 true)) text l rest q in
          let d = equals_read l rest r k in
          let g = d.right in
          let within = λ (v : ℕ) (o : occurs v g.term ≡ true).
          let m = g.allowed.variables v o in
          sym (marked_occurs f.term v m.0) ∙ subst (λ ps. get_or (variables_of ps) v false ≡ true) f.places_are m.1 in
          record {
            left = f.term;
            right = g.term;
            is_rule =
                record {
                  left_is = side_is ss (replicate 8 true) f.term r.left l f.allowed f.places_are g.left_held;
                  right_is = side_is ss (variables_of l) g.term r.right (map stored (theory.places g.term)) g.allowed refl g.right_held;
                  left_no_variable = not_lone f.term (subst (λ ps. lone_variable ps ≡ false) f.places_are d.not_lone);
                  right_within_left = within;
                };
            spelled = f.spelled ∙ ap (λ x. written ss f.term ++ x) (d.spelled ∙ ap (λ x. 61 ∷ x) g.spelled);
          }

  pub rule_taken : (n : ℕ) (text : List ℕ) (r : RuleRecord) → rule_line ss n text ≡ taken r → (n < 64) × RuleWritten ss text r
  rule_taken n text r = chosen (leb 64 n) (λ p k. cc) (λ p k. (leb-false 64 n p, left_read text r k))
