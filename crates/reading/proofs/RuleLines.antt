-- A rule line: its two sides and the "=" between them. Assumes nothing.
use Rattle.std.proofs.Common.{◌≡◌, ℕ, zero, suc, ◌-◌, ◌<◌, ◌≤◌, Bool, true, false, leb, List, [], ◌∷◌, ◌++◌, length, take, drop, set, replicate, sym, refl, ap, ◌∙◌, ap₂, arith}
use Rattle.std.proofs.lemmas.List.{length-take-le, drop-replicate, take-append-drop}
use Rattle.std.proofs.lemmas.Bool.{lt-leb}
use Rattle.card.specs.declared.record.Place.{Place}
use Rattle.card.specs.declared.record.Place.TheVariants.{Empty, Symbol, Variable}
use Rattle.card.specs.declared.record.SymbolRecord.{SymbolRecord}
use Rattle.card.specs.declared.record.RuleRecord.{RuleRecord}
use Rattle.reading.specs.declared.fault.Fault.{Fault}
use Rattle.reading.specs.declared.fault.Fault.TheVariants.{WrongByte, LoneVariable}
use Rattle.reading.specs.Scanning.{Grammar, at_start, behind, stuck, scan}
use Rattle.reading.specs.Sources.{next_is}
use Rattle.reading.specs.Progress.{Advanced}
use Rattle.reading.specs.Lines.{taken, broken, line_end, marked, variables_of, side_grammar, lone_variable, side, rule_right, rule_equals, rule_left, rule_line, SideRead}
use Rattle.reading.proofs.Automaton.{behind_top}

-- A SIDE

-- marking goes on past empty places
marked_empty : (may : List Bool) (n : ℕ) → marked may (replicate n Empty) ≡ may
marked_empty may zero = refl
marked_empty may (suc n) = marked_empty may n

marked_side : (may : List Bool) (ps : List Place) (n : ℕ) → marked may (ps ++ replicate n Empty) ≡ marked may ps
marked_side may [] n = marked_empty may n
marked_side may (Empty ∷ ps) n = marked_side may ps n
marked_side may (Symbol f ∷ ps) n = marked_side may ps n
marked_side may (Variable v ∷ ps) n = marked_side (set may v true) ps n

pub side_variables : (ps : List Place) → variables_of (side ps) ≡ variables_of ps
side_variables ps = marked_side (replicate 8 false) ps (32 - length ps)

pub side_read : (G : Grammar) (n : ℕ) (out : List Place) (before after : List ℕ) → length out ≡ 32 → G.places ≡ 32
    → Advanced G at_start behind 0 0 n (replicate 32 Empty) out before after → SideRead G before after out
side_read G n out before after l p a =
    let m : n ≤ length out = let r = a.room in omega arith in
    let k : length (take n out) ≡ n = length-take-le n out m in
    let s = a.longer in
    let r = a.room in
    record {
      places = take n out;
      some = omega arith;
      few = omega arith;
      reads = a.goes [] refl ∙ behind_top G (take n out) after;
      holds =
          sym (take-append-drop n out)
          ∙ ap (λ x. take n out ++ x) (a.kept ∙ (drop-replicate n 32 Empty ∙ ap (λ i. replicate (32 - i) Empty) (sym k)));
    }

-- A RULE

module _ (ss : List SymbolRecord) (n : ℕ) (room : n < 64) (before mid : List ℕ) where
  open_rule : rule_line ss n before ≡ rule_left ss (scan (side_grammar ss (replicate 8 true)) (at_start []) [] before)
  open_rule = let f : leb 64 n ≡ false = lt-leb 64 n room in rw (f, rule_line)

  module _ (held : List Place) (t : SideRead (side_grammar ss (replicate 8 true)) before mid held) where
    at_equals : rule_line ss n before ≡ rule_equals ss t.places mid
    at_equals = open_rule ∙ ap (rule_left ss) t.reads

    lone_side : (ps : List Place) → 0 < length ps → lone_variable (side ps) ≡ lone_variable ps
    lone_side [] h = absurd (omega arith)
    lone_side (Empty ∷ ps) h = refl
    lone_side (Symbol f ∷ ps) h = refl
    lone_side (Variable w ∷ ps) h = refl

    lone_held : lone_variable held ≡ lone_variable t.places
    lone_held = ap lone_variable t.holds ∙ lone_side t.places t.some

    equals_lone : (ps : List Place) (xs : List ℕ) → next_is 61 xs ≡ true → lone_variable ps ≡ true → rule_equals ss ps xs ≡ broken LoneVariable xs
    equals_lone ps [] c l = cc
    equals_lone ps (b ∷ bs) c l = rw (c, rule_equals) (rw l)

    equals_goes : (ps : List Place) (xs : List ℕ) → next_is 61 xs ≡ true → lone_variable ps ≡ false
        → rule_equals ss ps xs ≡ rule_right ps (scan (side_grammar ss (variables_of ps)) (at_start []) [] (drop 1 xs))
    equals_goes ps [] c l = cc
    equals_goes ps (b ∷ bs) c l = rw (c, rule_equals) (rw l)

    module _ (c : next_is 61 mid ≡ true) where
      pub lone : lone_variable held ≡ true → broken LoneVariable mid ≡ rule_line ss n before
      lone l = sym (at_equals ∙ equals_lone t.places mid c (sym lone_held ∙ l))

      module _ (l : lone_variable held ≡ false) (next : List ℕ) (e : next ≡ drop 1 mid) (may : List Bool) (m : may ≡ variables_of held) where
        right_goes : rule_line ss n before ≡ rule_right t.places (scan (side_grammar ss may) (at_start []) [] next)
        right_goes =
            at_equals
            ∙ (equals_goes t.places mid c (sym lone_held ∙ l)
            ∙ ap₂ (λ x y. rule_right t.places (scan (side_grammar ss x) (at_start []) [] y)) (sym (m ∙ (ap variables_of t.holds ∙ side_variables t.places))) (sym e))

        pub right_stuck : (f : Fault) (after : List ℕ) → scan (side_grammar ss may) (at_start []) [] next ≡ stuck f after → broken f after ≡ rule_line ss n before
        right_stuck f after s = sym (right_goes ∙ ap (rule_right t.places) s)

        module _ (after : List ℕ) (held₂ : List Place) (u : SideRead (side_grammar ss may) next after held₂) where
          ends : rule_line ss n before ≡ line_end (record { left = held; right = held₂ }) after
          ends =
              right_goes
              ∙ (ap (rule_right t.places) u.reads ∙ ap₂ (λ x y. line_end (record { left = x; right = y }) after) (sym t.holds) (sym u.holds))

          some_left : (xs : List ℕ) (r : RuleRecord) → 0 < length xs → line_end r xs ≡ broken WrongByte xs
          some_left [] r s = absurd (omega arith)
          some_left (b ∷ bs) r s = refl

          pub left_over : 0 < length after → broken WrongByte after ≡ rule_line ss n before
          left_over s = sym (ends ∙ some_left after _ s)

          pub complete : after ≡ [] → taken (record { left = held; right = held₂ }) ≡ rule_line ss n before
          complete s = sym (ends ∙ ap (line_end (record { left = held; right = held₂ })) s)
