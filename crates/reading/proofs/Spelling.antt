-- The written form of a term is read as that term. Assumes nothing.
use Rattle.std.proofs.Common.{◌≡◌, ℕ, zero, suc, ◌+◌, ◌-◌, ◌<◌, ◌≤◌, Bool, true, false, leb, List, [], ◌∷◌, ◌++◌, map, length, get_or, Some, None, Ok, Option, sym, refl, ap, ◌∙◌, append_assoc, append-nil, arith, length-append}
use native.Mathlib.Nat.{le-max_left, le-max_right}
use Rattle.std.proofs.ByRecursion.{All-get_or}
use Rattle.std.proofs.lemmas.Bool.{lt-leb, le-leb, eq-eqb, or_left, or_right}
use Rattle.std.proofs.lemmas.List.{length-map, map-append}
use Rattle.rewriting.specs.Terms.{Term, var, app, Terms, nilᵗ, consᵗ, countᵗ, occurs, occurs_in}
use Rattle.rewriting.specs.Cards.{TermOn, TermsOn}
use Rattle.rewriting.specs.Places as theory
use Rattle.card.specs.Bytes.{letter, filled, Name}
use Rattle.card.specs.Records.{arities, blank_symbol, stored, find_from, WellFormedSymbol, name_of}
use Rattle.card.specs.declared.record.Place.{Place}
use Rattle.card.specs.declared.record.Place.TheVariants.{Symbol}
use Rattle.card.specs.declared.record.SymbolRecord.{SymbolRecord}
use Rattle.card.proofs.Finding.{found_from_distinct, name_is_found_exactly}
use Rattle.card.proofs.Naming.{lettered}
use Rattle.reading.specs.Scanning.{Grammar, at_start, behind, scan, arity_at, variable_at, scan_variable, variable_letter}
use Rattle.reading.specs.Sources.{at_letter, next_is}
use Rattle.reading.specs.Written.{written, written_children, written_rest, nesting, nesting_children, nesting_rest, May, ProperSymbols}
use Rattle.reading.proofs.Automaton.{start_takes, start_variable, judged, name_over, judged_constant, judged_open, behind_comma, behind_close}

-- A CARD'S SYMBOLS

pub arity_found : (ss : List SymbolRecord) (f n : ℕ) → arities ss f ≡ Some n → (f < length ss) × (arity_at ss f ≡ n)
arity_found [] f n e = cc
arity_found (s ∷ ss) zero n e = (omega arith, cc)
arity_found (s ∷ ss) (suc f) n e = let r = arity_found ss f n e in (omega (arith, r.0), r.1)

pub found_arity : (ss : List SymbolRecord) (f : ℕ) → f < length ss → arities ss f ≡ Some (arity_at ss f)
found_arity [] f h = absurd (omega arith)
found_arity (s ∷ ss) zero h = refl
found_arity (s ∷ ss) (suc f) h = found_arity ss f (omega arith)

-- a symbol that is found has the name, and if none is found none has it
pub found_at : (ss : List SymbolRecord) (bytes : List ℕ) (k : ℕ) → find_from bytes 0 ss ≡ Some k → (k < length ss) × ((get_or ss k blank_symbol).name ≡ bytes)
found_at ss bytes k e = rw e at (name_is_found_exactly bytes ss)

pub found_none : (ss : List SymbolRecord) (bytes : List ℕ) → find_from bytes 0 ss ≡ None → (i : ℕ) → i < length ss → (get_or ss i blank_symbol).name ≡ bytes → ⊥
found_none ss bytes e = rw e at (name_is_found_exactly bytes ss)

-- the name of a symbol of the card: letters, which its record holds and by which it is found
pub record NameAt (ss : List SymbolRecord) (f : ℕ) : Type 0 where
  pub is_name : Name (name_of ss f)
  pub holds : (get_or ss f blank_symbol).name ≡ filled (name_of ss f)
  pub found : find_from (filled (name_of ss f)) 0 ss ≡ Some f

pub name_at : (ss : List SymbolRecord) → ProperSymbols ss → (f : ℕ) → f < length ss → NameAt ss f
name_at ss p f h =
    let l = lettered (get_or ss f blank_symbol) (All-get_or WellFormedSymbol ss f blank_symbol h p.each) in
    record { is_name = l.is_name; holds = l.holds; found = ap (λ b. find_from b 0 ss) (sym l.holds) ∙ found_from_distinct ss p.distinct f h }

-- WHAT MAY STAND BEHIND A TERM

-- a text before which a name is over and no bracket opens
pub record Ends (rest : List ℕ) : Type 0 where
  pub no_letter : at_letter rest ≡ false
  pub no_bracket : next_is 40 rest ≡ false

pub ends_nothing : Ends []
ends_nothing = record { no_letter = refl; no_bracket = refl }

ends_rest : (ss : List SymbolRecord) (ts : Terms) (rest : List ℕ) → Ends (written_rest ss ts ++ rest)
ends_rest ss nilᵗ rest = record { no_letter = refl; no_bracket = refl }
ends_rest ss (consᵗ t ts) rest = record { no_letter = refl; no_bracket = refl }

-- a symbol's place, its first child's places and those of the others
pub spread : (acc : List Place) (f : ℕ) (t : Term) (ts : Terms)
    → ((acc ++ (Symbol f ∷ [])) ++ map stored (theory.places t)) ++ map stored (theory.places_of ts) ≡ acc ++ (Symbol f ∷ map stored (theory.places t ++ theory.places_of ts))
spread acc f t ts =
    append_assoc (acc ++ (Symbol f ∷ [])) (map stored (theory.places t)) (map stored (theory.places_of ts))
    ∙ (append_assoc acc (Symbol f ∷ []) (map stored (theory.places t) ++ map stored (theory.places_of ts))
    ∙ ap (λ x. acc ++ (Symbol f ∷ x)) (sym (map-append stored (theory.places t) (theory.places_of ts))))

variable_byte : (v : ℕ) → v < 8 → (letter (65 + v) ≡ false) × (variable_letter (65 + v) ≡ true)
variable_byte v h =
    let a : leb 97 (65 + v) ≡ false = lt-leb 97 (65 + v) (omega arith) in
    let b : leb 65 (65 + v) ≡ true = le-leb 65 (65 + v) (omega arith) in
    let c : leb (65 + v) 72 ≡ true = le-leb (65 + v) 72 (omega arith) in
    (rw a, rw (b, c))

module _ (G : Grammar) (proper : ProperSymbols G.symbols) where
  abbrev ss : List SymbolRecord
  ss = G.symbols

  read_variable : (o : Option (List Bool)) (n v : ℕ) → May o v → n < G.places → variable_at o G.places n (65 + v) ≡ Ok v
  read_variable None n v m h = absurd m
  read_variable (Some may) n v m h =
      let q = variable_byte v m.0 in
      let f : leb G.places n ≡ false = lt-leb G.places n h in
      let d : 65 + v - 65 ≡ v = omega arith in
      rw (q.1, variable_at) (rw f (rw d (rw m.1 (ap Ok d))))

  full_not : (acc : List Place) → length acc < G.places → leb G.places (length acc) ≡ false
  full_not acc h = lt-leb G.places (length acc) h

  -- a symbol's name, up to the byte behind it
  name_read : (f : ℕ) → f < length ss → (K : List ℕ) (acc : List Place) (rest : List ℕ) → length acc < G.places → at_letter rest ≡ false
      → scan G (at_start K) acc (name_of ss f ++ rest) ≡ judged G K acc (Some f) rest
  name_read f h K acc rest room over =
      let n = name_at ss proper f h in
      start_takes G (name_of ss f) K acc rest n.is_name.letters (omega (arith, n.is_name.some)) n.is_name.few (full_not acc room)
      ∙ (name_over G (name_of ss f) K acc rest over ∙ ap (λ o. judged G K acc o rest) n.found)

  may_below : (o : Option (List Bool)) (v : ℕ) → May o v → v < 8
  may_below None v m = absurd m
  may_below (Some may) v m = m.0

  mutual
    pub term_read : (t : Term) → TermOn (arities ss) t → ((v : ℕ) → occurs v t ≡ true → May G.variables v) → (K : List ℕ) (acc : List Place) (rest : List ℕ)
        → length acc + length (theory.places t) ≤ G.places → length K + nesting t ≤ G.brackets → Ends rest
        → scan G (at_start K) acc (written ss t ++ rest) ≡ scan G (behind K) (acc ++ map stored (theory.places t)) rest
    term_read (var v) on may K acc rest p b e =
        let m = may v (eq-eqb v v refl) in
        start_variable G K acc ((65 + v) ∷ rest) (65 + v) refl (variable_byte v (may_below G.variables v m)).0
        ∙ ap (λ r. scan_variable (λ acc'. scan G (behind K) acc' rest) r acc ((65 + v) ∷ rest)) (read_variable G.variables (length acc) v m (omega arith))
    term_read (app f ts) on may K acc rest p b e = app_read ts f on.0 on.1 may K acc rest p b e

    app_read : (ts : Terms) (f : ℕ) → arities ss f ≡ Some (countᵗ ts) → TermsOn (arities ss) ts → ((v : ℕ) → occurs_in v ts ≡ true → May G.variables v)
        → (K : List ℕ) (acc : List Place) (rest : List ℕ)
        → length acc + suc (length (theory.places_of ts)) ≤ G.places → length K + nesting_children ts ≤ G.brackets → Ends rest
        → scan G (at_start K) acc ((name_of ss f ++ written_children ss ts) ++ rest) ≡ scan G (behind K) (acc ++ (Symbol f ∷ map stored (theory.places_of ts))) rest
    app_read nilᵗ f a on may K acc rest p b e =
        let q = arity_found ss f 0 a in
        ap (λ w. scan G (at_start K) acc (w ++ rest)) (append-nil (name_of ss f))
        ∙ (name_read f q.0 K acc rest (omega arith) e.no_letter ∙ judged_constant G K acc f rest q.1 e.no_bracket)
    app_read (consᵗ t ts) f a on may K acc rest p b e =
        let q = arity_found ss f (suc (countᵗ ts)) a in
        let inner = written ss t ++ (written_rest ss ts ++ rest) in
        let shape : (name_of ss f ++ (40 ∷ (written ss t ++ written_rest ss ts))) ++ rest ≡ name_of ss f ++ (40 ∷ inner) =
        append_assoc (name_of ss f) (40 ∷ (written ss t ++ written_rest ss ts)) rest ∙ ap (λ x. name_of ss f ++ (40 ∷ x)) (append_assoc (written ss t) (written_rest ss ts) rest) in
        let n = length-append (theory.places t) (theory.places_of ts) in
        let acc₁ = acc ++ (Symbol f ∷ []) in
        let n₁ = length-append acc (Symbol f ∷ []) in
        let acc₂ = acc₁ ++ map stored (theory.places t) in
        let n₂ = length-append acc₁ (map stored (theory.places t)) in
        let n₃ = length-map (theory.places t) stored in
        let l = le-max_left (nesting t) (nesting_rest ts) in
        let r = le-max_right (nesting t) (nesting_rest ts) in
        ap (scan G (at_start K) acc) shape
        ∙ (name_read f q.0 K acc (40 ∷ inner) (omega arith) refl
        ∙ (judged_open G K acc f (40 ∷ inner) (countᵗ ts) q.1 refl (omega arith)
        ∙ (term_read t on.0 (λ v h. may v (or_left (occurs v t) (occurs_in v ts) h)) (countᵗ ts ∷ K) acc₁ (written_rest ss ts ++ rest) (omega arith) (omega arith) (ends_rest ss ts rest)
        ∙ (rest_read ts on.1 (λ v h. may v (or_right (occurs v t) (occurs_in v ts) h)) K acc₂ rest (omega arith) (omega arith)
        ∙ ap (λ a. scan G (behind K) a rest) (spread acc f t ts)))))

    rest_read : (ts : Terms) → TermsOn (arities ss) ts → ((v : ℕ) → occurs_in v ts ≡ true → May G.variables v) → (K : List ℕ) (acc : List Place) (rest : List ℕ)
        → length acc + length (theory.places_of ts) ≤ G.places → length K + suc (nesting_rest ts) ≤ G.brackets
        → scan G (behind (countᵗ ts ∷ K)) acc (written_rest ss ts ++ rest) ≡ scan G (behind K) (acc ++ map stored (theory.places_of ts)) rest
    rest_read nilᵗ on may K acc rest p b = behind_close G K acc (41 ∷ rest) refl refl ∙ ap (λ a. scan G (behind K) a rest) (sym (append-nil acc))
    rest_read (consᵗ t ts) on may K acc rest p b =
        let inner = written ss t ++ (written_rest ss ts ++ rest) in
        let n = length-append (theory.places t) (theory.places_of ts) in
        let acc₁ = acc ++ map stored (theory.places t) in
        let n₁ = length-append acc (map stored (theory.places t)) in
        let n₂ = length-map (theory.places t) stored in
        let l = le-max_left (nesting t) (nesting_rest ts) in
        let r = le-max_right (nesting t) (nesting_rest ts) in
        ap (λ x. scan G (behind (suc (countᵗ ts) ∷ K)) acc (44 ∷ x)) (append_assoc (written ss t) (written_rest ss ts) rest)
        ∙ (behind_comma G K acc (44 ∷ inner) (countᵗ ts) refl
        ∙ (term_read t on.0 (λ v h. may v (or_left (occurs v t) (occurs_in v ts) h)) (countᵗ ts ∷ K) acc (written_rest ss ts ++ rest) (omega arith) (omega arith) (ends_rest ss ts rest)
        ∙ (rest_read ts on.1 (λ v h. may v (or_right (occurs v t) (occurs_in v ts) h)) K acc₁ rest (omega arith) (omega arith)
        ∙ ap (λ a. scan G (behind K) a rest) (append_assoc acc (map stored (theory.places t)) (map stored (theory.places_of ts)) ∙ ap (λ x. acc ++ x) (sym (map-append stored (theory.places t) (theory.places_of ts)))))))
