-- At which faults the reader of terms can stop. Assumes nothing.
use Rattle.std.proofs.Common.{◌≡◌, ℕ, zero, suc, ◌+◌, ◌-◌, ◌<◌, ◌≤◌, Bool, true, false, eqb, leb, List, [], ◌∷◌, ◌++◌, length, get_or, Some, None, Ok, Err, Option, Result, sym, refl, ◌∙◌, subst, arith, length-append}
use Rattle.std.proofs.lemmas.Bool.{leb-false}
use Rattle.card.specs.Bytes.{letter, filled}
use Rattle.card.specs.Records.{find_from}
use Rattle.card.specs.declared.record.Place.{Place}
use Rattle.card.specs.declared.record.Place.TheVariants.{Symbol, Variable}
use Rattle.reading.specs.declared.fault.Fault.{Fault}
use Rattle.reading.specs.declared.fault.Fault.TheVariants.{NameTooLong, UnknownName, ConstantOpened, BracketMissing, TooManyChildren, TooFewChildren, TooDeep, TooManyPlaces, UnboundVariable, WrongByte, EarlyEnd}
use Rattle.reading.specs.Scanning.{Grammar, Mode, at_start, in_name, behind, Scan, whole, stuck, scan, arity_at, variable_letter, variable_at, scan_variable, scan_behind, end_behind, scan_named, end_named, scan_judged, end_judged}
use Rattle.reading.proofs.Tests.{by_test}

-- every fault at which reading stops has the property
abbrev pub Only : (Fault → Type 0) → Scan → Type 0
Only P (whole ps rest) = Unit {0}
Only P (stuck f rest) = P f

-- the property has each fault that a text of at most `bound` bytes can meet: each place takes a byte, and each open bracket
-- has a place before it
pub record Covers (G : Grammar) (bound : ℕ) (P : Fault → Type 0) : Type 0 where
  pub name_too_long : P NameTooLong
  pub unknown_name : P UnknownName
  pub constant_opened : P ConstantOpened
  pub bracket_missing : P BracketMissing
  pub too_many_children : P TooManyChildren
  pub too_few_children : P TooFewChildren
  pub wrong_byte : P WrongByte
  pub early_end : P EarlyEnd
  pub too_deep : (depth places : ℕ) → depth ≤ places → places < G.places → leb G.brackets depth ≡ true → P TooDeep
  pub too_many_places : (places : ℕ) → places < bound → leb G.places places ≡ true → P TooManyPlaces
  pub unbound_variable : (may : List Bool) → G.variables ≡ Some may → P UnboundVariable

module _ (G : Grammar) (bound : ℕ) (P : Fault → Type 0) (covers : Covers G bound P) where
  -- the places so far and the bytes to come, by where the reader stands
  abbrev pub Room : Mode → ℕ → ℕ → Type 0
  Room (at_start K) n left = (length K ≤ n) × (n + left ≤ bound)
  Room (in_name w K) n left = (length K ≤ n) × (n + suc left ≤ bound) × (n < G.places)
  Room (behind K) n left = (length K ≤ n) × (n + left ≤ bound)

  abbrev OnlyErr : Result ℕ Fault → Type 0
  OnlyErr (Ok v) = Unit {0}
  OnlyErr (Err f) = P f

  variable_only : (o : Option (List Bool)) → G.variables ≡ o → (n b : ℕ) → n < bound → OnlyErr (variable_at o G.places n b)
  variable_only None e n b h = covers.wrong_byte
  variable_only (Some may) e n b h =
      by_test OnlyErr (variable_letter b)
      (λ p. by_test OnlyErr (leb G.places n) (λ q. covers.too_many_places n h q)
      (λ q. by_test OnlyErr (get_or may (b - 65) false) (λ r. tt) (λ r. covers.unbound_variable may e)))
      (λ p. covers.wrong_byte)

  scan_variable_only : (go : List Place → Scan) (acc : List Place) (text : List ℕ) → ((v : ℕ) → Only P (go (acc ++ (Variable v ∷ [])))) → (r : Result ℕ Fault) → OnlyErr r → Only P (scan_variable go r acc text)
  scan_variable_only go acc text later (Ok v) h = later v
  scan_variable_only go acc text later (Err f) h = h

  behind_only : (go : Mode → Scan) (K : List ℕ) (acc : List Place) (n b : ℕ) (bs : List ℕ) → length K ≤ n → n + suc (length bs) ≤ bound
      → ((m : Mode) → Room m n (length bs) → Only P (go m)) → Only P (scan_behind go K acc b bs)
  behind_only go [] acc n b bs k h later = tt
  behind_only go (d ∷ K) acc n b bs k h later =
      by_test (Only P) (eqb b 44) (λ p. comma d) (λ p. by_test (Only P) (eqb b 41) (λ q. close d) (λ q. covers.wrong_byte))
    where
      comma : (d : ℕ) → Only P (elim d as (λ q. Scan) [ zero ↦ stuck TooManyChildren (b ∷ bs) | suc j ↦ go (at_start (j ∷ K)) ])
      comma zero = covers.too_many_children
      comma (suc j) = later (at_start (j ∷ K)) (k, omega arith)

      close : (d : ℕ) → Only P (elim d as (λ q. Scan) [ zero ↦ go (behind K) | suc j ↦ stuck TooFewChildren (b ∷ bs) ])
      close zero = later (behind K) (omega arith, omega arith)
      close (suc j) = covers.too_few_children

  named_only : (go : Mode → List Place → Scan) (K : List ℕ) (acc : List Place) (f : ℕ) (arity b : ℕ) (bs : List ℕ) → length K ≤ length acc → length acc < G.places → length acc + suc (suc (length bs)) ≤ bound
      → ((m : Mode) → Room m (suc (length acc)) (length bs) → Only P (go m (acc ++ (Symbol f ∷ [])))) → Only P (scan_named go G.brackets K acc f arity b bs)
  named_only go K acc f zero b bs k room h later =
      by_test (Only P) (eqb b 40) (λ p. covers.constant_opened)
      (λ p. behind_only (λ m. go m (acc ++ (Symbol f ∷ []))) K (acc ++ (Symbol f ∷ [])) (suc (length acc)) b bs (omega arith) (omega arith) later)
  named_only go K acc f (suc n) b bs k room h later =
      by_test (Only P) (eqb b 40)
      (λ p. by_test (Only P) (leb G.brackets (length K)) (λ e. covers.too_deep (length K) (length acc) k room e) (λ e. later (at_start (n ∷ K)) (omega arith, omega arith)))
      (λ p. covers.bracket_missing)

  judged_only : (go : Mode → List Place → Scan) (K : List ℕ) (acc : List Place) (o : Option ℕ) (b : ℕ) (bs : List ℕ) → length K ≤ length acc → length acc < G.places → length acc + suc (suc (length bs)) ≤ bound
      → ((m : Mode) (f : ℕ) → Room m (suc (length acc)) (length bs) → Only P (go m (acc ++ (Symbol f ∷ [])))) → Only P (scan_judged go G K acc o b bs)
  judged_only go K acc None b bs k room h later = covers.unknown_name
  judged_only go K acc (Some f) b bs k room h later = named_only go K acc f (arity_at G.symbols f) b bs k room h (λ m r. later m f r)

  end_behind_only : (K : List ℕ) (acc : List Place) → Only P (end_behind K acc)
  end_behind_only [] acc = tt
  end_behind_only (d ∷ K) acc = covers.early_end

  end_named_only : (K : List ℕ) (acc : List Place) (f arity : ℕ) → Only P (end_named K acc f arity)
  end_named_only K acc f zero = end_behind_only K (acc ++ (Symbol f ∷ []))
  end_named_only K acc f (suc n) = covers.bracket_missing

  end_judged_only : (K : List ℕ) (acc : List Place) (o : Option ℕ) → Only P (end_judged G K acc o)
  end_judged_only K acc None = covers.unknown_name
  end_judged_only K acc (Some f) = end_named_only K acc f (arity_at G.symbols f)

  one_more : (acc : List Place) (p : Place) → length (acc ++ (p ∷ [])) ≡ suc (length acc)
  one_more acc p = length-append acc (p ∷ []) ∙ omega arith

  pub scan_only : (text : List ℕ) (m : Mode) (acc : List Place) → Room m (length acc) (length text) → Only P (scan G m acc text)
  scan_only [] (at_start K) acc r = covers.early_end
  scan_only (b ∷ bs) (at_start K) acc r =
      by_test (Only P) (letter b)
      (λ l. by_test (Only P) (leb G.places (length acc)) (λ e. covers.too_many_places (length acc) (omega (arith, r.1)) e)
      (λ e. scan_only bs (in_name (b ∷ []) K) acc (r.0, omega arith, leb-false G.places (length acc) e)))
      (λ l. scan_variable_only (λ acc'. scan G (behind K) acc' bs) acc (b ∷ bs)
      (λ v. scan_only bs (behind K) (acc ++ (Variable v ∷ [])) (omega (arith, one_more acc (Variable v)), omega (arith, one_more acc (Variable v))))
      (variable_at G.variables G.places (length acc) b) (variable_only G.variables refl (length acc) b (omega (arith, r.1))))
  scan_only [] (in_name w K) acc r = end_judged_only K acc (find_from (filled w) 0 G.symbols)
  scan_only (b ∷ bs) (in_name w K) acc r =
      by_test (Only P) (letter b)
      (λ l. by_test (Only P) (leb 12 (length w)) (λ e. covers.name_too_long) (λ e. scan_only bs (in_name (w ++ (b ∷ [])) K) acc (r.0, omega arith, r.2)))
      (λ l. judged_only (λ m acc'. scan G m acc' bs) K acc (find_from (filled w) 0 G.symbols) b bs r.0 r.2 r.1
      (λ m f q. scan_only bs m (acc ++ (Symbol f ∷ [])) (subst (λ n. Room m n (length bs)) (sym (one_more acc (Symbol f))) q)))
  scan_only [] (behind K) acc r = end_behind_only K acc
  scan_only (b ∷ bs) (behind K) acc r = behind_only (λ m. scan G m acc bs) K acc (length acc) b bs r.0 r.1 (λ m q. scan_only bs m acc q)
