-- Names as bytes: a scan from left to right tells whether some name fills them. Assumes nothing.
use Rattle.std.proofs.Common.{◌≡◌, ℕ, zero, suc, ◌+◌, ◌-◌, ◌<◌, ◌≤◌, Bool, true, false, ◌==◌, eqb, leb, ltb, ◌⊎◌, List, [], ◌∷◌, ◌++◌, length, get_or, take, drop, replicate, Some, None, Decides, Option, sym, refl, ap, ◌∙◌, subst, ap₂, inl, inr, arith, length-drop, take-append-drop}
use Rattle.std.specs.List.{AllByRecursion, list_all, position_or_len}
use Rattle.std.proofs.lemmas.Slice.Eq.{compares_Decides}
use Rattle.std.proofs.Math.Bool.{cond}
use Rattle.std.proofs.Math.Seq.{drop-append_seam}
use Rattle.std.proofs.lemmas.List.Recursion.{is_position_or_len}
use Rattle.std.specs.Option.{unwrap_or}
use Rattle.std.proofs.lemmas.List.{take_all}
use Rattle.std.proofs.ByRecursion.{All-get_or}
use Rattle.std.proofs.lemmas.Bool.{and_from, and_parts, cases_lt, eqb-true, leb-true, ltb-false, ne_eqb, true≢false}
use Rattle.card.specs.Bytes.{letter, Name, filled, letters_of, same_bytes}
use Rattle.card.specs.Records.{WellFormedSymbol, DistinctNames, blank_symbol, name_of}
use Rattle.card.specs.declared.record.SymbolRecord.{SymbolRecord}
use Rattle.card.specs.Scans.{HoldsName}

pub same_bytes_decides : (xs ys : List ℕ) → Decides (same_bytes xs ys) (xs ≡ ys)
same_bytes_decides =
    compares_Decides same_bytes
    (record { empty = refl; shorter = λ y ys. refl; longer = λ x xs. refl; heads = λ x y xs ys. refl })

-- THE LETTERS OF A NAME

pub letters_few : (bs : List ℕ) → length (letters_of bs) ≤ length bs
letters_few [] = omega arith
letters_few (zero ∷ bs) = omega arith
letters_few (suc b ∷ bs) = let h = letters_few bs in omega arith

letter_above : (b : ℕ) → letter b ≡ true → 97 ≤ b
letter_above b h = leb-true 97 b (and_parts (leb 97 b) (leb b 122) h).0

pub letters_of_filled : (w : List ℕ) (n : ℕ) → AllByRecursion (λ b. letter b ≡ true) w → letters_of (w ++ replicate n 0) ≡ w
letters_of_filled [] zero all = refl
letters_of_filled [] (suc n) all = refl
letters_of_filled (zero ∷ w) n all = absurd (omega (arith, letter_above 0 all.0))
letters_of_filled (suc b ∷ w) n all = ap (λ l. suc b ∷ l) (letters_of_filled w n all.1)

-- a symbol's name is its letters, and its record holds them filled
pub record Lettered (s : SymbolRecord) : Type 0 where
  pub is_name : Name (letters_of s.name)
  pub holds : s.name ≡ filled (letters_of s.name)

pub lettered : (s : SymbolRecord) → WellFormedSymbol s → Lettered s
lettered s w =
    let e : letters_of s.name ≡ w.name = ap letters_of w.is.holds ∙ letters_of_filled w.name (12 - length w.name) w.is.named.letters in
    record { is_name = subst Name (sym e) w.is.named; holds = w.is.holds ∙ ap filled (sym e) }

-- no two symbols of a card have the same name
pub names_apart : (ss : List SymbolRecord) → AllByRecursion WellFormedSymbol ss → DistinctNames ss → (f g : ℕ) → f < length ss → g < length ss → name_of ss f ≡ name_of ss g → f ≡ g
names_apart ss each distinct f g h k e = go (cases_lt f g)
  where
    same : (get_or ss f blank_symbol).name ≡ (get_or ss g blank_symbol).name
    same =
        (lettered (get_or ss f blank_symbol) (All-get_or WellFormedSymbol ss f blank_symbol h each)).holds
        ∙ (ap filled e ∙ sym (lettered (get_or ss g blank_symbol) (All-get_or WellFormedSymbol ss g blank_symbol k each)).holds)

    later : (g < f) ⊎ (f ≤ g) → g ≤ f → f ≡ g
    later (inl l) m = absurd (distinct g f l h (sym same))
    later (inr n) m = omega arith

    go : (f < g) ⊎ (g ≤ f) → f ≡ g
    go (inl l) = absurd (distinct f g l k same)
    go (inr m) = later (cases_lt g f) m

letters_counted : (bs : List ℕ) → length (letters_of bs) ≡ position_or_len (λ b. eqb b 0) bs
letters_counted = is_position_or_len (λ bs. length (letters_of bs)) (λ b. eqb b 0) refl more
  where
    more : (b : ℕ) (bs : List ℕ) → length (letters_of (b ∷ bs)) ≡ cond (eqb b 0) 0 (1 + length (letters_of bs))
    more zero bs = refl
    more (suc b) bs =
        let n : suc (length (letters_of bs)) ≡ 1 + length (letters_of bs) = omega arith in
        n ∙ sym (ap (λ t. cond t 0 (1 + length (letters_of bs))) (ne_eqb (suc b) 0 (λ e. absurd (omega (arith, e)))))

letters_in_front : (bs : List ℕ) → take (length (letters_of bs)) bs ≡ letters_of bs
letters_in_front [] = refl
letters_in_front (zero ∷ bs) = refl
letters_in_front (suc b ∷ bs) = ap (λ l. suc b ∷ l) (letters_in_front bs)

-- a name's letters are what stands before its first zero
pub letters_up_to_zero : (bs : List ℕ) → length bs ≡ 12 → (o : Option ℕ) (n : ℕ)
    → o ≡ cond (ltb (position_or_len (λ b. eqb b 0) bs) (length bs)) (Some (position_or_len (λ b. eqb b 0) bs)) None
    → n ≡ unwrap_or o 12 → take n bs ≡ letters_of bs
letters_up_to_zero bs long o n first is =
    go (ltb k (length bs)) refl ∙ (ap (λ m. take m bs) (sym (letters_counted bs)) ∙ letters_in_front bs)
  where
    k : ℕ
    k = position_or_len (λ b. eqb b 0) bs

    go : (t : Bool) → ltb k (length bs) ≡ t → take n bs ≡ take k bs
    go true e = ap (λ m. take m bs) (is ∙ ap (λ x. unwrap_or x 12) (first ∙ ap (λ u. cond u (Some k) None) e))
    go false e =
        let m : n ≡ 12 = is ∙ ap (λ x. unwrap_or x 12) (first ∙ ap (λ u. cond u (Some k) None) e) in
        take_all n bs (omega (arith, m, long)) ∙ sym (take_all k bs (ltb-false k (length bs) e))

-- WHETHER A NAME FILLS THESE BYTES

zeros_there : (bs : List ℕ) → list_all (λ b. eqb b 0) bs ≡ true → bs ≡ replicate (length bs) 0
zeros_there [] h = refl
zeros_there (b ∷ bs) h =
    let p = and_parts (eqb b 0) (list_all (λ x. eqb x 0) bs) h in
    ap₂ (λ x xs. x ∷ xs) (eqb-true b 0 p.0) (zeros_there bs p.1)

zeros_pass : (n : ℕ) → list_all (λ b. eqb b 0) (replicate n 0) ≡ true
zeros_pass zero = refl
zeros_pass (suc n) = zeros_pass n

letters_there : (bs : List ℕ) → list_all letter bs ≡ true → AllByRecursion (λ b. letter b ≡ true) bs
letters_there [] h = tt
letters_there (b ∷ bs) h = let p = and_parts (letter b) (list_all letter bs) h in (p.0, letters_there bs p.1)

letters_pass : (bs : List ℕ) → AllByRecursion (λ b. letter b ≡ true) bs → list_all letter bs ≡ true
letters_pass [] h = refl
letters_pass (b ∷ bs) h = and_from (letter b) (list_all letter bs) h.0 (letters_pass bs h.1)

-- some letters, and zeros behind them
pub record LettersThenZeros (bs : List ℕ) : Type 0 where
  pub some : 1 ≤ length (letters_of bs)
  pub letters : list_all letter (letters_of bs) ≡ true
  pub zeros : list_all (λ b. eqb b 0) (drop (length (letters_of bs)) bs) ≡ true

pub name_from_parts : (bs : List ℕ) → length bs ≡ 12 → LettersThenZeros bs → HoldsName bs
name_from_parts bs long p =
    let n = length (letters_of bs) in
    let few = letters_few bs in
    let rest : length (drop n bs) ≡ 12 - n = length-drop n bs ∙ ap (λ k. k - n) long in
    record {
      name = letters_of bs;
      named = record { some = p.some; few = omega (arith, few, long); letters = letters_there (letters_of bs) p.letters };
      holds = sym (take-append-drop n bs) ∙ ap₂ (λ xs ys. xs ++ ys) (letters_in_front bs) (zeros_there (drop n bs) p.zeros ∙ ap (λ k. replicate k 0) rest);
    }

pub parts_of_name : (bs : List ℕ) → HoldsName bs → LettersThenZeros bs
parts_of_name bs h = subst LettersThenZeros (sym h.holds) (parts h.name h.named)
  where
    parts : (name : List ℕ) → Name name → LettersThenZeros (filled name)
    parts name n =
        let front = letters_of_filled name (12 - length name) n.letters in
        record {
          some = subst (λ xs. 1 ≤ length xs) (sym front) n.some;
          letters = ap (list_all letter) front ∙ letters_pass name n.letters;
          zeros = ap (λ xs. list_all (λ b. eqb b 0) (drop (length xs) (filled name))) front
              ∙ (ap (list_all (λ b. eqb b 0)) (drop-append_seam name (replicate (12 - length name) 0)) ∙ zeros_pass (12 - length name));
        }

nonzero : (n : ℕ) → (n == 0) ≡ false → 1 ≤ n
nonzero zero h = absurd (true≢false h)
nonzero (suc n) h = omega arith

-- the three parts of the test, where the letters were found
module _ (bs : List ℕ) (long : length bs ≡ 12) (k : List ℕ) (found : k ≡ letters_of bs) where
  pub name_decided : (r e : Bool) → e ≡ (length k == 0) → e ≡ false → list_all letter k ≡ true → r ≡ list_all (λ b. eqb b 0) (drop (length k) bs)
      → Decides r (HoldsName bs)
  name_decided r e empty not_empty letters zeros =
      let some : 1 ≤ length k = nonzero (length k) (sym empty ∙ not_empty) in
      let last = zeros ∙ ap (λ xs. list_all (λ b. eqb b 0) (drop (length xs) bs)) found in (
        λ t. name_from_parts bs long (record {
          some = subst (λ xs. 1 ≤ length xs) found some;
          letters = ap (list_all letter) (sym found) ∙ letters;
          zeros = sym last ∙ t;
        }),
        λ h. last ∙ (parts_of_name bs h).zeros,
      )

  pub no_letters : (r e : Bool) → r ≡ false → e ≡ (length k == 0) → e ≡ true → Decides r (HoldsName bs)
  no_letters r e fails empty is_empty =
      let none = eqb-true (length k) 0 (sym empty ∙ is_empty) in (
        λ t. absurd (true≢false (sym t ∙ fails)),
        λ h. absurd (omega (arith, (parts_of_name bs h).some, ap length found, none)),
      )

  pub no_letter : (r : Bool) → r ≡ false → r ≡ list_all letter k → Decides r (HoldsName bs)
  no_letter r fails letters = (
    λ e. absurd (true≢false (sym e ∙ fails)),
    λ h. letters ∙ (ap (list_all letter) found ∙ (parts_of_name bs h).letters),
  )
