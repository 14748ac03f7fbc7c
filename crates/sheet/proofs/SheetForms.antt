-- A sheet tells its rows, and so its tree. Assumes nothing.
use Rattle.std.proofs.Common.{◌≡◌, ℕ, suc, ◌+◌, ◌%◌, ◌^◌, ◌<◌, Bool, true, false, ◌&&◌, leb, List, [], ◌∷◌, ◌++◌, length, decimal, sym, refl, ap, ◌∙◌, ap₂, append_assoc, arith}
use Rattle.std.specs.List.{AllByRecursion}
use Rattle.std.proofs.lemmas.Fmt.{decimal_by_steps, decimal_injective}
use Rattle.std.proofs.ByRecursion.{All-push}
use Rattle.std.proofs.lemmas.List.{length_push}
use Rattle.std.proofs.lemmas.Bool.{le-leb}
use Rattle.rewriting.specs.Subterms.{Row}
use Rattle.card.specs.Bytes.{letter}
use Rattle.sheet.specs.SheetText.{child_numbers, line_text, trailer_text, lines_from}
use Rattle.sheet.proofs.Splitting.{Stops, split_same}

abbrev digit : ℕ → Bool
digit b = leb 48 b && leb b 57

-- a number is digits, at least one
record Digits (n : ℕ) (ds : List ℕ) : Type 0 where
  pub each : AllByRecursion (λ b. digit b ≡ true) ds
  pub some : 0 < length ds

is_digit : (k : ℕ) → k < 10 → digit (48 + k) ≡ true
is_digit k h =
    let lo : leb 48 (48 + k) ≡ true = le-leb 48 (48 + k) (omega arith) in
    let hi : leb (48 + k) 57 ≡ true = le-leb (48 + k) 57 (omega arith) in
    rw lo hi

decimal_digits : (n : ℕ) → n < 2 ^ 64 → Digits n (decimal n)
decimal_digits n h =
    decimal_by_steps Digits (λ k l. record { each = (is_digit k l, tt); some = omega arith })
    (λ k ds l d. record { each = All-push (λ b. digit b ≡ true) ds (48 + k % 10) d.each (is_digit (k % 10) (omega arith)); some = omega (arith, length_push ds (48 + k % 10)) })
    n h

-- what stands behind a name is neither a letter nor a digit
stops_at_children : (kind : ℕ → Bool) → kind 10 ≡ false → kind 32 ≡ false → (ns rest : List ℕ) → Stops kind (child_numbers ns ++ rest)
stops_at_children kind ten blank [] rest = ten
stops_at_children kind ten blank (n ∷ ns) rest = blank

children_same : (ns ms rest rest' : List ℕ) → AllByRecursion (λ n. n < 2 ^ 64) ns → AllByRecursion (λ n. n < 2 ^ 64) ms → child_numbers ns ++ rest ≡ child_numbers ms ++ rest' → (ns ≡ ms) × (rest ≡ rest')
children_same [] [] rest rest' a b e = (refl, cc)
children_same [] (m ∷ ms) rest rest' a b e = let z : ◌≡◌ {A = ℕ} 10 32 = cc in absurd (omega arith)
children_same (n ∷ ns) [] rest rest' a b e = let z : ◌≡◌ {A = ℕ} 32 10 = cc in absurd (omega arith)
children_same (n ∷ ns) (m ∷ ms) rest rest' a b e =
    let k : (decimal n ++ child_numbers ns) ++ rest ≡ (decimal m ++ child_numbers ms) ++ rest' = cc in
    let s = split_same digit (decimal n) (decimal m) (child_numbers ns ++ rest) (child_numbers ms ++ rest') (decimal_digits n a.0).each (decimal_digits m b.0).each
    (stops_at_children digit refl refl ns rest) (stops_at_children digit refl refl ms rest')
    (sym (append_assoc (decimal n) (child_numbers ns) rest) ∙ (k ∙ append_assoc (decimal m) (child_numbers ms) rest')) in
    let t = children_same ns ms rest rest' a.1 b.1 s.1 in
    (ap₂ (λ x xs. x ∷ xs) (decimal_injective n m a.0 b.0 s.0) t.0, t.1)

-- a line with more behind it, grouped to the right
line_open : (n : ℕ) (name ns rest : List ℕ) → line_text n name ns ++ rest ≡ decimal n ++ (32 ∷ (name ++ (child_numbers ns ++ rest)))
line_open n name ns rest = append_assoc (decimal n) (32 ∷ (name ++ child_numbers ns)) rest ∙ ap (λ x. decimal n ++ (32 ∷ x)) (append_assoc name (child_numbers ns) rest)

abbrev pub Letters : List ℕ → Type 0
Letters w = AllByRecursion (λ b. letter b ≡ true) w

line_same : (n : ℕ) (name name' ns ms rest rest' : List ℕ) → n < 2 ^ 64 → Letters name → Letters name' → AllByRecursion (λ k. k < 2 ^ 64) ns → AllByRecursion (λ k. k < 2 ^ 64) ms
    → line_text n name ns ++ rest ≡ line_text n name' ms ++ rest' → (name ≡ name') × (ns ≡ ms) × (rest ≡ rest')
line_same n name name' ns ms rest rest' h a b f g e =
    let d = (decimal_digits n h).each in
    let s = (split_same digit (decimal n) (decimal n) (32 ∷ (name ++ (child_numbers ns ++ rest))) (32 ∷ (name' ++ (child_numbers ms ++ rest'))) d d refl refl
    (sym (line_open n name ns rest) ∙ (e ∙ line_open n name' ms rest'))).1 in
    let k : name ++ (child_numbers ns ++ rest) ≡ name' ++ (child_numbers ms ++ rest') = cc in
    let w = split_same letter name name' (child_numbers ns ++ rest) (child_numbers ms ++ rest') a b (stops_at_children letter refl refl ns rest) (stops_at_children letter refl refl ms rest') k in
    let c = children_same ns ms rest rest' f g w.1 in
    (w.0, c.0, c.1)

-- a row whose symbol has a name of letters, and whose numbers are no larger than a program's
pub record Plain (names : ℕ → List ℕ) (Known : ℕ → Type 0) (r : Row) : Type 0 where
  pub known : Known r.symbol
  pub letters : Letters (names r.symbol)
  pub numbers : AllByRecursion (λ k. k < 2 ^ 64) r.children

module _ (names : ℕ → List ℕ) (Known : ℕ → Type 0) (apart : (f g : ℕ) → Known f → Known g → names f ≡ names g → f ≡ g) where
  -- no line begins as the trailer does
  trailer_is_no_line : {A : Type 0} (n : ℕ) (name ns rest : List ℕ) (root place : ℕ) → n < 2 ^ 64 → trailer_text root place ≡ line_text n name ns ++ rest → A
  trailer_is_no_line n name ns rest root place h e =
      let d = decimal_digits n h in
      let s = split_same digit [] (decimal n) (trailer_text root place) (32 ∷ (name ++ (child_numbers ns ++ rest))) tt d.each refl refl (e ∙ line_open n name ns rest) in
      absurd (omega (arith, ap length s.0, d.some))

  pub rows_same : (rs qs : List Row) (n root place root' place' : ℕ) → n + length rs < 2 ^ 64 → n + length qs < 2 ^ 64 → AllByRecursion (Plain names Known) rs → AllByRecursion (Plain names Known) qs
      → lines_from names n rs ++ trailer_text root place ≡ lines_from names n qs ++ trailer_text root' place' → rs ≡ qs
  rows_same [] [] n root place root' place' h k a b e = refl
  rows_same [] (q ∷ qs) n root place root' place' h k a b e =
      trailer_is_no_line n (names q.symbol) q.children (lines_from names (suc n) qs ++ trailer_text root' place') root place (omega arith)
      (e ∙ append_assoc (line_text n (names q.symbol) q.children) (lines_from names (suc n) qs) (trailer_text root' place'))
  rows_same (r ∷ rs) [] n root place root' place' h k a b e =
      trailer_is_no_line n (names r.symbol) r.children (lines_from names (suc n) rs ++ trailer_text root place) root' place' (omega arith)
      (sym e ∙ append_assoc (line_text n (names r.symbol) r.children) (lines_from names (suc n) rs) (trailer_text root place))
  rows_same (r ∷ rs) (q ∷ qs) n root place root' place' h k a b e =
      let s = line_same n (names r.symbol) (names q.symbol) r.children q.children (lines_from names (suc n) rs ++ trailer_text root place) (lines_from names (suc n) qs ++ trailer_text root' place')
      (omega arith) a.0.letters b.0.letters a.0.numbers b.0.numbers
      (sym (append_assoc (line_text n (names r.symbol) r.children) (lines_from names (suc n) rs) (trailer_text root place))
      ∙ (e ∙ append_assoc (line_text n (names q.symbol) q.children) (lines_from names (suc n) qs) (trailer_text root' place'))) in
      let f = apart r.symbol q.symbol a.0.known b.0.known s.0 in
      ap₂ (λ x xs. x ∷ xs) (ap₂ (λ x y. record { symbol = x; children = y }) f s.1) (rows_same rs qs (suc n) root place root' place' (omega arith) (omega arith) a.1 b.1 s.2)
