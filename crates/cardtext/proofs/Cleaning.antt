-- What cleaning keeps of a text.
use Rattle.std.proofs.Common.{◌≡◌, ℕ, suc, ◌+◌, ◌≤◌, Bool, true, false, cond, not, eqb, ◌≢◌, ◌⊎◌, List, [], ◌∷◌, ◌++◌, length, take, filter, sym, refl, ap, ◌∙◌, inl, inr, zero-add, one-add, arith}
use Rattle.std.specs.List.{AllByRecursion}
use Rattle.std.proofs.lemmas.List.{length-append, append-nil, length-take-le, nil_from_length}
use Rattle.std.proofs.lemmas.List.Sums.{sum_by-cons}
use Rattle.std.proofs.lemmas.Bool.Decides.{nat_tests}
use Rattle.cardtext.specs.Cleaning.{before_note, blank, cleaned, CleanedLineIsWhatStandsBeforeItsNote, CleanedTextIsNoLonger, CleanedTextIsPlain, cleaned_behind, CleaningKeepsLineEnds, CleaningTwiceIsCleaningOnce, in_note, kept, line_ends, Plain, put_if}

-- ONE BYTE

pub kept_is_plain : (n : Bool) (b : ℕ) → kept n b ≡ true → Plain b
kept_is_plain n b k =
    record { no_blank = λ e. grind (arith, nat_tests); no_tab = λ e. grind (arith, nat_tests); no_note = λ e. grind (arith, nat_tests) }

pub plain_is_outside : (b : ℕ) → Plain b → in_note false b ≡ false
plain_is_outside b p = grind (arith, nat_tests)

pub plain_is_kept : (b : ℕ) → Plain b → kept false b ≡ true
plain_is_kept b p = grind (arith, nat_tests)

pub dropped_is_no_line_end : (n : Bool) (b : ℕ) → kept n b ≡ false → eqb b 10 ≡ false
dropped_is_no_line_end n b k = grind (arith, nat_tests)

-- LENGTH

length_put_if : (k : Bool) (b : ℕ) (bs : List ℕ) → length (put_if k b bs) ≤ suc (length bs)
length_put_if true b bs = omega arith
length_put_if false b bs = omega arith

length_cleaned_behind : (n : Bool) (text : List ℕ) → length (cleaned_behind n text) ≤ length text
length_cleaned_behind n [] = omega arith
length_cleaned_behind n (b ∷ bs) =
    omega (arith, length_put_if (kept n b) b (cleaned_behind (in_note n b) bs), length_cleaned_behind (in_note n b) bs)

pub cleaned_text_is_no_longer : CleanedTextIsNoLonger
cleaned_text_is_no_longer = length_cleaned_behind false

-- WHAT IS LEFT

plain_put_if : (k : Bool) (b : ℕ) (bs : List ℕ) → (k ≡ true → Plain b) → AllByRecursion Plain bs → AllByRecursion Plain (put_if k b bs)
plain_put_if true b bs p rest = (p refl, rest)
plain_put_if false b bs p rest = rest

plain_cleaned_behind : (n : Bool) (text : List ℕ) → AllByRecursion Plain (cleaned_behind n text)
plain_cleaned_behind n [] = tt
plain_cleaned_behind n (b ∷ bs) = plain_put_if (kept n b) b _ (kept_is_plain n b) (plain_cleaned_behind (in_note n b) bs)

pub cleaned_text_is_plain : CleanedTextIsPlain
cleaned_text_is_plain = plain_cleaned_behind false

-- LINE ENDS

pub line_ends_cons : (b : ℕ) (bs : List ℕ) → line_ends (b ∷ bs) ≡ cond (eqb b 10) 1 0 + line_ends bs
line_ends_cons b bs = sum_by-cons (λ x. cond (eqb x 10) 1 0) b bs

line_ends_put_if : (k : Bool) (b : ℕ) (bs : List ℕ) → (k ≡ false → eqb b 10 ≡ false)
    → line_ends (put_if k b bs) ≡ line_ends (b ∷ bs)
line_ends_put_if true b bs other = refl
line_ends_put_if false b bs other = let e = other refl in rw line_ends_cons (rw (e, zero-add))

line_ends_cleaned_behind : (n : Bool) (text : List ℕ) → line_ends (cleaned_behind n text) ≡ line_ends text
line_ends_cleaned_behind n [] = refl
line_ends_cleaned_behind n (b ∷ bs) =
    let rest = cleaned_behind (in_note n b) bs in
    line_ends_put_if (kept n b) b rest (dropped_is_no_line_end n b)
    ∙ line_ends_cons b rest
    ∙ ap (λ m. cond (eqb b 10) 1 0 + m) (line_ends_cleaned_behind (in_note n b) bs)
    ∙ sym (line_ends_cons b bs)

pub cleaning_keeps_line_ends : CleaningKeepsLineEnds
cleaning_keeps_line_ends = line_ends_cleaned_behind false

-- CLEANING TWICE

cleaned_plain : (text : List ℕ) → AllByRecursion Plain text → cleaned text ≡ text
cleaned_plain [] all = refl
cleaned_plain (b ∷ bs) all =
    let k = plain_is_kept b all.0 in
    let o = plain_is_outside b all.0 in
    rw (k, o) (ap (λ ls. b ∷ ls) (cleaned_plain bs all.1))

pub cleaning_twice_is_cleaning_once : CleaningTwiceIsCleaningOnce
cleaning_twice_is_cleaning_once text = cleaned_plain (cleaned text) (cleaned_text_is_plain text)

-- ONE LINE

in_note_begun : (n : Bool) (b : ℕ) → b ≢ 10 → (n ≡ true) ⊎ (eqb b 35 ≡ true) → in_note n b ≡ true
in_note_begun n b other why = grind (arith, nat_tests)

outside_stays : (b : ℕ) → eqb b 35 ≡ false → in_note false b ≡ false
outside_stays b e = grind (arith, nat_tests)

note_is_dropped : (line : List ℕ) → AllByRecursion (λ b. b ≢ 10) line → cleaned_behind true line ≡ []
note_is_dropped [] all = refl
note_is_dropped (b ∷ bs) all =
    let m = in_note_begun true b all.0 (inl refl) in
    rw m (note_is_dropped bs all.1)

pub cleaned_line_is_what_stands_before_its_note : CleanedLineIsWhatStandsBeforeItsNote
cleaned_line_is_what_stands_before_its_note [] all = refl
cleaned_line_is_what_stands_before_its_note (b ∷ bs) all = go (eqb b 35) refl (cleaned_line_is_what_stands_before_its_note bs all.1)
  where
    put : (dark : Bool) (ks : List ℕ) → put_if (not dark) b ks ≡ cond (not dark) (b ∷ ks) ks
    put true ks = refl
    put false ks = refl

    go : (note : Bool) → eqb b 35 ≡ note → cleaned bs ≡ filter (λ c. not (blank c)) (before_note bs)
        → cleaned (b ∷ bs) ≡ filter (λ c. not (blank c)) (before_note (b ∷ bs))
    go true e rest = let m = in_note_begun false b all.0 (inr e) in rw (m, e) (note_is_dropped bs all.1)
    go false e rest =
        let o = outside_stays b e in
        let more : before_note (b ∷ bs) ≡ b ∷ before_note bs = rw (e, one-add) in
        rw o
        (ap (put_if (not (blank b)) b) rest
        ∙ put (blank b) (filter (λ c. not (blank c)) (before_note bs))
        ∙ ap (filter (λ c. not (blank c))) (sym more))

-- COPYING

-- n bytes of a cleaned text were copied, and these are still to come
pub copied_within : (text buffer rest : List ℕ) (n : ℕ) → n ≤ length buffer → take n buffer ++ rest ≡ cleaned text
    → n + length rest ≤ length text
copied_within text buffer rest n h e =
    omega (arith, cleaned_text_is_no_longer text, simp (length-append, length-take-le n buffer h) at (ap length e))

-- a full buffer, no shorter than the text, has all that is kept
pub copied_all : (text buffer rest : List ℕ) (n : ℕ) → n ≡ length buffer → length text ≤ n → take n buffer ++ rest ≡ cleaned text
    → take n buffer ≡ cleaned text
copied_all text buffer rest n full room e =
    let none : rest ≡ [] = nil_from_length rest (omega (arith, copied_within text buffer rest n (omega arith) e)) in
    rw (none, append-nil) at e
