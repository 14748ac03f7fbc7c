-- The lines of a cleaned text.
use Rattle.std.proofs.Common.{◌≡◌, ℕ, zero, suc, ◌+◌, ◌<◌, Bool, true, false, cond, not, eqb, ◌≢◌, List, [], ◌∷◌, map, length, get_or, sym, refl, ap, ◌∙◌, arith}
use Rattle.std.proofs.lemmas.List.{ext_get_or, get_or-map, length-map}
use Rattle.std.proofs.lemmas.Bool.Decides.{nat_tests}
use Rattle.cardtext.specs.Cleaning.{cleaned, cleaned_behind, in_note, kept, line_ends, put_if}
use Rattle.cardtext.specs.Lines.{Ended, inner, last_byte, line_at, LineOfCleanedIsCleanedLine, lines, LinesOfCleanedAreCleanedLines, put_byte}
use Rattle.cardtext.proofs.Cleaning.{cleaning_keeps_line_ends, line_ends_cons}

-- ONE BYTE

end_is_kept : (n : Bool) (b : ℕ) → inner b ≡ false → kept n b ≡ true
end_is_kept n b e = grind (arith, nat_tests)

end_is_outside : (n : Bool) (b : ℕ) → inner b ≡ false → in_note n b ≡ false
end_is_outside n b e = grind (arith, nat_tests)

dropped_is_no_10 : (n : Bool) (b : ℕ) → kept n b ≡ false → b ≢ 10
dropped_is_no_10 n b k = λ e. grind (arith, nat_tests)

-- LINE BY LINE

first_put_byte : (b : ℕ) (ls : List (List ℕ)) → get_or (put_byte true b ls) 0 [] ≡ b ∷ get_or ls 0 []
first_put_byte b [] = refl
first_put_byte b (l ∷ ls) = refl

later_put_byte : (b : ℕ) (ls : List (List ℕ)) (i : ℕ) → get_or (put_byte true b ls) (suc i) [] ≡ get_or ls (suc i) []
later_put_byte b [] i = refl
later_put_byte b (l ∷ ls) i = refl

first_put_if : (k : Bool) (b : ℕ) (bs : List ℕ) → inner b ≡ true → line_at 0 (put_if k b bs) ≡ put_if k b (line_at 0 bs)
first_put_if true b bs e = rw e (first_put_byte b (lines bs))
first_put_if false b bs e = refl

later_put_if : (k : Bool) (b : ℕ) (bs : List ℕ) (i : ℕ) → inner b ≡ true
    → line_at (suc i) (put_if k b bs) ≡ line_at (suc i) bs
later_put_if true b bs i e = rw e (later_put_byte b (lines bs) i)
later_put_if false b bs i e = refl

-- only the first line begins behind a note
behind : Bool → ℕ → Bool
behind n zero = n
behind n (suc i) = false

behind_none : (i : ℕ) → behind false i ≡ false
unfolding behind
behind_none zero = refl
behind_none (suc i) = refl

-- the claim of `line_of_behind` at one text
abbrev LineOf : List ℕ → Type 0
LineOf text = (n : Bool) (i : ℕ) → line_at i (cleaned_behind n text) ≡ cleaned_behind (behind n i) (line_at i text)

line_of_end : (n : Bool) (b : ℕ) (bs : List ℕ) (i : ℕ) → inner b ≡ false → LineOf bs
    → line_at i (cleaned_behind n (b ∷ bs)) ≡ cleaned_behind (behind n i) (line_at i (b ∷ bs))
unfolding behind
line_of_end n b bs zero e rest = let k = end_is_kept n b e in rw (k, e)
line_of_end n b bs (suc i) e rest =
    let k = end_is_kept n b e in
    let o = end_is_outside n b e in
    rw (k, o, e) (rest false i ∙ ap (λ m. cleaned_behind m (line_at i bs)) (behind_none i))

line_of_inner : (n : Bool) (b : ℕ) (bs : List ℕ) (i : ℕ) → inner b ≡ true → LineOf bs
    → line_at i (cleaned_behind n (b ∷ bs)) ≡ cleaned_behind (behind n i) (line_at i (b ∷ bs))
unfolding behind
line_of_inner n b bs zero e rest =
    first_put_if (kept n b) b (cleaned_behind (in_note n b) bs) e
    ∙ ap (put_if (kept n b) b) (rest (in_note n b) 0)
    ∙ ap (cleaned_behind n) (sym (first_put_if true b bs e))
line_of_inner n b bs (suc i) e rest =
    later_put_if (kept n b) b (cleaned_behind (in_note n b) bs) i e
    ∙ rest (in_note n b) (suc i)
    ∙ ap cleaned (sym (later_put_if true b bs i e))

line_of_behind : (text : List ℕ) → LineOf text
line_of_behind [] n i = refl
line_of_behind (b ∷ bs) n i = go (inner b) refl (line_of_behind bs)
  where
    go : (k : Bool) → inner b ≡ k → LineOf bs
        → line_at i (cleaned_behind n (b ∷ bs)) ≡ cleaned_behind (behind n i) (line_at i (b ∷ bs))
    go true e rest = line_of_inner n b bs i e rest
    go false e rest = line_of_end n b bs i e rest

pub line_of_cleaned_is_cleaned_line : LineOfCleanedIsCleanedLine
line_of_cleaned_is_cleaned_line text i =
    line_of_behind text false i ∙ ap (λ m. cleaned_behind m (line_at i text)) (behind_none i)

-- AS MANY LINES

last_of_more : (b d : ℕ) (bs : List ℕ) → last_byte b bs ≡ 10 → b ≢ 10 → last_byte d bs ≡ 10
last_of_more b d [] e other = absurd (other e)
last_of_more b d (c ∷ cs) e other = e

last_put_if : (k : Bool) (d b : ℕ) (bs : List ℕ) → last_byte b bs ≡ 10 → (k ≡ false → last_byte d bs ≡ 10)
    → last_byte d (put_if k b bs) ≡ 10
last_put_if true d b bs e other = e
last_put_if false d b bs e other = other refl

last_of_cleaned : (n : Bool) (d : ℕ) (text : List ℕ) → last_byte d text ≡ 10 → last_byte d (cleaned_behind n text) ≡ 10
last_of_cleaned n d [] e = e
last_of_cleaned n d (b ∷ bs) e =
    last_put_if (kept n b) d b (cleaned_behind (in_note n b) bs) (last_of_cleaned (in_note n b) b bs e)
    (λ k. last_of_cleaned (in_note n b) d bs (last_of_more b d bs e (dropped_is_no_10 n b k)))

some_put_byte : (k : Bool) (b : ℕ) (ls : List (List ℕ)) → 0 < length (put_byte k b ls)
some_put_byte true b [] = omega arith
some_put_byte true b (l ∷ ls) = omega arith
some_put_byte false b ls = omega arith

length_put_byte : (end : Bool) (b : ℕ) (ls : List (List ℕ)) → 0 < length ls
    → length (put_byte (not end) b ls) ≡ cond end 1 0 + length ls
length_put_byte true b ls some = omega arith
length_put_byte false b [] some = absurd (omega arith)
length_put_byte false b (l ∷ ls) some = omega arith

-- a text whose lines all have their end has as many lines as line ends
lines_are_ends : (text : List ℕ) → Ended text → length (lines text) ≡ line_ends text
lines_are_ends [] e = refl
lines_are_ends (b ∷ []) e = rw e
lines_are_ends (b ∷ c ∷ cs) e =
    length_put_byte (eqb b 10) b (lines (c ∷ cs)) (some_put_byte (inner c) c (lines cs))
    ∙ ap (λ m. cond (eqb b 10) 1 0 + m) (lines_are_ends (c ∷ cs) e)
    ∙ sym (line_ends_cons b (c ∷ cs))

pub lines_of_cleaned_are_cleaned_lines : LinesOfCleanedAreCleanedLines
lines_of_cleaned_are_cleaned_lines text e =
    let same : length (lines (cleaned text)) ≡ length (lines text)
    = lines_are_ends (cleaned text) (last_of_cleaned false 10 text e) ∙ cleaning_keeps_line_ends text ∙ sym (lines_are_ends text e) in
    ext_get_or [] (lines (cleaned text)) (map cleaned (lines text)) (same ∙ sym (length-map (lines text) cleaned))
    (λ i h. line_of_cleaned_is_cleaned_line text i ∙ sym (get_or-map cleaned (lines text) i [] [] (omega (arith, same))))
