-- What the lines of a text are.
use Rattle.std.proofs.Common.{◌≡◌, ℕ, suc, ◌+◌, ◌<◌, Bool, true, false, cond, ◌≢◌, List, [], ◌∷◌, ◌++◌, Some, None, ◌==◌, length, take, drop, refl, ap, ◌∙◌, arith}
use Rattle.std.specs.List.{prefix_len, position, AllByRecursion}
use Rattle.std.proofs.lemmas.List.{drop_all, take_all}
use Rattle.std.proofs.lemmas.List.Sums.{prefix_len-le-length}
use borrow.Author.Tests.{ltb-false}
use Rattle.std.proofs.lemmas.Bool.Decides.{nat_tests}
use Rattle.cardtext.specs.Lines.{Ended, inner, joined_lines, lines, LinesMakeTheText, NoLineHasALineEnd, put_byte}

-- ONE BYTE

pub inner_is_no_end : (b : ℕ) → inner b ≡ true → b ≢ 10
inner_is_no_end b k = λ e. grind (arith, nat_tests)

pub end_is_10 : (b : ℕ) → inner b ≡ false → b ≡ 10
end_is_10 b k = grind (arith, nat_tests)

pub no_end_is_inner : (b : ℕ) → b ≢ 10 → inner b ≡ true
no_end_is_inner b k = grind (arith, nat_tests)

-- LINE ENDS

all_put_byte : (P : ℕ → Type 0) (k : Bool) (b : ℕ) (ls : List (List ℕ)) → (k ≡ true → P b) → AllByRecursion (AllByRecursion P) ls
    → AllByRecursion (AllByRecursion P) (put_byte k b ls)
all_put_byte P true b [] p all = ((p refl, tt), tt)
all_put_byte P true b (l ∷ ls) p all = ((p refl, all.0), all.1)
all_put_byte P false b ls p all = (tt, all)

pub no_line_has_a_line_end : NoLineHasALineEnd
no_line_has_a_line_end [] = tt
no_line_has_a_line_end (b ∷ bs) =
    all_put_byte (λ c. c ≢ 10) (inner b) b (lines bs) (inner_is_no_end b) (no_line_has_a_line_end bs)

-- THE TEXT AGAIN

joined_put_byte : (k : Bool) (b : ℕ) (ls : List (List ℕ)) (c : ℕ) (cs : List ℕ) → (k ≡ false → b ≡ 10)
    → joined_lines ls ≡ c ∷ cs → joined_lines (put_byte k b ls) ≡ b ∷ c ∷ cs
joined_put_byte true b [] c cs end e = let z : ◌≡◌ {A = ℕ} 0 1 = cc in absurd (omega arith)
joined_put_byte true b (l ∷ ls) c cs end e = ap (λ rest. b ∷ rest) e
joined_put_byte false b ls c cs end e = let ten = end refl in cc

ended_joins : (text : List ℕ) → Ended text → joined_lines (lines text) ≡ text
ended_joins [] e = refl
ended_joins (b ∷ []) e = rw e
ended_joins (b ∷ c ∷ cs) e = joined_put_byte (inner b) b (lines (c ∷ cs)) c cs (end_is_10 b) (ended_joins (c ∷ cs) e)

open_joins : (text : List ℕ) → (Ended text → ⊥) → joined_lines (lines text) ≡ text ++ 10 ∷ []
open_joins [] open_end = absurd (open_end refl)
open_joins (b ∷ []) open_end = let k = no_end_is_inner b open_end in rw k
open_joins (b ∷ c ∷ cs) open_end =
    joined_put_byte (inner b) b (lines (c ∷ cs)) c (cs ++ 10 ∷ []) (end_is_10 b) (open_joins (c ∷ cs) open_end)

pub lines_make_the_text : LinesMakeTheText
lines_make_the_text text = record { ended = ended_joins text; open_ended = open_joins text }

-- THE FIRST LINE

first_of_one : (k : Bool) (b : ℕ)
    → put_byte k b [] ≡ take (cond k 1 0) (b ∷ []) ∷ lines (drop (cond k 1 0 + 1) (b ∷ []))
first_of_one true b = refl
first_of_one false b = refl

first_of_more : (k : Bool) (b : ℕ) (bs : List ℕ) (m : ℕ) → lines bs ≡ take m bs ∷ lines (drop (m + 1) bs)
    → put_byte k b (lines bs) ≡ take (cond k (1 + m) 0) (b ∷ bs) ∷ lines (drop (cond k (1 + m) 0 + 1) (b ∷ bs))
first_of_more true b bs m e =
    let two : 1 + m + 1 ≡ suc (m + 1) = omega arith in
    let one : 1 + m ≡ suc m = omega arith in
    ap (put_byte true b) e ∙ rw (two, one)
first_of_more false b bs m e = refl

-- the lines of a text are its first line and those behind that line's end
pub first_line : (b : ℕ) (bs : List ℕ)
    → lines (b ∷ bs) ≡ take (prefix_len inner (b ∷ bs)) (b ∷ bs) ∷ lines (drop (prefix_len inner (b ∷ bs) + 1) (b ∷ bs))
first_line b [] = first_of_one (inner b) b
first_line b (c ∷ cs) = first_of_more (inner b) b (c ∷ cs) (prefix_len inner (c ∷ cs)) (first_line c cs)

some_is : {n : ℕ} (t : Bool) (m : ℕ) → cond t (Some m) None ≡ Some n → m ≡ n
some_is true m e = cc
some_is false m e = cc

none_is : (t : Bool) (m : ℕ) → cond t (Some m) None ≡ None → t ≡ false
none_is true m e = cc
none_is false m e = refl

-- the first line of a text, by the place of the first line end
pub first_line_before : (text : List ℕ) (n : ℕ) → position (λ b. b == 10) text ≡ Some n → lines text ≡ take n text ∷ lines (drop (n + 1) text)
first_line_before [] n e = cc
first_line_before (b ∷ bs) n e =
    let is = some_is _ _ e in
    rw is at (first_line b bs)

-- a text without a line end is one line
pub one_line : (text : List ℕ) → 0 < length text → position (λ b. b == 10) text ≡ None → lines text ≡ text ∷ []
one_line [] some e = absurd (omega arith)
one_line (b ∷ bs) some e =
    let all : prefix_len inner (b ∷ bs) ≡ length (b ∷ bs) =
    omega (arith, prefix_len-le-length inner (b ∷ bs), ltb-false _ _ (none_is _ _ e)) in
    rw all at (first_line b bs) ∙ rw (take_all (length (b ∷ bs)) (b ∷ bs) (omega arith), drop_all (length (b ∷ bs) + 1) (b ∷ bs) (omega arith))
