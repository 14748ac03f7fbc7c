-- A line that holds the front of a text, as bytes come. Assumes nothing.
use Rattle.std.proofs.Common.{◌≡◌, ℕ, ◌+◌, ◌<◌, ◌≤◌, true, ltb, List, [], ◌∷◌, ◌++◌, length, get_or, take, sym, ap, ◌∙◌, append_assoc, arith, length-append, length-take}
use Rattle.std.proofs.lemmas.List.{take_all, take-append-le, take_more}
use Rattle.std.proofs.lemmas.Bool.{lt-ltb, le-ltb}

module _ (w : List ℕ) (b : ℕ) where
  grows : length (w ++ (b ∷ [])) ≡ length w + 1
  grows = length-append w (b ∷ [])

  short : length (take 200 w) < 200 → length w < 200
  short h = omega (arith, length-take 200 w)

  pub front_grows : length (take 200 w) < 200 → take 200 w ++ (b ∷ []) ≡ take 200 (w ++ (b ∷ []))
  front_grows h =
      ap (λ v. v ++ (b ∷ [])) (take_all 200 w (omega (arith, short h))) ∙ sym (take_all 200 (w ++ (b ∷ [])) (omega (arith, short h, grows)))

  pub stays_whole : length (take 200 w) < 200 → ltb 200 (length w) ≡ ltb 200 (length (w ++ (b ∷ [])))
  stays_whole h = le-ltb 200 (length w) (omega (arith, short h)) ∙ sym (le-ltb 200 (length (w ++ (b ∷ []))) (omega (arith, short h, grows)))

  long : 200 ≤ length (take 200 w) → 200 ≤ length w
  long h = omega (arith, length-take 200 w)

  pub front_stays : 200 ≤ length (take 200 w) → take 200 w ≡ take 200 (w ++ (b ∷ []))
  front_stays h = sym (take-append-le 200 w (b ∷ []) (long h))

  pub is_cut : 200 ≤ length (take 200 w) → true ≡ ltb 200 (length (w ++ (b ∷ [])))
  is_cut h = sym (lt-ltb 200 (length (w ++ (b ∷ []))) (omega (arith, long h, grows)))

-- one byte more of a list, behind a text
pub next_byte : (w bytes : List ℕ) (i d : ℕ) → i < length bytes → (w ++ take i bytes) ++ (get_or bytes i d ∷ []) ≡ w ++ take (i + 1) bytes
next_byte w bytes i d h =
    append_assoc w (take i bytes) (get_or bytes i d ∷ []) ∙ ap (λ v. w ++ v) (sym (take_more bytes i d h))

-- a text in three parts behind another
pub joins : (w a b c : List ℕ) → w ++ a ++ b ++ c ≡ w ++ (a ++ b ++ c)
joins w a b c = simp append_assoc
