-- The automaton's steps, by the byte that comes next. Assumes nothing.
use Rattle.std.proofs.Common.{◌≡◌, ℕ, suc, ◌+◌, ◌<◌, ◌≤◌, true, false, leb, List, [], ◌∷◌, ◌++◌, length, drop, Some, None, Option, sym, refl, ap, ◌∙◌, subst, append_assoc, append-nil, arith, length-append}
use Rattle.std.specs.List.{AllByRecursion}
use Rattle.std.proofs.lemmas.Bool.{lt-leb, le-leb}
use Rattle.card.specs.Bytes.{letter, filled}
use Rattle.card.specs.Records.{find_from}
use Rattle.card.specs.declared.record.Place.{Place}
use Rattle.card.specs.declared.record.Place.TheVariants.{Symbol}
use Rattle.reading.specs.declared.fault.Fault.TheVariants.{NameTooLong, UnknownName, ConstantOpened, BracketMissing, TooDeep}
use Rattle.reading.specs.Scanning.{Grammar, at_start, in_name, behind, Scan, whole, stuck, variable_at, scan_variable, scan_behind, scan_named, scan_judged, end_judged, arity_at, scan}
use Rattle.reading.specs.Sources.{first, at_letter, next_is}
use Rattle.reading.proofs.Letters.{first_rest}

-- a text, by its next byte
pub by_first : (P : List ℕ → Type 0) (xs : List ℕ) (b : ℕ) → first xs ≡ Some b → P (b ∷ drop 1 xs) → P xs
by_first P xs b e p = subst P (sym (first_rest xs b e)) p

module _ (G : Grammar) where
  -- WHERE A TERM HAS TO START

  start_named : (K : List ℕ) (acc : List Place) (b : ℕ) (bs : List ℕ) → letter b ≡ true → leb G.places (length acc) ≡ false
      → scan G (at_start K) acc (b ∷ bs) ≡ scan G (in_name (b ∷ []) K) acc bs
  start_named K acc b bs l f = rw (l, scan) (rw f)

  pub start_variable : (K : List ℕ) (acc : List Place) (xs : List ℕ) (b : ℕ) → first xs ≡ Some b → letter b ≡ false
      → scan G (at_start K) acc xs
      ≡ scan_variable (λ acc'. scan G (behind K) acc' (drop 1 xs)) (variable_at G.variables G.places (length acc) b) acc xs
  start_variable K acc [] b e l = cc
  start_variable K acc (x ∷ xs) b e l =
      let q : x ≡ b = cc in
      let l' : letter x ≡ false = ap letter q ∙ l in
      rw (l', scan) (ap (λ y. scan_variable (λ acc'. scan G (behind K) acc' xs) (variable_at G.variables G.places (length acc) y) acc (x ∷ xs)) q)

  -- INSIDE A NAME

  name_goes_on : (w K : List ℕ) (acc : List Place) (b : ℕ) (bs : List ℕ) → letter b ≡ true → length w < 12
      → scan G (in_name w K) acc (b ∷ bs) ≡ scan G (in_name (w ++ (b ∷ [])) K) acc bs
  name_goes_on w K acc b bs l h = let f : leb 12 (length w) ≡ false = lt-leb 12 (length w) h in rw (l, scan) (rw f)

  -- letters are taken into the name one by one
  name_takes : (w v K : List ℕ) (acc : List Place) (rest : List ℕ) → AllByRecursion (λ b. letter b ≡ true) v → length w + length v ≤ 12
      → scan G (in_name w K) acc (v ++ rest) ≡ scan G (in_name (w ++ v) K) acc rest
  name_takes w [] K acc rest all h = ap (λ u. scan G (in_name u K) acc rest) (sym (append-nil w))
  name_takes w (b ∷ v) K acc rest all h =
      name_goes_on w K acc b (v ++ rest) all.0 (omega arith)
      ∙ (name_takes (w ++ (b ∷ [])) v K acc rest all.1 (omega (arith, length-append w (b ∷ [])))
      ∙ ap (λ u. scan G (in_name u K) acc rest) (append_assoc w (b ∷ []) v))

  pub start_takes : (w K : List ℕ) (acc : List Place) (rest : List ℕ) → AllByRecursion (λ b. letter b ≡ true) w → 0 < length w → length w ≤ 12
      → leb G.places (length acc) ≡ false → scan G (at_start K) acc (w ++ rest) ≡ scan G (in_name w K) acc rest
  start_takes [] K acc rest all s h f = absurd (omega arith)
  start_takes (b ∷ v) K acc rest all s h f =
      start_named K acc b (v ++ rest) all.0 f ∙ name_takes (b ∷ []) v K acc rest all.1 (omega arith)

  pub name_too_long : (w K : List ℕ) (acc : List Place) (rest : List ℕ) → 12 ≤ length w → at_letter rest ≡ true → scan G (in_name w K) acc rest ≡ stuck NameTooLong rest
  name_too_long w K acc [] h l = cc
  name_too_long w K acc (b ∷ bs) h l = let f : leb 12 (length w) ≡ true = le-leb 12 (length w) h in rw (l, scan) (rw f)

  -- BEHIND A NAME

  -- the judgement of a name with the rest of the text behind it, which may be empty
  abbrev pub judged : List ℕ → List Place → Option ℕ → List ℕ → Scan
  judged K acc o [] = end_judged G K acc o
  judged K acc o (b ∷ bs) = scan_judged (λ m acc'. scan G m acc' bs) G K acc o b bs

  pub name_over : (w K : List ℕ) (acc : List Place) (rest : List ℕ) → at_letter rest ≡ false → scan G (in_name w K) acc rest ≡ judged K acc (find_from (filled w) 0 G.symbols) rest
  name_over w K acc [] l = refl
  name_over w K acc (b ∷ bs) l = rw (l, scan)

  pub judged_unknown : (K : List ℕ) (acc : List Place) (rest : List ℕ) → judged K acc None rest ≡ stuck UnknownName rest
  judged_unknown K acc [] = refl
  judged_unknown K acc (b ∷ bs) = refl

  module _ (K : List ℕ) (acc : List Place) (k : ℕ) where
    pub judged_opened_constant : (rest : List ℕ) → arity_at G.symbols k ≡ 0 → next_is 40 rest ≡ true → judged K acc (Some k) rest ≡ stuck ConstantOpened rest
    judged_opened_constant [] a o = cc
    judged_opened_constant (b ∷ bs) a o = rw (a, scan_judged) (rw (o, scan_named))

    pub judged_constant : (rest : List ℕ) → arity_at G.symbols k ≡ 0 → next_is 40 rest ≡ false
        → judged K acc (Some k) rest ≡ scan G (behind K) (acc ++ (Symbol k ∷ [])) rest
    judged_constant [] a o = rw (a, end_judged)
    judged_constant (b ∷ bs) a o = rw (a, scan_judged) (rw (o, scan_named))

    pub judged_missing : (rest : List ℕ) (n : ℕ) → arity_at G.symbols k ≡ suc n → next_is 40 rest ≡ false → judged K acc (Some k) rest ≡ stuck BracketMissing rest
    judged_missing [] n a o = rw (a, end_judged)
    judged_missing (b ∷ bs) n a o = rw (a, scan_judged) (rw (o, scan_named))

    pub judged_deep : (rest : List ℕ) (n : ℕ) → arity_at G.symbols k ≡ suc n → next_is 40 rest ≡ true → G.brackets ≤ length K → judged K acc (Some k) rest ≡ stuck TooDeep rest
    judged_deep [] n a o h = cc
    judged_deep (b ∷ bs) n a o h = let f : leb G.brackets (length K) ≡ true = le-leb G.brackets (length K) h in rw (a, scan_judged) (rw (o, scan_named) (rw f))

    pub judged_open : (rest : List ℕ) (n : ℕ) → arity_at G.symbols k ≡ suc n → next_is 40 rest ≡ true → length K < G.brackets
        → judged K acc (Some k) rest ≡ scan G (at_start (n ∷ K)) (acc ++ (Symbol k ∷ [])) (drop 1 rest)
    judged_open [] n a o h = cc
    judged_open (b ∷ bs) n a o h = let f : leb G.brackets (length K) ≡ false = lt-leb G.brackets (length K) h in rw (a, scan_judged) (rw (o, scan_named) (rw f))

  -- BEHIND A WHOLE TERM

  module _ (K : List ℕ) (acc : List Place) where
    pub behind_comma : (rest : List ℕ) (j : ℕ) → next_is 44 rest ≡ true → scan G (behind (suc j ∷ K)) acc rest ≡ scan G (at_start (j ∷ K)) acc (drop 1 rest)
    behind_comma [] j c = cc
    behind_comma (b ∷ bs) j c = rw (c, scan_behind)

    pub behind_close : (rest : List ℕ) → next_is 44 rest ≡ false → next_is 41 rest ≡ true → scan G (behind (0 ∷ K)) acc rest ≡ scan G (behind K) acc (drop 1 rest)
    behind_close [] c d = cc
    behind_close (b ∷ bs) c d = rw (c, scan_behind) (rw d)

  -- at the top level a whole term is whole, whatever comes behind it
  pub behind_top : (acc : List Place) (rest : List ℕ) → scan G (behind []) acc rest ≡ whole acc rest
  behind_top acc [] = refl
  behind_top acc (b ∷ bs) = refl
