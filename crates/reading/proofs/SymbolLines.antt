-- A symbol line, from its name to its digit. Assumes nothing.
use Rattle.std.proofs.Common.{◌≡◌, ℕ, ◌+◌, ◌<◌, ◌≤◌, true, false, leb, ◌⊎◌, List, [], ◌∷◌, ◌++◌, length, get_or, drop, is_some, Some, None, Option, sym, refl, ap, ◌∙◌, inl, inr, append_assoc, append-nil, arith, length-append}
use Rattle.std.specs.List.{AllByRecursion}
use Rattle.std.proofs.lemmas.Bool.{lt-leb, le-leb, leb-true, eqb-true, and_parts}
use Rattle.card.specs.Bytes.{letter, filled}
use Rattle.card.specs.Records.{find_from}
use Rattle.card.specs.declared.record.SymbolRecord.{SymbolRecord}
use Rattle.reading.specs.declared.fault.Fault.TheVariants.{NameTooLong}
use Rattle.reading.specs.declared.fault.Fault.TheVariants as fault
use Rattle.reading.specs.Sources.{at_letter, next_is, unexpected, NameTaken, NameGoesOn}
use Rattle.reading.specs.Lines.{broken, symbol_digit, symbol_new, symbol_slash, symbol_name, symbol_line}

module _ (ss : List SymbolRecord) where
  pub name_takes : (w v rest : List ℕ) → AllByRecursion (λ b. letter b ≡ true) v → length w + length v ≤ 12 → symbol_name ss w (v ++ rest) ≡ symbol_name ss (w ++ v) rest
  name_takes w [] rest all h = ap (λ u. symbol_name ss u rest) (sym (append-nil w))
  name_takes w (b ∷ v) rest all h =
      let f : leb 12 (length w) ≡ false = lt-leb 12 (length w) (omega arith) in
      rw (all.0, symbol_name) (rw f
      (name_takes (w ++ (b ∷ [])) v rest all.1 (omega (arith, length-append w (b ∷ []))) ∙ ap (λ u. symbol_name ss u rest) (append_assoc w (b ∷ []) v)))

  pub name_over : (w rest : List ℕ) → at_letter rest ≡ false → symbol_name ss w rest ≡ symbol_slash ss w rest
  name_over w [] l = refl
  name_over w (b ∷ bs) l = rw (l, symbol_name)

  name_too_long : (w rest : List ℕ) → 12 ≤ length w → at_letter rest ≡ true → symbol_name ss w rest ≡ broken NameTooLong rest
  name_too_long w [] h l = cc
  name_too_long w (b ∷ bs) h l = let f : leb 12 (length w) ≡ true = le-leb 12 (length w) h in rw (l, symbol_name) (rw f)

  slash_missing : (w rest : List ℕ) → next_is 47 rest ≡ false → symbol_slash ss w rest ≡ broken (unexpected rest) rest
  slash_missing w [] n = refl
  slash_missing [] (b ∷ bs) n = refl
  slash_missing (x ∷ w) (b ∷ bs) n = rw (n, symbol_slash)

  no_letters : (rest : List ℕ) → symbol_slash ss [] rest ≡ broken (unexpected rest) rest
  no_letters [] = refl
  no_letters (b ∷ bs) = refl

  pub slash : (w rest : List ℕ) → (0 < length w) → next_is 47 rest ≡ true → symbol_slash ss w rest ≡ symbol_new (find_from (filled w) 0 ss) (filled w) 47 (drop 1 rest)
  slash [] rest h n = absurd (omega arith)
  slash (x ∷ w) [] h n = cc
  slash (x ∷ w) (b ∷ bs) h n = rw (n, symbol_slash) (ap (λ y. symbol_new (find_from (filled (x ∷ w)) 0 ss) (filled (x ∷ w)) y bs) (eqb-true b 47 n))

  -- the first byte of a filled name is 0 exactly if the name has no letter
  first_zero : (w : List ℕ) → AllByRecursion (λ b. letter b ≡ true) w → get_or (filled w) 0 0 ≡ 0 → w ≡ []
  first_zero [] all e = refl
  first_zero (x ∷ w) all e = absurd (omega (arith, leb-true 97 x (and_parts (leb 97 x) (leb x 122) all.0).0))

  first_letter : (w : List ℕ) → (get_or (filled w) 0 0 ≡ 0 → ⊥) → 0 < length w
  first_letter [] ne = absurd (ne refl)
  first_letter (x ∷ w) ne = omega arith

  module _ (room : length ss < 64) (before after : List ℕ) where
    pub open_line : symbol_line ss before ≡ symbol_name ss [] before
    open_line = let f : leb 64 (length ss) ≡ false = lt-leb 64 (length ss) room in rw (f, symbol_line)

    pub long_name : NameGoesOn before after → broken NameTooLong after ≡ symbol_line ss before
    long_name t =
        let w = t.taken.letters in
        let n = t.taken.as_many in
        sym (open_line ∙ (ap (symbol_name ss []) t.taken.spelled ∙ (name_takes [] w after t.taken.each (omega arith) ∙ name_too_long w after (omega arith) t.goes_on)))

    module _ (held : List ℕ) (t : NameTaken held before after) where
      named : symbol_line ss before ≡ symbol_slash ss t.taken.letters after
      named =
          let n = t.taken.as_many in
          let f = t.taken.few in
          open_line ∙ (ap (symbol_name ss []) t.taken.spelled ∙ (name_takes [] t.taken.letters after t.taken.each (omega arith) ∙ name_over t.taken.letters after t.over))

      pub not_a_symbol : (get_or held 0 0 ≡ 0) ⊎ (next_is 47 after ≡ false) → broken (unexpected after) after ≡ symbol_line ss before
      not_a_symbol (inl z) =
          let e = first_zero t.taken.letters t.taken.each (ap (λ h. get_or h 0 0) (sym t.taken.holds) ∙ z) in
          sym (named ∙ (ap (λ u. symbol_slash ss u after) e ∙ no_letters after))
      not_a_symbol (inr n) = sym (named ∙ slash_missing t.taken.letters after n)

      module _ (some : get_or held 0 0 ≡ 0 → ⊥) (bar : next_is 47 after ≡ true) where
        at_slash : symbol_line ss before ≡ symbol_new (find_from held 0 ss) held 47 (drop 1 after)
        at_slash =
            named
            ∙ (slash t.taken.letters after (first_letter t.taken.letters (λ z. some (ap (λ h. get_or h 0 0) t.taken.holds ∙ z))) bar
            ∙ ap (λ h. symbol_new (find_from h 0 ss) h 47 (drop 1 after)) (sym t.taken.holds))

        slash_first : (xs : List ℕ) → next_is 47 xs ≡ true → xs ≡ 47 ∷ drop 1 xs
        slash_first [] n = cc
        slash_first (b ∷ bs) n = ap (λ x. x ∷ bs) (eqb-true b 47 n)

        pub taken_name : is_some (find_from held 0 ss) ≡ true → broken fault.NameTaken after ≡ symbol_line ss before
        taken_name s = sym (at_slash ∙ (go (find_from held 0 ss) s ∙ ap (broken fault.NameTaken) (sym (slash_first after bar))))
          where
            go : (o : Option ℕ) → is_some o ≡ true → symbol_new o held 47 (drop 1 after) ≡ broken fault.NameTaken (47 ∷ drop 1 after)
            go None e = cc
            go (Some k) e = refl

        pub new_name : is_some (find_from held 0 ss) ≡ false → symbol_line ss before ≡ symbol_digit held (drop 1 after)
        new_name s = at_slash ∙ go (find_from held 0 ss) s
          where
            go : (o : Option ℕ) → is_some o ≡ false → symbol_new o held 47 (drop 1 after) ≡ symbol_digit held (drop 1 after)
            go None e = refl
            go (Some k) e = cc
