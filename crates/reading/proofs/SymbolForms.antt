-- A symbol line is taken exactly if it is the written form of a symbol that the card lacks. Assumes nothing.
use Rattle.std.proofs.Common.{◌≡◌, ℕ, ◌+◌, ◌-◌, ◌<◌, ◌≤◌, true, eqb, leb, ◌↔◌, List, [], ◌∷◌, ◌++◌, length, get_or, Some, None, Option, sym, refl, ap, ◌∙◌, subst, ap₂, append_assoc, append-nil, arith, length-append, MatchOption}
use Rattle.std.specs.List.{AllByRecursion}
use Rattle.std.proofs.lemmas.Bool.{leb-true, leb-false, le-leb, eqb-true, and_parts}
use Rattle.card.specs.Bytes.{letter, filled}
use Rattle.card.specs.Records.{find_from, blank_symbol}
use Rattle.card.specs.declared.record.SymbolRecord.{SymbolRecord}
use Rattle.card.proofs.Finding.{name_is_found_exactly}
use Rattle.reading.specs.Lines.{taken, line_end, digit, symbol_digit, symbol_new, symbol_slash, symbol_name, symbol_line}
use Rattle.reading.specs.CardLines.{SymbolWritten, SymbolSpelled, Lacks}
use Rattle.reading.proofs.Tests.{chosen}
use Rattle.reading.proofs.Spelling.{found_none}
use Rattle.reading.proofs.SymbolLines.{open_line, name_takes, name_over, slash}

-- the digit and nothing behind it
record DigitRead (name text : List ℕ) (s : SymbolRecord) : Type 0 where
  pub arity : ℕ
  pub few : arity ≤ 4
  pub spelled : text ≡ (48 + arity) ∷ []
  pub record_is : s ≡ record { name = name; arity = arity }

pub end_read : {A : Type 0} (x y : A) (rest : List ℕ) → line_end x rest ≡ taken y → (rest ≡ []) × (x ≡ y)
end_read x y [] e = (refl, cc)
end_read x y (b ∷ bs) e = cc

digit_read : (name text : List ℕ) (s : SymbolRecord) → symbol_digit name text ≡ taken s → DigitRead name text s
digit_read name [] s = λ e. cc
digit_read name (b ∷ bs) s =
    chosen (digit b)
    (λ p. chosen (leb b 52)
    (λ q k.
    let lo = leb-true 48 b (and_parts (leb 48 b) (leb b 57) p).0 in
    let hi = leb-true b 52 q in
    let r = end_read (record { name = name; arity = b - 48 }) s bs k in
    let c : 48 + (b - 48) ≡ b = omega arith in
    record { arity = b - 48; few = omega arith; spelled = ap₂ (λ x xs. x ∷ xs) (sym c) r.0; record_is = sym r.1 })
    (λ q k. cc))
    (λ p k. cc)

module _ (ss : List SymbolRecord) where
  record NameRead (w text : List ℕ) (s : SymbolRecord) : Type 0 where
    pub letters : List ℕ
    pub each : AllByRecursion (λ b. letter b ≡ true) letters
    pub some : 0 < length (w ++ letters)
    pub few : length (w ++ letters) ≤ 12
    pub back : List ℕ
    pub spelled : text ≡ letters ++ (47 ∷ back)
    pub new : find_from (filled (w ++ letters)) 0 ss ≡ None
    pub digit_read : DigitRead (filled (w ++ letters)) back s

  slash_read : (w text : List ℕ) (s : SymbolRecord) → length w ≤ 12 → symbol_slash ss w text ≡ taken s → NameRead w text s
  slash_read w [] s h = λ e. cc
  slash_read [] (b ∷ bs) s h = λ e. cc
  slash_read (x ∷ w) (b ∷ bs) s h = chosen (eqb b 47) (λ p. new (find_from (filled (x ∷ w)) 0 ss) refl p) (λ p k. cc)
    where
      same : x ∷ w ≡ (x ∷ w) ++ []
      same = sym (append-nil (x ∷ w))

      new : (o : Option ℕ) → find_from (filled (x ∷ w)) 0 ss ≡ o → eqb b 47 ≡ true → symbol_new o (filled (x ∷ w)) b bs ≡ taken s
          → NameRead (x ∷ w) (b ∷ bs) s
      new (Some i) q p k = cc
      new None q p k =
          record {
            letters = [];
            each = tt;
            some = omega arith;
            few = subst (λ u. length u ≤ 12) same h;
            back = bs;
            spelled = ap (λ y. y ∷ bs) (eqb-true b 47 p);
            new = subst (λ u. find_from (filled u) 0 ss ≡ None) same q;
            digit_read = subst (λ u. DigitRead (filled u) bs s) same (digit_read (filled (x ∷ w)) bs s k);
          }

  name_read : (w text : List ℕ) (s : SymbolRecord) → length w ≤ 12 → symbol_name ss w text ≡ taken s → NameRead w text s
  name_read w [] s h = λ e. cc
  name_read w (b ∷ bs) s h =
      chosen (letter b)
      (λ l. chosen (leb 12 (length w)) (λ f k. cc)
      (λ f k.
      let r = name_read (w ++ (b ∷ [])) bs s (omega (arith, length-append w (b ∷ []), leb-false 12 (length w) f)) k in
      let same : (w ++ (b ∷ [])) ++ r.letters ≡ w ++ (b ∷ r.letters) = append_assoc w (b ∷ []) r.letters in
      record {
        letters = b ∷ r.letters;
        each = (l, r.each);
        some = rw same at r.some;
        few = rw same at r.few;
        back = r.back;
        spelled = ap (λ u. b ∷ u) r.spelled;
        new = rw same at r.new;
        digit_read = rw same at r.digit_read;
      }))
      (λ l k. slash_read w (b ∷ bs) s h k)

  pub symbol_read : (text : List ℕ) (s : SymbolRecord) → symbol_line ss text ≡ taken s → (length ss < 64) × SymbolSpelled text s × Lacks ss s
  symbol_read text s =
      chosen (leb 64 (length ss)) (λ p k. cc)
      (λ p k.
      let r = name_read [] text s (omega arith) k in
      let d = r.digit_read in (
        leb-false 64 (length ss) p,
        record {
          name = r.letters;
          arity = d.arity;
          is_name = record { some = r.some; few = r.few; letters = r.each };
          few_children = d.few;
          spelled = r.spelled ∙ ap (λ x. r.letters ++ (47 ∷ x)) d.spelled;
          record_is = d.record_is;
        },
        λ i h e. found_none ss (filled r.letters) r.new i h (e ∙ ap (λ (x : SymbolRecord). x.name) d.record_is),
      ))

  not_found : (bytes : List ℕ) → ((i : ℕ) → i < length ss → (get_or ss i blank_symbol).name ≡ bytes → ⊥) → find_from bytes 0 ss ≡ None
  not_found bytes none = go (find_from bytes 0 ss) (name_is_found_exactly bytes ss)
    where
      go : (o : Option ℕ) → MatchOption o ((i : ℕ) → i < length ss → (get_or ss i blank_symbol).name ≡ bytes → ⊥) (λ i. (i < length ss) × ((get_or ss i blank_symbol).name ≡ bytes)) → o ≡ None
      go None k = refl
      go (Some i) k = absurd (none i k.0 k.1)

  digit_taken : (name : List ℕ) (a : ℕ) → a ≤ 4 → symbol_digit name ((48 + a) ∷ []) ≡ taken (record { name = name; arity = a })
  digit_taken name a h =
      let lo : leb 48 (48 + a) ≡ true = le-leb 48 (48 + a) (omega arith) in
      let hi : leb (48 + a) 57 ≡ true = le-leb (48 + a) 57 (omega arith) in
      let four : leb (48 + a) 52 ≡ true = le-leb (48 + a) 52 (omega arith) in
      let back : 48 + a - 48 ≡ a = omega arith in
      rw (lo, symbol_digit) (rw hi (rw four (ap (λ n. taken (record { name = name; arity = n })) back)))

  pub spelled_taken : (text : List ℕ) (s : SymbolRecord) → length ss < 64 → SymbolSpelled text s → Lacks ss s → symbol_line ss text ≡ taken s
  spelled_taken text s room t new =
      let w = t.name in
      let rest = 47 ∷ (48 + t.arity) ∷ [] in
      open_line ss room text []
      ∙ (ap (symbol_name ss []) t.spelled
      ∙ (name_takes ss [] w rest t.is_name.letters (let few = t.is_name.few in omega arith)
      ∙ (name_over ss w rest refl
      ∙ (slash ss w rest t.is_name.some refl
      ∙ (ap (λ o. symbol_new o (filled w) 47 ((48 + t.arity) ∷ [])) (not_found (filled w) (λ i h e. new i h (e ∙ ap (λ (x : SymbolRecord). x.name) (sym t.record_is))))
      ∙ (digit_taken (filled w) t.arity t.few_children ∙ ap taken (sym t.record_is)))))))

pub symbol_exactly : (ss : List SymbolRecord) (text : List ℕ) (s : SymbolRecord) → (symbol_line ss text ≡ taken s) ↔ ((length ss < 64) × SymbolWritten ss text s)
symbol_exactly ss text s = (
  λ e. let t = symbol_read ss text s e in (t.0, record { line = t.1; new = t.2 }),
  λ t. spelled_taken ss text s t.0 t.1.line t.1.new,
)
