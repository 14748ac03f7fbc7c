-- A text that is read to a whole term begins with that term's written form. Assumes nothing.
use Rattle.std.proofs.Common.{◌≡◌, ℕ, zero, suc, ◌+◌, ◌-◌, ◌<◌, ◌≤◌, max, Bool, true, false, eqb, leb, List, [], ◌∷◌, ◌++◌, map, length, get_or, drop, Some, None, Ok, Err, Option, Result, sym, refl, ap, ◌∙◌, subst, ap₂, ⊎_elim, append_assoc, append-nil, arith, length-append}
use Rattle.std.specs.List.{AllByRecursion}
use Rattle.std.proofs.lemmas.Bool.{leb-true, leb-false, eqb-true, and_parts, or_cases, cases_lt}
use Rattle.std.proofs.lemmas.List.{length-map, map-append}
use Rattle.rewriting.specs.Terms.{Term, var, app, Terms, nilᵗ, consᵗ, countᵗ, occurs, occurs_in}
use Rattle.rewriting.specs.Cards.{TermOn, TermsOn}
use Rattle.rewriting.specs.Places as theory
use Rattle.card.specs.Bytes.{letter, filled, letters_of}
use Rattle.card.specs.Records.{arities, stored, find_from, name_of}
use Rattle.card.specs.declared.record.Place.{Place}
use Rattle.card.specs.declared.record.Place.TheVariants.{Symbol, Variable}
use Rattle.card.specs.declared.record.SymbolRecord.{SymbolRecord}
use Rattle.reading.specs.declared.fault.Fault.{Fault}
use Rattle.reading.specs.Scanning.{Grammar, at_start, in_name, behind, Scan, whole, stuck, scan, arity_at, variable_at, scan_variable, variable_letter}
use Rattle.reading.specs.Sources.{next_is}
use Rattle.reading.specs.Written.{written, written_rest, nesting, nesting_rest, May, Allowed, TextOf}
use Rattle.reading.proofs.Tests.{chosen}
use Rattle.reading.proofs.Automaton.{judged, judged_unknown, judged_opened_constant, judged_constant, judged_missing, judged_deep, judged_open, behind_top}
use Rattle.card.proofs.Naming.{letters_of_filled}
use Rattle.reading.proofs.Spelling.{found_arity, found_at, spread}

never : {A : Type 0} {f : Fault} {xs : List ℕ} {acc : List Place} {rest : List ℕ} → stuck f xs ≡ whole acc rest → A
never e = cc

-- a byte that is read as a variable is its letter
record VariableRead (o : Option (List Bool)) (limit n b v : ℕ) : Type 0 where
  pub may : May o v
  pub byte : b ≡ 65 + v
  pub room : n < limit

variable_read : (o : Option (List Bool)) (limit n b v : ℕ) → variable_at o limit n b ≡ Ok v → VariableRead o limit n b v
variable_read None limit n b v = λ e. cc
variable_read (Some may) limit n b v =
    chosen (variable_letter b)
    (λ p. chosen (leb limit n) (λ q k. cc)
    (λ q. chosen (get_or may (b - 65) false)
    (λ r k.
    let s : b - 65 ≡ v = cc in
    let ab = and_parts (leb 65 b) (leb b 72) p in
    let lo = leb-true 65 b ab.0 in
    let hi = leb-true b 72 ab.1 in
    record { may = (omega arith, subst (λ m. get_or may m false ≡ true) s r); byte = omega arith; room = leb-false limit n q })
    (λ r k. cc)))
    (λ p k. cc)

module _ (G : Grammar) where
  abbrev ss : List SymbolRecord
  ss = G.symbols

  record NamePeeled (w K : List ℕ) (acc : List Place) (text : List ℕ) (r : Scan) : Type 0 where
    pub letters : List ℕ
    pub each : AllByRecursion (λ b. letter b ≡ true) letters
    pub few : length (w ++ letters) ≤ 12
    pub back : List ℕ
    pub spelled : text ≡ letters ++ back
    pub judged_is : judged G K acc (find_from (filled (w ++ letters)) 0 ss) back ≡ r

  name_ends : (w K : List ℕ) (acc : List Place) (text : List ℕ) (r : Scan) → length w ≤ 12 → judged G K acc (find_from (filled w) 0 ss) text ≡ r → NamePeeled w K acc text r
  name_ends w K acc text r h e =
      record {
        letters = [];
        each = tt;
        few = rw append-nil h;
        back = text;
        spelled = refl;
        judged_is = ap (λ u. judged G K acc (find_from (filled u) 0 ss) text) (append-nil w) ∙ e;
      }

  name_longer : (w K : List ℕ) (acc : List Place) (b : ℕ) (bs : List ℕ) (r : Scan) → letter b ≡ true → NamePeeled (w ++ (b ∷ [])) K acc bs r → NamePeeled w K acc (b ∷ bs) r
  name_longer w K acc b bs r l p =
      let same : (w ++ (b ∷ [])) ++ p.letters ≡ w ++ (b ∷ p.letters) = append_assoc w (b ∷ []) p.letters in
      record {
        letters = b ∷ p.letters;
        each = (l, p.each);
        few = subst (λ u. length u ≤ 12) same p.few;
        back = p.back;
        spelled = ap (λ u. b ∷ u) p.spelled;
        judged_is = ap (λ u. judged G K acc (find_from (filled u) 0 ss) p.back) (sym same) ∙ p.judged_is;
      }

  peel_name : (w K : List ℕ) (acc : List Place) (text : List ℕ) (acc' : List Place) (rest : List ℕ) → length w ≤ 12
      → scan G (in_name w K) acc text ≡ whole acc' rest → NamePeeled w K acc text (whole acc' rest)
  peel_name w K acc [] acc' rest h = name_ends w K acc [] (whole acc' rest) h
  peel_name w K acc (b ∷ bs) acc' rest h =
      chosen (letter b)
      (λ l. chosen (leb 12 (length w)) (λ f k. never k)
      (λ f k. name_longer w K acc b bs (whole acc' rest) l (peel_name (w ++ (b ∷ [])) K acc bs acc' rest (omega (arith, length-append w (b ∷ []), leb-false 12 (length w) f)) k)))
      (λ l k. name_ends w K acc (b ∷ bs) (whole acc' rest) h k)

  -- a term was read off the front of a text
  record Peeled (K : List ℕ) (acc : List Place) (text : List ℕ) (r : Scan) : Type 0 where
    pub term : Term
    pub on : TermOn (arities ss) term
    pub variables : (v : ℕ) → occurs v term ≡ true → May G.variables v
    pub places_left : length acc + length (theory.places term) ≤ G.places
    pub brackets_left : length K + nesting term ≤ G.brackets
    pub back : List ℕ
    pub shorter : length back < length text
    pub spelled : text ≡ written ss term ++ back
    pub goes : scan G (behind K) (acc ++ map stored (theory.places term)) back ≡ r

  -- the children behind the first, and the bracket that closes
  record RestPeeled (m : ℕ) (K : List ℕ) (acc : List Place) (text : List ℕ) (r : Scan) : Type 0 where
    pub terms : Terms
    pub as_many : countᵗ terms ≡ m
    pub on : TermsOn (arities ss) terms
    pub variables : (v : ℕ) → occurs_in v terms ≡ true → May G.variables v
    pub places_left : length acc + length (theory.places_of terms) ≤ G.places
    pub brackets_left : length K + suc (nesting_rest terms) ≤ G.brackets
    pub back : List ℕ
    pub shorter : length back < length text
    pub spelled : text ≡ written_rest ss terms ++ back
    pub goes : scan G (behind K) (acc ++ map stored (theory.places_of terms)) back ≡ r

  peeled_variable : (K : List ℕ) (acc : List Place) (b : ℕ) (bs : List ℕ) (r : Scan) (v : ℕ) → length K ≤ G.brackets
      → VariableRead G.variables G.places (length acc) b v → scan G (behind K) (acc ++ (Variable v ∷ [])) bs ≡ r → Peeled K acc (b ∷ bs) r
  peeled_variable K acc b bs r v d q e =
      record {
        term = var v;
        on = tt;
        variables = λ w h. subst (May G.variables) (eqb-true v w h) q.may;
        places_left = omega (arith, q.room);
        brackets_left = omega arith;
        back = bs;
        shorter = omega arith;
        spelled = ap (λ x. x ∷ bs) q.byte;
        goes = e;
      }

  peeled_constant : (K : List ℕ) (acc : List Place) (text back : List ℕ) (r : Scan) (k : ℕ) → length K ≤ G.brackets → length acc < G.places → k < length ss → arity_at ss k ≡ 0
      → text ≡ name_of ss k ++ back → length back < length text → scan G (behind K) (acc ++ (Symbol k ∷ [])) back ≡ r → Peeled K acc text r
  peeled_constant K acc text back r k d room h a e l g =
      record {
        term = app k nilᵗ;
        on = (found_arity ss k h ∙ ap Some a, tt);
        variables = λ v q. cc;
        places_left = omega arith;
        brackets_left = omega arith;
        back = back;
        shorter = l;
        spelled = e ∙ ap (λ w. w ++ back) (sym (append-nil (name_of ss k)));
        goes = g;
      }

  -- a bracket holds the first child and the others
  deeper : (m : ℕ) (K : List ℕ) (x y : ℕ) → length (m ∷ K) + x ≤ G.brackets → length K + suc y ≤ G.brackets → length K + suc (max x y) ≤ G.brackets
  deeper m K x y a b = omega arith

  -- a symbol with its bracket, its first child and the others
  peeled_application : {r₁ r : Scan} (K : List ℕ) (acc : List Place) (text inner : List ℕ) (k m : ℕ) → k < length ss → arity_at ss k ≡ suc m
      → text ≡ name_of ss k ++ (40 ∷ inner) → length inner < length text
      → (p : Peeled (m ∷ K) (acc ++ (Symbol k ∷ [])) inner r₁)
      → RestPeeled m K ((acc ++ (Symbol k ∷ [])) ++ map stored (theory.places p.term)) p.back r → Peeled K acc text r
  peeled_application {r = r} K acc text inner k m h a e l p q =
      let t = p.term in
      let ts = q.terms in
      let n₁ = length-append acc (Symbol k ∷ []) in
      let n₂ = length-append (acc ++ (Symbol k ∷ [])) (map stored (theory.places t)) in
      let n₃ = length-map (theory.places t) stored in
      let n₄ = length-append (theory.places t) (theory.places_of ts) in
      record {
        term = app k (consᵗ t ts);
        on = (found_arity ss k h ∙ ap Some (a ∙ ap suc (sym q.as_many)), (p.on, q.on));
        variables = λ v x. ⊎_elim (p.variables v) (q.variables v) (or_cases (occurs v t) (occurs_in v ts) x);
        places_left = omega (arith, q.places_left);
        brackets_left = deeper m K (nesting t) (nesting_rest ts) p.brackets_left q.brackets_left;
        back = q.back;
        shorter = omega (arith, p.shorter, q.shorter);
        spelled =
            e ∙ (ap (λ x. name_of ss k ++ (40 ∷ x)) (p.spelled ∙ (ap (λ x. written ss t ++ x) q.spelled ∙ sym (append_assoc (written ss t) (written_rest ss ts) q.back)))
            ∙ sym (append_assoc (name_of ss k) (40 ∷ (written ss t ++ written_rest ss ts)) q.back));
        goes = ap (λ x. scan G (behind K) x q.back) (sym (spread acc k t ts)) ∙ q.goes;
      }

  -- one child more
  rest_longer : {r₁ r : Scan} (K : List ℕ) (acc : List Place) (text : List ℕ) (m : ℕ) → next_is 44 text ≡ true
      → (p : Peeled (m ∷ K) acc (drop 1 text) r₁) → RestPeeled m K (acc ++ map stored (theory.places p.term)) p.back r → RestPeeled (suc m) K acc text r
  rest_longer {r = r} K acc [] m c p q = cc
  rest_longer {r = r} K acc (b ∷ bs) m c p q =
      let t = p.term in
      let ts = q.terms in
      let n₂ = length-append acc (map stored (theory.places t)) in
      let n₃ = length-map (theory.places t) stored in
      let n₄ = length-append (theory.places t) (theory.places_of ts) in
      record {
        terms = consᵗ t ts;
        as_many = ap suc q.as_many;
        on = (p.on, q.on);
        variables = λ v x. ⊎_elim (p.variables v) (q.variables v) (or_cases (occurs v t) (occurs_in v ts) x);
        places_left = omega (arith, q.places_left);
        brackets_left = deeper m K (nesting t) (nesting_rest ts) p.brackets_left q.brackets_left;
        back = q.back;
        shorter = omega (arith, p.shorter, q.shorter);
        spelled =
            ap₂ (λ x xs. x ∷ xs) (eqb-true b 44 c) (p.spelled ∙ (ap (λ x. written ss t ++ x) q.spelled ∙ sym (append_assoc (written ss t) (written_rest ss ts) q.back)));
        goes =
            ap (λ x. scan G (behind K) x q.back)
            (ap (λ x. acc ++ x) (map-append stored (theory.places t) (theory.places_of ts)) ∙ sym (append_assoc acc (map stored (theory.places t)) (map stored (theory.places_of ts))))
            ∙ q.goes;
      }

  rest_closed : (r : Scan) (K : List ℕ) (acc : List Place) (text : List ℕ) → length acc ≤ G.places → length K < G.brackets → next_is 41 text ≡ true → scan G (behind K) acc (drop 1 text) ≡ r → RestPeeled 0 K acc text r
  rest_closed r K acc [] room d c e = cc
  rest_closed r K acc (b ∷ bs) room d c e =
      record {
        terms = nilᵗ;
        as_many = refl;
        on = tt;
        variables = λ v x. cc;
        places_left = omega arith;
        brackets_left = omega arith;
        back = bs;
        shorter = omega arith;
        spelled = ap (λ x. x ∷ bs) (eqb-true b 41 c);
        goes = ap (λ a. scan G (behind K) a bs) (append-nil acc) ∙ e;
      }

  -- what the card says of the name that was read
  found_name : (w : List ℕ) (k : ℕ) → AllByRecursion (λ b. letter b ≡ true) w → find_from (filled w) 0 ss ≡ Some k → (k < length ss) × (name_of ss k ≡ w)
  found_name w k all e = let f = found_at ss (filled w) k e in (f.0, ap letters_of f.1 ∙ letters_of_filled w (12 - length w) all)

  bracket_taken : (xs : List ℕ) → next_is 40 xs ≡ true → xs ≡ 40 ∷ drop 1 xs
  bracket_taken [] c = cc
  bracket_taken (b ∷ bs) c = ap (λ x. x ∷ bs) (eqb-true b 40 c)

  -- a head with its bracket was read off the front: the first child has to start
  record Opened (K : List ℕ) (acc : List Place) (text : List ℕ) (r : Scan) : Type 0 where
    pub symbol : ℕ
    pub left : ℕ
    pub known : symbol < length ss
    pub arity_is : arity_at ss symbol ≡ suc left
    pub deeper : length K < G.brackets
    pub inner : List ℕ
    pub shorter : length inner < length text
    pub spelled : text ≡ name_of ss symbol ++ (40 ∷ inner)
    pub goes : scan G (at_start (left ∷ K)) (acc ++ (Symbol symbol ∷ [])) inner ≡ r

  data HeadPeeled (K : List ℕ) (acc : List Place) (text : List ℕ) (r : Scan) : Type 0 where
    alone : Peeled K acc text r → HeadPeeled K acc text r
    opened : Opened K acc text r → HeadPeeled K acc text r

  -- the judgement of a known name
  peel_judged : (K : List ℕ) (acc acc' : List Place) (rest text back : List ℕ) (k : ℕ) → length K ≤ G.brackets → length acc < G.places → k < length ss
      → text ≡ name_of ss k ++ back → length back < length text → judged G K acc (Some k) back ≡ whole acc' rest → HeadPeeled K acc text (whole acc' rest)
  peel_judged K acc acc' rest text back k d room h s l e = go (arity_at ss k) refl (next_is 40 back) refl
    where
      go : (a : ℕ) → arity_at ss k ≡ a → (o : Bool) → next_is 40 back ≡ o → HeadPeeled K acc text (whole acc' rest)
      go zero a true o = never (sym (judged_opened_constant G K acc k back a o) ∙ e)
      go zero a false o = alone (peeled_constant K acc text back (whole acc' rest) k d room h a s l (sym (judged_constant G K acc k back a o) ∙ e))
      go (suc m) a false o = never (sym (judged_missing G K acc k back m a o) ∙ e)
      go (suc m) a true o =
          ⊎_elim
          (λ deep. opened (record {
            symbol = k;
            left = m;
            known = h;
            arity_is = a;
            deeper = deep;
            inner = drop 1 back;
            shorter = omega (arith, ap length (bracket_taken back o));
            spelled = s ∙ ap (λ x. name_of ss k ++ x) (bracket_taken back o);
            goes = sym (judged_open G K acc k back m a o deep) ∙ e;
          }))
          (λ deep. never (sym (judged_deep G K acc k back m a o deep) ∙ e))
          (cases_lt (length K) G.brackets)

  peel_found : (K : List ℕ) (acc acc' : List Place) (rest : List ℕ) (b : ℕ) (bs w back : List ℕ) → length K ≤ G.brackets → length acc < G.places
      → AllByRecursion (λ x. letter x ≡ true) (b ∷ w) → bs ≡ w ++ back → (o : Option ℕ) → find_from (filled (b ∷ w)) 0 ss ≡ o
      → judged G K acc o back ≡ whole acc' rest → HeadPeeled K acc (b ∷ bs) (whole acc' rest)
  peel_found K acc acc' rest b bs w back d room all s None q e = never (sym (judged_unknown G K acc back) ∙ e)
  peel_found K acc acc' rest b bs w back d room all s (Some k) q e =
      let f = found_name (b ∷ w) k all q in
      let t : b ∷ bs ≡ name_of ss k ++ back = ap (λ x. b ∷ x) s ∙ ap (λ x. x ++ back) (sym f.1) in
      peel_judged K acc acc' rest (b ∷ bs) back k d room f.0 t (omega (arith, ap length s, length-append w back)) e

  peel_named : (K : List ℕ) (acc acc' : List Place) (rest : List ℕ) (b : ℕ) (bs : List ℕ) → length K ≤ G.brackets → letter b ≡ true → length acc < G.places
      → scan G (in_name (b ∷ []) K) acc bs ≡ whole acc' rest → HeadPeeled K acc (b ∷ bs) (whole acc' rest)
  peel_named K acc acc' rest b bs d l room e =
      let p = peel_name (b ∷ []) K acc bs acc' rest (omega arith) e in
      peel_found K acc acc' rest b bs p.letters p.back d room (l, p.each) p.spelled (find_from (filled (b ∷ p.letters)) 0 ss) refl p.judged_is

  peel_head : (text : List ℕ) (K : List ℕ) (acc acc' : List Place) (rest : List ℕ) → length K ≤ G.brackets → scan G (at_start K) acc text ≡ whole acc' rest → HeadPeeled K acc text (whole acc' rest)
  peel_head [] K acc acc' rest d = never
  peel_head (b ∷ bs) K acc acc' rest d =
      chosen (letter b)
      (λ l. chosen (leb G.places (length acc)) (λ f k. never k) (λ f k. peel_named K acc acc' rest b bs d l (leb-false G.places (length acc) f) k))
      (λ l k. by_variable (variable_at G.variables G.places (length acc) b) refl k)
    where
      by_variable : (o : Result ℕ Fault) → variable_at G.variables G.places (length acc) b ≡ o
          → scan_variable (λ acc₁. scan G (behind K) acc₁ bs) o acc (b ∷ bs) ≡ whole acc' rest → HeadPeeled K acc (b ∷ bs) (whole acc' rest)
      by_variable (Ok v) q k = alone (peeled_variable K acc b bs (whole acc' rest) v d (variable_read G.variables G.places (length acc) b v q) k)
      by_variable (Err f) q k = never k

  -- the byte behind a whole child
  data Turn (m : ℕ) (K : List ℕ) (acc : List Place) (text : List ℕ) (r : Scan) : Type 0 where
    closed : m ≡ 0 → next_is 41 text ≡ true → scan G (behind K) acc (drop 1 text) ≡ r → Turn m K acc text r
    another : (j : ℕ) → m ≡ suc j → next_is 44 text ≡ true → scan G (at_start (j ∷ K)) acc (drop 1 text) ≡ r → Turn m K acc text r

  turn : (m : ℕ) (K : List ℕ) (acc acc' : List Place) (rest text : List ℕ) → scan G (behind (m ∷ K)) acc text ≡ whole acc' rest → Turn m K acc text (whole acc' rest)
  turn m K acc acc' rest [] = never
  turn zero K acc acc' rest (b ∷ bs) =
      chosen (eqb b 44) (λ c k. never k) (λ c. chosen (eqb b 41) (λ f k. closed refl f k) (λ f k. never k))
  turn (suc j) K acc acc' rest (b ∷ bs) =
      chosen (eqb b 44) (λ c k. another j refl c k) (λ c. chosen (eqb b 41) (λ f k. never k) (λ f k. never k))

  comma_shorter : (xs : List ℕ) → next_is 44 xs ≡ true → length xs ≡ suc (length (drop 1 xs))
  comma_shorter [] c = cc
  comma_shorter (b ∷ bs) c = refl

  -- every text of at most n bytes
  abbrev Peels : ℕ → Type 0
  Peels n = (text : List ℕ) → length text ≤ n → (K : List ℕ) (acc acc' : List Place) (rest : List ℕ) → length K ≤ G.brackets
      → scan G (at_start K) acc text ≡ whole acc' rest → Peeled K acc text (whole acc' rest)

  abbrev PeelsRest : ℕ → Type 0
  PeelsRest n = (text : List ℕ) → length text ≤ n → (m : ℕ) (K : List ℕ) (acc acc' : List Place) (rest : List ℕ) → length K < G.brackets → length acc ≤ G.places
      → scan G (behind (m ∷ K)) acc text ≡ whole acc' rest → RestPeeled m K acc text (whole acc' rest)

  peel_none : Peels 0
  peel_none [] h K acc acc' rest d e = never e
  peel_none (b ∷ bs) h K acc acc' rest d e = absurd (omega arith)

  peel_rest_none : PeelsRest 0
  peel_rest_none [] h m K acc acc' rest d room e = never e
  peel_rest_none (b ∷ bs) h m K acc acc' rest d room e = absurd (omega arith)

  peel_more : (n : ℕ) → Peels n → PeelsRest n → Peels (suc n)
  peel_more n peels rests text h K acc acc' rest d e = go (peel_head text K acc acc' rest d e)
    where
      go : HeadPeeled K acc text (whole acc' rest) → Peeled K acc text (whole acc' rest)
      go (alone p) = p
      go (opened o) =
          let acc₁ = acc ++ (Symbol o.symbol ∷ []) in
          let p = peels o.inner (omega (arith, o.shorter)) (o.left ∷ K) acc₁ acc' rest (omega (arith, o.deeper)) o.goes in
          let n₁ = length-append acc₁ (map stored (theory.places p.term)) in
          let n₂ = length-map (theory.places p.term) stored in
          let q = rests p.back (omega (arith, o.shorter, p.shorter)) o.left K (acc₁ ++ map stored (theory.places p.term)) acc' rest o.deeper (omega (arith, p.places_left)) p.goes in
          peeled_application K acc text o.inner o.symbol o.left o.known o.arity_is o.spelled o.shorter p q

  peel_rest_more : (n : ℕ) → Peels n → PeelsRest n → PeelsRest (suc n)
  peel_rest_more n peels rests text h m K acc acc' rest d room e = go (turn m K acc acc' rest text e)
    where
      go : Turn m K acc text (whole acc' rest) → RestPeeled m K acc text (whole acc' rest)
      go (closed q c g) = subst (λ j. RestPeeled j K acc text (whole acc' rest)) (sym q) (rest_closed (whole acc' rest) K acc text room d c g)
      go (another j q c g) =
          let l = comma_shorter text c in
          let p = peels (drop 1 text) (omega arith) (j ∷ K) acc acc' rest (omega arith) g in
          let n₁ = length-append acc (map stored (theory.places p.term)) in
          let n₂ = length-map (theory.places p.term) stored in
          let r = rests p.back (omega (arith, p.shorter)) j K (acc ++ map stored (theory.places p.term)) acc' rest d (omega (arith, p.places_left)) p.goes in
          subst (λ i. RestPeeled i K acc text (whole acc' rest)) (sym q) (rest_longer K acc text j c p r)

  peels_all : (n : ℕ) → Peels n × PeelsRest n
  peels_all zero = (peel_none, peel_rest_none)
  peels_all (suc n) = let r = peels_all n in (peel_more n r.0 r.1, peel_rest_more n r.0 r.1)

  -- a text that is read to a whole term, with a rest behind it
  pub record Front (text : List ℕ) (ps : List Place) (rest : List ℕ) : Type 0 where
    pub term : Term
    pub allowed : Allowed G term
    pub spelled : text ≡ written ss term ++ rest
    pub places_are : ps ≡ map stored (theory.places term)

  pub front_peeled : (text : List ℕ) (ps : List Place) (rest : List ℕ) → scan G (at_start []) [] text ≡ whole ps rest → Front text ps rest
  front_peeled text ps rest e =
      let p = (peels_all (length text)).0 text (omega arith) [] [] ps rest (omega arith) e in
      let w = sym (behind_top G (map stored (theory.places p.term)) p.back) ∙ p.goes in
      let same : map stored (theory.places p.term) ≡ ps = cc in
      let over : p.back ≡ rest = cc in
      record {
        term = p.term;
        allowed = record { on = p.on; variables = p.variables; few_places = omega (arith, p.places_left); few_brackets = omega (arith, p.brackets_left) };
        spelled = p.spelled ∙ ap (λ x. written ss p.term ++ x) over;
        places_are = sym same;
      }

  pub text_peeled : (text : List ℕ) (ps : List Place) → scan G (at_start []) [] text ≡ whole ps [] → TextOf G text ps
  text_peeled text ps e =
      let f = front_peeled text ps [] e in
      record { term = f.term; allowed = f.allowed; spelled = f.spelled ∙ append-nil (written ss f.term); places_are = f.places_are }
