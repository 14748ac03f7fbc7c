-- The head of a term: what was read of it against what the automaton does. Assumes nothing.
use Rattle.std.proofs.Common.{◌≡◌, ℕ, zero, suc, ◌<◌, ◌≤◌, true, false, leb, List, [], ◌∷◌, ◌++◌, length, get_or, drop, Some, None, Option, sym, refl, ap, ◌∙◌, ap₂, arith, length-append, length-drop}
use Rattle.std.proofs.lemmas.List.{get_or_default}
use Rattle.std.proofs.lemmas.Bool.{lt-leb, true≢false}
use Rattle.card.specs.Records.{find_from, blank_symbol}
use Rattle.card.specs.declared.record.Place.{Place}
use Rattle.card.specs.declared.record.Place.TheVariants.{Symbol}
use Rattle.card.specs.declared.record.SymbolRecord.{SymbolRecord}
use Rattle.reading.specs.declared.fault.Fault.TheVariants.{NameTooLong, UnknownName, ConstantOpened, BracketMissing, TooDeep}
use Rattle.reading.specs.Scanning.{Grammar, at_start, scan, arity_at}
use Rattle.reading.specs.Sources.{at_letter, next_is, NameTaken, NameGoesOn}
use Rattle.reading.specs.Progress.{behind_head, HeadRead, HeadStuck}
use Rattle.reading.proofs.Spelling.{found_at}
use Rattle.reading.proofs.Automaton.{start_takes, name_too_long, name_over, judged, judged_unknown, judged_opened_constant, judged_constant, judged_missing, judged_deep, judged_open}

pub found_inside : (held : List ℕ) (ss : List SymbolRecord) (k : ℕ) (o : Option ℕ) → o ≡ find_from held 0 ss → o ≡ Some k → k < length ss
found_inside held ss k o q e = (found_at ss held k (sym q ∙ e)).0

-- an arity as it was read from a table
pub arity_read : (ss : List SymbolRecord) (k : ℕ) (d : SymbolRecord) → k < length ss → (get_or ss k d).arity ≡ arity_at ss k
arity_read ss k d h = ap (λ (s : SymbolRecord). s.arity) (get_or_default ss k d blank_symbol h)

some_letters : (w before after : List ℕ) → before ≡ w ++ after → at_letter before ≡ true → at_letter after ≡ false → 0 < length w
some_letters [] before after e a b = absurd (true≢false (sym a ∙ (ap at_letter e ∙ b)))
some_letters (x ∷ w) before after e a b = omega arith

-- the name of the symbol k with n children was read
pub record Named (G : Grammar) (filled : ℕ) (before after : List ℕ) (k n : ℕ) : Type 0 where
  pub room : filled < G.places
  pub shorter : length after < length before
  pub arity_is : arity_at G.symbols k ≡ n
  pub goes : (K : List ℕ) (acc : List Place) → length acc ≡ filled → scan G (at_start K) acc before ≡ judged G K acc (Some k) after

module _ (G : Grammar) (filled depth : ℕ) where
  pub too_long : (before after : List ℕ) → filled < G.places → NameGoesOn before after → HeadStuck G filled depth before after NameTooLong
  too_long before after room t K acc d n =
      let w = t.taken.letters in
      let f : leb G.places (length acc) ≡ false = lt-leb G.places (length acc) (omega arith) in
      let twelve = t.taken.as_many in
      ap (scan G (at_start K) acc) t.taken.spelled
      ∙ (start_takes G w K acc after t.taken.each (omega arith) (omega arith) f ∙ name_too_long G w K acc after (omega arith) t.goes_on)

  module _ (held before after : List ℕ) (t : NameTaken held before after) (start : at_letter before ≡ true) (room : filled < G.places) where
    name_shorter : length after < length before
    name_shorter =
        let w = t.taken.letters in
        let n = some_letters w before after t.taken.spelled start t.over in
        omega (arith, ap length t.taken.spelled, length-append w after)

    -- the name was read, and is judged by what is found under it
    spelled : (K : List ℕ) (acc : List Place) → length acc ≡ filled → scan G (at_start K) acc before ≡ judged G K acc (find_from held 0 G.symbols) after
    spelled K acc n =
        let w = t.taken.letters in
        let f : leb G.places (length acc) ≡ false = lt-leb G.places (length acc) (omega arith) in
        let few = t.taken.few in
        let many = t.taken.as_many in
        ap (scan G (at_start K) acc) t.taken.spelled
        ∙ (start_takes G w K acc after t.taken.each (some_letters w before after t.taken.spelled start t.over) (omega arith) f
        ∙ (name_over G w K acc after t.over ∙ ap (λ h. judged G K acc (find_from h 0 G.symbols) after) (sym t.taken.holds)))

    pub unknown : find_from held 0 G.symbols ≡ None → HeadStuck G filled depth before after UnknownName
    unknown e K acc d n = spelled K acc n ∙ (ap (λ o. judged G K acc o after) e ∙ judged_unknown G K acc after)

    pub symbol_named : (k n : ℕ) → find_from held 0 G.symbols ≡ Some k → n ≡ arity_at G.symbols k → Named G filled before after k n
    symbol_named k n found arity_is =
        record { room = room; shorter = name_shorter; arity_is = sym arity_is; goes = λ K acc l. spelled K acc l ∙ ap (λ o. judged G K acc o after) found }

  module _ (before after : List ℕ) (k n : ℕ) (t : Named G filled before after k n) where
    pub opened_constant : n ≡ 0 → next_is 40 after ≡ true → HeadStuck G filled depth before after ConstantOpened
    opened_constant a o K acc d l = t.goes K acc l ∙ judged_opened_constant G K acc k after (t.arity_is ∙ a) o

    pub constant : n ≡ 0 → next_is 40 after ≡ false → HeadRead G filled depth before after (Symbol k) n
    constant a o =
        record {
          room = t.room;
          nested = λ h. absurd (omega arith);
          shorter = t.shorter;
          goes = λ K acc d l. t.goes K acc l ∙ (judged_constant G K acc k after (t.arity_is ∙ a) o ∙ ap (λ m. scan G (behind_head K m) (acc ++ (Symbol k ∷ [])) after) (sym a));
        }

    -- an arity that is not 0
    above : (m : ℕ) → (m ≡ 0 → ⊥) → (j : ℕ) × (m ≡ suc j)
    above zero ne = absurd (ne refl)
    above (suc j) ne = (j, refl)

    pub missing : (n ≡ 0 → ⊥) → next_is 40 after ≡ false → HeadStuck G filled depth before after BracketMissing
    missing ne o K acc d l = let a = above n ne in t.goes K acc l ∙ judged_missing G K acc k after a.0 (t.arity_is ∙ a.1) o

    pub deep : (n ≡ 0 → ⊥) → next_is 40 after ≡ true → G.brackets ≤ depth → HeadStuck G filled depth before after TooDeep
    deep ne o h K acc d l = let a = above n ne in t.goes K acc l ∙ judged_deep G K acc k after a.0 (t.arity_is ∙ a.1) o (omega arith)

    pub bracketed : (n ≡ 0 → ⊥) → next_is 40 after ≡ true → depth < G.brackets → (inner : List ℕ) → inner ≡ drop 1 after → HeadRead G filled depth before inner (Symbol k) n
    bracketed ne o h inner e =
        let a = above n ne in
        record {
          room = t.room;
          nested = λ q. h;
          shorter = omega (arith, t.shorter, ap length e, length-drop 1 after);
          goes = λ K acc d l.
              t.goes K acc l
              ∙ (judged_open G K acc k after a.0 (t.arity_is ∙ a.1) o (omega arith)
              ∙ ap₂ (λ m x. scan G (behind_head K m) (acc ++ (Symbol k ∷ [])) x) (sym a.1) (sym e));
        }
