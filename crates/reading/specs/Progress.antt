-- How far a reader has brought the automaton, for every stack of open brackets at once. Assumes nothing.
use Rattle.std.specs.Prelude.{◌≡◌, ℕ, zero, suc, ◌<◌, ◌≤◌, List, [], ◌∷◌, ◌++◌, length, take, drop}
use Rattle.card.specs.declared.record.Place.{Place}
use Rattle.reading.specs.declared.fault.Fault.{Fault}
use Rattle.reading.specs.Scanning.{Grammar, Mode, at_start, behind, stuck, scan}

-- where the automaton stands behind the head of a term with this many children
abbrev pub behind_head : List ℕ → ℕ → Mode
behind_head K zero = behind K
behind_head K (suc n) = at_start (n ∷ K)

-- the head of a term was read: its place, and the bracket if it has children
pub record HeadRead (G : Grammar) (filled depth : ℕ) (before after : List ℕ) (p : Place) (n : ℕ) : Type 0 where
  pub room : filled < G.places
  pub nested : 0 < n → depth < G.brackets
  pub shorter : length after < length before
  pub goes :
      (K : List ℕ) (acc : List Place) → length K ≡ depth → length acc ≡ filled
      → scan G (at_start K) acc before ≡ scan G (behind_head K n) (acc ++ (p ∷ [])) after

abbrev pub HeadStuck : Grammar → ℕ → ℕ → List ℕ → List ℕ → Fault → Type 0
HeadStuck G filled depth before after f =
    (K : List ℕ) (acc : List Place) → length K ≡ depth → length acc ≡ filled → scan G (at_start K) acc before ≡ stuck f after

-- from the start of a term to behind a whole one: places from `filled` up to n were written, and none behind them
pub record Advanced (G : Grammar) (from to : List ℕ → Mode) (depth filled n : ℕ) (out out' : List Place) (before after : List ℕ) : Type 0 where
  pub longer : filled < n
  pub room : n ≤ G.places
  pub shorter : length after < length before
  pub kept : drop n out' ≡ drop n out
  pub goes : (K : List ℕ) → length K ≡ depth → scan G (from K) (take filled out) before ≡ scan G (to K) (take n out') after

abbrev pub Stopped : Grammar → (List ℕ → Mode) → ℕ → ℕ → List Place → List ℕ → List ℕ → Fault → Type 0
Stopped G from depth filled out before after f =
    (K : List ℕ) → length K ≡ depth → scan G (from K) (take filled out) before ≡ stuck f after

-- the byte behind a child of the innermost open bracket was read, in which `left` more are due behind it
pub record ChildEnded (left : ℕ) (before after : List ℕ) : Type 0 where
  pub shorter : length after < length before
  pub goes :
      (G : Grammar) (K : List ℕ) (acc : List Place)
      → scan G (behind (left ∷ K)) acc before ≡ scan G (behind_head K left) acc after

abbrev pub ChildStuck : ℕ → List ℕ → List ℕ → Fault → Type 0
ChildStuck left before after f = (G : Grammar) (K : List ℕ) (acc : List Place) → scan G (behind (left ∷ K)) acc before ≡ stuck f after
