-- The sources of a join, by their roots. Assumes nothing.
use Rattle.std.specs.Prelude.{ℕ, Bool, true, ◌&&◌, List, [], ◌∷◌, map, is_some, None, Option, slice_index_or}
use Rattle.std.specs.Option.{unwrap_or}

-- whether all of these tins hold a tree
abbrev pub all_filled : List (Option ℕ) → List ℕ → Bool
all_filled roots [] = true
all_filled roots (tin ∷ sources) = is_some (slice_index_or roots tin None) && all_filled roots sources

-- the records of their trees
abbrev pub source_records : List (Option ℕ) → List ℕ → List ℕ
source_records roots sources = map (λ tin. unwrap_or (slice_index_or roots tin None) 0) sources
