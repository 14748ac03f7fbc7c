-- Laws of every store. Assumes nothing.
use Rattle.std.specs.Prelude.{◌≡◌, ℕ, true, ◌↔◌, List, Ok}
use mathlib.Core.List.{Memᴰ}
use Rattle.std.specs.List.{AllByRecursion}
use Rattle.rewriting.specs.Terms.{Tree}
use Rattle.rewriting.specs.Subterms.{Distinct, SubtermIn}
use Rattle.card.specs.Records.{DistinctNames, WellFormedSymbol}
use Rattle.dag.specs.Roots.{present}
use Rattle.dag.specs.Tables.{trees}
use Rattle.store.specs.declared.store.Store.{Store}
use Rattle.store.specs.Results.{same_result, sheet_result}
use Rattle.store.specs.Stores.{symbols_of, trees_of}

-- the records in use are those of the distinct subterms of the tins' trees, one for each
abbrev pub OneRecordForEachSubterm : Type 0
OneRecordForEachSubterm =
    (s : Store) → Distinct (trees s.tins.table) × ((t : Tree) → Memᴰ t (trees s.tins.table) ↔ SubtermIn t (present (trees_of s)))

-- two tins have the same sheet, byte by byte, exactly if they hold equal trees
abbrev pub SameSheetsSameTrees : Type 0
SameSheetsSameTrees =
    (s : Store) → AllByRecursion WellFormedSymbol (symbols_of s) → DistinctNames (symbols_of s) → (left right room room' : ℕ) (x y : List ℕ)
    → sheet_result (symbols_of s) (trees_of s) left room ≡ Ok x → sheet_result (symbols_of s) (trees_of s) right room' ≡ Ok y
    → (x ≡ y) ↔ (same_result (trees_of s) left right ≡ Ok true)
