-- The sheet of a tree, from the records of its subterms. Assumes nothing.
use Rattle.std.specs.Prelude.{◌≡◌, ℕ, suc, ◌+◌, ◌<◌, ◌≤◌, true, List, ◌++◌, map, length, take, slice_index}
use mathlib.Core.List.{Memᴰ}
use Rattle.rewriting.specs.Terms.{Tree, children, to_list}
use Rattle.rewriting.specs.Subterms.{member, place_of, Row, row}
use Rattle.sheet.specs.SheetText.{before_last, line_text, lines_from, trailer_text}
use Rattle.dag.specs.declared.table.Table.{Table}
use Rattle.dag.specs.Tables.{trees}
use Rattle.dag.specs.Trees.{tree_at}

-- no record is listed twice
abbrev pub ListedOnce : List ℕ → Type 0
ListedOnce order = (i j : ℕ) → i < length order → j < length order → slice_index order i ≡ slice_index order j → i ≡ j

-- each of the first n listed records has its place in the list, from 1 on, as its number
abbrev pub NumberedTo : ℕ → List ℕ → List ℕ → Type 0
NumberedTo n order numbers = (i : ℕ) → i < n → slice_index numbers (slice_index order i) ≡ i + 1

-- the trees of listed records
abbrev pub trees_at : Table → List ℕ → List Tree
trees_at table order = map (tree_at (trees table)) order

-- their rows in a sheet
abbrev pub rows_at : Table → List ℕ → List Row
rows_at table order = map (row (trees_at table order)) (trees_at table order)

-- each record whose tree is listed has the sheet number of its tree
abbrev pub Numbered : List Tree → List Tree → List ℕ → Type 0
Numbered ts xs numbers = (k : ℕ) → k < length ts → Memᴰ (tree_at ts k) xs → slice_index numbers k ≡ suc (place_of (tree_at ts k) xs)

-- listed records of a table can be printed: with each tree its children are listed, and all are numbered
pub record Ready (table : Table) (order numbers : List ℕ) : Type 0 where
  pub inside : (i : ℕ) → i < length order → slice_index order i < table.count
  pub few : length order ≤ 4096
  pub children_there : (s c : Tree) → Memᴰ s (trees_at table order) → Memᴰ c (to_list (children s)) → member c (trees_at table order) ≡ true
  pub long : table.count ≤ length numbers
  pub numbered : Numbered (trees table) (trees_at table order) numbers

-- the line of the record at place i
unfoldable pub line_at : (ℕ → List ℕ) → Table → List ℕ → ℕ → List ℕ
line_at names table order i =
    let r = row (trees_at table order) (tree_at (trees table) (slice_index order i)) in
    line_text (i + 1) (names r.symbol) r.children

-- the lines of the first n records
unfoldable pub lines_to : (ℕ → List ℕ) → Table → List ℕ → ℕ → List ℕ
lines_to names table order n = lines_from names 1 (take n (rows_at table order))

-- all lines and the trailer
unfoldable pub listed_text : (ℕ → List ℕ) → Table → List ℕ → List ℕ
listed_text names table order =
    lines_from names 1 (rows_at table order) ++ trailer_text (length (rows_at table order)) (before_last names 1 (rows_at table order))
