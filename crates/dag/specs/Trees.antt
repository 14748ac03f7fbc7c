-- The trees that the rows of a node table stand for, and which tables are in order. Assumes nothing.
use Rattle.std.specs.Prelude.{◌≡◌, ℕ, ◌<◌, ◌≤◌, List, [], ◌∷◌, ◌++◌, map, length, take, ◌≢◌, slice_index_or}
use Rattle.rewriting.specs.Terms.{Tree, node, Trees, nil, cons}
use Rattle.dag.specs.declared.row.Row.{Row}
use Rattle.dag.specs.Rows.{blank, children_of, Shaped, ChildrenBelow}

-- what a read past the end of a list of trees gives; no promise hangs on which tree it is
pub blank_tree : Tree
blank_tree = node 0 nil

-- the tree of record k, given the trees of the records
abbrev pub tree_at : List Tree → ℕ → Tree
tree_at ts k = slice_index_or ts k blank_tree

abbrev pub from_list : List Tree → Trees
from_list [] = nil
from_list (t ∷ ts) = cons t (from_list ts)

-- a symbol over records, as a tree
abbrev pub tree_over : List Tree → ℕ → List ℕ → Tree
tree_over ts f ks = node f (from_list (map (tree_at ts) ks))

abbrev pub row_tree : List Tree → Row → Tree
row_tree ts r = tree_over ts r.symbol (children_of r)

-- each row's tree is its symbol over earlier trees
abbrev pub add_rows : List Tree → List Row → List Tree
add_rows ts [] = ts
add_rows ts (r ∷ rs) = add_rows (ts ++ (row_tree ts r ∷ [])) rs

-- the trees of the first n rows, one for each
unfoldable pub table_trees : List Row → ℕ → List Tree
table_trees rows n = add_rows [] (take n rows)

-- the first n rows are in order, no two of them are equal, and children stand below their parents
pub record Valid (rows : List Row) (n : ℕ) : Type 0 where
  pub fits : n ≤ length rows
  pub four : (i : ℕ) → i < n → length (slice_index_or rows i blank).children ≡ 4
  pub shaped : (i : ℕ) → i < n → Shaped (slice_index_or rows i blank)
  pub children_below : (i : ℕ) → i < n → ChildrenBelow i (slice_index_or rows i blank)
  pub unequal : (i j : ℕ) → i < j → j < n → slice_index_or rows i blank ≢ slice_index_or rows j blank
