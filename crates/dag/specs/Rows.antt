-- The rows of a node table: their children, and which rows are in order. Assumes nothing.
use Rattle.std.specs.Prelude.{◌≡◌, ℕ, ◌<◌, ◌≤◌, List, [], ◌∷◌, take, drop, slice_index}
use Rattle.dag.specs.declared.row.Row.{Row}

-- the row that is all zero; reads past the end of a table give it
abbrev pub blank : Row
blank = record { symbol = 0; arity = 0; children = 0 ∷ 0 ∷ 0 ∷ 0 ∷ [] }

-- the records of a row's children, from left to right
abbrev pub children_of : Row → List ℕ
children_of r = take r.arity r.children

-- 0 stands in each child place that is not used
abbrev pub UnusedZero : Row → Type 0
UnusedZero r = (j : ℕ) → slice_index (drop r.arity r.children) j ≡ 0

-- a row that is in order as a node
abbrev pub Shaped : Row → Type 0
Shaped r = (r.arity ≤ 4) × UnusedZero r

-- each child is a record below n
abbrev pub ChildrenBelow : ℕ → Row → Type 0
ChildrenBelow n r = (j : ℕ) → j < r.arity → slice_index r.children j < n
