-- A walk through a node table as a value. Assumes nothing.
use Rattle.std.specs.Prelude.{◌≡◌, List}
use Rattle.rewriting.specs.Terms.{Tree}
use Rattle.dag.specs.declared.walk.Walk.{Walk}
use Rattle.dag.specs.Tables.{trees}
use Rattle.dag.specs.Walks.{listed, Walked}

-- the trees of the records that it came to, in order
abbrev pub walked_list : Walk → List Tree
walked_list w = listed (trees w.table.now) w.order.now w.count

abbrev pub Walking : Walk → Type 0
Walking w = Walked (trees w.table.now) w.marks.now w.order.now w.count

-- it goes through the same table, and marks and lists in the same places
pub record SameTables (before after : Walk) : Type 0 where
  pub table : after.table ≡ before.table
  pub marks : after.marks.ghost_name ≡ before.marks.ghost_name
  pub order : after.order.ghost_name ≡ before.order.ghost_name
