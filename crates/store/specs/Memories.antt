-- The memory that a store is opened on and gives back. Assumes nothing.
use Rattle.std.specs.Prelude.{◌≡◌, ℕ, ◌≤◌, vec_items, vec_len}
use Rattle.dag.specs.Walks.{Clear}
use Rattle.store.specs.declared.memory.Memory.{Memory}

-- the work tables are as long as the node table
pub record AsLong (m : Memory) : Type 0 where
  pub marks : vec_len m.marks ≡ vec_len m.nodes
  pub order : vec_len m.order ≡ vec_len m.nodes
  pub numbers : vec_len m.numbers ≡ vec_len m.nodes

-- tables of this length, and every mark is 0
pub record Wiped (m : Memory) (n : ℕ) : Type 0 where
  pub long : AsLong m
  pub nodes : vec_len m.nodes ≡ n
  pub clear : Clear (vec_items m.marks)

-- a node table of 16 to 4,096 rows, and work tables of the same length
pub record Suits (m : Memory) : Type 0 where
  pub many : 16 ≤ vec_len m.nodes
  pub few : vec_len m.nodes ≤ 4096
  pub long : AsLong m
