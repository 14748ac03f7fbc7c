-- What the tins hold. Assumes nothing.
use Rattle.std.specs.Prelude.{◌≡◌, ℕ, List, [], replicate, None, Option}
use Rattle.rewriting.specs.Terms.{Tree}
use Rattle.dag.specs.Roots.{held_trees}
use Rattle.dag.specs.Tables.{capacity, trees}
use Rattle.store.specs.declared.tins.Tins.{Tins}

-- the tree of each tin, if it holds one
abbrev pub tin_trees : Tins → List (Option Tree)
tin_trees t = held_trees (trees t.table) t.roots

-- how many records there are
abbrev pub room : Tins → ℕ
room t = capacity t.table

-- no tin holds a tree, no record is in use, and there are n records
pub record Fresh (t : Tins) (n : ℕ) : Type 0 where
  pub no_roots : t.roots ≡ replicate 16 None
  pub no_records : trees t.table ≡ []
  pub as_many : room t ≡ n
