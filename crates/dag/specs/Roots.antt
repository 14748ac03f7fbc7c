-- Roots, the records that a table is asked to keep, and what compaction leaves. Assumes nothing.
use Rattle.std.specs.Prelude.{◌≡◌, ℕ, ◌<◌, Bool, true, ◌↔◌, List, [], ◌∷◌, map, length, Some, None, Option, ◌≢◌, nat_lt, slice_index, slice_index_or}
use mathlib.Core.List.{Memᴰ}
use Rattle.std.specs.List.{AllByRecursion}
use Rattle.rewriting.specs.Terms.{Tree, Trees, nil, cons}
use Rattle.rewriting.specs.Subterms.{SubtermIn, walks}
use Rattle.rewriting.specs.Counting.{distinct_count}
use Rattle.dag.specs.declared.row.Row.{Row}
use Rattle.dag.specs.Rows.{blank, children_of}
use Rattle.dag.specs.Trees.{tree_at}
use Rattle.dag.specs.Walks.{listed, Walked}

-- a root is no record, or one of the first n
abbrev pub in_use : ℕ → Option ℕ → Bool
in_use n None = true
in_use n (Some k) = nat_lt k n

abbrev pub RootsInUse : ℕ → List (Option ℕ) → Type 0
RootsInUse n roots = (i : ℕ) → i < length roots → in_use n (slice_index_or roots i None) ≡ true

-- the tree that a root holds, given the trees of the records
abbrev pub held : List Tree → Option ℕ → Option Tree
held ts None = None
held ts (Some k) = Some (tree_at ts k)

abbrev pub held_trees : List Tree → List (Option ℕ) → List (Option Tree)
held_trees ts roots = map (held ts) roots

-- those that are there
abbrev pub present : List (Option Tree) → Trees
present [] = nil
present (None ∷ os) = present os
present (Some t ∷ os) = cons t (present os)

-- all the trees that roots hold
abbrev pub root_trees : List Tree → List (Option ℕ) → Trees
root_trees ts roots = present (held_trees ts roots)

-- a walk from the roots came to the records of their subterms, and marked and listed them
pub record RootsWalked (ts : List Tree) (roots : List (Option ℕ)) (marks order : List ℕ) : Type 0 where
  pub count : ℕ
  pub walked : Walked ts marks order count
  pub list : listed ts order count ≡ walks (root_trees ts roots) []

-- with each marked record its children are marked
abbrev pub ChildrenMarked : List Row → ℕ → List ℕ → Type 0
ChildrenMarked rows n marks =
    (i : ℕ) → i < n → (slice_index marks i ≢ 0) → AllByRecursion (λ k. slice_index marks k ≢ 0) (children_of (slice_index_or rows i blank))

-- records by their new numbers
abbrev pub renumber : List ℕ → List ℕ → List ℕ
renumber numbers ks = map (λ k. slice_index numbers k) ks

abbrev pub renumber_root : List ℕ → Option ℕ → Option ℕ
renumber_root numbers None = None
renumber_root numbers (Some k) = Some (slice_index numbers k)

-- of the first n records those that are marked have new numbers, with the trees that they had, and no other record is left
pub record Slid (ts : List Tree) (marks : List ℕ) (n : ℕ) (ts' : List Tree) (numbers : List ℕ) : Type 0 where
  pub placed : (k : ℕ) → k < n → (slice_index marks k ≢ 0) → (slice_index numbers k < length ts') × (tree_at ts' (slice_index numbers k) ≡ tree_at ts k)
  pub only : (s : Tree) → Memᴰ s ts' → (k : ℕ) × (k < n) × (slice_index marks k ≢ 0) × (tree_at ts k ≡ s)

-- there are no more records than distinct subterms of the trees that the roots hold
abbrev pub Compact : List Tree → List (Option ℕ) → Type 0
Compact ts roots = length ts ≡ distinct_count (root_trees ts roots)

-- the roots hold the trees that they held, and the records are those of the distinct subterms of these trees, one for each
pub record Compacted (ts : List Tree) (roots : List (Option ℕ)) (ts' : List Tree) (roots' : List (Option ℕ)) : Type 0 where
  pub roots_in_use : RootsInUse (length ts') roots'
  pub same_trees : held_trees ts' roots' ≡ held_trees ts roots
  pub members : (s : Tree) → Memᴰ s ts' ↔ SubtermIn s (root_trees ts roots)
  pub counted : length ts' ≡ distinct_count (root_trees ts roots)
