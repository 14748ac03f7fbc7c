-- What a walk through a node table leaves in the marks and in the order table. Assumes nothing.
use Rattle.std.specs.Prelude.{◌≡◌, ℕ, ◌<◌, ◌≤◌, List, map, length, take, ◌≢◌, slice_index}
use mathlib.Core.List.{Memᴰ}
use Rattle.std.specs.List.{AllByRecursion}
use Rattle.rewriting.specs.Terms.{Tree, children, to_list}
use Rattle.rewriting.specs.Subterms.{Distinct}
use Rattle.dag.specs.Trees.{tree_at}

-- every mark is 0
abbrev pub Clear : List ℕ → Type 0
Clear marks = (k : ℕ) → k < length marks → slice_index marks k ≡ 0

-- the trees of the first n records of the order table
abbrev pub listed : List Tree → List ℕ → ℕ → List Tree
listed ts order n = map (tree_at ts) (take n order)

-- with each tree its children are there too
abbrev pub ChildrenThere : List Tree → Type 0
ChildrenThere xs = (s c : Tree) → Memᴰ s xs → Memᴰ c (to_list (children s)) → Memᴰ c xs

-- a walk through records with the trees ts is under way: n records are listed, each once and with its children, and these
-- are the marked ones
pub record Walked (ts : List Tree) (marks order : List ℕ) (n : ℕ) : Type 0 where
  pub marks_long : length ts ≤ length marks
  pub order_long : length ts ≤ length order
  pub filled : n ≤ length order
  pub records : AllByRecursion (λ k. k < length ts) (take n order)
  pub distinct : Distinct (listed ts order n)
  pub children_there : ChildrenThere (listed ts order n)
  pub marked : (k : ℕ) → k < length ts → (slice_index marks k ≢ 0) → Memᴰ (tree_at ts k) (listed ts order n)
  pub unmarked : (k : ℕ) → k < length ts → slice_index marks k ≡ 0 → Memᴰ (tree_at ts k) (listed ts order n) → ⊥
