-- Counting distinct trees. Assumes nothing.
use Rattle.std.specs.Prelude.{◌≡◌, ℕ, ◌≤◌, ◌↔◌, List, [], length}
use mathlib.Core.List.{Memᴰ}
use Rattle.rewriting.specs.Terms.{Tree, Trees}
use Rattle.rewriting.specs.Subterms.{Distinct, SubtermIn, walks}

-- the distinct subterms of several trees, and how many they are
abbrev pub all_subterms : Trees → List Tree
all_subterms ts = walks ts []

abbrev pub distinct_count : Trees → ℕ
distinct_count ts = length (all_subterms ts)

-- LAWS

abbrev pub SameMembersSameLength : Type 0
SameMembersSameLength =
    (xs ys : List Tree) → Distinct xs → Distinct ys → ((t : Tree) → Memᴰ t xs ↔ Memᴰ t ys) → length xs ≡ length ys

abbrev pub FewerMembersShorter : Type 0
FewerMembersShorter =
    (xs ys : List Tree) → Distinct xs → ((t : Tree) → Memᴰ t xs → Memᴰ t ys) → length xs ≤ length ys

-- however the distinct subterms of some trees are listed, there are as many of them
abbrev pub DistinctSubtermsAreCounted : Type 0
DistinctSubtermsAreCounted =
    (ts : Trees) (xs : List Tree) → Distinct xs → ((s : Tree) → Memᴰ s xs ↔ SubtermIn s ts) → length xs ≡ distinct_count ts
