-- However the distinct subterms of some trees are listed, there are as many of them. Assumes nothing.
use Rattle.std.proofs.Common.{◌≡◌, ◌↔◌, List, length}
use mathlib.Core.List.{Memᴰ}
use Rattle.rewriting.specs.Terms.{Tree, Trees}
use Rattle.rewriting.specs.Subterms.{SubtermIn, Distinct, walks}
use Rattle.rewriting.specs.Counting.{distinct_count}
use Rattle.rewriting.proofs.Members.{same_members}
use Rattle.rewriting.proofs.Walking.{proper_list, walks_grown, empty, grown_distinct}

pub subterms_counted : (ts : Trees) (xs : List Tree) → Distinct xs → ((s : Tree) → Memᴰ s xs ↔ SubtermIn s ts) → length xs ≡ distinct_count ts
subterms_counted ts xs u h =
    same_members xs (walks ts _) u (grown_distinct (walks_grown ts _ empty))
    (λ s. ((λ m. (proper_list s ts).1 ((h s).0 m)), (λ m. (h s).1 ((proper_list s ts).0 m))))
