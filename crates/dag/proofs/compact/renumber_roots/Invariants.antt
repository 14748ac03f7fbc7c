use Rattle.std.proofs.Common.{◌≡◌, ℕ, ◌<◌, ◌≤◌, get_or, None}
use Rattle.dag.specs.Roots.{renumber_root}
use Rattle.dag.proofs.compact.renumber_roots.Given as goal

abbrev pub invariant-loop-root : goal.invariant-loop-root
invariant-loop-root l =
    ((k : ℕ) → k < l.root-index → get_or l.roots k None ≡ renumber_root l.numbers (get_or l.initial.roots k None))
    × ((k : ℕ) → l.root-index ≤ k → get_or l.roots k None ≡ get_or l.initial.roots k None)
