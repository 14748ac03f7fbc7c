use Rattle.std.proofs.Common.{◌≡◌, length}
use Rattle.cardtext.specs.Cleaning.{cleaned_behind}
use Rattle.cardtext.proofs.clean.KeptIterator.next.Given as goal

abbrev pub invariant-loop-b : goal.invariant-loop-b
invariant-loop-b l =
    cleaned_behind l.self.noted l.self.text.now ≡ cleaned_behind l.initial.self.noted l.initial.self.text.now

abbrev pub decreases-loop-b : goal.decreases-loop-b
decreases-loop-b l = length l.self.text.now
