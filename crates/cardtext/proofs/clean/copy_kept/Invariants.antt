use Rattle.std.proofs.Common.{◌≡◌, ◌++◌, take}
use Rattle.cardtext.specs.Cleaning.{cleaned, cleaned_behind}
use Rattle.cardtext.proofs.clean.copy_kept.Given as goal

abbrev pub invariant-loop-n : goal.invariant-loop-n
invariant-loop-n l = take l.n l.buffer ++ cleaned_behind l.kept.noted l.kept.text.now ≡ cleaned l.text
