use Rattle.std.proofs.Common.{◌≡◌, take, replicate}
use Rattle.draft.proofs.wipe.wipe.Given as goal

abbrev pub invariant-loop-x : goal.invariant-loop-x
invariant-loop-x g l = take l.x-index l.table ≡ replicate l.x-index l.blank
