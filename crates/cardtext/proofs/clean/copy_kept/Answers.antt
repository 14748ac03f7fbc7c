use Rattle.std.proofs.Common.{◌≡◌, length, arith}
use Rattle.cardtext.specs.Cleaning.{cleaned_behind}
use Rattle.cardtext.proofs.Cleaning.{copied_all, copied_within}
use Rattle.cardtext.proofs.clean.copy_kept.Goals as goal

pub returns-in_default-clause-within : goal.returns-in_default-clause-within
returns-in_default-clause-within c =
    let rest = cleaned_behind c.loop-n.kept.noted c.loop-n.kept.text.now in
    omega (arith, copied_within c.args.text.now c.loop-n.buffer rest c.loop-n.n (omega arith) c.loop-n.invariant)

pub returns : goal.returns
returns c =
    let rest = cleaned_behind c.loop-n.kept.noted c.loop-n.kept.text.now in
    let full : c.loop-n.n ≡ length c.loop-n.buffer = omega arith in
    record {
      kept = rw (← full) (copied_all c.args.text.now c.loop-n.buffer rest c.loop-n.n full (omega arith) c.loop-n.invariant);
      within = omega (arith, copied_within c.args.text.now c.loop-n.buffer rest c.loop-n.n (omega arith) c.loop-n.invariant);
    }
