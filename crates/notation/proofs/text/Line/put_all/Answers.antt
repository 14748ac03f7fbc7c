use Rattle.std.proofs.Common.{◌++◌, take, ap, subst}
use Rattle.std.proofs.lemmas.List.{take_all}
use Rattle.notation.specs.Text.{Holds}
use Rattle.notation.proofs.Lines.{next_byte}
use Rattle.notation.proofs.text.Line.put_all.Goals as goal

pub loop-b-preserved : goal.loop-b-preserved
loop-b-preserved c w h =
    subst (λ v. Holds c.put.new.self v) (next_byte w c.args.bytes.now c.loop-b.b-index 0 c.loop-b-test.true)
    (c.in_ok-put.ensures (w ++ take c.loop-b.b-index c.args.bytes.now) (c.loop-b.invariant w h))

pub returns : goal.returns
returns c w h =
    subst (λ v. Holds c.loop-b.self v) (ap (λ v. w ++ v) (take_all c.loop-b.b-index c.args.bytes.now c.loop-b-test.false))
    (c.loop-b.invariant w h)
