use Rattle.std.proofs.Common.{◌-◌, length}
use Rattle.card.specs.Records.{side_term}
use Rattle.dag.proofs.Underway.{Underway}
use Rattle.dag.proofs.build.build.Given as goal

abbrev pub invariant-loop-place : goal.invariant-loop-place
invariant-loop-place g l =
    Underway (g.S.Signature.arities l.signature) (side_term (g.S.Signature.arities l.signature) l.places) l.bindings l.initial.table l.table l.stack
    (length l.places - length l.yielded)
