use Rattle.std.proofs.Common.{◌∙◌}
use Rattle.explicit.proofs.Instances.{instance_made}
use Rattle.explicit.proofs.Levels.{tree_of-roll}
use Rattle.matching.specs.Bindings.{bindings_of}
use Rattle.matching.proofs.rule.Candidate.+instance.Goals as goal

pub returns-after-loop-p : goal.returns-after-loop-p
returns-after-loop-p t c =
    tree_of-roll _
    ∙ instance_made (bindings_of c.args.self) c.args.part.now c.in-Symbol.f c.in-Symbol.parts c.deref-p-items.result.now c.loop-p.children.items c.loop-p.p-index
    c.in-Symbol.is c.deref-p-items.ensures.value c.loop-p.invariant c.loop-p-test.false
