use Rattle.std.proofs.Common.{◌∙◌, subst}
use Rattle.explicit.specs.Meaning.{Ground, term_of}
use Rattle.explicit.proofs.Instances.{instance_made, occurs_below}
use Rattle.explicit.proofs.Levels.{tree_of-roll}
use Rattle.explicit.proofs.term.+ground.Goals as goal

pub returns-in_default-2 : goal.returns-in_default-2
returns-in_default-2 t c =
    occurs_below c.args.term.now c.in-Symbol.f c.in-Symbol.terms c.deref-t-items.result.now c.loop-t.t-index c.t-item.result
    c.in-Symbol.is c.deref-t-items.ensures.value c.loop-t-test.true c.t-item.is
    (subst (Ground (term_of c.t-item.result)) c.in_default-2.is c.in_ok-child.ensures)

pub returns : goal.returns
returns t c σ =
    tree_of-roll _
    ∙ instance_made σ c.args.term.now c.in-Symbol.f c.in-Symbol.terms c.deref-t-items.result.now c.loop-t.children.items c.loop-t.t-index
    c.in-Symbol.is c.deref-t-items.ensures.value (c.loop-t.invariant σ) c.loop-t-test.false
