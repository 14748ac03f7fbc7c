use Rattle.std.proofs.Common.{◌∙◌, sym, rules}
use Rattle.explicit.specs.Meaning.{tree_of}
use Rattle.explicit.proofs.Levels.{tree_of-roll}
use Rattle.reference.proofs.Replacing.{replaced, rebuilt}
use Rattle.reference.proofs.step.+replace.Goals as goal

pub returns-then-same : goal.returns-then-same
returns-then-same t c =
    let is = replaced (tree_of c.args.old.now) (tree_of c.args.new.now) (tree_of c.args.tree.now) (sym c.if-same.ensures) in
    search rules

pub returns : goal.returns
returns t c =
    tree_of-roll _
    ∙ rebuilt (tree_of c.args.old.now) (tree_of c.args.new.now) c.args.tree.now c.deref-child-items.result.now c.loop-child.children.items c.loop-child.child-index
    (sym c.if-same.ensures) c.deref-child-items.ensures.value c.loop-child.invariant c.loop-child-test.false
