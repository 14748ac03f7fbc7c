use Rattle.std.proofs.Common.{◌∙◌, sym}
use Rattle.explicit.specs.Meaning.{tree_of}
use Rattle.sites.proofs.Below.{is_child, is_deeper, is_elsewhere}
use Rattle.sites.proofs.site.+is_below.Goals as goal
use Rattle.sites.proofs.site.+is_below.Goals.{then-same-via-then-same, then-same-via-else-same+then-is_below}

pub returns-then-same : goal.returns-then-same
returns-then-same t c =
    let s = c.args.tree.now in
    elim c.then-same.branch [
      | then-same-via-then-same w ↦
          is_child (tree_of s) c.deref-child-items.result.now c.loop-child.child-index c.child-item.result c.loop-child-test.true c.child-item.is
          c.loop-child.invariant (sym c.same.ensures ∙ w.if-same.true)
      | then-same-via-else-same+then-is_below w ↦
          is_deeper (tree_of s) c.deref-child-items.result.now c.loop-child.child-index c.child-item.result c.loop-child-test.true c.child-item.is
          c.loop-child.invariant (sym c.same.ensures ∙ w.if-same.false) (sym w.is_below.ensures ∙ w.if-is_below.true)
    ]

pub loop-child-preserved : goal.loop-child-preserved
loop-child-preserved t c =
    let s = c.args.tree.now in
    is_elsewhere (tree_of s) c.deref-child-items.result.now c.loop-child.child-index c.child-item.result c.loop-child-test.true c.child-item.is
    c.loop-child.invariant (sym c.if-same.ensures) (sym c.if-is_below.ensures)
