use Rattle.std.proofs.Common.{[], ◌∷◌, ◌++◌, refl}
use Rattle.std.proofs.Output.{has_written_append, has_written_of_eq}
use Rattle.explicit.specs.Meaning.{name_of, tree_of}
use Rattle.notation.specs.Text.{text}
use Rattle.notation.proofs.Writing.{writes_first, writes_next, writes_last}
use Rattle.notation.proofs.text.NamedDisplay.+fmt.Goals as goal

pub loop-tree-init : goal.loop-tree-init
loop-tree-init g t c plain =
    let N = name_of c.args.self.now.symbols.now in
    let named = c.in_ok-write_str.ensures.writes plain refl in
    let opened = c.in_ok-write_str-2.ensures.writes named.plain refl in
    let first = c.in_ok-fmt.ensures.writes opened.plain refl in (
      c.name.result.now ++ (40 ∷ []) ++ text N (tree_of c.in-Some.first.now),
      has_written_append _ _ _ _ _ _ (has_written_append _ _ _ _ _ _ named opened) first,
      writes_first N c.args.self.now.tree.now c.in-Some.first.now c.deref.result.now c.in-Some.rest.now c.name.result.now c.name.ensures c.deref.ensures.value c.in-Some.ensures.cases.0,
    )

pub loop-tree-preserved : goal.loop-tree-preserved
loop-tree-preserved g t c plain =
    let N = name_of c.args.self.now.symbols.now in
    let now = c.loop-tree.invariant plain in
    let comma = c.in_ok-write_str-3.ensures.writes now.1.plain refl in
    let child = c.in_ok-fmt-2.ensures.writes comma.plain refl in (
      now.0 ++ (44 ∷ []) ++ text N (tree_of c.tree-item.result),
      has_written_append _ _ _ _ _ _ (has_written_append _ _ _ _ _ _ now.1 comma) child,
      writes_next N now.0 c.in-Some.rest.now c.loop-tree.tree-index c.tree-item.result c.loop-tree-test.true c.tree-item.is now.2,
    )

pub returns-clause-writes : goal.returns-clause-writes
returns-clause-writes g t c plain ok =
    let now = c.loop-tree.invariant plain in
    has_written_of_eq _ _ _ _ _
    (writes_last (name_of c.args.self.now.symbols.now) now.0 c.in-Some.rest.now c.loop-tree.tree-index c.loop-tree-test.false now.2)
    (has_written_append _ _ _ _ _ _ now.1 (c.write_str-3.ensures.writes now.1.plain ok))
