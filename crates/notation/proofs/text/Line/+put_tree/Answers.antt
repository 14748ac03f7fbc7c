use Rattle.std.proofs.Common.{[], ◌∷◌, ◌++◌, ap, ◌∙◌, subst, append_assoc}
use Rattle.std.proofs.lemmas.Result.{on_ok_weaker}
use Rattle.explicit.specs.Meaning.{name_of, tree_of}
use Rattle.notation.specs.Text.{Holds, text}
use Rattle.notation.proofs.Lines.{joins}
use Rattle.notation.proofs.Writing.{writes_first, writes_next, writes_last}
use Rattle.notation.proofs.text.Line.+put_tree.Goals as goal

pub loop-child-init : goal.loop-child-init
loop-child-init t c w h =
    let N = name_of c.args.symbols.now in
    let name = c.as_bytes.result.now in
    let first = text N (tree_of c.in-Some.first.now) in (
      name ++ (40 ∷ []) ++ first,
      subst (Holds c.put_tree.new.self) (joins w name (40 ∷ []) first)
          (c.in_ok-put_tree.ensures (w ++ name ++ (40 ∷ [])) (c.in_ok-put.ensures (w ++ name) (c.in_ok-put_all.ensures w h))),
      writes_first N c.args.tree.now c.in-Some.first.now c.deref.result.now c.in-Some.rest.now name (c.as_bytes.ensures.value ∙ c.name.ensures) c.deref.ensures.value c.in-Some.ensures.cases.0,
    )

pub loop-child-preserved : goal.loop-child-preserved
loop-child-preserved t c w h =
    let N = name_of c.args.symbols.now in
    let now = c.loop-child.invariant w h in
    let child = text N (tree_of c.child-item.result) in (
      now.0 ++ (44 ∷ []) ++ child,
      subst (Holds c.put_tree-in-loop-child.new.self) (joins w now.0 (44 ∷ []) child)
          (c.in_ok-put_tree-2.ensures (w ++ now.0 ++ (44 ∷ [])) (c.in_ok-put-2.ensures (w ++ now.0) now.1)),
      writes_next N now.0 c.in-Some.rest.now c.loop-child.child-index c.child-item.result c.loop-child-test.true c.child-item.is now.2,
    )

pub returns : goal.returns
returns t c =
    on_ok_weaker c.put-2.result
    (λ f w h.
    let now = c.loop-child.invariant w h in
    subst (Holds c.put-2.new.self)
    (append_assoc w now.0 (41 ∷ []) ∙ ap (λ v. w ++ v) (writes_last (name_of c.args.symbols.now) now.0 c.in-Some.rest.now c.loop-child.child-index c.loop-child-test.false now.2))
    (f (w ++ now.0) now.1))
    c.put-2.ensures
