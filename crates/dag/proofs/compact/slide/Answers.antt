use Rattle.std.proofs.Common.{◌≡◌, ℕ, ◌+◌, ◌<◌, List, length, get_or, take, vec_items, vec_len, sym, ap, ◌∙◌, subst, arith, length-take}
use Rattle.std.proofs.ByRecursion.{All-weaker}
use Rattle.std.proofs.lemmas.List.{get_or-take}
use Rattle.dag.specs.Tables.{capacity}
use Rattle.dag.proofs.Sliding.{Sliding, sliding_children, sliding_node, sliding_skips, sliding_starts, sliding_takes}
use Rattle.dag.proofs.compact.slide.Goals as goal
use Rattle.dag.proofs.compact.slide.Goals.{else-mark-ne0, then-mark-ne0}

-- a mark that the loop comes to is that of a record in use
inside : (n i : ℕ) (marks : List ℕ) → i < length (take n marks) → (i < n) × (get_or (take n marks) i 0 ≡ get_or marks i 0)
inside n i marks h = let l : i < n = omega (arith, length-take n marks) in (l, get_or-take n marks i 0 l)

pub loop-i-init : goal.loop-i-init
loop-i-init c = sliding_starts c.count-old.result c.args.marks.now c.args.numbers.now c.truncate.new.self c.truncate.ensures.trees

pub renumbered-requires : goal.renumbered-requires
renumbered-requires c =
    let t = c.args.table.now in
    let i = c.loop-i.i in
    let at = inside c.count-old.result i c.args.marks.now c.loop-i-test.true in
    All-weaker (λ k. k < i) (λ k. k < length c.loop-i.numbers)
    (λ k h. omega (arith, c.loop-i.auto.numbers, c.requires.sizes.1, t.valid.fits, c.count-old.ensures, at.0)) _
    (sliding_children t _ _ (ap vec_items c.truncate.ensures.rows) c.count-old.ensures _ _ i c.loop-i.table _ c.loop-i.invariant at.0
    c.from_shaped_row-node.result.row (c.from_shaped_row-node.ensures ∙ c.row_at.ensures))

pub append-requires : goal.append-requires
append-requires c =
    let t = c.args.table.now in
    let at = inside c.count-old.result c.loop-i.i c.args.marks.now c.loop-i-test.true in
    let s =
    sliding_node t _ _ (ap vec_items c.truncate.ensures.rows) c.count-old.ensures _ _ c.loop-i.i c.loop-i.table _ c.loop-i.invariant at.0
    c.from_shaped_row-node.result.row (c.from_shaped_row-node.ensures ∙ c.row_at.ensures) c.requires.marked (λ z. c.if-mark-ne0.true (at.1 ∙ z)) c.renumbered.result
    c.renumbered.ensures.symbol c.renumbered.ensures.children in
    record {
      room = omega (arith, c.loop-i.invariant.fewer, c.loop-i.invariant.full_is, ap vec_len c.truncate.ensures.rows, t.valid.fits, c.count-old.ensures, at.0);
      over = s.over;
      new = s.new;
    }

pub loop-i-preserved : goal.loop-i-preserved
loop-i-preserved c =
    let t = c.args.table.now in
    let i = c.loop-i.i in
    let rows = vec_items c.truncate.new.self.rows in
    let n = c.count-old.result in
    let marks = c.args.marks.now in
    let full = capacity c.truncate.new.self in
    let at = inside n i marks c.loop-i-test.true in
    elim c.if-mark-ne0.branch [
      | then-mark-ne0 w ↦
          let s =
          sliding_node t rows n (ap vec_items c.truncate.ensures.rows) c.count-old.ensures marks full i c.loop-i.table c.loop-i.numbers c.loop-i.invariant at.0
          w.from_shaped_row-node.result.row (w.from_shaped_row-node.ensures ∙ w.row_at.ensures) c.requires.marked (λ z. w.if-mark-ne0.true (at.1 ∙ z)) w.renumbered.result
          w.renumbered.ensures.symbol w.renumbered.ensures.children in
          let a = w.append.ensures in
          let k =
          sliding_takes rows n marks full i c.loop-i.table c.loop-i.numbers c.loop-i.invariant (λ z. w.if-mark-ne0.true (at.1 ∙ z))
          (omega (arith, c.loop-i.auto.numbers, c.requires.sizes.1, t.valid.fits, c.count-old.ensures, at.0)) w.renumbered.result s w.append.new.self a.count a.rows
          a.capacity a.trees w.append.result a.at in
          subst (λ x. Sliding rows n marks full (i + 1) x c.if-mark-ne0.numbers) (sym w.table-is)
          (subst (Sliding rows n marks full (i + 1) w.append.new.self) (sym w.numbers-is) k)
      | else-mark-ne0 w ↦
          subst (λ x. Sliding rows n marks full (i + 1) x c.if-mark-ne0.numbers) (sym w.table-is)
          (subst (Sliding rows n marks full (i + 1) c.loop-i.table) (sym w.numbers-is)
          (sliding_skips rows n marks full i c.loop-i.table c.loop-i.numbers c.loop-i.invariant (sym at.1 ∙ w.if-mark-ne0.false)))
    ]
