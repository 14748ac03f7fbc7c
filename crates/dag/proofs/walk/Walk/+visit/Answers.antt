use Rattle.std.proofs.Common.{ℕ, ◌+◌, ◌<◌, map, length, get_or, set, sym, refl, ap, ◌∙◌, subst, arith}
use Rattle.rewriting.specs.Subterms.{walk, walks}
use Rattle.dag.specs.Tables.{trees}
use Rattle.dag.specs.Trees.{from_list, tree_at, tree_over}
use Rattle.dag.specs.Walking.{walked_list}
use Rattle.dag.specs.Walks.{listed, Walked}
use Rattle.dag.proofs.Invariant.{distinct_trees, one_tree_each}
use Rattle.dag.proofs.Shapes.{child_below}
use Rattle.dag.proofs.Visiting.{child_visited, children_visited, Next, room, visited, visited_before, walked_more}
use Rattle.dag.proofs.walk.Walk.+visit.Goals as goal
use Rattle.dag.proofs.walk.Walk.+visit.Goals.{After-loop-child}

pub bounds-self-at : goal.bounds-self-at
bounds-self-at t c = omega (arith, c.requires.inside, c.requires.walking.marks_long, one_tree_each c.args.self.now.table.now)

pub returns-then-self-at-ne0-clause-listed : goal.returns-then-self-at-ne0-clause-listed
returns-then-self-at-ne0-clause-listed t c =
    let w = c.args.self.now in
    visited_before (trees w.table.now) _ w.order.now w.count c.args.at c.requires.walking
    (omega (arith, c.requires.inside, one_tree_each w.table.now)) c.if-self-at-ne0.true

pub loop-child-init : goal.loop-child-init
loop-child-init t c = (record { table = refl; marks = refl; order = refl }, c.requires.walking, refl)

pub visit-requires : goal.visit-requires
visit-requires t c =
    let row = c.node-node.result.row in
    let i = c.loop-child.child-index in
    let e = c.children-child-items.ensures in
    let k = child_below c.args.at row (omega (arith, c.node-node.result.few, c.node-node.result.four)) c.node-node.ensures.below i (omega (arith, c.loop-child-test.true, ap length e)) in
    let at = ap (λ ks. get_or ks i 0) e in
    let count = ap (λ x. x.now.count) c.loop-child.invariant.0.table in
    (omega (arith, c.decreases), (omega (arith, c.requires.inside), c.loop-child.invariant.1))

pub loop-child-preserved : goal.loop-child-preserved
loop-child-preserved t c =
    let items = c.children-child-items.result.now in
    let i = c.loop-child.child-index in
    let h = c.loop-child.invariant in
    let same = c.visit.ensures.same in (
      record { table = same.table ∙ h.0.table; marks = same.marks ∙ h.0.marks; order = same.order ∙ h.0.order },
      c.visit.ensures.walking,
      child_visited (trees c.args.self.now.table.now) items i (get_or items i 0) _ _ _ c.loop-child-test.true refl h.2
          (c.visit.ensures.listed ∙ ap (λ x. walk (tree_at (trees x.now) (get_or items i 0)) (walked_list c.loop-child.self)) h.0.table),
    )

-- the children are listed, and the record itself is not
module _ (t : ℕ) (c : After-loop-child t) where
  next : Next (trees c.args.self.now.table.now) c.args.at (walked_list c.args.self.now) c.loop-child.self.marks.now c.loop-child.self.order.now c.loop-child.self.count
  next =
      let table = c.args.self.now.table.now in
      let items = c.children-child-items.result.now in
      let s = c.loop-child.self in
      let h = c.loop-child.invariant in
      let inside : c.args.at < length (trees table) = omega (arith, c.requires.inside, one_tree_each table) in
      record {
        symbol = c.node-node.result.row.symbol;
        children = from_list (map (tree_at (trees table)) items);
        apart = distinct_trees table;
        is = c.node-node.ensures.same.1 ∙ ap (tree_over (trees table) c.node-node.result.row.symbol) (sym c.children-child-items.ensures);
        inside = inside;
        new = c.requires.walking.unmarked c.args.at inside c.if-self-at-ne0.false;
        walked = subst (λ x. Walked (trees x.now) s.marks.now s.order.now s.count) h.0.table h.1;
        kids =
            ap (λ x. listed (trees x.now) s.order.now s.count) (sym h.0.table)
            ∙ children_visited (trees table) items c.loop-child.child-index (walked_list s) (walks (from_list (map (tree_at (trees table)) items)) (walked_list c.args.self.now)) c.loop-child-test.false h.2;
      }

pub bounds-self-at-2 : goal.bounds-self-at-2
bounds-self-at-2 t c = let n = next t (goal.at.bounds-self-at-2 t c).After-loop-child in omega (arith, n.inside, n.walked.marks_long)

pub bounds-self-self : goal.bounds-self-self
bounds-self-self t c = let n = next t (goal.at.bounds-self-self t c).After-loop-child in omega (arith, room _ _ _ _ _ _ n, n.walked.order_long)

pub returns : goal.returns
returns t c =
    let s = c.loop-child.self in
    let h = c.loop-child.invariant in
    let n = next t (goal.at.returns t c).After-loop-child in
    let marks = set s.marks.now c.args.at 1 in
    let order = set s.order.now s.count c.args.at in
    record {
      same = record { table = h.0.table; marks = h.0.marks; order = h.0.order };
      walking = subst (λ x. Walked (trees x.now) marks order (s.count + 1)) (sym h.0.table) (walked_more _ _ _ _ _ _ n);
      listed = ap (λ x. listed (trees x.now) order (s.count + 1)) h.0.table ∙ visited _ _ _ _ _ _ n;
    }
