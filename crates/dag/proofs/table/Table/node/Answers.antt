use Rattle.std.proofs.Common.{vec_items, sym, ap, ◌∙◌, subst, arith}
use Rattle.dag.specs.Rows.{ChildrenBelow}
use Rattle.dag.specs.Tables.{trees}
use Rattle.dag.specs.Trees.{row_tree}
use Rattle.dag.proofs.Folding.{tree_of_row}
use Rattle.dag.proofs.table.Table.node.Goals as goal

pub returns : goal.returns
returns c =
    let t = c.args.self.now in
    let i = c.args.at in
    let e = c.from_shaped_row.ensures ∙ c.row_at.ensures in
    record {
      below = subst (ChildrenBelow i) (sym e) (t.valid.children_below i c.requires);
      over = subst (ChildrenBelow t.count) (sym e) (λ j h. omega (arith, c.requires, t.valid.children_below i c.requires j h));
      same = (c.requires, tree_of_row (vec_items t.rows) t.count t.valid i c.requires ∙ ap (row_tree (trees t)) (sym e));
    }
