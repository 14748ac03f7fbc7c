use Rattle.std.proofs.Common.{◌+◌, ◌<◌, length, set, vec_items, sym, refl, ap, ◌∙◌, subst, arith}
use Rattle.dag.specs.Trees.{table_trees, Valid}
use Rattle.dag.proofs.Folding.{trees_set}
use Rattle.dag.proofs.Records.{valid_more}
use Rattle.dag.proofs.table.Table.append.Goals as goal

pub invariant_of-self : goal.invariant_of-self
invariant_of-self c =
    let t = c.args.self.now in
    let n = c.args.node in
    let rows = vec_items t.rows in
    let room : t.count < length rows = omega (arith, c.requires.room, t.rows.ok.0) in
    record {
      small = t.small;
      valid =
          subst (λ r. Valid (set rows t.count r) (t.count + 1)) (sym c.into.ensures)
          (valid_more rows t.count n.row t.valid room n.four (n.few, n.unused) c.requires.over c.requires.new);
    }

pub returns : goal.returns
returns c =
    let t = c.args.self.now in
    let rows = vec_items t.rows in
    let room : t.count < length rows = omega (arith, c.requires.room, t.rows.ok.0) in
    record {
      at = refl;
      count = refl;
      rows = ap (set rows t.count) c.into.ensures;
      capacity = refl;
      trees = ap (λ r. table_trees (set rows t.count r) (t.count + 1)) c.into.ensures ∙ trees_set rows t.count c.args.node.row room;
    }
