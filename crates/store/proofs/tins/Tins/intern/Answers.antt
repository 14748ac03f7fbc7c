use Rattle.std.proofs.Common.{sym, ◌∙◌}
use Rattle.dag.specs.Tables.{node_tree}
use Rattle.store.proofs.Rooted.{intern_grows, used_more}
use Rattle.store.proofs.tins.Tins.intern.Goals as goal

pub invariant_of-self : goal.invariant_of-self
invariant_of-self c =
    let before = c.args.self.now in
    let same = sym c.intern.ensures.capacity in
    let grows = intern_grows before.table c.intern.new.self (node_tree before.table c.args.node) c.intern.result c.intern.ensures.cases in
    record {
      long = before.long ∙ same;
      sixteen = before.sixteen;
      used = used_more before.table.count c.intern.new.self.count before.roots grows before.used;
    }
