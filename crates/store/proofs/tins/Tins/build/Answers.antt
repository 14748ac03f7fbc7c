use Rattle.std.proofs.Common.{[], sym, ◌∙◌}
use Rattle.dag.specs.Places.{spelled_tree}
use Rattle.dag.specs.Tables.{trees}
use Rattle.store.proofs.Rooted.{build_grows, used_more}
use Rattle.store.proofs.tins.Tins.build.Goals as goal

pub invariant_of-self : goal.invariant_of-self
invariant_of-self g c =
    let before = c.args.self.now in
    let same = sym c.build.ensures.capacity in
    let grows = build_grows before.table c.build.new.table (spelled_tree (g.S.Signature.arities c.args.signature.now) (trees before.table) [] c.args.places.now) c.build.result c.build.ensures.cases in
    record {
      long = before.long ∙ same;
      sixteen = before.sixteen;
      used = used_more before.table.count c.build.new.table.count before.roots grows before.used;
    }
