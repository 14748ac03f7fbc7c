use Rattle.std.proofs.Common.{◌≡◌, length, sym, subst, rules}
use Rattle.std.proofs.lemmas.List.{with_items_is}
use Rattle.dag.specs.Walks.{Clear}
use Rattle.store.proofs.tins.work.WorkTables.compact.Goals as goal

pub invariant_of-self : goal.invariant_of-self
invariant_of-self c =
    let before = c.args.self.now in
    let long : length c.compact.new.marks ≡ before.marks.len = search rules in
    record {
      order_long = before.order_long;
      numbers_long = before.numbers_long;
      clear = subst Clear (sym (with_items_is before.marks c.compact.new.marks long)) c.compact.ensures.clear;
    }
