use Rattle.std.proofs.Common.{◌≡◌, length, sym, subst, rules}
use Rattle.std.proofs.lemmas.List.{with_items_is}
use Rattle.dag.specs.Walks.{Clear}
use Rattle.store.proofs.tins.work.WorkTables.new.Goals as goal

pub invariant_of-result : goal.invariant_of-result
invariant_of-result c =
    let marks = c.args.marks in
    let long : length c.wipe.new.marks ≡ marks.len = search rules in
    record {
      order_long = c.requires.order;
      numbers_long = c.requires.numbers;
      clear = subst Clear (sym (with_items_is marks c.wipe.new.marks long)) c.wipe.ensures;
    }
