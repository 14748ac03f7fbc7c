use Rattle.std.proofs.Common.{None, sym, refl, subst}
use Rattle.card.specs.Records.{arities}
use Rattle.dag.proofs.Keeping.{compacted_compact}
use Rattle.store.specs.Holding.{tin_trees}
use Rattle.store.proofs.Placing.{AllOn, set_on}
use Rattle.store.proofs.Outcomes.{clear_done}
use Rattle.store.proofs.Settled.{emptied}
use Rattle.store.proofs.store.Store.clear.Goals as goal

pub invariant_of-self : goal.invariant_of-self
invariant_of-self c =
    let before = c.args.self.now in
    let e = emptied before.tins c.set.new.self c.args.tin c.set.ensures.compacted in
    record {
      many = before.many;
      few = before.few;
      compact = compacted_compact _ _ _ _ c.set.ensures.compacted;
      card = subst (AllOn (arities before.symbols.now)) (sym e) (set_on (arities before.symbols.now) (tin_trees before.tins) c.args.tin None before.card refl);
    }

pub returns : goal.returns
returns c =
    let before = c.args.self.now in
    let e = emptied before.tins c.set.new.self c.args.tin c.set.ensures.compacted in
    record {
      card = record { symbols = refl; rules = refl; room = c.set.ensures.capacity };
      cases = clear_done (tin_trees before.tins) (tin_trees c.set.new.self) c.args.tin c.if-tin-ge16.false e;
    }
