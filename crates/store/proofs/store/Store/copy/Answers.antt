use Rattle.std.proofs.Common.{◌≡◌, true, Some, sym, refl, ap, ◌∙◌, subst}
use Rattle.card.specs.Records.{arities}
use Rattle.dag.specs.Roots.{held}
use Rattle.dag.specs.Tables.{trees}
use Rattle.dag.specs.Trees.{tree_at}
use Rattle.dag.proofs.Keeping.{compacted_compact}
use Rattle.store.specs.Holding.{tin_trees}
use Rattle.store.specs.OnCard.{tin_on}
use Rattle.store.proofs.Placing.{AllOn, set_on}
use Rattle.store.proofs.Outcomes.{copy_done}
use Rattle.store.proofs.Settled.{set_alone, tin_held, tin_inside}
use Rattle.store.proofs.store.Store.copy.Goals as goal

pub invariant_of-self : goal.invariant_of-self
invariant_of-self c =
    let before = c.args.self.now in
    let e = set_alone before.tins c.set.new.self c.args.target (Some c.in_ok-at.at) c.set.ensures.compacted in
    let t = Some (tree_at (trees before.tins.table) c.in_ok-at.at) in
    let there = tin_held before.tins c.args.source c.if-source-ge16.false ∙ ap (held (trees before.tins.table)) (sym (sym c.in_ok-at.ensures.ok_part ∙ c.root.ensures)) in
    let on = subst (λ o. tin_on (arities before.symbols.now) o ≡ true) there (before.card c.args.source (tin_inside before.tins c.args.source c.if-source-ge16.false)) in
    record {
      many = before.many;
      few = before.few;
      compact = compacted_compact _ _ _ _ c.set.ensures.compacted;
      card = subst (AllOn (arities before.symbols.now)) (sym e) (set_on (arities before.symbols.now) (tin_trees before.tins) c.args.target t before.card on);
    }

pub returns : goal.returns
returns c =
    let before = c.args.self.now in
    let there = tin_held before.tins c.args.source c.if-source-ge16.false ∙ ap (held (trees before.tins.table)) (sym (sym c.in_ok-at.ensures.ok_part ∙ c.root.ensures)) in
    record {
      card = record { symbols = refl; rules = refl; room = c.set.ensures.capacity };
      cases = copy_done (tin_trees before.tins) c.args.target c.args.source c.if-target-ge16.false c.if-source-ge16.false (tin_trees c.set.new.self) (tree_at (trees before.tins.table) c.in_ok-at.at) there
          (set_alone before.tins c.set.new.self c.args.target (Some c.in_ok-at.at) c.set.ensures.compacted);
    }
