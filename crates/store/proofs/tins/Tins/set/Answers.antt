use Rattle.std.proofs.Common.{sym, ◌∙◌, subst, rules}
use Rattle.dag.specs.Roots.{RootsInUse}
use Rattle.dag.proofs.Invariant.{one_tree_each}
use Rattle.store.proofs.Rooted.{set_used}
use Rattle.store.proofs.tins.Tins.set.Goals as goal

pub compact-requires : goal.compact-requires
compact-requires c =
    record {
      long = c.args.self.now.long;
      roots = set_used c.args.self.now.table.count c.args.self.now.roots c.args.tin c.args.root c.args.self.now.used c.requires.used;
    }

pub invariant_of-self : goal.invariant_of-self
invariant_of-self c =
    let before = c.args.self.now in
    record {
      long = c.compact.ensures.long ∙ (before.long ∙ sym c.compact.ensures.capacity);
      sixteen = search rules;
      used = subst (λ n. RootsInUse n c.compact.new.roots) (one_tree_each c.compact.new.table) c.compact.ensures.compacted.roots_in_use;
    }
