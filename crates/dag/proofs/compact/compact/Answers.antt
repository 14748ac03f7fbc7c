use Rattle.std.proofs.Common.{sym, subst, arith}
use Rattle.dag.specs.Roots.{RootsInUse, Slid}
use Rattle.dag.specs.Tables.{trees}
use Rattle.dag.proofs.Compacting.{children_marked, compacted}
use Rattle.dag.proofs.Invariant.{distinct_trees, one_tree_each}
use Rattle.dag.proofs.compact.compact.Goals as goal

pub slide-requires : goal.slide-requires
slide-requires c =
    let t = c.args.table.now in
    record {
      sizes = (omega (arith, c.mark_roots.auto.marks, c.requires.sizes.0), c.requires.sizes.2);
      marked = children_marked t _ _ _ c.mark_roots.ensures.walked;
    }

pub returns : goal.returns
returns c =
    let t = c.args.table.now in
    let ts = trees t in
    let w = c.mark_roots.ensures in
    record {
      clear = c.drop-guard.ensures;
      capacity = c.slide.ensures.capacity;
      compacted =
          compacted ts c.args.roots.now c.mark_roots.new.marks c.mark_roots.new.order w.count w.walked
          w.list (subst (λ n. RootsInUse n c.args.roots.now) (sym (one_tree_each t)) c.requires.roots) (trees c.slide.new.table) c.slide.new.numbers
          (subst (λ n. Slid ts c.mark_roots.new.marks n (trees c.slide.new.table) c.slide.new.numbers) (sym (one_tree_each t)) c.slide.ensures.slid)
          (distinct_trees c.slide.new.table) c.renumber_roots.new.roots c.renumber_roots.auto.roots c.renumber_roots.ensures;
    }
