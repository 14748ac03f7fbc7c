use Rattle.std.proofs.Common.{take, vec_items, sym, refl, ap, ◌∙◌, arith}
use mathlib.Core.List.Memᴰ
use Rattle.std.proofs.lemmas.List.{get_or_push, take-set}
use Rattle.dag.specs.Tables.{node_tree, trees}
use Rattle.dag.specs.Trees.{blank_tree, tree_at}
use Rattle.dag.proofs.Adding.{add_new, add_old}
use Rattle.dag.proofs.Invariant.{one_tree_each, record_mem}
use Rattle.dag.proofs.table.Table.intern.Goals as goal

pub returns-in-Some : goal.returns-in-Some
returns-in-Some c =
    let t = c.args.self.now in
    let s = node_tree t c.args.node in
    let h = c.in-Some.ensures in
    record {
      capacity = refl;
      records = refl;
      cases = record { added = sym (add_old s (trees t) (Memᴰ.cast (sym h.1) (record_mem t c.in-Some.at h.0))); holds = h };
    }

pub returns : goal.returns
returns c =
    let t = c.args.self.now in
    let s = node_tree t c.args.node in
    let e = c.append.ensures in
    record {
      capacity = e.capacity;
      records = ap (take t.count) e.rows ∙ take-set (vec_items t.rows) t.count c.args.node.row;
      cases =
          record {
            added = e.trees ∙ sym (add_new s (trees t) c.in_default.ensures);
            holds = (
              omega (arith, e.at, e.count),
              ap (tree_at (trees c.append.new.self)) e.at
                  ∙ (ap (λ ts. tree_at ts t.count) e.trees ∙ get_or_push (trees t) s blank_tree t.count (one_tree_each t)),
            );
          };
    }
