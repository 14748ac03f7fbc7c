use Rattle.std.proofs.Common.{vec_items, sym, refl, ap, ◌∙◌, ⊎_elim, arith}
use Rattle.std.proofs.lemmas.Bool.{cases_lt}
use Rattle.std.proofs.lemmas.List.{take_all}
use Rattle.dag.specs.Tables.{trees}
use Rattle.dag.specs.Trees.{table_trees}
use Rattle.dag.proofs.Invariant.{one_tree_each, trees_take}
use Rattle.dag.proofs.table.Table.truncate.Goals as goal

pub returns : goal.returns
returns c =
    let t = c.args.self.now in
    let rows = vec_items t.rows in
    record {
      rows = refl;
      trees =
          ⊎_elim
          (λ l. ap (table_trees rows) (c.min-self.ensures ∙ omega arith) ∙ trees_take rows c.args.count t.count (omega arith) t.valid.fits)
          (λ l. ap (table_trees rows) (c.min-self.ensures ∙ omega arith) ∙ sym (take_all c.args.count (trees t) (omega (arith, one_tree_each t))))
          (cases_lt c.args.count t.count);
    }
