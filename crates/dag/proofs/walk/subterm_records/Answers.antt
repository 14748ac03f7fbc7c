use Rattle.std.proofs.Common.{◌∙◌, subst, arith, rules}
use Rattle.dag.specs.Tables.{trees}
use Rattle.dag.specs.Walks.{Walked}
use Rattle.dag.proofs.Invariant.{one_tree_each}
use Rattle.dag.proofs.Visiting.{listed_records, walked_few}
use Rattle.dag.proofs.walk.subterm_records.Goals as goal
use Rattle.dag.proofs.walk.subterm_records.Goals.{After-visit}

walked : (c : After-visit) → Walked (trees c.args.table.now) c.visit.new.self.marks.now c.visit.new.self.order.now c.visit.new.self.count
walked c =
    let w = c.visit.new.self in
    subst (λ x. Walked (trees x.now) w.marks.now w.order.now w.count) (c.visit.ensures.same.table ∙ c.new-walk.ensures.table) c.visit.ensures.walking

pub returns-clause-within : goal.returns-clause-within
returns-clause-within c =
    let few = walked_few _ _ _ _ (walked (goal.at.returns-clause-within c).After-visit) in
    omega (arith, one_tree_each c.args.table.now)

pub returns-clause-records : goal.returns-clause-records
returns-clause-records c =
    listed_records c.args.table.now _ _ _ _ (search rules) (walked (goal.at.returns-clause-records c).After-visit)
