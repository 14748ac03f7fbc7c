use Rattle.std.proofs.Common.{◌≡◌, take, ◌∙◌, subst}
use Rattle.rewriting.specs.Terms.{node}
use Rattle.dag.specs.Stacks.{records_on, stack_trees}
use Rattle.dag.specs.Tables.{Full, Interned, node_tree, trees}
use Rattle.dag.specs.Trees.{from_list}
use Rattle.dag.proofs.Stacking.{over_top, pushed}
use Rattle.dag.proofs.build.push_symbol.Goals as goal
use Rattle.dag.proofs.build.push_symbol.Goals.{In_ok-node}

-- the node's tree is the symbol over the topmost trees
over : (c : In_ok-node) → node_tree c.args.table.now c.in_ok-node.node ≡ node c.args.symbol (from_list (take c.args.arity (stack_trees (trees c.args.table.now) c.args.stack.now)))
over c =
    let n = c.in_ok-node.ensures in
    over_top c.args.table.now (records_on c.args.stack.now) c.in_ok-node.node c.args.symbol c.args.arity n.0 (n.1 ∙ c.topmost.ensures)

pub returns-in_err-record : goal.returns-in_err-record
returns-in_err-record c =
    let h = c.in_err-record.ensures in
    record {
      capacity = h.capacity;
      records = h.records;
      cases = rw c.from_residual-in_err-record.ensures (subst (Full c.args.table.now c.intern.new.self) (over (goal.at.returns-in_err-record c).In_ok-node) h.cases);
    }

pub returns : goal.returns
returns c =
    let before = c.args.table.now in
    let after = c.intern.new.self in
    let h = c.in_ok-record.ensures in
    record {
      capacity = h.capacity;
      records = h.records;
      cases =
          pushed before after _ c.args.stack.now c.replace.new.self c.args.arity c.in_ok-record.record c.requires.records
          (subst (λ t. Interned before after t c.in_ok-record.record) (over (goal.at.returns c).In_ok-node) h.cases) c.replace.ensures.room c.replace.ensures.records;
    }
