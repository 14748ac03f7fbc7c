use Rattle.std.proofs.Common.{◌≡◌, take, vec_items, MatchOption, rules}
use mathlib.Core.List.{Memᴰ}
use Rattle.std.proofs.lemmas.Iterator.{IsFirst-from_position, YieldsList-from_slice}
use Rattle.dag.specs.Tables.{Holds, node_tree, trees}
use Rattle.dag.proofs.Invariant.{first_row_found}
use Rattle.dag.proofs.table.Table.find.Goals as goal
use Rattle.dag.proofs.table.Table.find.Goals.{After-position}

found : (c : After-position) → MatchOption c.position.result (Memᴰ (node_tree c.args.self.now c.args.node) (trees c.args.self.now) → ⊥)
    (λ k. Holds c.args.self.now k (node_tree c.args.self.now c.args.node))
found c =
    let t = c.args.self.now in
    let row = c.args.node.row in
    let rows = take t.count (vec_items t.rows) in
    first_row_found t c.args.node c.requires c.position.result
    (IsFirst-from_position _ _ c.position.result (λ q. q ≡ row) (λ q. q ≡ row → ⊥) c.position.ensures.ran (YieldsList-from_slice rows cc) (λ x q k. search rules) (λ x q k. search rules))

pub returns-in_err-at : goal.returns-in_err-at
returns-in_err-at c =
    let h = found (goal.at.returns-in_err-at c).After-position in
    rw c.from_residual.ensures (rw c.in_err-at.was at h)

pub returns : goal.returns
returns c =
    let h = found (goal.at.returns c).After-position in
    rw c.in_ok-at.was at h
