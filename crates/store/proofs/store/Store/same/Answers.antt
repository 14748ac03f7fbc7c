use Rattle.std.proofs.Common.{Some, sym, ◌∙◌}
use Rattle.std.proofs.lemmas.Bool.{ltb-true}
use Rattle.store.proofs.Comparing.{both_there}
use Rattle.store.proofs.Settled.{root_used}
use Rattle.store.proofs.store.Store.same.Goals as goal

pub returns : goal.returns
returns c =
    let tins = c.args.self.now.tins in
    let x = c.in_ok-left.left in
    let y = c.in_ok-right.right in
    let left = sym c.in_ok-left.ensures.ok_part ∙ c.root.ensures in
    let right = sym c.in_ok-right.ensures.ok_part ∙ c.root-2.ensures in
    both_there tins c.args.left c.args.right c.if-left-ge16.false c.if-right-ge16.false x y
    (ltb-true x tins.table.count (root_used tins c.args.left (Some x) c.if-left-ge16.false left))
    (ltb-true y tins.table.count (root_used tins c.args.right (Some y) c.if-right-ge16.false right))
    left right
