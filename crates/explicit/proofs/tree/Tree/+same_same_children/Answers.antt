use Rattle.std.proofs.Common.{arith}
use Rattle.explicit.specs.declared.tree.Tree.{out-Tree}
use Rattle.explicit.proofs.Comparing.{other_count}
use Rattle.explicit.proofs.tree.Tree.+same_same_children.Goals as goal

pub same_children-returns-then-len : goal.same_children-returns-then-len
same_children-returns-then-len t c =
    let u = c.args.self.now in
    let v = c.args.other.now in
    other_count u v (λ e. c.if-len.true (omega (arith, e, c.len.ensures, c.len-2.ensures, (out-Tree u).children.ok.0, (out-Tree v).children.ok.0)))
