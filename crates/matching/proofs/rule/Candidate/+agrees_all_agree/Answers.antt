use Rattle.std.proofs.Common.{◌∙◌, arith}
use Rattle.explicit.specs.declared.tree.Tree.{out-Tree}
use Rattle.matching.specs.Bindings.{bindings_of}
use Rattle.matching.proofs.Children.{other_count}
use Rattle.matching.proofs.rule.Candidate.+agrees_all_agree.Goals as goal

pub all_agree-returns-then-parts-len : goal.all_agree-returns-then-parts-len
all_agree-returns-then-parts-len t c =
    let u = c.args.tree.now in
    other_count (bindings_of c.args.self) c.args.parts.now u (λ e. c.if-parts-len.true (e ∙ omega (arith, c.len.ensures, (out-Tree u).children.ok.0)))
