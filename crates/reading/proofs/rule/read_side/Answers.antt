use Rattle.std.proofs.Common.{ap, subst, arith}
use Rattle.reading.specs.Scanning.{Grammar}
use Rattle.reading.specs.Lines.{SideRead}
use Rattle.reading.proofs.RuleLines.{side_read}
use Rattle.reading.proofs.rule.read_side.Goals as goal

pub returns : goal.returns
returns g c =
    let e = c.side_grammar-grammar.ensures in
    subst (λ G. SideRead G (g.S.Source.rest c.args.src.now) (g.S.Source.rest c.read_term.new.src) c.read_term.new.out) e
    (side_read _ c.in_ok-read_term.field-0 c.read_term.new.out _ _ (omega arith) (ap (λ (G : Grammar). G.places) e) c.in_ok-read_term.ensures)
