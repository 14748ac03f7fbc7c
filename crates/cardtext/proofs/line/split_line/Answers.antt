use Rattle.std.proofs.Common.{sym, ◌∙◌}
use Rattle.std.proofs.lemmas.List.{take_rest}
use Rattle.cardtext.proofs.Splitting.{first_line_before, one_line}
use Rattle.cardtext.proofs.line.split_line.Goals as goal

pub returns-in-Some-clause-first : goal.returns-in-Some-clause-first
returns-in-Some-clause-first c =
    rw take_rest (first_line_before c.args.text.now c.in-Some.n (sym c.line_end.ensures ∙ c.in-Some.is))

pub returns-in-None-clause-first : goal.returns-in-None-clause-first
returns-in-None-clause-first c = one_line c.args.text.now c.requires (sym c.line_end.ensures ∙ c.in-None.is)
