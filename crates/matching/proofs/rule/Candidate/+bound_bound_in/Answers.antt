use Rattle.std.proofs.Common.{sym, ◌∙◌}
use Rattle.std.proofs.lemmas.Slice.Zip.{either_empty_from_Zip}
use Rattle.matching.proofs.Children.{none_bound}
use Rattle.matching.proofs.rule.Candidate.+bound_bound_in.Goals as goal

pub bound_in-returns : goal.bound_in-returns
bound_in-returns t c =
    sym (none_bound _ _ c.args.variable (either_empty_from_Zip c.loop-left.left-iterator c.next.new.self c.next.result c.in-None.is c.next.ensures.steps)) ∙ c.loop-left.invariant
