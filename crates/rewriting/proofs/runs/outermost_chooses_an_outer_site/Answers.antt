use Rattle.rewriting.proofs.Choosing.{outermost_chooses, outermost_is_outer}
use Rattle.rewriting.proofs.runs.outermost_chooses_an_outer_site.Goals as goal

pub returns : goal.returns
returns c = (outermost_chooses, outermost_is_outer)
