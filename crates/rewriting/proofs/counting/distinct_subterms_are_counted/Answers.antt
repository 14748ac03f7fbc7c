use Rattle.rewriting.proofs.Counts.{subterms_counted}
use Rattle.rewriting.proofs.counting.distinct_subterms_are_counted.Goals as goal

pub returns : goal.returns
returns c = subterms_counted
