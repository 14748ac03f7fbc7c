use Rattle.std.proofs.Common.{[]}
use Rattle.rewriting.proofs.Walking.{walk_firsts, subterms_last}
use Rattle.rewriting.proofs.subterms.sheet_order_is_first_finished.Goals as goal

pub returns : goal.returns
returns c = λ t. (walk_firsts t [], subterms_last t)
