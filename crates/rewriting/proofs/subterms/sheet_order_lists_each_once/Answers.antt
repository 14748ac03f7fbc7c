use Rattle.rewriting.proofs.Walking.{subterms_grown, grown_distinct}
use Rattle.rewriting.proofs.subterms.sheet_order_lists_each_once.Goals as goal

pub returns : goal.returns
returns c = λ t. grown_distinct (subterms_grown t)
