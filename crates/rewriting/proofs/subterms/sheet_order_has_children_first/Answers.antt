use Rattle.rewriting.proofs.Walking.{subterms_grown, grown_children_first}
use Rattle.rewriting.proofs.subterms.sheet_order_has_children_first.Goals as goal

pub returns : goal.returns
returns c = λ t. grown_children_first (subterms_grown t)
