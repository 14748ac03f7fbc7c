use Rattle.rewriting.proofs.Walking.{subterms_list}
use Rattle.rewriting.proofs.subterms.sheet_order_lists_the_subterms.Goals as goal

pub returns : goal.returns
returns c = subterms_list
