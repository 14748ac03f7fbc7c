use Rattle.store.proofs.StoreLaws.{one_record_for_each_subterm}
use Rattle.store.proofs.laws.one_record_for_each_subterm.Goals as goal

pub returns : goal.returns
returns c = one_record_for_each_subterm
