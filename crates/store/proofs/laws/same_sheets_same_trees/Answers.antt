use Rattle.store.proofs.StoreLaws.{same_sheets_same_trees}
use Rattle.store.proofs.laws.same_sheets_same_trees.Goals as goal

pub returns : goal.returns
returns c = same_sheets_same_trees
