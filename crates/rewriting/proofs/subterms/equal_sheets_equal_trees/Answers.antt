use Rattle.rewriting.proofs.Sheets.{equal_sheets}
use Rattle.rewriting.proofs.subterms.equal_sheets_equal_trees.Goals as goal

pub returns : goal.returns
returns c = equal_sheets
