use Rattle.sheet.proofs.SheetLaws.{same_sheet_same_tree}
use Rattle.sheet.proofs.laws.same_sheet_same_tree.Goals as goal

pub returns : goal.returns
returns c = same_sheet_same_tree
