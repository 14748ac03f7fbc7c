use Rattle.std.proofs.Common.{arith}
use Rattle.draft.proofs.laws.kept_drafts_are_not_let_go.Goals as goal

pub returns : goal.returns
returns c = λ ss rs m n k more. omega (arith, k.few_symbols)
