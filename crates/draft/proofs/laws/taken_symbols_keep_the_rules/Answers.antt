use Rattle.draft.proofs.Kept.{symbol_keeps}
use Rattle.draft.proofs.laws.taken_symbols_keep_the_rules.Goals as goal

pub returns : goal.returns
returns c = symbol_keeps
