use Rattle.std.proofs.Common.{take, ap, ◌∙◌}
use Rattle.std.proofs.lemmas.List.{take_min}
use Rattle.reading.proofs.limits.first_symbols.Goals as goal

pub returns-clause-first : goal.returns-clause-first
returns-clause-first c = let xs = c.args.symbols.now in ap (λ n. take n xs) c.min.ensures ∙ take_min 64 xs
