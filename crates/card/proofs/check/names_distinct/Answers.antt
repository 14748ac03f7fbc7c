use Rattle.std.proofs.Common.{rules, tests}
use Rattle.std.proofs.lemmas.Bool.Decides.{Decides-at}
use Rattle.std.proofs.lemmas.Iterator.{YieldsList-from_slice}
use Rattle.std.proofs.lemmas.Iterator.Consumers.{YieldsList-from_enumerate}
use Rattle.std.proofs.lemmas.Iterator.Search.{all_from_yields_List}
use Rattle.card.proofs.Finding.{found_there, names_told}
use Rattle.card.proofs.check.names_distinct.Goals as goal

pub returns : goal.returns
returns c =
    let ss = c.args.symbols.now in
    Decides-at c.all.result _
    (all_from_yields_List (found_there ss) _ _ c.all.result c.all.ensures.ran
    (YieldsList-from_enumerate (YieldsList-from_slice ss (cc)) (cc)) (λ x b q k. search (rules, tests)))
    (names_told ss)
