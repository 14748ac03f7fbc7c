use Rattle.std.proofs.Common.{rules, tests}
use Rattle.std.proofs.lemmas.Bool.Decides.{Decides-at}
use Rattle.std.proofs.lemmas.Iterator.{YieldsList-from_slice}
use Rattle.std.proofs.lemmas.Iterator.Consumers.{YieldsList-from_filter_map}
use Rattle.std.proofs.lemmas.Iterator.Search.{all_from_yields_List}
use Rattle.card.specs.Scans.{mentions, variable_of}
use Rattle.card.proofs.Rules.{within_told}
use Rattle.card.proofs.check.variables_within.Goals as goal

pub returns : goal.returns
returns c =
    let inner = c.args.inner.now in
    let outer = c.args.outer.now in
    Decides-at c.all.result _
    (all_from_yields_List (λ v. mentions v outer) _ _ c.all.result c.all.ensures.ran
    (YieldsList-from_filter_map _ variable_of (YieldsList-from_slice inner (cc)) (cc) (λ x r q k. search rules))
    (λ x b q k. search (rules, tests)))
    (within_told inner outer)
