use Rattle.std.proofs.Common.{◌∙◌, sym, rules, tests}
use Rattle.std.proofs.lemmas.Iterator.{YieldsList-from_slice}
use Rattle.std.proofs.lemmas.Iterator.Search.{all_from_yields_List}
use Rattle.store.proofs.Sources.{all_tins_is}
use Rattle.store.specs.Results.{is_tin}
use Rattle.store.proofs.tins.sources.all_tins.Goals as goal

pub returns : goal.returns
returns c =
    let xs = c.args.sources.now in
    all_from_yields_List is_tin _ _ c.all.result c.all.ensures.ran (YieldsList-from_slice xs cc) (λ x b q k. search (rules, tests)) ∙ sym (all_tins_is xs)
