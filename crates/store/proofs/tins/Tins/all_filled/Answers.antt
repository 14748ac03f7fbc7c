use Rattle.std.proofs.Common.{◌∙◌, sym, get_or, is_some, None, rules, tests}
use Rattle.std.proofs.lemmas.Iterator.{YieldsList-from_slice}
use Rattle.std.proofs.lemmas.Iterator.Search.{all_from_yields_List}
use Rattle.store.proofs.Sources.{all_filled_is}
use Rattle.store.proofs.tins.Tins.all_filled.Goals as goal

pub returns : goal.returns
returns c =
    let xs = c.args.sources.now in
    let roots = c.args.self.now.roots in
    all_from_yields_List (λ tin. is_some (get_or roots tin None)) _ _ c.all.result c.all.ensures.ran (YieldsList-from_slice xs cc) (λ x b q k. search (rules, tests)) ∙ sym (all_filled_is roots xs)
