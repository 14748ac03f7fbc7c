use Rattle.std.proofs.Common.{ap, ◌∙◌, unwrap_or, rules, tests}
use Rattle.std.proofs.lemmas.Iterator.{YieldsList-from_slice}
use Rattle.std.proofs.lemmas.Iterator.Adapters.{position_from-zero}
use Rattle.std.proofs.lemmas.Iterator.Search.{position_from_yields_List}
use Rattle.sites.proofs.Chains.{first_is}
use Rattle.sites.proofs.site.outermost.Goals as goal

pub returns : goal.returns
returns c =
    let ks = c.args.sites.now in
    c.unwrap_or.ensures
    ∙ ap (λ o. unwrap_or o 0)
    (position_from_yields_List (λ k. k.outer) _ _ c.position.result c.position.ensures.ran (YieldsList-from_slice ks cc) (λ x b q k. search (rules, tests))
    ∙ position_from-zero (λ k. k.outer) ks ∙ first_is 0 ks)
