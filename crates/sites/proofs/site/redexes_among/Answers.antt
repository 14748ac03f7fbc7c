use Rattle.std.proofs.Common.{◌≡◌, filter, IfOk, ◌∙◌, ap, rules}
use Rattle.std.proofs.lemmas.Result.{IfOk-weaker}
use Rattle.rewriting.specs.Sites.{redex}
use Rattle.explicit.specs.Meaning.{card_of, tree_of, listed}
use Rattle.sites.proofs.Chains.{keep_is}
use Rattle.sites.proofs.site.redexes_among.Goals as goal

pub returns : goal.returns
returns c =
    let C = card_of c.args.card.now in
    let made : IfOk c.collect.result (λ v. v.items ≡ filter (λ u. redex C (tree_of u.now)) c.args.list.now) = search rules in
    IfOk-weaker c.collect.result _ _ (λ v h. ap listed h ∙ keep_is (redex C) c.args.list.now) made
