use Rattle.std.proofs.Common.{not, ap, ◌∙◌, rules, tests}
use Rattle.std.proofs.lemmas.Iterator.{YieldsList-from_slice}
use Rattle.std.proofs.lemmas.Iterator.Search.{any_from_yields_List}
use Rattle.rewriting.specs.Terms.{Tree}
use Rattle.rewriting.specs.Sites.{proper}
use Rattle.explicit.specs.Meaning.{tree_of}
use Rattle.sites.proofs.Chains.{any_is}
use Rattle.sites.proofs.site.is_inner.Goals as goal

pub returns : goal.returns
returns c =
    let p = λ (u : Tree). proper u (tree_of c.args.tree.now) in
    ap not (any_from_yields_List (λ u. p (tree_of u.now)) _ _ c.any.result c.any.ensures.ran (YieldsList-from_slice c.args.redexes.now cc) (λ x b q k. search (rules, tests))
    ∙ any_is p c.args.redexes.now)
