use Rattle.std.proofs.Common.{ap, ◌∙◌, rules, tests}
use Rattle.std.proofs.lemmas.Iterator.{YieldsList-from_slice}
use Rattle.std.proofs.lemmas.Iterator.Search.{find_from_yields_List}
use Rattle.std.specs.Option.{option_map}
use Rattle.rewriting.specs.Matching.{matches}
use Rattle.explicit.specs.Meaning.{rule_of, term_of, tree_of}
use Rattle.matching.proofs.Children.{fitting_found, of_refs}
use Rattle.matching.proofs.rule.fitting.Goals as goal

pub returns : goal.returns
returns c =
    let t = tree_of c.args.tree.now in
    of_refs rule_of c.find.result
    ∙ ap (option_map rule_of) (find_from_yields_List (λ r. matches (term_of r.left) t) _ _ c.find.result c.find.ensures.ran (YieldsList-from_slice c.args.rules.now cc) (λ x b q k. search (rules, tests)))
    ∙ fitting_found t c.args.rules.now
