use Rattle.std.proofs.Common.{sym, ap, ◌∙◌, rules, tests, suc, length, not, add-one}
use Rattle.std.specs.List.{position_or_len}
use Rattle.std.proofs.lemmas.List.Sums.{prefix_len-le-length}
use Rattle.std.proofs.lemmas.Iterator.{YieldsList-from_slice}
use Rattle.std.proofs.lemmas.Iterator.Search.{position_from_yields_List}
use Rattle.rewriting.specs.Terms.{same}
use Rattle.explicit.specs.Meaning.{tree_of}
use Rattle.listing.proofs.Searches.{place_is, place_or_length}
use Rattle.listing.proofs.sheet.number_of.Goals as goal

pub returns : goal.returns
returns c =
    let t = c.args.tree.now in
    let us = c.args.order.now in
    let found = position_from_yields_List (λ u. same (tree_of t) (tree_of u.now)) _ _ c.position-place.result c.position-place.ensures.ran (YieldsList-from_slice us cc) (λ x b q k. search (rules, tests)) in
    add-one _ ∙ ap suc (c.unwrap_or.ensures ∙ place_or_length (position_or_len (λ u. same (tree_of t) (tree_of u.now)) us) (length us) found (prefix_len-le-length (λ u. not (same (tree_of t) (tree_of u.now))) us) ∙ sym (place_is t us))
