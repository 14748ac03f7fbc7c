use Rattle.std.proofs.Common.{◌≡◌, refl, sym, ◌∙◌, rules, tests}
use Rattle.std.specs.List.{list_any}
use Rattle.std.proofs.lemmas.Iterator.{YieldsList-from_slice}
use Rattle.std.proofs.lemmas.Iterator.Search.{any_from_yields_List}
use Rattle.rewriting.specs.Terms.{same}
use Rattle.explicit.specs.Meaning.{tree_of}
use Rattle.listing.proofs.Searches.{is_there, is_added}
use Rattle.listing.proofs.subterm.+walk.Goals as goal

pub returns-in_ok-push : goal.returns-in_ok-push
returns-in_ok-push t c =
    let found : c.any.result ≡ list_any (λ u. same (tree_of c.args.tree.now) (tree_of u.now)) c.deref.result.now =
    any_from_yields_List (λ u. same (tree_of c.args.tree.now) (tree_of u.now)) _ _ c.any.result c.any.ensures.ran (YieldsList-from_slice c.deref.result.now cc) (λ x b q k. search (rules, tests)) in
    is_added c.args.tree.now c.deref-child-items.result.now c.deref-child-items.ensures.value c.loop-child.child-index c.args.seen.now.items c.loop-child.seen.items
    c.loop-child-test.false c.loop-child.invariant c.deref.result.now c.args.tree c.deref.ensures.value (sym c.if-not-any.true ∙ found) refl c.in_ok-push.ensures.items

pub returns-else-not-any : goal.returns-else-not-any
returns-else-not-any t c =
    let found : c.any.result ≡ list_any (λ u. same (tree_of c.args.tree.now) (tree_of u.now)) c.deref.result.now =
    any_from_yields_List (λ u. same (tree_of c.args.tree.now) (tree_of u.now)) _ _ c.any.result c.any.ensures.ran (YieldsList-from_slice c.deref.result.now cc) (λ x b q k. search (rules, tests)) in
    is_there c.args.tree.now c.deref-child-items.result.now c.deref-child-items.ensures.value c.loop-child.child-index c.args.seen.now.items c.loop-child.seen.items
    c.loop-child-test.false c.loop-child.invariant c.deref.result.now c.deref.ensures.value (sym c.if-not-any.false ∙ found)
