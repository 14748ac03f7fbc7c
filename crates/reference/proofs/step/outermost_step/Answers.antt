use Rattle.std.proofs.Common.{◌∙◌, sym, ap, map, refl}
use Rattle.explicit.specs.Meaning.{card_of, tree_of, listed}
use Rattle.rewriting.specs.Runs.{outermost}
use Rattle.rewriting.specs.Sites.{replace}
use Rattle.sites.specs.Records.{site_of}
use Rattle.reference.proofs.Choosing.{no_redex, no_site, steps}
use Rattle.reference.proofs.step.outermost_step.Goals as goal
use Rattle.reference.proofs.step.outermost_step.Goals.{in_default-via-in-Some+in_default, in_default-via-in_default}

pub returns-in_default : goal.returns-in_default
returns-in_default c =
    let C = card_of c.args.card.now in
    let t = tree_of c.args.tree.now in
    let all = ap listed c.deref-2.ensures.value ∙ c.in_ok-redexes.ensures in
    let made = ap (map site_of) c.deref-3.ensures.value ∙ c.in_ok-sites.ensures in
    let is = c.outermost-place.ensures ∙ ap (λ ks. outermost (map site_of ks)) (c.deref.ensures.value ∙ sym c.deref-3.ensures.value) in
    elim c.in_default.branch [
      | in_default-via-in-Some+in_default w ↦ no_site C t c.deref-2.result.now all c.deref-3.result.now made c.outermost-place.result is w.in_default.ensures'.lookup.3
      | in_default-via-in_default w ↦ no_redex C t c.deref-2.result.now all c.deref-3.result.now made c.outermost-place.result is w.in_default.ensures.lookup.3
    ]

pub returns : goal.returns
returns c =
    let C = card_of c.args.card.now in
    let t = tree_of c.args.tree.now in
    let redex = c.in-Some-Some.ensures.lookup in
    let site = c.in-Some-Some.ensures'.lookup in
    let all = ap listed c.deref-2.ensures.value ∙ c.in_ok-redexes.ensures in
    let made = ap (map site_of) c.deref-3.ensures.value ∙ c.in_ok-sites.ensures in
    let is = c.outermost-place.ensures ∙ ap (λ ks. outermost (map site_of ks)) (c.deref.ensures.value ∙ sym c.deref-3.ensures.value) in
    let u = c.in-Some-Some.field-0-0.now in
    steps C t c.deref-2.result.now all c.deref-3.result.now made c.outermost-place.result is
    u c.in-Some-Some.site.now redex.3.0 redex.1 site.1 _ refl c.in_ok-clone.ensures.cases
    (c.in_ok-replace.ensures ∙ ap (λ v. replace (tree_of u.now) v t) c.in_ok-by.ensures)
