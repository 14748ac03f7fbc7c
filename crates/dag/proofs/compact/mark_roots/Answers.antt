use Rattle.std.proofs.Common.{◌≡◌, ◌<◌, ℕ, map, drop, true, false, List, [], Some, None, Option, length, get_or, sym, ap, ◌∙◌, subst, arith, rules}
use Rattle.std.specs.Borrow.{Bor}
use Rattle.std.specs.Iterator.{AlwaysYields}
use Rattle.std.specs.Iterator.Adapters.{option_iter_done, option_iter_item, option_iter_steps}
use Rattle.std.specs.declared.option.Iter.{OptionIter}
use Rattle.std.proofs.lemmas.Iterator.{YieldsList, YieldsList-from_slice}
use Rattle.std.proofs.lemmas.Iterator.Adapters.{YieldsList-from_flatten}
use Rattle.std.proofs.lemmas.Iterator.Consumers.{YieldsList-turn, YieldsList-end}
use Rattle.std.proofs.lemmas.List.{get_or_default, length_push}
use Rattle.rewriting.specs.Subterms.{walk, walks}
use Rattle.rewriting.specs.Terms.{Tree}
use Rattle.dag.specs.declared.walk.Walk.{Walk}
use Rattle.dag.specs.Roots.{root_trees, RootsWalked}
use Rattle.dag.specs.Tables.{trees}
use Rattle.dag.specs.Trees.{from_list, tree_at}
use Rattle.dag.specs.Walking.{walked_list}
use Rattle.dag.specs.Walks.{listed, Walked}
use Rattle.dag.proofs.Rooting.{root_record, root_records, roots_over}
use Rattle.dag.proofs.Visiting.{child_visited, children_visited}
use Rattle.dag.proofs.compact.mark_roots.Goals as goal
use Rattle.dag.proofs.compact.mark_roots.Goals.{In-Some, In-None}

spent : (j : OptionIter ℕ) → option_iter_done j ≡ true → AlwaysYields option_iter_steps (λ y. y.now) j []
spent j d x u h = let m = rw d at h.1 in cc

root_yields : (o : Option ℕ) (j : OptionIter ℕ) → option_iter_done j ≡ false → option_iter_item j ≡ o → YieldsList option_iter_steps (λ (y : Bor ℕ). y.now) j (root_record o)
root_yields None j d e = record { runs = λ x u h. let m = rw d at h.1 in cc }
root_yields (Some k) j d e = record { runs = (λ u h. let m = rw d at h.1 in cc, λ x u h. let m = rw d at h.1 in (cc, spent u h.0)) }

next : (c : In-Some) → (length c.loop-at.yielded < length (root_records c.args.roots.now)) × (c.in-Some.at.now ≡ get_or (root_records c.args.roots.now) (length c.loop-at.yielded) c.in-Some.at.now)
next c = YieldsList-turn (YieldsList-from_flatten _ _ (λ (y : Bor ℕ). y.now) root_record (λ x j b. root_yields x.now j (search rules) (search rules)) (YieldsList-from_slice c.args.roots.now (cc)) (cc) (cc) (cc)) c.loop-at.yielded _ c.loop-at.yielded_by _ _ c.in-Some.at c.in-Some.is c.next.ensures.steps

done : (c : In-None) → length c.loop-at.yielded ≡ length (root_records c.args.roots.now)
done c = (YieldsList-end (YieldsList-from_flatten _ _ (λ (y : Bor ℕ). y.now) root_record (λ x j b. root_yields x.now j (search rules) (search rules)) (YieldsList-from_slice c.args.roots.now (cc)) (cc) (cc) (cc)) c.loop-at.yielded _ c.loop-at.yielded_by _ _ c.in-None.is c.next.ensures.steps).1

pub loop-at-preserved : goal.loop-at-preserved
loop-at-preserved c =
    let ts = trees c.args.table.now in
    let ks = root_records c.args.roots.now in
    let h = c.loop-at.invariant in
    let k = next (goal.at.loop-at-preserved c).In-Some in
    let same = c.visit.ensures.same in
    let more = length_push c.loop-at.yielded c.in-Some.at in
    let at : c.in-Some.at.now ≡ get_or ks (length c.loop-at.yielded) 0 = k.1 ∙ get_or_default ks (length c.loop-at.yielded) c.in-Some.at.now 0 k.0 in (
      record { table = same.table ∙ h.0.table; marks = same.marks ∙ h.0.marks; order = same.order ∙ h.0.order },
      c.visit.ensures.walking,
      ap (λ n. walks (from_list (map (tree_at ts) (drop n ks))) (walked_list c.visit.new.self)) more
          ∙ child_visited ts ks (length c.loop-at.yielded) c.in-Some.at.now _ _ _ k.0 at h.2
          (c.visit.ensures.listed ∙ ap (λ x. walk (tree_at (trees x.now) c.in-Some.at.now) (walked_list c.loop-at.walk)) (h.0.table ∙ c.new-walk.ensures.table)),
    )

-- what a walk leaves in its tables
left_behind : (ts : List Tree) (roots : List (Option ℕ)) (marks order : List ℕ) (w : Walk) → marks ≡ w.marks.now → order ≡ w.order.now
    → Walked ts w.marks.now w.order.now w.count → listed ts w.order.now w.count ≡ walks (root_trees ts roots) [] → RootsWalked ts roots marks order
left_behind ts roots marks order w m o d e =
    record {
      count = w.count;
      walked = subst (λ x. Walked ts x order w.count) (sym m) (subst (λ x. Walked ts w.marks.now x w.count) (sym o) d);
      list = ap (λ x. listed ts x w.count) o ∙ e;
    }

pub returns : goal.returns
returns c =
    let ts = trees c.args.table.now in
    let roots = c.args.roots.now in
    let h = c.loop-at.invariant in
    let w = c.loop-at.walk in
    let t = h.0.table ∙ c.new-walk.ensures.table in
    let end = done (goal.at.returns c).In-None in
    left_behind ts roots _ _ w (search rules) (search rules) (subst (λ x. Walked (trees x.now) w.marks.now w.order.now w.count) t h.1)
    (ap (λ x. listed (trees x.now) w.order.now w.count) (sym t)
    ∙ (children_visited ts (root_records roots) (length c.loop-at.yielded) _ _ (omega (arith, end)) h.2 ∙ ap (λ x. walks x []) (sym (roots_over ts roots))))
