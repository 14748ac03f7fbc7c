use Rattle.std.proofs.Common.{◌≡◌, ◌-◌, ◌<◌, ◌≤◌, [], ◌∷◌, ◌++◌, length, get_or, subst, sym, arith}
use Rattle.std.proofs.lemmas.Iterator.Adapters.{YieldsList-from_rev_slice}
use Rattle.std.proofs.lemmas.Iterator.Consumers.{YieldsList-turn, YieldsList-end}
use Rattle.std.proofs.lemmas.List.{length_push, length-reverse}
use Rattle.card.specs.Records.{side_term}
use Rattle.card.specs.declared.record.Place.TheVariants.{Empty}
use Rattle.dag.proofs.Completed.{built, one_there}
use Rattle.dag.proofs.Underway.{building_goes_on, building_starts, building_stops, place_read, readable, Underway}
use Rattle.dag.specs.Places.{binding, Built, place_tree, Pushed, Readable, spelled_tree, taken}
use Rattle.dag.specs.Stacks.{records_on, stack_trees}
use Rattle.dag.specs.Tables.{Full, trees}
use Rattle.dag.proofs.build.build.Goals as goal
use Rattle.dag.proofs.build.build.Goals.{In-None, In-Some}
use Rattle.dag.proofs.build.build.Given.{Over}

pub loop-place-init : goal.loop-place-init
loop-place-init g c =
    let Σ = g.S.Signature.arities c.args.signature.now in
    let ps = c.args.places.now in
    let t = side_term Σ ps in
    let none : length ps ≡ length ps - 0 = omega arith in
    subst (Underway Σ t c.args.bindings.now c.args.table.now c.args.table.now c.new-stack.result) none
    (building_starts Σ ps t c.requires.spelled c.args.bindings.now c.args.table.now c.new-stack.result (omega (arith, c.new-stack.ensures.room, c.requires.room)) c.new-stack.ensures.empty)

-- the place that is read next
next : (g : Over) (c : In-Some g) → (length c.loop-place.yielded < length c.args.places.now)
    × (c.in-Some.place.now ≡ get_or c.args.places.now ((length c.args.places.now - length c.loop-place.yielded) - 1) Empty)
next g c =
    place_read c.args.places.now (length c.loop-place.yielded) c.in-Some.place.now
    (YieldsList-turn (YieldsList-from_rev_slice c.args.places.now cc) c.loop-place.yielded _ c.loop-place.yielded_by _ _ c.in-Some.place c.in-Some.is c.next.ensures.steps)

pub push_place-requires-clause-readable : goal.push_place-requires-clause-readable
push_place-requires-clause-readable g c =
    let Σ = g.S.Signature.arities c.args.signature.now in
    let ps = c.args.places.now in
    let k = next g (goal.at.push_place-requires-clause-readable g c).In-Some in
    subst (λ p. Readable Σ c.loop-place.table.count c.args.bindings.now p (length (records_on c.loop-place.stack))) (sym k.1)
    (readable Σ ps (side_term Σ ps) c.requires.spelled c.args.bindings.now c.args.table.now c.requires.bound c.loop-place.table c.loop-place.stack (length ps - length c.loop-place.yielded)
    c.loop-place.invariant (omega (arith, k.0)) (omega arith) c.requires.few)

pub loop-place-preserved : goal.loop-place-preserved
loop-place-preserved g c =
    let Σ = g.S.Signature.arities c.args.signature.now in
    let ps = c.args.places.now in
    let before = c.args.table.now in
    let t = c.loop-place.table in
    let stack = c.loop-place.stack in
    let bindings = c.args.bindings.now in
    let h = c.in-Some-push_place.ensures in
    let k = next g (goal.at.loop-place-preserved g c).In-Some in
    let one_less : (length ps - length c.loop-place.yielded) - 1 ≡ length ps - length (c.loop-place.yielded ++ (c.in-Some.place ∷ [])) = omega (arith, length_push c.loop-place.yielded c.in-Some.place) in
    let pushed = subst (λ p. Pushed t c.push_place.new.table stack c.push_place.new.stack (taken Σ p) (place_tree Σ (binding (trees t) bindings) p (stack_trees (trees t) stack))) k.1 h.cases in
    subst (Underway Σ (side_term Σ ps) bindings before c.push_place.new.table c.push_place.new.stack) one_less
    (building_goes_on Σ ps (side_term Σ ps) c.requires.spelled bindings before c.requires.bound t stack (length ps - length c.loop-place.yielded) c.loop-place.invariant
    (omega (arith, k.0)) (omega arith) c.push_place.new.table c.push_place.new.stack pushed h.capacity h.records)

pub returns-in_default-clause-cases : goal.returns-in_default-clause-cases
returns-in_default-clause-cases g c =
    let Σ = g.S.Signature.arities c.args.signature.now in
    let ps = c.args.places.now in
    let t = c.loop-place.table in
    let stack = c.loop-place.stack in
    let bindings = c.args.bindings.now in
    let k = next g (goal.at.returns-in_default-clause-cases g c).In-Some in
    let full = subst (λ p. Full t c.push_place.new.table (place_tree Σ (binding (trees t) bindings) p (stack_trees (trees t) stack))) k.1 c.in_default.ensures.cases in
    (building_stops Σ ps (side_term Σ ps) c.requires.spelled bindings c.args.table.now c.requires.bound t stack (length ps - length c.loop-place.yielded) c.loop-place.invariant
    (omega (arith, k.0)) (omega arith) c.push_place.new.table full c.truncate.new.self c.count-old.result c.count-old.ensures c.truncate.ensures.rows c.truncate.ensures.trees).2

-- all places were read
done : (g : Over) (c : In-None g) → length c.args.places.now - length c.loop-place.yielded ≤ 0
done g c =
    let ps = c.args.places.now in
    let all = YieldsList-end (YieldsList-from_rev_slice ps cc) c.loop-place.yielded _ c.loop-place.yielded_by _ _ c.in-None.is c.next.ensures.steps in
    omega (arith, all.1, length-reverse ps)

pub first-requires : goal.first-requires
first-requires g c =
    let Σ = g.S.Signature.arities c.args.signature.now in
    let ps = c.args.places.now in
    one_there Σ ps (side_term Σ ps) c.requires.spelled c.args.bindings.now c.args.table.now c.loop-place.table c.loop-place.stack (length ps - length c.loop-place.yielded) c.loop-place.invariant
    (done g (goal.at.first-requires g c).In-None)

pub returns-clause-cases : goal.returns-clause-cases
returns-clause-cases g c =
    let Σ = g.S.Signature.arities c.args.signature.now in
    let ps = c.args.places.now in
    let t = c.args.table.now in
    subst (Built t c.loop-place.table (spelled_tree Σ (trees t) c.args.bindings.now ps)) (sym c.first.ensures)
    (built Σ ps (side_term Σ ps) c.requires.spelled c.args.bindings.now t c.loop-place.table c.loop-place.stack (length ps - length c.loop-place.yielded) c.loop-place.invariant
    (done g (goal.at.returns-clause-cases g c).In-None))
