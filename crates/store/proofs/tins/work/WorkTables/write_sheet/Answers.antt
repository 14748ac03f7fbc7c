use Rattle.std.proofs.Common.{◌≡◌, ℕ, ◌<◌, ◌≤◌, List, length, take, sym, ap, ◌∙◌, subst, arith, length-take, MatchOption, rules}
use Rattle.std.specs.List.{AllByRecursion}
use Rattle.std.proofs.ByRecursion.{All-weaker}
use Rattle.std.proofs.lemmas.List.{with_items_is}
use Rattle.card.specs.Records.{name_of}
use Rattle.rewriting.specs.Subterms.{subterms}
use Rattle.sheet.specs.Texts.{PutAtFront}
use Rattle.dag.specs.Tables.{trees}
use Rattle.dag.specs.Trees.{tree_at}
use Rattle.store.specs.Printing.{NumberedTo, trees_at}
use Rattle.store.proofs.Listed.{each_once, numbered_ready, root_listed, sheet_is}
use Rattle.store.proofs.tins.work.WorkTables.write_sheet.Goals as goal
use Rattle.store.proofs.tins.work.WorkTables.write_sheet.Goals.{After-as_slice, After-as_slice-2}

-- the records of the tree's subterms
module _ (c : After-as_slice) where
  abbrev order : List ℕ
  order = take c.subterm_records-count.result c.as_slice.result.now

  same_order : c.as_slice.result.now ≡ c.subterm_records-count.new.order
  same_order =
      let long : length c.subterm_records-count.new.order ≡ c.args.self.now.order.len = search rules in
      c.as_slice.ensures.value ∙ with_items_is c.args.self.now.order c.subterm_records-count.new.order long

  inside : AllByRecursion (λ k. k < c.args.table.now.count) order
  inside =
      subst (λ xs. AllByRecursion (λ k. k < c.args.table.now.count) (take c.subterm_records-count.result xs)) (sym same_order) c.subterm_records-count.ensures.records

  listed : trees_at c.args.table.now order ≡ subterms (tree_at (trees c.args.table.now) c.args.at)
  listed = ap (λ xs. trees_at c.args.table.now (take c.subterm_records-count.result xs)) same_order ∙ c.subterm_records-count.ensures.listed

  few : length order ≤ 4096
  few =
      let t = c.args.table.now in
      omega (arith, length-take c.subterm_records-count.result c.as_slice.result.now, c.subterm_records-count.ensures.within, t.valid.fits, t.rows.ok.0, t.small)

pub number_records-requires : goal.number_records-requires
number_records-requires c =
    let d = (goal.at.number_records-requires c).After-as_slice in
    let t = c.args.table.now in
    let w = c.args.self.now in
    let long : t.count ≤ length c.as_mut_slice-2.result.now = omega (arith, t.valid.fits, t.rows.ok.0, c.requires.long, w.numbers_long, c.as_mut_slice-2.ensures.len) in
    record {
      inside = All-weaker (λ k. k < t.count) (λ k. k < length c.as_mut_slice-2.result.now) (λ x h. omega (arith, long)) (order d) (inside d);
      once = each_once t (tree_at (trees t) c.args.at) (order d) (listed d);
      few = few d;
    }

pub invariant_of-listing : goal.invariant_of-listing
invariant_of-listing c =
    let d = (goal.at.invariant_of-listing c).After-as_slice in
    let t = c.args.table.now in
    let w = c.args.self.now in
    let numbers = c.number_records.new.numbers in
    let as_many : length numbers ≡ w.numbers.len = search rules in
    let same : c.as_slice-2.result.now ≡ numbers = c.as_slice-2.ensures.value ∙ with_items_is w.numbers numbers as_many in
    let long : t.count ≤ length c.as_slice-2.result.now = omega (arith, t.valid.fits, t.rows.ok.0, c.requires.long, w.numbers_long, as_many, ap length same) in
    record {
      ready =
          numbered_ready t (tree_at (trees t) c.args.at) (order d) (listed d) c.as_slice-2.result.now (inside d) (few d) long
          (subst (NumberedTo (length (order d)) (order d)) (sym same) c.number_records.ensures);
    }

pub write-requires : goal.write-requires
write-requires c =
    let d = (goal.at.write-requires c).After-as_slice in
    root_listed c.args.table.now (tree_at (trees c.args.table.now) c.args.at) (order d) (listed d)

pub returns-clause-sheet : goal.returns-clause-sheet
returns-clause-sheet c =
    let d = (goal.at.returns-clause-sheet c).After-as_slice in
    let t = c.args.table.now in
    subst (λ text. MatchOption c.write.result ((length c.args.out.now < length text) × (c.write.new.out ≡ c.args.out.now)) (λ n. PutAtFront text n c.args.out.now c.write.new.out))
    (sheet_is t (tree_at (trees t) c.args.at) (order d) (listed d) (name_of c.args.symbols.now)) c.write.ensures
