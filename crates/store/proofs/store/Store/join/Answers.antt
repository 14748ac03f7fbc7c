use Rattle.std.proofs.Common.{◌<◌, ◌≤◌, length, Some, None, Err, sym, refl, ap, ◌∙◌, subst}
use Rattle.std.proofs.lemmas.Result.{err_from_is_err_and}
use Rattle.rewriting.specs.Terms.{node}
use Rattle.rewriting.specs.Subterms.{walk}
use Rattle.card.specs.Records.{arities}
use Rattle.card.specs.declared.refusal.Refusal.TheVariants.{NoRoom, UnknownName}
use Rattle.dag.specs.declared.table.Table.{Table}
use Rattle.dag.specs.Tables.{capacity, Holds, trees}
use Rattle.dag.proofs.Keeping.{compacted_compact}
use Rattle.store.specs.Holding.{tin_trees, room}
use Rattle.store.specs.Results.{joined}
use Rattle.store.proofs.Filled.{filled_tins, placed_done, placed_refused}
use Rattle.store.proofs.Joining.{full_no_room, interned_fits, interned_front, join_on, join_told, joined_right, joined_wrong, over, same_compact, same_on, sources_empty, sources_there, takes_others, takes_these}
use Rattle.store.proofs.Outcomes.{refused}
use Rattle.store.proofs.Placing.{AllOn, set_on}
use Rattle.store.proofs.store.Store.join.Goals as goal

pub returns-then-not-all_filled : goal.returns-then-not-all_filled
returns-then-not-all_filled c =
    let before = c.args.self.now in
    let tins = sym c.if-not-all_tins.ensures in
    let empty = sources_empty before.tins c.args.sources.now tins (sym c.if-not-all_filled.ensures) in
    record {
      card = record { symbols = refl; rules = refl; room = refl };
      cases = (
        join_told before.symbols.now (room before.tins) (tin_trees before.tins) c.args.target c.args.name.now c.args.sources.now c.if-target-ge16.false tins None empty,
        record { same_roots = refl; same_trees = refl; same_records = refl },
      );
    }

pub returns-in_err-symbol : goal.returns-in_err-symbol
returns-in_err-symbol c =
    let before = c.args.self.now in
    let p = err_from_is_err_and c.from_residual.result c.from_residual.ensures.1 in
    let none = c.in_err-symbol.ensures.ok_part in
    let why = refused _ c.in_err-symbol.field-0.0 UnknownName none c.in_err-symbol.ensures.value in
    let ss = before.symbols.now in
    let sources = c.args.sources.now in
    let tins = sym c.if-not-all_tins.ensures in
    let there = sources_there before.tins sources tins (sym c.if-not-all_filled.ensures) in
    record {
      card = record { symbols = refl; rules = refl; room = refl };
      cases = rw (p.1, p.2) (
        join_told ss (room before.tins) (tin_trees before.tins) c.args.target c.args.name.now sources c.if-target-ge16.false tins (Some (over before.tins sources)) there
            ∙ (ap (joined ss (room before.tins) (tin_trees before.tins) c.args.target (over before.tins sources)) (sym (sym none ∙ c.find_symbol.ensures.first)) ∙ ap Err (sym why)),
        record { same_roots = refl; same_trees = refl; same_records = refl },
      );
    }

pub returns-then-self-symbol : goal.returns-then-self-symbol
returns-then-self-symbol c =
    let before = c.args.self.now in
    let ss = before.symbols.now in
    let sources = c.args.sources.now in
    let f = c.in_ok-symbol.symbol in
    let tins = sym c.if-not-all_tins.ensures in
    let there = sources_there before.tins sources tins (sym c.if-not-all_filled.ensures) in
    record {
      card = record { symbols = refl; rules = refl; room = refl };
      cases = (
        join_told ss (room before.tins) (tin_trees before.tins) c.args.target c.args.name.now sources c.if-target-ge16.false tins (Some (over before.tins sources)) there
            ∙ (ap (joined ss (room before.tins) (tin_trees before.tins) c.args.target (over before.tins sources)) (sym (sym c.in_ok-symbol.ensures.ok_part ∙ c.find_symbol.ensures.first))
            ∙ joined_wrong ss (room before.tins) (tin_trees before.tins) c.args.target (over before.tins sources) f (takes_others before.tins ss f _ (rw c.in_ok-symbol.ensures.ok_part at c.find_symbol.ensures.within) sources c.if-self-symbol.true)),
        record { same_roots = refl; same_trees = refl; same_records = refl },
      );
    }

pub invariant_of-self-2 : goal.invariant_of-self-2
invariant_of-self-2 c =
    let before = c.args.self.now in
    let ss = before.symbols.now in
    let sources = c.args.sources.now in
    let f = c.in_ok-symbol.symbol in
    let tins = sym c.if-not-all_tins.ensures in
    let filled = sym c.if-not-all_filled.ensures in
    let t = node f (over before.tins sources) in
    let interned = rw c.in_ok-at.ensures.ok_part at c.intern.ensures.cases in
    let same = (rw c.in_ok-node.ensures.ok_part at c.node_over-node.ensures).1 in
    let front = interned_front before.tins.table c.intern.new.self.table _ c.in_ok-at.at interned in
    let held = subst (Holds c.intern.new.self.table c.in_ok-at.at) same interned.holds in
    let after = filled_tins before.tins before.compact t c.intern.new.self c.set.new.self c.args.target c.in_ok-at.at
    c.intern.ensures.roots front.0 front.1 held c.set.ensures.compacted in
    record {
      many = before.many;
      few = before.few;
      compact = compacted_compact _ _ _ _ c.set.ensures.compacted;
      card =
          subst (AllOn (arities ss)) (sym after) (set_on (arities ss) (tin_trees before.tins) c.args.target (Some t) before.card
          (join_on before.tins ss f _ (rw c.in_ok-symbol.ensures.ok_part at c.find_symbol.ensures.within) sources c.if-self-symbol.false before.card tins filled));
    }

pub invariant_of-self : goal.invariant_of-self
invariant_of-self c =
    let before = c.args.self.now in
    let full = rw c.in_err-at.ensures.ok_part at c.intern.ensures.cases in
    let roots = c.intern.ensures.roots in
    record {
      many = before.many;
      few = before.few;
      compact = same_compact before.tins c.intern.new.self full.same roots before.compact;
      card = same_on (arities before.symbols.now) before.tins c.intern.new.self full.same roots before.card;
    }

pub returns-in_err-at : goal.returns-in_err-at
returns-in_err-at c =
    let before = c.args.self.now in
    let p = err_from_is_err_and c.from_residual-in_err-at.result c.from_residual-in_err-at.ensures.1 in
    let why = refused _ c.in_err-at.field-0.0 NoRoom c.in_err-at.ensures.ok_part c.in_err-at.ensures.value in
    let ss = before.symbols.now in
    let sources = c.args.sources.now in
    let f = c.in_ok-symbol.symbol in
    let tins = sym c.if-not-all_tins.ensures in
    let there = sources_there before.tins sources tins (sym c.if-not-all_filled.ensures) in
    let full = rw c.in_err-at.ensures.ok_part at c.intern.ensures.cases in
    let same = (rw c.in_ok-node.ensures.ok_part at c.node_over-node.ensures).1 in
    let t = node f (over before.tins sources) in
    record {
      card = record { symbols = refl; rules = refl; room = c.intern.ensures.capacity };
      cases = rw (p.1, p.2) (
        join_told ss (room before.tins) (tin_trees before.tins) c.args.target c.args.name.now sources c.if-target-ge16.false tins (Some (over before.tins sources)) there
            ∙ (ap (joined ss (room before.tins) (tin_trees before.tins) c.args.target (over before.tins sources)) (sym (sym c.in_ok-symbol.ensures.ok_part ∙ c.find_symbol.ensures.first))
            ∙ (joined_right ss (room before.tins) (tin_trees before.tins) c.args.target (over before.tins sources) f (takes_these before.tins ss f _ (rw c.in_ok-symbol.ensures.ok_part at c.find_symbol.ensures.within) sources c.if-self-symbol.false)
            ∙ (placed_refused before.tins before.compact t c.args.target
            (subst (λ u. capacity before.tins.table < length (walk u (trees before.tins.table))) same (full_no_room before.tins.table c.intern.new.self.table _ full)) ∙ ap Err (sym why)))),
        record { same_roots = c.intern.ensures.roots; same_trees = ap (λ (x : Table). trees x) full.same; same_records = c.intern.ensures.records },
      );
    }

pub returns : goal.returns
returns c =
    let before = c.args.self.now in
    let ss = before.symbols.now in
    let sources = c.args.sources.now in
    let f = c.in_ok-symbol.symbol in
    let tins = sym c.if-not-all_tins.ensures in
    let there = sources_there before.tins sources tins (sym c.if-not-all_filled.ensures) in
    let interned = rw c.in_ok-at.ensures.ok_part at c.intern.ensures.cases in
    let same = (rw c.in_ok-node.ensures.ok_part at c.node_over-node.ensures).1 in
    let t = node f (over before.tins sources) in
    let front = interned_front before.tins.table c.intern.new.self.table _ c.in_ok-at.at interned in
    let held = subst (Holds c.intern.new.self.table c.in_ok-at.at) same interned.holds in
    record {
      card = record { symbols = refl; rules = refl; room = c.set.ensures.capacity ∙ c.intern.ensures.capacity };
      cases = join_told ss (room before.tins) (tin_trees before.tins) c.args.target c.args.name.now sources c.if-target-ge16.false tins (Some (over before.tins sources)) there
          ∙ (ap (joined ss (room before.tins) (tin_trees before.tins) c.args.target (over before.tins sources)) (sym (sym c.in_ok-symbol.ensures.ok_part ∙ c.find_symbol.ensures.first))
          ∙ (joined_right ss (room before.tins) (tin_trees before.tins) c.args.target (over before.tins sources) f (takes_these before.tins ss f _ (rw c.in_ok-symbol.ensures.ok_part at c.find_symbol.ensures.within) sources c.if-self-symbol.false)
          ∙ placed_done before.tins before.compact t c.intern.new.self c.set.new.self c.args.target c.in_ok-at.at c.intern.ensures.roots front.0 front.1 held c.set.ensures.compacted
          (subst (λ u. length (walk u (trees before.tins.table)) ≤ capacity before.tins.table) same (interned_fits before.tins.table c.intern.new.self.table _ c.in_ok-at.at c.intern.ensures.capacity interned))));
    }
