use Rattle.std.proofs.Common.{◌<◌, ◌≤◌, [], length, set, Some, Ok, Err, sym, refl, ap, ◌∙◌, subst}
use Rattle.std.proofs.lemmas.Result.{err_from_is_err_and}
use Rattle.rewriting.specs.Subterms.{walk}
use Rattle.card.specs.Records.{arities}
use Rattle.card.specs.declared.refusal.Refusal.TheVariants.{NoRoom}
use Rattle.dag.specs.Places.{spelled_tree}
use Rattle.dag.specs.Tables.{capacity, Holds, trees}
use Rattle.dag.proofs.Keeping.{compacted_compact}
use Rattle.store.specs.Holding.{tin_trees, room}
use Rattle.store.specs.Results.{recipe_tree}
use Rattle.store.proofs.Filled.{filled_tins, placed_done, placed_refused}
use Rattle.store.proofs.OnCard.{on_from}
use Rattle.store.proofs.Outcomes.{put_told, recipe_over, refused}
use Rattle.store.proofs.Placing.{AllOn, set_on}
use Rattle.store.proofs.Reading.{read_as, recipe_on, spelled_same}
use Rattle.store.proofs.Signatures.{few_children}
use Rattle.store.proofs.store.Store.put.Goals as goal

pub build-built-requires : goal.build-built-requires
build-built-requires c =
    let ss = c.args.self.now.symbols.now in
    let ps = c.places.result.now in
    let e = recipe_over ss c.args.text.now (Ok ps) c.args.self.now.many (c.in_ok-recipe.ensures ∙ ap Ok (sym c.places.ensures)) in
    let r = read_as ss c.args.text.now ps e in
    record { few = few_children ss c.args.self.now.few; spelled = r.spells; ground = r.ground; short = r.short }

pub returns-in_err-recipe : goal.returns-in_err-recipe
returns-in_err-recipe c =
    let before = c.args.self.now in
    let ss = before.symbols.now in
    let p = err_from_is_err_and c.from_residual.result c.from_residual.ensures.1 in
    let f = c.in_err-recipe.field-0.0 in
    let e = recipe_over ss c.args.text.now (Err f) before.many c.in_err-recipe.ensures in
    record {
      card = record { symbols = refl; rules = refl; room = refl };
      cases = rw (p.1, p.2)
          (put_told ss (room before.tins) (tin_trees before.tins) c.args.tin c.args.text.now (Err f) c.if-tin-ge16.false e, record { same_roots = refl; same_trees = refl; same_records = refl });
    }

pub returns-in_err-at : goal.returns-in_err-at
returns-in_err-at c =
    let before = c.args.self.now in
    let p = err_from_is_err_and c.from_residual-in_err-at.result c.from_residual-in_err-at.ensures.1 in
    let none = c.in_err-at.ensures.ok_part in
    let why = refused _ c.in_err-at.field-0.0 NoRoom none c.in_err-at.ensures.value in
    let ss = before.symbols.now in
    let ps = c.places.result.now in
    let e = recipe_over ss c.args.text.now (Ok ps) before.many (c.in_ok-recipe.ensures ∙ ap Ok (sym c.places.ensures)) in
    let r = read_as ss c.args.text.now ps e in
    let full = rw none at c.build-built.ensures.cases in
    record {
      card = record { symbols = refl; rules = refl; room = c.build-built.ensures.capacity };
      cases = rw (p.1, p.2) (
        put_told ss (room before.tins) (tin_trees before.tins) c.args.tin c.args.text.now (Ok ps) c.if-tin-ge16.false e
            ∙ (placed_refused before.tins before.compact (recipe_tree ss ps) c.args.tin
            (subst (λ t. capacity before.tins.table < length (walk t (trees before.tins.table))) (spelled_same ss ps r (trees before.tins.table)) full.too_many) ∙ ap Err (sym why)),
        record { same_roots = c.build-built.ensures.roots; same_trees = full.same_trees; same_records = c.build-built.ensures.records },
      );
    }

pub invariant_of-self-2 : goal.invariant_of-self-2
invariant_of-self-2 c =
    let before = c.args.self.now in
    let ss = before.symbols.now in
    let ps = c.places.result.now in
    let e = recipe_over ss c.args.text.now (Ok ps) before.many (c.in_ok-recipe.ensures ∙ ap Ok (sym c.places.ensures)) in
    let r = read_as ss c.args.text.now ps e in
    let there = c.in_ok-at.ensures.ok_part in
    let built = rw there at c.build-built.ensures.cases in
    let tins = filled_tins before.tins before.compact (spelled_tree (arities ss) (trees before.tins.table) [] ps) c.build-built.new.self c.set.new.self c.args.tin c.in_ok-at.at
    c.build-built.ensures.roots built.added built.front built.holds c.set.ensures.compacted
    ∙ ap (λ t. set (tin_trees before.tins) c.args.tin (Some t)) (spelled_same ss ps r (trees before.tins.table)) in
    record {
      many = before.many;
      few = before.few;
      compact = compacted_compact _ _ _ _ c.set.ensures.compacted;
      card = subst (AllOn (arities ss)) (sym tins) (set_on (arities ss) (tin_trees before.tins) c.args.tin (Some (recipe_tree ss ps)) before.card (on_from (arities ss) (recipe_tree ss ps) (recipe_on ss ps r)));
    }

pub returns : goal.returns
returns c =
    let before = c.args.self.now in
    let ss = before.symbols.now in
    let ps = c.places.result.now in
    let e = recipe_over ss c.args.text.now (Ok ps) before.many (c.in_ok-recipe.ensures ∙ ap Ok (sym c.places.ensures)) in
    let r = read_as ss c.args.text.now ps e in
    let there = c.in_ok-at.ensures.ok_part in
    let built = rw there at c.build-built.ensures.cases in
    let same = spelled_same ss ps r (trees before.tins.table) in
    record {
      card = record { symbols = refl; rules = refl; room = c.set.ensures.capacity ∙ c.build-built.ensures.capacity };
      cases =
          put_told ss (room before.tins) (tin_trees before.tins) c.args.tin c.args.text.now (Ok ps) c.if-tin-ge16.false e
          ∙ placed_done before.tins before.compact (recipe_tree ss ps) c.build-built.new.self c.set.new.self c.args.tin c.in_ok-at.at c.build-built.ensures.roots built.added built.front
          (subst (Holds c.build-built.new.self.table c.in_ok-at.at) same built.holds) c.set.ensures.compacted
          (subst (λ t. length (walk t (trees before.tins.table)) ≤ capacity before.tins.table) same built.fits);
    }
