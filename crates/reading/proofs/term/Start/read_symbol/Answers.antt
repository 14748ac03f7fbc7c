use Rattle.std.proofs.Common.{◌≡◌, [], get_or, sym, ◌∙◌}
use Rattle.std.proofs.lemmas.Result.{err_from_is_err_and}
use Rattle.reading.specs.Grammars.{grammar_of}
use Rattle.reading.specs.declared.fault.Fault.TheVariants.{UnknownName}
use Rattle.reading.proofs.Heads.{found_inside, arity_read, too_long, unknown, Named, symbol_named, opened_constant, constant, missing, deep, bracketed}
use Rattle.reading.proofs.term.Start.read_symbol.Given.{Over}
use Rattle.reading.proofs.term.Start.read_symbol.Goals as goal
use Rattle.reading.proofs.term.Start.read_symbol.Goals.{In_ok-k}

pub returns-in_err-name : goal.returns-in_err-name
returns-in_err-name g c =
    let p = err_from_is_err_and c.from_residual.result c.from_residual.ensures.1 in
    let t = c.in_err-name.ensures in
    rw (p.1, p.2, t.0) (too_long (grammar_of c.args.self.grammar.now) c.args.self.filled c.args.self.depth _ _ c.requires.room t.1)

pub returns-in_err-k : goal.returns-in_err-k
returns-in_err-k g c =
    let p = err_from_is_err_and c.from_residual-in_err-k.result c.from_residual-in_err-k.ensures.1 in
    let none = c.in_err-k.ensures.ok_part in
    let e = rw none at c.in_err-k.ensures.value in
    let f : c.in_err-k.field-0.0 ≡ UnknownName = cc in
    rw (p.1, p.2, f)
    (unknown (grammar_of c.args.self.grammar.now) c.args.self.filled c.args.self.depth _ _ _ c.in_ok-name.ensures c.requires.letter c.requires.room (sym c.find.ensures ∙ none))

named : (g : Over) (c : In_ok-k g)
    → Named (grammar_of c.args.self.grammar.now) c.args.self.filled (g.S.Source.rest c.args.src.now) (g.S.Source.rest c.read_name.new.src) c.in_ok-k.k
    (get_or c.args.self.grammar.now.symbols.now c.in_ok-k.k (record { name = []; arity = 0 })).arity
named g c =
    let some = c.in_ok-k.ensures.ok_part in
    symbol_named (grammar_of c.args.self.grammar.now) c.args.self.filled c.args.self.depth _ _ _ c.in_ok-name.ensures c.requires.letter c.requires.room c.in_ok-k.k _
    (sym c.find.ensures ∙ some) (arity_read _ c.in_ok-k.k _ (found_inside _ _ c.in_ok-k.k _ c.find.ensures some))

pub returns-in-0-true : goal.returns-in-0-true
returns-in-0-true g c =
    opened_constant _ _ c.args.self.depth _ _ _ _ (named g (goal.at.returns-in-0-true g c).In_ok-k) c.in-0-true.is-0 (sym c.in-0-true.ensures)

pub returns-in-0-false : goal.returns-in-0-false
returns-in-0-false g c =
    constant _ _ c.args.self.depth _ _ _ _ (named g (goal.at.returns-in-0-false g c).In_ok-k) c.in-0-false.is-0 (sym c.in-0-false.ensures)

pub returns-in_default-false : goal.returns-in_default-false
returns-in_default-false g c =
    missing _ _ c.args.self.depth _ _ _ _ (named g (goal.at.returns-in_default-false g c).In_ok-k) c.in_default-false.is-0.1 (sym c.in_default-false.ensures)

pub returns-in_default-true : goal.returns-in_default-true
returns-in_default-true g c =
    deep _ _ c.args.self.depth _ _ _ _ (named g (goal.at.returns-in_default-true g c).In_ok-k) c.in_default-true.is-0.1 (sym c.in_default-true.ensures)
    c.if-self.true

pub returns : goal.returns
returns g c =
    bracketed _ _ c.args.self.depth _ _ _ _ (named g (goal.at.returns g c).In_ok-k) c.in_default-true.is-0.1 (sym c.in_default-true.ensures)
    c.if-self.false _ c.advance.ensures
