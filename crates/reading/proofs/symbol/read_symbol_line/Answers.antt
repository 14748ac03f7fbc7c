use Rattle.std.proofs.Common.{is_some, sym, ap, ◌∙◌, inl, inr}
use Rattle.std.proofs.lemmas.Result.{err_from_is_err_and}
use Rattle.reading.specs.Lines.{symbol_digit}
use Rattle.reading.proofs.SymbolLines.{long_name, not_a_symbol, taken_name, new_name}
use Rattle.reading.proofs.symbol.read_symbol_line.Goals as goal
use Rattle.reading.proofs.symbol.read_symbol_line.Goals.{then-name-eq0-via-then-name-eq0, then-name-eq0-via-else-name-eq0+then-not-next_is}

pub returns-in_err-name : goal.returns-in_err-name
returns-in_err-name g c =
    let p = err_from_is_err_and c.from_residual.result c.from_residual.ensures.1 in
    let t = c.in_err-name.ensures in
    rw (p.1, p.2, t.0) (long_name c.args.symbols.now c.if-symbols-ge64.false _ _ t.1)

pub returns-then-name-eq0 : goal.returns-then-name-eq0
returns-then-name-eq0 g c =
    let t = c.in_ok-name.ensures in
    rw c.fault_here.ensures
    (not_a_symbol c.args.symbols.now c.if-symbols-ge64.false _ _ _ t
    (elim c.then-name-eq0.branch [
      | then-name-eq0-via-then-name-eq0 w ↦ inl w.if-name-eq0.true
      | then-name-eq0-via-else-name-eq0+then-not-next_is w ↦ inr (sym w.if-not-next_is.ensures)
    ]))

pub returns-then-is_some : goal.returns-then-is_some
returns-then-is_some g c =
    taken_name c.args.symbols.now c.if-symbols-ge64.false _ _ _ c.in_ok-name.ensures c.if-name-eq0.false (sym c.if-not-next_is.ensures)
    (ap is_some (sym c.find.ensures) ∙ sym c.if-is_some.ensures)

pub returns : goal.returns
returns g c =
    c.read_arity.ensures
    ∙ (ap (symbol_digit c.in_ok-name.name) c.advance.ensures
    ∙ sym (new_name c.args.symbols.now c.if-symbols-ge64.false _ _ _ c.in_ok-name.ensures c.if-name-eq0.false (sym c.if-not-next_is.ensures)
    (ap is_some (sym c.find.ensures) ∙ sym c.if-is_some.ensures)))
