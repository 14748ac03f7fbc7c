use Rattle.std.proofs.Common.{subst, sym, refl}
use Rattle.std.proofs.lemmas.Result.{err_from_is_err_and}
use Rattle.card.specs.Records.{Kept}
use Rattle.draft.specs.Drafts.{broken_line}
use Rattle.draft.proofs.draft.SymbolDraft.take.Goals as goal

pub returns-in_err-symbol : goal.returns-in_err-symbol
returns-in_err-symbol g c =
    let p = err_from_is_err_and c.from_residual-in_err-symbol.result c.from_residual-in_err-symbol.ensures.1 in
    let kept = subst (Kept c.args.symbols.now c.args.rules.now) c.counts.ensures c.in_ok-tested.ensures in
    rw p.1 (refl, refl, broken_line c.in_err-symbol.field-0.0 p.2 kept (sym c.in_err-symbol.ensures))
