use Rattle.std.proofs.Common.{◌≡◌, sym, subst, rules}
use Rattle.cardreader.specs.Taking.{BreaksSymbol}
use Rattle.cardreader.proofs.Mapped.{mapped}
use Rattle.cardreader.proofs.Takes.{symbol_breaks, symbol_kept, symbol_takes}
use Rattle.cardreader.proofs.phase.SymbolPhase.take.Goals as goal

pub invariant_of-self : goal.invariant_of-self
invariant_of-self c =
    let p = c.args.self.now in
    record { kept = symbol_kept _ p.draft.now c.take.new.self p.rules.now p.symbols.now c.take.new.symbols _ c.take.result c.take.ensures p.kept }

pub returns-clause-cases : goal.returns-clause-cases
returns-clause-cases c =
    let p = c.args.self.now in
    mapped c.take.result c.map_err.result c.take.ensures c.map_err.ensures.cases
    (λ x t. symbol_takes p.draft.now c.take.new.self p.rules.now p.symbols.now c.take.new.symbols _ c.args.line.now c.new.ensures t.0 t.1)
    (λ e d t k.
    let is : d.refusal ≡ e = search rules in
    (t.0, t.1, search rules, subst (BreaksSymbol p.draft.now p.symbols.now c.args.line.now) (sym is) (symbol_breaks p.draft.now p.symbols.now p.rules.now _ c.args.line.now _ e c.new.ensures p.kept t.2)))
