use Rattle.std.proofs.Common.{sym, ◌∙◌, subst, rules}
use Rattle.cardreader.specs.Reading.{SymbolsEnded}
use Rattle.cardreader.proofs.Phases.{accepted_then, never_refused}
use Rattle.cardreader.proofs.phase.both.read_rules.Goals as goal

pub returns-in-Ok-accept : goal.returns-in-Ok-accept
returns-in-Ok-accept c =
    let t = c.in-Ok-accept.ensures in
    let a = c.args in (
      t.1,
      λ o s. c.in_default.ensures.cases o (subst (λ m. SymbolsEnded m a.symbols.now a.rules.now a.lines.now a.first o) (sym c.in-Ok.ensures.0) s)
          ∙ accepted_then (search rules) (search rules) t.0,
    )

pub returns-in-Err-accept : goal.returns-in-Err-accept
returns-in-Err-accept c = absurd (never_refused (search rules) (search rules) c.take_rest.new.self.kept (search rules) c.in-Err-accept.ensures.2)
