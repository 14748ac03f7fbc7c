use Rattle.std.proofs.Common.{◌≡◌, sym, ap, ◌∙◌, ap₂, rules}
use Rattle.cardtext.specs.Cursors.{rest_lines}
use Rattle.cardtext.specs.Lines.{lines}
use Rattle.cardreader.specs.CardTexts.{symbol_lines}
use Rattle.cardreader.specs.Reading.{symbols_outcome}
use Rattle.cardreader.proofs.Phases.{ended_then, kept_then, read_then}
use Rattle.cardreader.proofs.phase.both.read_lines.Goals as goal

pub read_rules-requires : goal.read_rules-requires
read_rules-requires c = kept_then c.take_all.new.self.kept (search rules) (search rules) (search rules)

pub returns-in-Ok : goal.returns-in-Ok
returns-in-Ok c =
    let a = c.args in
    let all : symbol_lines a.symbols.now 0 a.rules.now 0 (lines a.text.now) ≡ symbols_outcome a.draft a.symbols.now a.rules.now c.new-lines.result =
    ap₂ (λ k ls. symbol_lines a.symbols.now 0 a.rules.now k ls) (sym c.new-lines.ensures.none) (sym c.new-lines.ensures.all)
    ∙ ap (λ m. symbol_lines a.symbols.now m a.rules.now c.new-lines.result.number (rest_lines c.new-lines.result)) (sym c.requires.new) in
    read_then _ _ _ _ _ _ _ _ c.read_rules.result _ c.read_rules.ensures (ended_then _ _ _ c.in-Ok.ensures.cases (search rules) (search rules) all) (search rules) (search rules)
