use Rattle.std.proofs.Common.{◌≡◌}
use Rattle.cardtext.specs.Cursors.{unread}
use Rattle.cardreader.specs.Phases.{SameSymbolPhase}
use Rattle.cardreader.specs.Reading.{symbols_outcome}
use Rattle.cardreader.proofs.phase.SymbolPhase.take_all.Given as goal

abbrev pub invariant-loop-line : goal.invariant-loop-line
invariant-loop-line l =
    SameSymbolPhase l.initial.self l.self
    × (symbols_outcome l.initial.self.draft.now l.initial.self.symbols.now l.initial.self.rules.now l.initial.lines
    ≡ symbols_outcome l.self.draft.now l.self.symbols.now l.initial.self.rules.now l.lines)

abbrev pub decreases-loop-line : goal.decreases-loop-line
decreases-loop-line l = unread l.lines
