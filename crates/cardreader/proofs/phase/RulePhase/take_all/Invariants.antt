use Rattle.std.proofs.Common.{◌≡◌}
use Rattle.cardtext.specs.Cursors.{unread}
use Rattle.cardreader.specs.Phases.{SameRulePhase}
use Rattle.cardreader.specs.Reading.{rules_outcome}
use Rattle.cardreader.proofs.phase.RulePhase.take_all.Given as goal

abbrev pub invariant-loop-line : goal.invariant-loop-line
invariant-loop-line l =
    SameRulePhase l.initial.self l.self × (l.self.draft.now.symbols ≡ l.initial.self.draft.now.symbols)
    × (rules_outcome l.initial.self.draft.now l.initial.self.symbols.now l.initial.self.rules.now l.initial.lines
    ≡ rules_outcome l.self.draft.now l.initial.self.symbols.now l.self.rules.now l.lines)

abbrev pub decreases-loop-line : goal.decreases-loop-line
decreases-loop-line l = unread l.lines
