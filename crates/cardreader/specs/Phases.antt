-- What stays the same of a phase while lines are taken. Assumes nothing.
use Rattle.std.specs.Prelude.{◌≡◌}
use Rattle.cardreader.specs.declared.phase.SymbolPhase.{SymbolPhase}
use Rattle.cardreader.specs.declared.phase.RulePhase.{RulePhase}

-- it is the same draft and the same table that grow, and the rules are as they were
abbrev pub SameSymbolPhase : SymbolPhase → SymbolPhase → Type 0
SameSymbolPhase before after =
    (after.draft.ghost_name ≡ before.draft.ghost_name) × (after.symbols.ghost_name ≡ before.symbols.ghost_name) × (after.rules.now ≡ before.rules.now)

abbrev pub SameRulePhase : RulePhase → RulePhase → Type 0
SameRulePhase before after =
    (after.draft.ghost_name ≡ before.draft.ghost_name) × (after.rules.ghost_name ≡ before.rules.ghost_name) × (after.symbols.now ≡ before.symbols.now)
