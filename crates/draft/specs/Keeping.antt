-- A line that is taken keeps the card's rules. Assumes nothing.
use Rattle.std.specs.Prelude.{ℕ, ◌+◌, ◌<◌, List}
use Rattle.card.specs.Records.{Kept}
use Rattle.card.specs.declared.record.SymbolRecord.{SymbolRecord}
use Rattle.card.specs.declared.record.RuleRecord.{RuleRecord}
use Rattle.draft.specs.Drafts.{counts, SymbolTaken, RuleTaken}

-- so a draft that nobody else writes to is never refused for its tables
abbrev pub TakenSymbolsKeepTheRules : Type 0
TakenSymbolsKeepTheRules =
    (m : ℕ) (text : List ℕ) (rs : List RuleRecord) (before after : List SymbolRecord)
    → SymbolTaken m text rs before after → Kept after rs (counts (m + 1) 0)

abbrev pub TakenRulesKeepTheRules : Type 0
TakenRulesKeepTheRules =
    (m n : ℕ) (text : List ℕ) (ss : List SymbolRecord) (before after : List RuleRecord)
    → RuleTaken m n text ss before after → Kept ss after (counts m (n + 1))

-- letting a draft go asks for more than 64 symbols, and no draft over kept records has as many
abbrev pub KeptDraftsAreNotLetGo : Type 0
KeptDraftsAreNotLetGo =
    (ss : List SymbolRecord) (rs : List RuleRecord) (m n : ℕ) → Kept ss rs (counts m n) → 64 < m → ⊥
