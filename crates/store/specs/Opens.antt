-- What opening a store answers. Assumes nothing.
use Rattle.std.specs.Prelude.{◌≡◌, List, replicate, None, vec_len}
use Rattle.card.specs.Records.{counted_rules, counted_symbols, Kept}
use Rattle.card.specs.declared.record.Card.{Card}
use Rattle.card.specs.declared.record.SymbolRecord.{SymbolRecord}
use Rattle.card.specs.declared.record.RuleRecord.{RuleRecord}
use Rattle.card.specs.declared.refusal.Refusal.{Refusal}
use Rattle.card.specs.declared.refusal.Refusal.TheVariants.{BrokenTable}
use Rattle.store.specs.declared.memory.Memory.{Memory}
use Rattle.store.specs.declared.store.Store.{Store}
use Rattle.store.specs.Memories.{Suits}
use Rattle.store.specs.Stores.{room_of, symbols_of, trees_of}

module _ (card : Card) (ss : List SymbolRecord) (rs : List RuleRecord) (memory : Memory) where
  -- the tables pass the tests, every tin is empty, and the card is that of the counted records
  pub record Opened (s : Store) : Type 0 where
    pub suits : Suits memory
    pub kept : Kept ss rs card
    pub symbols : symbols_of s ≡ counted_symbols card ss
    pub rules : s.rules.now ≡ counted_rules card rs
    pub empty : trees_of s ≡ replicate 16 None
    pub room : room_of s ≡ vec_len memory.nodes

  -- one of the tests fails, and the memory comes back as it was
  pub record NotOpened (e : Refusal × Memory) : Type 0 where
    pub refusal : e.0 ≡ BrokenTable
    pub same : e.1 ≡ memory
    pub broken : Suits memory → Kept ss rs card → ⊥
