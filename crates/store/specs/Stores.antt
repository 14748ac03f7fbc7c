-- A store's card and trees, and what calls leave. Assumes nothing.
use Rattle.std.specs.Prelude.{◌≡◌, ℕ, List, Ok, Err, Option, Result}
use Rattle.rewriting.specs.Terms.{Tree}
use Rattle.card.specs.declared.record.SymbolRecord.{SymbolRecord}
use Rattle.card.specs.declared.refusal.Refusal.{Refusal}
use Rattle.sheet.specs.Texts.{PutAtFront}
use Rattle.dag.specs.Tables.{KeepsRecords, trees}
use Rattle.store.specs.declared.store.Store.{Store}
use Rattle.store.specs.Holding.{tin_trees, room}

-- the card's symbols
abbrev pub symbols_of : Store → List SymbolRecord
symbols_of s = s.symbols.now

-- the tree of each tin, if it holds one
abbrev pub trees_of : Store → List (Option Tree)
trees_of s = tin_trees s.tins

abbrev pub room_of : Store → ℕ
room_of s = room s.tins

-- the card and the number of records stay
pub record SameCard (before after : Store) : Type 0 where
  pub symbols : after.symbols ≡ before.symbols
  pub rules : after.rules ≡ before.rules
  pub room : room_of after ≡ room_of before

-- a refused call leaves every tin, and every record of a tin's subterm
pub record Untouched (before after : Store) : Type 0 where
  pub same_roots : after.tins.roots ≡ before.tins.roots
  pub same_trees : trees after.tins.table ≡ trees before.tins.table
  pub same_records : KeepsRecords before.tins.table after.tins.table

-- the sheet stands at the front of the buffer and its length is answered, or the buffer is as it was
abbrev pub SheetWritten : Result (List ℕ) Refusal → Result ℕ Refusal → List ℕ → List ℕ → Type 0
SheetWritten result (Ok n) before after = (text : List ℕ) × (result ≡ Ok text) × PutAtFront text n before after
SheetWritten result (Err f) before after = (result ≡ Err f) × (after ≡ before)
