-- A recipe text: a term without variables, and nothing behind it. Assumes nothing.
use Rattle.std.specs.Prelude.{◌≡◌, ℕ, true, false, List, [], ◌∷◌, length, None, Ok, Err, Result, nat_lt}
use Rattle.card.specs.declared.record.Place.{Place}
use Rattle.card.specs.declared.record.SymbolRecord.{SymbolRecord}
use Rattle.card.specs.declared.refusal.Refusal.{Refusal}
use Rattle.card.specs.declared.refusal.Refusal.TheVariants.{TextTooLong}
use Rattle.reading.specs.declared.fault.Fault.TheVariants.{WrongByte}
use Rattle.reading.specs.Faults.{refusal_of}
use Rattle.reading.specs.Scanning.{Grammar, at_start, Scan, whole, stuck, scan}
use Rattle.reading.specs.Written.{TextOf, ProperSymbols}

-- 4,096 bytes have no more places than that, so the limit on places never strikes
abbrev pub recipe_grammar : List SymbolRecord → Grammar
recipe_grammar ss = record { symbols = ss; variables = None; places = 4096; brackets = 64 }

abbrev pub recipe_read : Scan → Result (List Place) Refusal
recipe_read (stuck f rest) = Err (refusal_of f)
recipe_read (whole ps []) = Ok ps
recipe_read (whole ps (b ∷ bs)) = Err (refusal_of WrongByte)

-- the places of a recipe, or why it is refused
abbrev pub recipe : List SymbolRecord → List ℕ → Result (List Place) Refusal
recipe ss text = elim (nat_lt 4096 (length text)) [ true ↦ Err TextTooLong | false ↦ recipe_read (scan (recipe_grammar ss) (at_start []) [] text) ]

-- LAWS

-- a recipe of at most 4,096 bytes is accepted exactly if it is the written form of a tree of the card that opens at most 64
-- brackets, and its places are that tree's
abbrev pub RecipeAcceptedExactlyIfWritten : Type 0
RecipeAcceptedExactlyIfWritten =
    (ss : List SymbolRecord) → ProperSymbols ss → (text : List ℕ) (ps : List Place)
    → ((recipe ss text ≡ Ok ps → (nat_lt 4096 (length text) ≡ false) × TextOf (recipe_grammar ss) text ps)
    × (nat_lt 4096 (length text) ≡ false → TextOf (recipe_grammar ss) text ps → recipe ss text ≡ Ok ps))
