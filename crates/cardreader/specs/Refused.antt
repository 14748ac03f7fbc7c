-- How a refused card text is reported. Assumes nothing.
use Rattle.std.specs.Prelude.{ℕ, List, [], ◌∷◌, ◌++◌, decimal}
use Rattle.card.specs.Refusals.{number_of}
use Rattle.cardreader.specs.declared.fault.CardFault.{CardFault}

-- "refused N line L", with the refusal's number and the line's
abbrev pub refused_text : CardFault → List ℕ
refused_text f =
    (114 ∷ 101 ∷ 102 ∷ 117 ∷ 115 ∷ 101 ∷ 100 ∷ 32 ∷ []) ++ (decimal (number_of f.refusal)
    ++ ((32 ∷ 108 ∷ 105 ∷ 110 ∷ 101 ∷ 32 ∷ []) ++ decimal f.line))
