-- The bytes of a sheet. Assumes nothing.
use Rattle.std.specs.Prelude.{◌≡◌, ℕ, zero, suc, ◌+◌, ◌≤◌, ◌↔◌, List, [], ◌∷◌, ◌++◌, length, decimal}
use Rattle.std.specs.List.{AllByRecursion}
use Rattle.rewriting.specs.Terms.{Tree}
use Rattle.rewriting.specs.Cards.{OnSignature}
use Rattle.rewriting.specs.Subterms.{Row, subterms, sheet}
use Rattle.card.specs.Records.{arities, name_of, WellFormedSymbol, DistinctNames}
use Rattle.card.specs.declared.record.SymbolRecord.{SymbolRecord}

-- a blank and its number for each child, and byte 10
abbrev pub child_numbers : List ℕ → List ℕ
child_numbers [] = 10 ∷ []
child_numbers (n ∷ ns) = 32 ∷ (decimal n ++ child_numbers ns)

-- a line: the number, the name and the children's numbers, one blank between
abbrev pub line_text : ℕ → List ℕ → List ℕ → List ℕ
line_text number name children = decimal number ++ (32 ∷ (name ++ child_numbers children))

-- the trailer: "top", the root's number, "at", and the place in the sheet where the root's line begins
abbrev pub trailer_text : ℕ → ℕ → List ℕ
trailer_text root place = 116 ∷ 111 ∷ 112 ∷ 32 ∷ (decimal root ++ (32 ∷ 97 ∷ 116 ∷ 32 ∷ (decimal place ++ (10 ∷ []))))

-- the lines of rows that are numbered from n on, with these names of symbols
abbrev pub lines_from : (ℕ → List ℕ) → ℕ → List Row → List ℕ
lines_from names n [] = []
lines_from names n (r ∷ rs) = line_text n (names r.symbol) r.children ++ lines_from names (suc n) rs

-- how many bytes stand before the last line
abbrev pub before_last : (ℕ → List ℕ) → ℕ → List Row → ℕ
before_last names n [] = zero
before_last names n (r ∷ []) = zero
before_last names n (r ∷ s ∷ rs) = length (line_text n (names r.symbol) r.children) + before_last names (suc n) (s ∷ rs)

-- the sheet of a tree: the root is the last subterm in sheet order
abbrev pub sheet_text : (ℕ → List ℕ) → Tree → List ℕ
sheet_text names t = lines_from names 1 (sheet t) ++ trailer_text (length (sheet t)) (before_last names 1 (sheet t))

-- LAWS

-- two trees of a card have the same sheet exactly if they are equal; a store holds no tree with more than 4,096 subterms
abbrev pub SameSheetSameTree : Type 0
SameSheetSameTree =
    (ss : List SymbolRecord) → AllByRecursion WellFormedSymbol ss → DistinctNames ss → (t u : Tree)
    → OnSignature (arities ss) t → OnSignature (arities ss) u → length (subterms t) ≤ 4096 → length (subterms u) ≤ 4096
    → (sheet_text (name_of ss) t ≡ sheet_text (name_of ss) u) ↔ (t ≡ u)
