-- Subterms, the order in which a sheet lists them, and the sheet itself. Assumes nothing.
use Rattle.std.specs.Prelude.{◌≡◌, ℕ, zero, suc, ◌<◌, Bool, true, false, ◌||◌, ◌↔◌, List, [], ◌∷◌, ◌++◌, map, length, slice_index_or}
use mathlib.Core.List.{Memᴰ}
use Rattle.rewriting.specs.Terms.{Tree, node, Trees, nil, cons, symbol, children, to_list, same}

-- a tree's subterms are itself and the subterms of its children
mutual
  pub data Subterm (s : Tree) : Tree → Type 0 where
    self : {t : Tree} → s ≡ t → Subterm s t
    below : {f : ℕ} {ts : Trees} → SubtermIn s ts → Subterm s (node f ts)

  pub data SubtermIn (s : Tree) : Trees → Type 0 where
    in_first : {t : Tree} {ts : Trees} → Subterm s t → SubtermIn s (cons t ts)
    in_rest : {t : Tree} {ts : Trees} → SubtermIn s ts → SubtermIn s (cons t ts)

-- a proper subterm is a subterm of a child
abbrev pub Proper : Tree → Tree → Type 0
Proper s t = SubtermIn s (children t)

abbrev pub member : Tree → List Tree → Bool
member t [] = false
member t (x ∷ xs) = same t x || member t xs

-- a tree behind the others, unless it is among them
abbrev pub add : Tree → List Tree → List Tree
add t xs = elim (member t xs) [ true ↦ xs | false ↦ xs ++ (t ∷ []) ]

-- the walk, children first, from left to right: a subterm is listed when it is first finished
abbrev mutual
  pub walk : Tree → List Tree → List Tree
  walk (node f ts) seen = add (node f ts) (walks ts seen)

  pub walks : Trees → List Tree → List Tree
  walks nil seen = seen
  walks (cons t ts) seen = walks ts (walk t seen)

-- a tree's distinct subterms in sheet order; the one at place i has sheet number i + 1
abbrev pub subterms : Tree → List Tree
subterms t = walk t []

-- every occurrence of every subterm, in the order in which the walk finishes them
abbrev mutual
  pub postorder : Tree → List Tree
  postorder (node f ts) = postorders ts ++ (node f ts ∷ [])

  pub postorders : Trees → List Tree
  postorders nil = []
  postorders (cons t ts) = postorder t ++ postorders ts

-- the elements of a list where each comes first, behind those already there
abbrev pub firsts_of : List Tree → List Tree → List Tree
firsts_of seen [] = seen
firsts_of seen (x ∷ xs) = firsts_of (add x seen) xs

-- the place of a tree in a list, from 0
abbrev pub place_of : Tree → List Tree → ℕ
place_of t [] = zero
place_of t (x ∷ xs) = elim (same t x) [ true ↦ zero | false ↦ suc (place_of t xs) ]

-- a sheet has a row for each subterm in sheet order: its symbol and its children's sheet numbers
pub record Row : Type 0 where
  pub symbol : ℕ
  pub children : List ℕ

abbrev pub row : List Tree → Tree → Row
row order t = record { symbol = symbol t; children = map (λ c. suc (place_of c order)) (to_list (children t)) }

abbrev pub sheet : Tree → List Row
sheet t = map (row (subterms t)) (subterms t)

-- LAWS

abbrev pub SheetOrderListsTheSubterms : Type 0
SheetOrderListsTheSubterms = (s t : Tree) → Memᴰ s (subterms t) ↔ Subterm s t

-- no tree stands at two places of a list
abbrev pub Distinct : List Tree → Type 0
Distinct xs = (d : Tree) (i j : ℕ) → i < length xs → j < length xs → slice_index_or xs i d ≡ slice_index_or xs j d → i ≡ j

abbrev pub SheetOrderListsEachOnce : Type 0
SheetOrderListsEachOnce = (t : Tree) → Distinct (subterms t)

-- each child of a tree in the list stands at a lower place
abbrev pub ChildrenFirst : List Tree → Type 0
ChildrenFirst xs =
    (d : Tree) (i : ℕ) → i < length xs → (c : Tree) → Memᴰ c (to_list (children (slice_index_or xs i d)))
    → (j : ℕ) × (j < i) × (slice_index_or xs j d ≡ c)

abbrev pub SheetOrderHasChildrenFirst : Type 0
SheetOrderHasChildrenFirst = (t : Tree) → ChildrenFirst (subterms t)

-- a subterm's number comes from where the walk first finishes it, and the tree itself comes last
abbrev pub SheetOrderIsFirstFinished : Type 0
SheetOrderIsFirstFinished =
    (t : Tree) → (subterms t ≡ firsts_of [] (postorder t)) × (subterms t ≡ walks (children t) [] ++ (t ∷ []))

abbrev pub EqualSheetsEqualTrees : Type 0
EqualSheetsEqualTrees = (t u : Tree) → (sheet t ≡ sheet u) ↔ (t ≡ u)
