-- A sheet determines its tree: its rows, read from the front, give the subterms back. Assumes nothing.
use Rattle.std.proofs.Common.{◌≡◌, ℕ, zero, suc, Bool, true, false, ◌↔◌, List, [], ◌∷◌, ◌++◌, map, get_or, sym, refl, ap, ◌∙◌, subst, ap₂, ⊎_elim, append_assoc, append-nil}
use mathlib.Core.List.Memᴰ
use mathlib.Core.List.{Memᴰ}
use Rattle.rewriting.specs.Terms.{Tree, node, Trees, nil, cons, children, to_list, same}
use Rattle.rewriting.specs.Subterms.{walks, subterms, place_of, Row, row, sheet}
use Rattle.rewriting.proofs.Equality.{same_eq, same_differs}
use Rattle.rewriting.proofs.Walking.{Grown, empty, grown, subterms_grown, subterms_last}

abbrev from_list : List Tree → Trees
from_list [] = nil
from_list (t ∷ ts) = cons t (from_list ts)

abbrev leaf : Tree
leaf = node 0 nil

-- the tree with a number, counted from 1
abbrev numbered : List Tree → ℕ → Tree
numbered xs zero = leaf
numbered xs (suc i) = get_or xs i leaf

abbrev tree_of_row : List Tree → Row → Tree
tree_of_row xs r = node r.symbol (from_list (map (numbered xs) r.children))

-- the trees of a list of rows, each made of those before it
abbrev pub trees_of_rows : List Tree → List Row → List Tree
trees_of_rows xs [] = xs
trees_of_rows xs (r ∷ rs) = trees_of_rows (xs ++ (tree_of_row xs r ∷ [])) rs

trees_of_append : (xs : List Tree) (rs qs : List Row) → trees_of_rows xs (rs ++ qs) ≡ trees_of_rows (trees_of_rows xs rs) qs
trees_of_append xs [] qs = refl
trees_of_append xs (r ∷ rs) qs = trees_of_append (xs ++ (tree_of_row xs r ∷ [])) rs qs

-- a member of the front is found at its place
place_found : (c : Tree) (xs ys : List Tree) → Memᴰ c xs → get_or xs (place_of c (xs ++ ys)) leaf ≡ c
place_found c [] ys m = absurd (Memᴰ.not-nil m)
place_found c (x ∷ xs) ys m = go (place_found c xs ys) (same c x) refl
  where
    go : (Memᴰ c xs → get_or xs (place_of c (xs ++ ys)) leaf ≡ c) → (b : Bool) → same c x ≡ b
        → get_or (x ∷ xs) (elim b as (λ z. ℕ) [ true ↦ zero | false ↦ suc (place_of c (xs ++ ys)) ]) leaf ≡ c
    go rec true e = sym (same_eq c x e)
    go rec false e = ⊎_elim (λ q. absurd (same_differs c x e q)) rec (Memᴰ.cases_cons m)

children_found : (xs ys : List Tree) (ts : Trees) → ((c : Tree) → Memᴰ c (to_list ts) → Memᴰ c xs)
    → from_list (map (numbered xs) (map (λ c. suc (place_of c (xs ++ ys))) (to_list ts))) ≡ ts
children_found xs ys nil h = refl
children_found xs ys (cons t ts) h =
    ap₂ cons (place_found t xs ys (h t (Memᴰ.head refl))) (children_found xs ys ts (λ c m. h c (Memᴰ.tail m)))

row_found : (xs ys : List Tree) (t : Tree) → ((c : Tree) → Memᴰ c (to_list (children t)) → Memᴰ c xs) → tree_of_row xs (row (xs ++ ys) t) ≡ t
row_found xs ys (node f ts) h = ap (node f) (children_found xs ys ts h)

map-append : (f : Tree → Row) (xs ys : List Tree) → map f (xs ++ ys) ≡ map f xs ++ map f ys
map-append f [] ys = refl
map-append f (x ∷ xs) ys = ap (λ rs. f x ∷ rs) (map-append f xs ys)

rows_found : {xs : List Tree} → Grown xs → (ys : List Tree) → trees_of_rows [] (map (row (xs ++ ys)) xs) ≡ xs
rows_found empty ys = refl
rows_found (grown {xs} {t} g new kids) ys =
    let whole = (xs ++ (t ∷ [])) ++ ys in
    let same_whole : whole ≡ xs ++ (t ∷ ys) = append_assoc xs (t ∷ []) ys in
    let ih : trees_of_rows [] (map (row whole) xs) ≡ xs = subst (λ z. trees_of_rows [] (map (row z) xs) ≡ xs) (sym same_whole) (rows_found g (t ∷ ys)) in
    let here : tree_of_row xs (row whole t) ≡ t = subst (λ z. tree_of_row xs (row z t) ≡ t) (sym same_whole) (row_found xs (t ∷ ys) t kids) in
    ap (trees_of_rows []) (map-append (row whole) xs (t ∷ []))
    ∙ (trees_of_append [] (map (row whole) xs) (row whole t ∷ [])
    ∙ (ap (λ zs. zs ++ (tree_of_row zs (row whole t) ∷ [])) ih ∙ ap (λ z. xs ++ (z ∷ [])) here))

pub sheet_gives_subterms : (t : Tree) → trees_of_rows [] (sheet t) ≡ subterms t
sheet_gives_subterms t =
    subst (λ z. trees_of_rows [] (map (row z) (subterms t)) ≡ subterms t) (append-nil (subterms t)) (rows_found (subterms_grown t) [])

abbrev last_of : Tree → List Tree → Tree
last_of d [] = d
last_of d (x ∷ xs) = last_of x xs

last_snoc : (d : Tree) (xs : List Tree) (t : Tree) → last_of d (xs ++ (t ∷ [])) ≡ t
last_snoc d [] t = refl
last_snoc d (x ∷ xs) t = last_snoc x xs t

root_last : (t : Tree) → last_of leaf (subterms t) ≡ t
root_last t = ap (last_of leaf) (subterms_last t) ∙ last_snoc leaf (walks (children t) []) t

pub equal_sheets : (t u : Tree) → (sheet t ≡ sheet u) ↔ (t ≡ u)
equal_sheets t u = (
  (λ e. sym (root_last t)
      ∙ (ap (last_of leaf) (sym (sheet_gives_subterms t) ∙ (ap (trees_of_rows []) e ∙ sheet_gives_subterms u)) ∙ root_last u)),
  λ e. ap sheet e,
)
