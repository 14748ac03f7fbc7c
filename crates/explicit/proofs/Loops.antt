-- Steps of a loop over a list, where what is left of the list gives the same as the whole. Assumes nothing.
use Rattle.std.proofs.Common.{◌≡◌, ℕ, ◌+◌, ◌<◌, ◌≤◌, List, [], ◌∷◌, length, get_or, drop, sym, ap, ◌∙◌}
use Rattle.std.proofs.lemmas.List.{drop_more, at_drop_all}

-- the element that a turn reads stands in front of what the next turn has left
pub read_drop : {X : Type 0} (xs : List X) (i : ℕ) (x : X) → i < length xs → x ≡ get_or xs i x → drop i xs ≡ x ∷ drop (i + 1) xs
read_drop xs i x h e = drop_more xs i x h ∙ ap (λ y. y ∷ drop (i + 1) xs) (sym e)

pub reads : {X Y : Type 0} (F : List X → Y) (xs : List X) (i : ℕ) (x : X) {y : Y}
    → i < length xs → x ≡ get_or xs i x → F (drop i xs) ≡ y → F (x ∷ drop (i + 1) xs) ≡ y
reads F xs i x h e inv = sym (ap F (read_drop xs i x h e)) ∙ inv

pub ends : {X Y : Type 0} (F : List X → Y) (xs : List X) (i : ℕ) {y : Y} → length xs ≤ i → F (drop i xs) ≡ y → F [] ≡ y
ends F xs i h inv = sym (at_drop_all F xs i h) ∙ inv
