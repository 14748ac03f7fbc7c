-- Membership in lists of trees: the test for it, places, lists without repetition, and how long they are. Assumes nothing.
use Rattle.std.proofs.Common.{◌≡◌, ℕ, zero, suc, ◌<◌, ◌≤◌, Bool, true, false, ◌⊎◌, ◌↔◌, List, [], ◌∷◌, ◌++◌, length, get_or, Decides, sym, refl, ap, ◌∙◌, inl, inr, ⊎_elim, arith}
use mathlib.Core.List.Memᴰ
use mathlib.Core.List.{Memᴰ}
use Rattle.std.proofs.lemmas.Bool.{or_cases, or_left, or_right, true≢false}
use Rattle.rewriting.specs.Terms.{Tree, same}
use Rattle.rewriting.specs.Subterms.{member, add, Distinct}
use Rattle.rewriting.proofs.Equality.{same_eq, same_decides}

pub member_mem : (t : Tree) (xs : List Tree) → member t xs ≡ true → Memᴰ t xs
member_mem t [] h = absurd (true≢false (sym h))
member_mem t (x ∷ xs) h =
    ⊎_elim (λ e. Memᴰ.head (same_eq t x e)) (λ k. Memᴰ.tail (member_mem t xs k)) (or_cases (same t x) (member t xs) h)

pub mem_member : (t : Tree) {xs : List Tree} → Memᴰ t xs → member t xs ≡ true
mem_member t (Memᴰ.head {x} {xs} e) = or_left (same t x) (member t xs) ((same_decides t x).1 e)
mem_member t (Memᴰ.tail {x} {xs} m) = or_right (same t x) (member t xs) (mem_member t m)

pub member_decides : (t : Tree) (xs : List Tree) → Decides (member t xs) (Memᴰ t xs)
member_decides t xs = (member_mem t xs, λ m. mem_member t m)

pub not_member : (t : Tree) (xs : List Tree) → member t xs ≡ false → Memᴰ t xs → ⊥
not_member t xs h m = true≢false (sym (mem_member t m) ∙ h)

-- `add` by its two cases
pub add_cases : (P : List Tree → Type 0) (t : Tree) (xs : List Tree) → (Memᴰ t xs → P xs) → ((Memᴰ t xs → ⊥) → P (xs ++ (t ∷ []))) → P (add t xs)
add_cases P t xs old new = go (member t xs) refl
  where
    go : (b : Bool) → member t xs ≡ b → P (elim b as (λ x. List Tree) [ true ↦ xs | false ↦ xs ++ (t ∷ []) ])
    go true e = old (member_mem t xs e)
    go false e = new (not_member t xs e)

pub add_mem : (s t : Tree) (xs : List Tree) → Memᴰ s (add t xs) → Memᴰ s xs ⊎ (s ≡ t)
add_mem s t xs =
    add_cases (λ ys. Memᴰ s ys → Memᴰ s xs ⊎ (s ≡ t)) t xs (λ k m. inl m)
    (λ k m. ⊎_elim inl (λ e. inr (Memᴰ.eq_of_singleton e)) (Memᴰ.append_cases xs m))

pub add_keeps : (s t : Tree) (xs : List Tree) → Memᴰ s xs → Memᴰ s (add t xs)
add_keeps s t xs m = add_cases (λ ys. Memᴰ s ys) t xs (λ k. m) (λ k. Memᴰ.append_left (t ∷ []) m)

pub add_has : (s t : Tree) (xs : List Tree) → s ≡ t → Memᴰ s (add t xs)
add_has s t xs e = add_cases (λ ys. Memᴰ s ys) t xs (λ k. Memᴰ.cast e k) (λ k. Memᴰ.append_right xs (Memᴰ.head e))

-- by place
pub mem_place : (d : Tree) {x : Tree} {xs : List Tree} → Memᴰ x xs → (i : ℕ) × (i < length xs) × (get_or xs i d ≡ x)
mem_place d (Memᴰ.head {x = y} {xs} e) = (0, omega arith, sym e)
mem_place d (Memᴰ.tail {x = y} {xs} m) = let r = mem_place d m in (suc r.0, omega arith, r.2)

pub place_mem : (d : Tree) (xs : List Tree) (i : ℕ) → i < length xs → Memᴰ (get_or xs i d) xs
place_mem d [] i h = absurd (omega arith)
place_mem d (x ∷ xs) zero h = Memᴰ.head refl
place_mem d (x ∷ xs) (suc i) h = Memᴰ.tail (place_mem d xs i (omega arith))

-- a list without one of its members
abbrev without : {x : Tree} {xs : List Tree} → Memᴰ x xs → List Tree
without (Memᴰ.head {xs} e) = xs
without (Memᴰ.tail {x = y} m) = y ∷ without m

without_length : {x : Tree} {xs : List Tree} (m : Memᴰ x xs) → length xs ≡ suc (length (without m))
without_length (Memᴰ.head e) = refl
without_length (Memᴰ.tail m) = ap suc (without_length m)

without_keeps : {x z : Tree} {xs : List Tree} (m : Memᴰ x xs) → (z ≡ x → ⊥) → Memᴰ z xs → Memᴰ z (without m)
without_keeps (Memᴰ.head e) ne (Memᴰ.head q) = absurd (ne (q ∙ sym e))
without_keeps (Memᴰ.head e) ne (Memᴰ.tail k) = k
without_keeps (Memᴰ.tail m) ne (Memᴰ.head q) = Memᴰ.head q
without_keeps (Memᴰ.tail m) ne (Memᴰ.tail k) = Memᴰ.tail (without_keeps m ne k)

pub distinct_tail : (x : Tree) (xs : List Tree) → Distinct (x ∷ xs) → Distinct xs
distinct_tail x xs u d i j h k e = let z = u d (suc i) (suc j) (omega arith) (omega arith) e in omega arith

pub distinct_head : (x : Tree) (xs : List Tree) → Distinct (x ∷ xs) → Memᴰ x xs → ⊥
distinct_head x xs u m =
    let r = mem_place x m in
    let z = u x 0 (suc r.0) (omega arith) (omega (arith, r.1)) (sym r.2) in
    omega arith

pub fewer_members : (xs ys : List Tree) → Distinct xs → ((t : Tree) → Memᴰ t xs → Memᴰ t ys) → length xs ≤ length ys
fewer_members [] ys u h = omega arith
fewer_members (x ∷ xs) ys u h =
    let m = h x (Memᴰ.head refl) in
    let ih = fewer_members xs (without m) (distinct_tail x xs u)
    (λ z k. without_keeps m (λ e. distinct_head x xs u (Memᴰ.cast (sym e) k)) (h z (Memᴰ.tail k))) in
    omega (arith, without_length m)

pub same_members : (xs ys : List Tree) → Distinct xs → Distinct ys → ((t : Tree) → Memᴰ t xs ↔ Memᴰ t ys) → length xs ≡ length ys
same_members xs ys u v h =
    let p = fewer_members xs ys u (λ z. (h z).0) in
    let q = fewer_members ys xs v (λ z. (h z).1) in
    omega arith
