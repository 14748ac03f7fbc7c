-- What the walk in sheet order lists: each subterm once, children first, the tree itself last. Assumes nothing.
use Rattle.std.proofs.Common.{◌≡◌, ℕ, zero, suc, ◌<◌, ◌≤◌, ◌⊎◌, ◌↔◌, List, [], ◌∷◌, ◌++◌, length, get_or, sym, refl, ap, ◌∙◌, subst, inl, inr, ⊎_elim, arith}
use mathlib.Core.List.Memᴰ
use mathlib.Core.List.{Memᴰ}
use lib.ListN.{get_or-append}
use Rattle.rewriting.specs.Terms.{Tree, node, Trees, nil, cons, children, to_list, size, sizes}
use Rattle.rewriting.specs.Subterms.{Subterm, self, below, SubtermIn, in_first, in_rest, Proper, add, walk, walks, subterms, postorder, postorders, firsts_of, Distinct, ChildrenFirst}
use Rattle.rewriting.proofs.Members.{add_cases, add_mem, add_keeps, add_has, mem_place, place_mem}

-- the walk has what was seen before and the subterms, and nothing else
mutual
  pub walk_mem : (s t : Tree) (seen : List Tree) → Memᴰ s (walk t seen) → Memᴰ s seen ⊎ Subterm s t
  walk_mem s (node f ts) seen m =
      ⊎_elim (λ h. ⊎_elim inl (λ u. inr (below u)) (walks_mem s ts seen h)) (λ e. inr (self e)) (add_mem s (node f ts) (walks ts seen) m)

  pub walks_mem : (s : Tree) (ts : Trees) (seen : List Tree) → Memᴰ s (walks ts seen) → Memᴰ s seen ⊎ SubtermIn s ts
  walks_mem s nil seen m = inl m
  walks_mem s (cons t ts) seen m =
      ⊎_elim (λ h. ⊎_elim inl (λ u. inr (in_first u)) (walk_mem s t seen h)) (λ u. inr (in_rest u)) (walks_mem s ts (walk t seen) m)

mutual
  pub walk_keeps : (s t : Tree) (seen : List Tree) → Memᴰ s seen → Memᴰ s (walk t seen)
  walk_keeps s (node f ts) seen m = add_keeps s (node f ts) (walks ts seen) (walks_keeps s ts seen m)

  pub walks_keeps : (s : Tree) (ts : Trees) (seen : List Tree) → Memᴰ s seen → Memᴰ s (walks ts seen)
  walks_keeps s nil seen m = m
  walks_keeps s (cons t ts) seen m = walks_keeps s ts (walk t seen) (walk_keeps s t seen m)

mutual
  pub walk_has : (s t : Tree) (seen : List Tree) → Subterm s t → Memᴰ s (walk t seen)
  walk_has s (node f ts) seen (self e) = add_has s (node f ts) (walks ts seen) e
  walk_has s (node f ts) seen (below u) = add_keeps s (node f ts) (walks ts seen) (walks_has s ts seen u)

  pub walks_has : (s : Tree) (ts : Trees) (seen : List Tree) → SubtermIn s ts → Memᴰ s (walks ts seen)
  walks_has s nil seen u = elim u [ ]
  walks_has s (cons t ts) seen (in_first u) = walks_keeps s ts (walk t seen) (walk_has s t seen u)
  walks_has s (cons t ts) seen (in_rest u) = walks_has s ts (walk t seen) u

pub subterms_list : (s t : Tree) → Memᴰ s (subterms t) ↔ Subterm s t
subterms_list s t = ((λ m. ⊎_elim (λ h. absurd (Memᴰ.not-nil h)) (λ u. u) (walk_mem s t [] m)), walk_has s t [])

pub proper_list : (s : Tree) (ts : Trees) → Memᴰ s (walks ts []) ↔ SubtermIn s ts
proper_list s ts = ((λ m. ⊎_elim (λ h. absurd (Memᴰ.not-nil h)) (λ u. u) (walks_mem s ts [] m)), walks_has s ts [])

pub child_in : (c : Tree) (ts : Trees) → Memᴰ c (to_list ts) → SubtermIn c ts
child_in c nil m = absurd (Memᴰ.not-nil m)
child_in c (cons t ts) m = ⊎_elim (λ e. in_first (self e)) (λ k. in_rest (child_in c ts k)) (Memᴰ.cases_cons m)

-- a list grown from its front, in which each tree is new and stands behind its children
pub data Grown : List Tree → Type 0 where
  empty : Grown []
  grown : {xs : List Tree} {t : Tree} → Grown xs → (Memᴰ t xs → ⊥) → ((c : Tree) → Memᴰ c (to_list (children t)) → Memᴰ c xs) → Grown (xs ++ (t ∷ []))

mutual
  pub walk_grown : (t : Tree) (seen : List Tree) → Grown seen → Grown (walk t seen)
  walk_grown (node f ts) seen g =
      add_cases Grown (node f ts) (walks ts seen) (λ m. walks_grown ts seen g)
      (λ new. grown (walks_grown ts seen g) new (λ c k. walks_has c ts seen (child_in c ts k)))

  pub walks_grown : (ts : Trees) (seen : List Tree) → Grown seen → Grown (walks ts seen)
  walks_grown nil seen g = g
  walks_grown (cons t ts) seen g = walks_grown ts (walk t seen) (walk_grown t seen g)

pub subterms_grown : (t : Tree) → Grown (subterms t)
subterms_grown t = walk_grown t [] empty

at_end : (xs : List Tree) (t d : Tree) → get_or (xs ++ (t ∷ [])) (length xs) d ≡ t
at_end [] t d = refl
at_end (x ∷ xs) t d = at_end xs t d

pub length_snoc : (xs : List Tree) (t : Tree) → length (xs ++ (t ∷ [])) ≡ suc (length xs)
length_snoc [] t = refl
length_snoc (x ∷ xs) t = ap suc (length_snoc xs t)

-- a place below suc n is below n, or n itself
data Last (n i : ℕ) : Type 0 where
  early : i < n → Last n i
  last : i ≡ n → Last n i

last_or_early : (n i : ℕ) → i < suc n → Last n i
last_or_early zero zero h = last refl
last_or_early zero (suc i) h = absurd (omega arith)
last_or_early (suc n) zero h = early (omega arith)
last_or_early (suc n) (suc i) h = go (last_or_early n i (omega arith))
  where
    go : Last n i → Last (suc n) (suc i)
    go (early k) = early (omega arith)
    go (last e) = last (ap suc e)

-- what stands in xs ++ [t]: an earlier place has what xs has there, the last place has t
module _ (d : Tree) (xs : List Tree) (t : Tree) where
  snoc_early : (i : ℕ) → i < length xs → get_or (xs ++ (t ∷ [])) i d ≡ get_or xs i d
  snoc_early i h = get_or-append xs (t ∷ []) d i h

  snoc_last : (i : ℕ) → i ≡ length xs → get_or (xs ++ (t ∷ [])) i d ≡ t
  snoc_last i e = ap (λ n. get_or (xs ++ (t ∷ [])) n d) e ∙ at_end xs t d

  snoc_place : (i : ℕ) → i < length (xs ++ (t ∷ [])) → Last (length xs) i
  snoc_place i h = last_or_early (length xs) i (rw length_snoc at h)

pub grown_children_first : {xs : List Tree} → Grown xs → ChildrenFirst xs
grown_children_first empty d i h c k = absurd (omega arith)
grown_children_first (grown {xs} {t} g new kids) d i h c k = go (λ l m. grown_children_first g d i l c m) (snoc_place d xs t i h) k
  where
    go : (i < length xs → Memᴰ c (to_list (children (get_or xs i d))) → (j : ℕ) × (j < i) × (get_or xs j d ≡ c))
        → Last (length xs) i → Memᴰ c (to_list (children (get_or (xs ++ (t ∷ [])) i d))) → (j : ℕ) × (j < i) × (get_or (xs ++ (t ∷ [])) j d ≡ c)
    go rec (early l) m =
        let r = rec l (subst (λ z. Memᴰ c (to_list (children z))) (snoc_early d xs t i l) m) in
        (r.0, r.1, snoc_early d xs t r.0 (omega arith) ∙ r.2)
    go rec (last e) m =
        let r = mem_place d (kids c (subst (λ z. Memᴰ c (to_list (children z))) (snoc_last d xs t i e) m)) in
        (r.0, omega (arith, r.1), snoc_early d xs t r.0 r.1 ∙ r.2)

pub grown_distinct : {xs : List Tree} → Grown xs → Distinct xs
grown_distinct empty d i j h k e = absurd (omega arith)
grown_distinct (grown {xs} {t} g new kids) d i j h k e =
    go (λ a b. grown_distinct g d i j a b) (snoc_place d xs t i h) (snoc_place d xs t j k)
  where
    go : (i < length xs → j < length xs → get_or xs i d ≡ get_or xs j d → i ≡ j) → Last (length xs) i → Last (length xs) j → i ≡ j
    go rec (early a) (early b) = rec a b (sym (snoc_early d xs t i a) ∙ (e ∙ snoc_early d xs t j b))
    go rec (early a) (last b) = absurd (new (Memᴰ.cast (sym (snoc_last d xs t j b) ∙ (sym e ∙ snoc_early d xs t i a)) (place_mem d xs i a)))
    go rec (last a) (early b) = absurd (new (Memᴰ.cast (sym (snoc_last d xs t i a) ∙ (e ∙ snoc_early d xs t j b)) (place_mem d xs j b)))
    go rec (last a) (last b) = a ∙ sym b

-- a subterm has at most as many places as its tree, and a proper one fewer
mutual
  pub subterm_size : {s t : Tree} → Subterm s t → size s ≤ size t
  subterm_size (self e) = omega (arith, ap size e)
  subterm_size (below p) = omega (arith, in_size p)

  in_size : {s : Tree} {ts : Trees} → SubtermIn s ts → size s ≤ sizes ts
  in_size (in_first p) = omega (arith, subterm_size p)
  in_size (in_rest p) = omega (arith, in_size p)

pub proper_size : (s t : Tree) → Proper s t → size s < size t
proper_size s (node f ts) p = omega (arith, in_size p)

pub subterms_last : (t : Tree) → subterms t ≡ walks (children t) [] ++ (t ∷ [])
subterms_last (node f ts) =
    add_cases (λ xs. xs ≡ walks ts [] ++ (node f ts ∷ [])) (node f ts) (walks ts [])
    (λ m. absurd (omega (arith, proper_size (node f ts) (node f ts) ((proper_list (node f ts) ts).0 m)))) (λ new. refl)

firsts_of_append : (seen xs ys : List Tree) → firsts_of seen (xs ++ ys) ≡ firsts_of (firsts_of seen xs) ys
firsts_of_append seen [] ys = refl
firsts_of_append seen (x ∷ xs) ys = firsts_of_append (add x seen) xs ys

mutual
  pub walk_firsts : (t : Tree) (seen : List Tree) → walk t seen ≡ firsts_of seen (postorder t)
  walk_firsts (node f ts) seen =
      ap (add (node f ts)) (walks_firsts ts seen) ∙ sym (firsts_of_append seen (postorders ts) (node f ts ∷ []))

  pub walks_firsts : (ts : Trees) (seen : List Tree) → walks ts seen ≡ firsts_of seen (postorders ts)
  walks_firsts nil seen = refl
  walks_firsts (cons t ts) seen =
      ap (walks ts) (walk_firsts t seen)
      ∙ (walks_firsts ts (firsts_of seen (postorder t)) ∙ sym (firsts_of_append seen (postorder t) (postorders ts)))
