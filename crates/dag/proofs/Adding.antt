-- Lists of trees without repetition: adding one, and how many fit. Assumes nothing.
use Rattle.std.proofs.Common.{◌≡◌, ℕ, zero, suc, ◌<◌, ◌≤◌, List, [], ◌∷◌, ◌++◌, length, get_or, sym, refl, ap, ◌∙◌, ⊎_elim, arith}
use mathlib.Core.List.Memᴰ
use mathlib.Core.List.{Memᴰ}
use Rattle.std.proofs.lemmas.List.{get_or_append_left, get_or_push, length_push}
use Rattle.std.proofs.lemmas.Bool.{cases_lt}
use Rattle.rewriting.specs.Terms.{Tree, node, Trees, nil, cons, to_list}
use Rattle.rewriting.specs.Subterms.{add, below, Distinct, in_first, in_rest, self, Subterm, SubtermIn, walk, walks}
use Rattle.rewriting.proofs.Members.{add_cases, fewer_members, place_mem}
use Rattle.dag.specs.Walks.{ChildrenThere}

pub add_old : (t : Tree) (xs : List Tree) → Memᴰ t xs → add t xs ≡ xs
add_old t xs m = add_cases (λ ys. ys ≡ xs) t xs (λ k. refl) (λ new. absurd (new m))

pub add_new : (t : Tree) (xs : List Tree) → (Memᴰ t xs → ⊥) → add t xs ≡ xs ++ (t ∷ [])
add_new t xs new = add_cases (λ ys. ys ≡ xs ++ (t ∷ [])) t xs (λ m. absurd (new m)) (λ k. refl)

-- a list that has a tree and with each of its trees the children has nothing to gain from a walk
mutual
  pub walk_old : (t : Tree) (xs : List Tree) → ChildrenThere xs → Memᴰ t xs → walk t xs ≡ xs
  walk_old (node f ts) xs c m = ap (add (node f ts)) (walks_old ts xs c (λ s k. c (node f ts) s m k)) ∙ add_old (node f ts) xs m

  walks_old : (ts : Trees) (xs : List Tree) → ChildrenThere xs → ((s : Tree) → Memᴰ s (to_list ts) → Memᴰ s xs) → walks ts xs ≡ xs
  walks_old nil xs c h = refl
  walks_old (cons t ts) xs c h =
      ap (walks ts) (walk_old t xs c (h t (Memᴰ.head refl))) ∙ walks_old ts xs c (λ s k. h s (Memᴰ.tail k))

-- one new tree in front or behind
pub distinct_cons : (t : Tree) (xs : List Tree) → Distinct xs → (Memᴰ t xs → ⊥) → Distinct (t ∷ xs)
distinct_cons t xs u new d zero zero h k e = refl
distinct_cons t xs u new d zero (suc j) h k e = absurd (new (Memᴰ.cast e (place_mem d xs j (omega arith))))
distinct_cons t xs u new d (suc i) zero h k e = absurd (new (Memᴰ.cast (sym e) (place_mem d xs i (omega arith))))
distinct_cons t xs u new d (suc i) (suc j) h k e = ap suc (u d i j (omega arith) (omega arith) e)

-- distinct trees among others, and one of the others besides: they are fewer
pub one_missing : (t : Tree) (xs ys : List Tree) → Distinct xs → ((s : Tree) → Memᴰ s xs → Memᴰ s ys)
    → Memᴰ t ys → (Memᴰ t xs → ⊥) → length xs < length ys
one_missing t xs ys u h m new =
    let k = fewer_members (t ∷ xs) ys (distinct_cons t xs u new)
    (λ s n. ⊎_elim (λ e. Memᴰ.cast e m) (h s) (Memᴰ.cases_cons n)) in
    omega arith

pub distinct_push : (t : Tree) (xs : List Tree) → Distinct xs → (Memᴰ t xs → ⊥) → Distinct (xs ++ (t ∷ []))
distinct_push t xs u new d i j h k e =
    let l = length_push xs t in
    ⊎_elim (λ a. ⊎_elim (λ b. u d i j a b (sym (early i a) ∙ (e ∙ early j b))) (λ b. absurd (new (here j i b a k (sym e)))) (cases_lt j (length xs)))
    (λ a. ⊎_elim (λ b. absurd (new (here i j a b h e))) (λ b. omega arith) (cases_lt j (length xs))) (cases_lt i (length xs))
  where
    early : (i : ℕ) → i < length xs → get_or (xs ++ (t ∷ [])) i d ≡ get_or xs i d
    early i a = get_or_append_left xs (t ∷ []) d i a

    here : (i j : ℕ) → length xs ≤ i → j < length xs → i < length (xs ++ (t ∷ [])) → get_or (xs ++ (t ∷ [])) i d ≡ get_or (xs ++ (t ∷ [])) j d → Memᴰ t xs
    here i j a b h q =
        let l = length_push xs t in
        Memᴰ.cast (sym (get_or_push xs t d i (omega arith)) ∙ (q ∙ early j b)) (place_mem d xs j b)

-- a list that has with each tree its children has with each tree its subterms
mutual
  pub subterm_there : (xs : List Tree) → ChildrenThere xs → {s t : Tree} → Memᴰ t xs → Subterm s t → Memᴰ s xs
  subterm_there xs c m (self e) = Memᴰ.cast e m
  subterm_there xs c m (below {f} {ts} u) = in_there xs c (λ x k. c (node f ts) x m k) u

  pub in_there : (xs : List Tree) → ChildrenThere xs → {s : Tree} {ts : Trees} → ((x : Tree) → Memᴰ x (to_list ts) → Memᴰ x xs) → SubtermIn s ts → Memᴰ s xs
  in_there xs c h (in_first {t} u) = subterm_there xs c (h t (Memᴰ.head refl)) u
  in_there xs c h (in_rest u) = in_there xs c (λ x k. h x (Memᴰ.tail k)) u
