-- Whether a tree is among the subterms of some trees, without listing them. Assumes nothing.
use Rattle.std.proofs.Common.{◌≡◌, ℕ, ◌+◌, ◌<◌, Bool, true, false, ◌||◌, List, [], ◌∷◌, ◌++◌, length, get_or, drop, sym, refl, ap, ◌∙◌}
use mathlib.Core.Bool.{or_assoc, or-false, or_comm}
use Rattle.rewriting.specs.Terms.{Tree, node, Trees, nil, cons, same}
use Rattle.rewriting.specs.Sites.{proper}
use Rattle.rewriting.specs.Subterms.{member, add, walk, walks}
use Rattle.rewriting.proofs.Equality.{same_eq}
use Rattle.explicit.specs.declared.tree.Tree as declared
use Rattle.explicit.specs.Meaning.{tree_of, trees_of}
use Rattle.explicit.proofs.Loops.{reads}

member_push : (s t : Tree) (xs : List Tree) → member s (xs ++ (t ∷ [])) ≡ (member s xs || same s t)
member_push s t [] = or-false (same s t)
member_push s t (x ∷ xs) = ap (λ b. same s x || b) (member_push s t xs) ∙ sym (or_assoc (same s x) (member s xs) (same s t))

member_add : (s t : Tree) (xs : List Tree) → member s (add t xs) ≡ (member s xs || same s t)
member_add s t xs = go (member t xs) refl
  where
    kept : member t xs ≡ true → (b : Bool) → same s t ≡ b → member s xs ≡ (member s xs || b)
    kept there true e =
        let there' : member s xs ≡ true = ap (λ u. member u xs) (same_eq s t e) ∙ there in
        there' ∙ ap (λ c. c || true) (sym there')
    kept there false e = sym (or-false (member s xs))

    go : (b : Bool) → member t xs ≡ b → member s (elim b [ true ↦ xs | false ↦ xs ++ (t ∷ []) ]) ≡ (member s xs || same s t)
    go true there = kept there (same s t) refl
    go false away = member_push s t xs

abbrev mutual
  occurs_at : Tree → Tree → Bool
  occurs_at s (node f ts) = occurs_in s ts || same s (node f ts)

  occurs_in : Tree → Trees → Bool
  occurs_in s nil = false
  occurs_in s (cons t ts) = occurs_at s t || occurs_in s ts

mutual
  member_walk : (s t : Tree) (seen : List Tree) → member s (walk t seen) ≡ (member s seen || occurs_at s t)
  member_walk s (node f ts) seen =
      member_add s (node f ts) (walks ts seen) ∙ ap (λ b. b || same s (node f ts)) (member_walks s ts seen)
      ∙ or_assoc (member s seen) (occurs_in s ts) (same s (node f ts))

  member_walks : (s : Tree) (ts : Trees) (seen : List Tree) → member s (walks ts seen) ≡ (member s seen || occurs_in s ts)
  member_walks s nil seen = sym (or-false (member s seen))
  member_walks s (cons t ts) seen =
      member_walks s ts (walk t seen) ∙ ap (λ b. b || occurs_in s ts) (member_walk s t seen)
      ∙ or_assoc (member s seen) (occurs_at s t) (occurs_in s ts)

-- a tree is within another if it is that one, or a proper subterm of it
within : (s t : Tree) → member s (walk t []) ≡ (same s t || proper s t)
within s (node f ts) = member_add s (node f ts) (walks ts []) ∙ or_comm (member s (walks ts [])) (same s (node f ts))

-- a tree is below some trees if it is within the first of them, or below the rest
below_cons : (s t : Tree) (ts : Trees) → member s (walks (cons t ts) []) ≡ ((same s t || proper s t) || member s (walks ts []))
below_cons s t ts =
    member_walks s ts (walk t []) ∙ ap (λ b. member s (walk t []) || b) (sym (member_walks s ts []))
    ∙ ap (λ b. b || member s (walks ts [])) (within s t)

-- one turn of the search among a tree's children, where those that are left give what all of them give, y
module _ (s : Tree) (ts : List declared.Tree) (i : ℕ) (t : declared.Tree) (h : i < length ts) (e : t ≡ get_or ts i t) where
  turn : {y : Bool} → member s (walks (trees_of (drop i ts)) []) ≡ y
      → ((same s (tree_of t) || proper s (tree_of t)) || member s (walks (trees_of (drop (i + 1) ts)) [])) ≡ y
  turn inv =
      sym (below_cons s (tree_of t) (trees_of (drop (i + 1) ts))) ∙ reads (λ us. member s (walks (trees_of us) [])) ts i t h e inv

  pub is_child : {y : Bool} → member s (walks (trees_of (drop i ts)) []) ≡ y → same s (tree_of t) ≡ true → true ≡ y
  is_child inv is = ap (λ b. (b || proper s (tree_of t)) || member s (walks (trees_of (drop (i + 1) ts)) [])) (sym is) ∙ turn inv

  pub is_deeper : {y : Bool} → member s (walks (trees_of (drop i ts)) []) ≡ y → same s (tree_of t) ≡ false → proper s (tree_of t) ≡ true → true ≡ y
  is_deeper inv not_child is =
      ap (λ b. b || member s (walks (trees_of (drop (i + 1) ts)) [])) (sym is)
      ∙ ap (λ b. (b || proper s (tree_of t)) || member s (walks (trees_of (drop (i + 1) ts)) [])) (sym not_child) ∙ turn inv

  pub is_elsewhere : {y : Bool} → member s (walks (trees_of (drop i ts)) []) ≡ y → same s (tree_of t) ≡ false → proper s (tree_of t) ≡ false
      → member s (walks (trees_of (drop (i + 1) ts)) []) ≡ y
  is_elsewhere inv not_child not_below =
      ap (λ b. b || member s (walks (trees_of (drop (i + 1) ts)) [])) (sym not_below)
      ∙ ap (λ b. (b || proper s (tree_of t)) || member s (walks (trees_of (drop (i + 1) ts)) [])) (sym not_child) ∙ turn inv
