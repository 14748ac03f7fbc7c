-- Roots of a table: the trees that they hold, walking from them, their new numbers. Assumes nothing.
use Rattle.std.proofs.Common.{◌≡◌, ℕ, zero, suc, ◌<◌, ◌≤◌, true, List, [], ◌∷◌, ◌++◌, map, length, get_or, Some, None, Option, sym, refl, ap, ◌∙◌, subst, ap₂, arith}
use Rattle.std.specs.List.{AllByRecursion, flat_map}
use Rattle.std.proofs.lemmas.List.{get_or_append_left}
use Rattle.std.proofs.lemmas.Bool.{lt-ltb, ltb-true}
use Rattle.rewriting.specs.Terms.{Tree, cons}
use Rattle.rewriting.specs.Subterms.{in_first, in_rest, self, SubtermIn}
use Rattle.dag.specs.Roots.{held, held_trees, in_use, root_trees, RootsInUse}
use Rattle.dag.specs.Trees.{blank_tree, from_list, tree_at}

pub root_below : (n k : ℕ) (o : Option ℕ) → o ≡ Some k → in_use n o ≡ true → k < n
root_below n k o e h = ltb-true k n (ap (in_use n) (sym e) ∙ h)

pub in_use_more : (n m : ℕ) (o : Option ℕ) → n ≤ m → in_use n o ≡ true → in_use m o ≡ true
in_use_more n m None l h = refl
in_use_more n m (Some k) l h = lt-ltb k m (omega (arith, ltb-true k n h))

-- the records of the roots that are there
abbrev pub root_record : Option ℕ → List ℕ
root_record None = []
root_record (Some k) = k ∷ []

abbrev pub root_records : List (Option ℕ) → List ℕ
root_records roots = flat_map root_record roots

pub roots_over : (ts : List Tree) (roots : List (Option ℕ)) → root_trees ts roots ≡ from_list (map (tree_at ts) (root_records roots))
roots_over ts [] = refl
roots_over ts (None ∷ roots) = roots_over ts roots
roots_over ts (Some k ∷ roots) = ap (cons (tree_at ts k)) (roots_over ts roots)

pub root_records_used : (n : ℕ) (roots : List (Option ℕ)) → RootsInUse n roots → AllByRecursion (λ k. k < n) (root_records roots)
root_records_used n [] used = tt
root_records_used n (None ∷ roots) used = root_records_used n roots (λ i h. used (suc i) (omega arith))
root_records_used n (Some k ∷ roots) used = (ltb-true k n (used 0 (omega arith)), root_records_used n roots (λ i h. used (suc i) (omega arith)))

-- a root's tree is one of the roots' trees
pub root_there : (ts : List Tree) (roots : List (Option ℕ)) (i k : ℕ) → i < length roots → get_or roots i None ≡ Some k → SubtermIn (tree_at ts k) (root_trees ts roots)
root_there ts [] i k h e = absurd (omega arith)
root_there ts (o ∷ os) zero k h e = subst (λ x. SubtermIn (tree_at ts k) (root_trees ts (x ∷ os))) (sym e) (in_first (self refl))
root_there ts (None ∷ os) (suc i) k h e = root_there ts os i k (omega arith) e
root_there ts (Some x ∷ os) (suc i) k h e = in_rest (root_there ts os i k (omega arith) e)

held_more : (ts us : List Tree) (o : Option ℕ) → in_use (length ts) o ≡ true → held (ts ++ us) o ≡ held ts o
held_more ts us None h = refl
held_more ts us (Some k) h = ap Some (get_or_append_left ts us blank_tree k (ltb-true k (length ts) h))

-- more trees behind change no tree that a root holds
pub held_front : (ts us : List Tree) (roots : List (Option ℕ)) → RootsInUse (length ts) roots → held_trees (ts ++ us) roots ≡ held_trees ts roots
held_front ts us [] inside = refl
held_front ts us (o ∷ os) inside = ap₂ ◌∷◌ (held_more ts us o (inside 0 (omega arith))) (held_front ts us os (λ i h. inside (suc i) (omega arith)))
