-- What the tins hold after one of them got another tree. Assumes nothing.
use Rattle.std.proofs.Common.{◌≡◌, ℕ, suc, ◌<◌, true, List, [], ◌∷◌, ◌++◌, length, get_or, set, Some, None, Option, sym, refl, ap, ◌∙◌, subst, ap₂, ⊎_elim, arith, length-set}
use lib.ListN.{get_or-append}
use Rattle.std.proofs.lemmas.List.{get_or-set_same, get_or-set_other, map-set}
use Rattle.std.proofs.lemmas.Bool.{cases_eq, ltb-true}
use Rattle.rewriting.specs.Terms.{Tree}
use Rattle.rewriting.specs.Cards.{Signature}
use Rattle.dag.specs.Roots.{Compacted, held, held_trees, in_use, RootsInUse}
use Rattle.dag.specs.Trees.{blank_tree}
use Rattle.store.specs.OnCard.{tin_on}

-- records in use keep their trees where records are added
held_front : (ts added : List Tree) (o : Option ℕ) → in_use (length ts) o ≡ true → held (ts ++ added) o ≡ held ts o
held_front ts added None h = refl
held_front ts added (Some k) h = ap Some (get_or-append ts added blank_tree k (ltb-true k (length ts) h))

pub held_trees_front : (ts added : List Tree) (roots : List (Option ℕ)) → RootsInUse (length ts) roots → held_trees (ts ++ added) roots ≡ held_trees ts roots
held_trees_front ts added [] used = refl
held_trees_front ts added (o ∷ os) used = ap₂ (λ x xs. x ∷ xs) (held_front ts added o (used 0 (omega arith))) (held_trees_front ts added os (λ i l. used (suc i) (omega arith)))

-- the tins after a table that only grew was compacted with one tin set
pub tins_set : (ts added us : List Tree) (roots roots' : List (Option ℕ)) (tin : ℕ) (root : Option ℕ) (o : Option Tree)
    → RootsInUse (length ts) roots → held (ts ++ added) root ≡ o → Compacted (ts ++ added) (set roots tin root) us roots'
    → held_trees us roots' ≡ set (held_trees ts roots) tin o
tins_set ts added us roots roots' tin root o used e c =
    c.same_trees ∙ (map-set (held (ts ++ added)) roots tin root ∙ ap₂ (λ x y. set x tin y) (held_trees_front ts added roots used) e)

-- every tin is empty or holds a tree of the card
abbrev pub AllOn : Signature → List (Option Tree) → Type 0
AllOn Σ tins = (i : ℕ) → i < length tins → tin_on Σ (get_or tins i None) ≡ true

pub set_on : (Σ : Signature) (tins : List (Option Tree)) (tin : ℕ) (o : Option Tree) → AllOn Σ tins → tin_on Σ o ≡ true → AllOn Σ (set tins tin o)
set_on Σ tins tin o on h i l =
    let m : i < length tins = omega (arith, length-set tins tin o) in
    ⊎_elim
    (λ e. subst (λ j. tin_on Σ (get_or (set tins j o) i None) ≡ true) e (subst (λ x. tin_on Σ x ≡ true) (sym (get_or-set_same tins i o None m)) h))
    (λ ne. subst (λ x. tin_on Σ x ≡ true) (sym (get_or-set_other tins tin i o None ne)) (on i m))
    (cases_eq i tin)
