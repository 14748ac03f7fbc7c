-- Matching: the substitution that turns a term into a tree, computed. Assumes nothing.
use Rattle.std.specs.Prelude.{◌≡◌, ℕ, ◌≤◌, Bool, true, false, List, [], ◌∷◌, Some, None, Option, MatchOption, ◌==◌, ◌≢◌}
use mathlib.Core.List.{Memᴰ}
use Rattle.std.specs.Option.{unwrap_or, option_or}
use Rattle.rewriting.specs.Terms.{Tree, node, Trees, nil, cons, Term, var, app, Terms, nilᵗ, consᵗ, Substitution, apply, same, occurs}
use Rattle.rewriting.specs.Cards.{Rule, Ascending, VariablesWithin}

-- what stands in the tree where the term has the variable v for the first time
abbrev mutual
  pub bound : Term → Tree → ℕ → Option Tree
  bound (var w) t v = elim (w == v) [ true ↦ Some t | false ↦ None ]
  bound (app f ls) (node g ts) v = bound_in ls ts v

  pub bound_in : Terms → Trees → ℕ → Option Tree
  bound_in nilᵗ ts v = None
  bound_in (consᵗ l ls) nil v = None
  bound_in (consᵗ l ls) (cons t ts) v = option_or (bound l t v) (bound_in ls ts v)

-- the only candidate for a match; a variable that the term lacks goes to the whole tree
abbrev pub bindings : Term → Tree → Substitution
bindings l t v = unwrap_or (bound l t v) t

abbrev pub matches : Term → Tree → Bool
matches l t = same (apply (bindings l t) l) t

-- the match of a term and a tree, if there is one
abbrev pub match : Term → Tree → Option Substitution
match l t = elim (matches l t) [ true ↦ Some (bindings l t) | false ↦ None ]

-- the first rule of a list that fits a tree: where numbers ascend, the lowest-numbered one
abbrev pub fitting : List Rule → Tree → Option Rule
fitting [] t = None
fitting (r ∷ rs) t = elim (matches r.left t) [ true ↦ Some r | false ↦ fitting rs t ]

-- a rule's right side under the match of its left side
abbrev pub contracted : Rule → Tree → Tree
contracted r t = apply (bindings r.left t) r.right

-- some substitution turns the rule's left side into the tree
pub record Fits (r : Rule) (t : Tree) : Type 0 where
  pub substitution : Substitution
  pub makes : apply substitution r.left ≡ t

-- the rule with the lowest number among those of a list that fit
pub record LowestFitting (R : List Rule) (t : Tree) (r : Rule) : Type 0 where
  pub listed : Memᴰ r R
  pub fits : Fits r t
  pub lowest : (q : Rule) → Memᴰ q R → Fits q t → r.number ≤ q.number

-- LAWS

-- a computed match is a match, and where none is computed there is none
abbrev pub MatchIsFoundExactly : Type 0
MatchIsFoundExactly =
    (l : Term) (t : Tree) → MatchOption (match l t) ((σ : Substitution) → apply σ l ≢ t) (λ σ. apply σ l ≡ t)

-- two matches agree on the variables of the left side, so on every term whose variables are among them
abbrev pub MatchIsUnique : Type 0
MatchIsUnique =
    (l : Term) (t : Tree) (σ τ : Substitution) → apply σ l ≡ t → apply τ l ≡ t
    → ((v : ℕ) → occurs v l ≡ true → σ v ≡ τ v) × ((r : Term) → VariablesWithin r l → apply σ r ≡ apply τ r)

abbrev pub FittingRuleIsLowest : Type 0
FittingRuleIsLowest =
    (R : List Rule) → Ascending R → (t : Tree)
    → MatchOption (fitting R t) ((r : Rule) → Memᴰ r R → Fits r t → ⊥) (λ r. LowestFitting R t r)
