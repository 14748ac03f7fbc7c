-- Trees, terms and substitution. Symbols and variables are numbers; a tree is a term without variables. Assumes nothing.
use Rattle.std.specs.Prelude.{◌≡◌, ℕ, zero, suc, ◌+◌, Bool, true, false, ◌&&◌, ◌||◌, List, [], ◌∷◌, Decides, ◌==◌}

-- a tree is a symbol over its children, from left to right
mutual
  pub data Tree : Type 0 where
    node : ℕ → Trees → Tree

  pub data Trees : Type 0 where
    nil : Trees
    cons : Tree → Trees → Trees

-- a term may have variables in the place of trees
mutual
  pub data Term : Type 0 where
    var : ℕ → Term
    app : ℕ → Terms → Term

  pub data Terms : Type 0 where
    nilᵗ : Terms
    consᵗ : Term → Terms → Terms

abbrev pub symbol : Tree → ℕ
symbol (node f ts) = f

abbrev pub children : Tree → Trees
children (node f ts) = ts

abbrev pub count : Trees → ℕ
count nil = zero
count (cons t ts) = suc (count ts)

abbrev pub countᵗ : Terms → ℕ
countᵗ nilᵗ = zero
countᵗ (consᵗ t ts) = suc (countᵗ ts)

abbrev pub to_list : Trees → List Tree
to_list nil = []
to_list (cons t ts) = t ∷ to_list ts

-- how many places the written-out tree has
abbrev mutual
  pub size : Tree → ℕ
  size (node f ts) = suc (sizes ts)

  pub sizes : Trees → ℕ
  sizes nil = zero
  sizes (cons t ts) = size t + sizes ts

-- the test for equality, which compares symbols and children
abbrev mutual
  pub same : Tree → Tree → Bool
  same (node f ts) (node g us) = f == g && sames ts us

  pub sames : Trees → Trees → Bool
  sames nil nil = true
  sames nil (cons u us) = false
  sames (cons t ts) nil = false
  sames (cons t ts) (cons u us) = same t u && sames ts us

-- a substitution gives a tree for each variable
abbrev pub Substitution : Type 0
Substitution = ℕ → Tree

abbrev mutual
  pub apply : Substitution → Term → Tree
  apply σ (var v) = σ v
  apply σ (app f ts) = node f (applies σ ts)

  pub applies : Substitution → Terms → Trees
  applies σ nilᵗ = nil
  applies σ (consᵗ t ts) = cons (apply σ t) (applies σ ts)

-- whether a variable occurs in a term
abbrev mutual
  pub occurs : ℕ → Term → Bool
  occurs v (var w) = w == v
  occurs v (app f ts) = occurs_in v ts

  pub occurs_in : ℕ → Terms → Bool
  occurs_in v nilᵗ = false
  occurs_in v (consᵗ t ts) = occurs v t || occurs_in v ts

-- LAWS

abbrev pub EqualityIsDecided : Type 0
EqualityIsDecided = (t u : Tree) → Decides (same t u) (t ≡ u)

-- what a substitution makes of a term depends on the term's own variables only
abbrev pub SubstitutionSeesOccurringVariables : Type 0
SubstitutionSeesOccurringVariables =
    (σ τ : Substitution) (t : Term) → ((v : ℕ) → occurs v t ≡ true → σ v ≡ τ v) → apply σ t ≡ apply τ t
