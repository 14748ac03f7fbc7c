-- What the program's trees, terms, rules and cards stand for in the theory. Assumes nothing.
use Rattle.std.specs.Prelude.{◌≡◌, ℕ, true, List, [], ◌∷◌, map, Some, None, vec_items, string_bytes, Option}
use Rattle.std.specs.Borrow.{Bor}
use Rattle.std.specs.List.{slice_get}
use Rattle.std.specs.Option.{option_map, unwrap_or}
use Rattle.rewriting.specs.Terms as theory
use Rattle.rewriting.specs.Cards as cards
use Rattle.explicit.specs.declared.tree.Tree.{Tree, fold-Tree}
use Rattle.explicit.specs.declared.tree.Tree.TheOpen.{Tree-F}
use Rattle.explicit.specs.declared.term.Term.{Term, fold-Term}
use Rattle.explicit.specs.declared.term.Term.TheOpen.{Term-F}
use Rattle.explicit.specs.declared.card.Symbol.{Symbol}
use Rattle.explicit.specs.declared.card.Rule.{Rule}
use Rattle.explicit.specs.declared.card.Card.{Card}

-- a list of trees, as a tree has its children
abbrev pub row : List theory.Tree → theory.Trees
row [] = theory.nil
row (t ∷ ts) = theory.cons t (row ts)

-- one level: a symbol is its number
abbrev pub tree_level : Tree-F theory.Tree → theory.Tree
tree_level t = theory.node t.symbol (row t.children.items)

abbrev pub tree_of : Tree → theory.Tree
tree_of = fold-Tree theory.Tree tree_level

abbrev pub trees_of : List Tree → theory.Trees
trees_of ts = row (map tree_of ts)

-- the same of terms
abbrev pub rowᵗ : List theory.Term → theory.Terms
rowᵗ [] = theory.nilᵗ
rowᵗ (t ∷ ts) = theory.consᵗ t (rowᵗ ts)

-- and a variable is its number
abbrev pub term_level : Term-F theory.Term → theory.Term
term_level (Term-F.Variable v) = theory.var v
term_level (Term-F.Symbol f ts) = theory.app f (rowᵗ ts.items)

abbrev pub term_of : Term → theory.Term
term_of = fold-Term theory.Term term_level

abbrev pub terms_of : List Term → theory.Terms
terms_of ts = rowᵗ (map term_of ts)

-- a rule keeps its number
abbrev pub rule_of : Rule → cards.Rule
rule_of r = record { number = r.number; left = term_of r.left; right = term_of r.right }

-- the symbol at place f has number f, and there is none past the end
abbrev pub signature : List Symbol → cards.Signature
signature ss f = option_map (λ s. s.arity) (slice_get ss f)

-- the name of the symbol at a place, and nothing past the end
abbrev pub name_of : List Symbol → ℕ → List ℕ
name_of ss f = unwrap_or (option_map (λ s. string_bytes s.name) (slice_get ss f)) []

-- a card's names mean nothing to the theory
abbrev pub card_of : Card → cards.Card
card_of C = record { arity = signature (vec_items C.symbols); rules = map rule_of (vec_items C.rules) }

-- the trees that a list of references points to
abbrev pub listed : List (Bor Tree) → List theory.Tree
listed us = map (λ u. tree_of u.now) us

-- the tree that every substitution makes of a term, or nothing where the term has a variable
abbrev pub Ground : theory.Term → Option Tree → Type 0
Ground l None = (v : ℕ) × (theory.occurs v l ≡ true)
Ground l (Some t) = (σ : theory.Substitution) → tree_of t ≡ theory.apply σ l
