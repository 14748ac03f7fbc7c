-- A tree as text, and a line that holds the front of a text. Assumes nothing.
use Rattle.std.specs.Prelude.{◌≡◌, ℕ, List, [], ◌∷◌, ◌++◌, length, take, vec_items, nat_lt}
use Rattle.rewriting.specs.Terms.{Tree, node, Trees, nil, cons}
use Rattle.notation.specs.declared.text.Line.{Line}

-- a constant is its name; any other tree is the name and, in brackets, its children with commas between
abbrev mutual
  pub text : (ℕ → List ℕ) → Tree → List ℕ
  text N (node f ts) = N f ++ text_children N ts

  pub text_children : (ℕ → List ℕ) → Trees → List ℕ
  text_children N nil = []
  text_children N (cons t ts) = (40 ∷ []) ++ text N t ++ text_rest N ts

  -- the children behind the first, and the closing bracket
  pub text_rest : (ℕ → List ℕ) → Trees → List ℕ
  text_rest N nil = 41 ∷ []
  text_rest N (cons t ts) = (44 ∷ []) ++ text N t ++ text_rest N ts

-- the line has the first 200 bytes, and says whether there were more
pub record Holds (l : Line) (bytes : List ℕ) : Type 0 where
  pub front : vec_items l.bytes ≡ take 200 bytes
  pub longer : l.cut ≡ nat_lt 200 (length bytes)
