-- One level of a tree and of a term: what it stands for, by its symbol and its children. Assumes nothing.
use Rattle.std.proofs.Common.{◌≡◌, ℕ, Vec, Global, rules}
use Rattle.rewriting.specs.Terms.{app, var, node}
use Rattle.explicit.specs.declared.tree.Tree.{Tree, out-Tree, roll-Tree}
use Rattle.explicit.specs.declared.tree.Tree.TheOpen.{Tree-F}
use Rattle.explicit.specs.declared.tree.Tree.TheFolds.{fold-roll-Tree, fold_out-Tree}
use Rattle.explicit.specs.declared.term.Term.{Term, Variable, Symbol, the_lemmas}
use Rattle.explicit.specs.Meaning.{tree_level, tree_of, trees_of, term_of, terms_of}

pub tree_of-roll : (x : Tree-F Tree) → tree_of (roll-Tree x) ≡ node x.symbol (trees_of x.children.items)
tree_of-roll = fold-roll-Tree _ tree_level

pub tree_of-out : (t : Tree) → tree_of t ≡ node (out-Tree t).symbol (trees_of (out-Tree t).children.items)
tree_of-out = fold_out-Tree _ tree_level

pub term_of-variable : (v : ℕ) → term_of (Variable v) ≡ var v
term_of-variable v = search (rules, the_lemmas)

pub term_of-symbol : (f : ℕ) (ts : Vec Term Global) → term_of (Symbol f ts) ≡ app f (terms_of ts.items)
term_of-symbol f ts = search (rules, the_lemmas)
