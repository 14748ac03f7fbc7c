-- The substitution of a left side that is held against a tree. Assumes nothing.
use Rattle.rewriting.specs.Terms.{Substitution}
use Rattle.rewriting.specs.Matching.{bindings}
use Rattle.matching.specs.declared.rule.Candidate.{Candidate}
use Rattle.explicit.specs.Meaning.{term_of, tree_of}

abbrev pub bindings_of : Candidate → Substitution
bindings_of c = bindings (term_of c.left.now) (tree_of c.tree.now)
