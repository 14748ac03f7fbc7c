-- What the program's steps stand for in the theory. Assumes nothing.
use Rattle.std.specs.Prelude.{◌≡◌, true, false, Some, None, Option}
use Rattle.rewriting.specs.Terms as theory
use Rattle.rewriting.specs.Cards as cards
use Rattle.rewriting.specs.Matching.{fitting}
use Rattle.rewriting.specs.Runs.{at_rest, chosen, next, outermost}
use Rattle.rewriting.specs.Sites as sites
use Rattle.reference.specs.declared.step.Step.{Step}
use Rattle.explicit.specs.Meaning.{tree_of}

-- a step at the outermost site
pub record StepsOutermost (C : cards.Card) (t : theory.Tree) (s : Step) : Type 0 where
  pub has_site : at_rest C t ≡ false
  pub redex_is : tree_of s.redex ≡ chosen C outermost t
  pub rule_is : s.rule ≡ sites.rule_number (fitting C.rules (chosen C outermost t))
  pub after_is : tree_of s.after ≡ next C outermost t

-- there is a step exactly where there is a site
abbrev pub Stepped : cards.Card → theory.Tree → Option Step → Type 0
Stepped C t None = at_rest C t ≡ true
Stepped C t (Some s) = StepsOutermost C t s
