use Rattle.std.proofs.Common.{eqb, rules, tests}
use Rattle.std.proofs.lemmas.Iterator.{YieldsList-from_slice}
use Rattle.std.proofs.lemmas.Iterator.Search.{position_from_yields_List}
use Rattle.card.proofs.Naming.{letters_up_to_zero}
use Rattle.card.proofs.name.letters.Goals as goal

pub returns : goal.returns
returns c =
    letters_up_to_zero c.args.name.now c.told-name c.position.result c.unwrap_or-n.result
    (position_from_yields_List (λ b. eqb b 0) _ _ c.position.result c.position.ensures.ran
    (YieldsList-from_slice c.args.name.now cc) (λ x b q k. search (rules, tests)))
    c.unwrap_or-n.ensures
