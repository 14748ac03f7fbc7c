use Rattle.std.proofs.Common.{sym, ◌∙◌, rules, tests}
use Rattle.std.proofs.lemmas.Iterator.{YieldsList-from_slice}
use Rattle.std.proofs.lemmas.Iterator.Search.{position_from_yields_List}
use Rattle.card.specs.Bytes.{same_bytes}
use Rattle.card.proofs.Finding.{find_from_position}
use Rattle.card.proofs.name.find.Goals as goal

pub returns : goal.returns
returns c =
    position_from_yields_List (λ s. same_bytes s.name c.args.name.now) _ _ c.position.result c.position.ensures.ran
    (YieldsList-from_slice c.args.symbols.now cc) (λ x b q k. search (rules, tests))
    ∙ sym (find_from_position c.args.name.now c.args.symbols.now)
