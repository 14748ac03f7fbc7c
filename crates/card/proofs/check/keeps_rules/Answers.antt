use Rattle.std.proofs.Common.{refl, arith}
use Rattle.card.proofs.Rules.{kept_told, Tested}
use Rattle.card.proofs.check.keeps_rules.Goals as goal

pub returns : goal.returns
returns c =
    let ss = c.args.symbols.now in
    let rs = c.args.rules.now in
    let b = c.all_rules.result in
    let tested : Tested ss rs b c.args.card.symbols c.args.card.rules =
    record {
      each_symbol = c.if-not-all_symbols.ensures.0 refl;
      distinct = c.if-not-names_distinct.ensures.0 refl;
      rules_told = c.all_rules.ensures;
    } in
    kept_told ss rs c.args.card b (omega arith) (omega arith) (omega arith) (omega arith) tested
