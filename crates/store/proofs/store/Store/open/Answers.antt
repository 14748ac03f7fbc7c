use Rattle.std.proofs.Common.{◌≤◌, length, take, vec_len, refl, arith, length-take}
use Rattle.card.specs.Records.{arities}
use Rattle.store.proofs.Opening.{few_arities, ok_kept, fresh_compact, fresh_on}
use Rattle.store.proofs.store.Store.open.Goals as goal

pub invariant_of-result : goal.invariant_of-result
invariant_of-result c =
    let kept = c.if-not-keeps_rules.ensures.0 refl in
    let few = kept.few_symbols in
    let fresh = ok_kept c.new.result c.map_err.result c.in_ok-tins.tins _ _ _ c.map_err.ensures.cases c.in_ok-tins.was c.new.ensures in
    let n = c.args.card.symbols in
    let ss = c.args.symbols.now in
    let many : length (take n ss) ≤ 64 = omega (arith, length-take n ss) in
    let each = kept.keeps.each_symbol in
    record {
      many = many;
      few = few_arities (take n ss) each;
      compact = fresh_compact c.in_ok-tins.tins (vec_len c.args.memory.nodes) fresh;
      card = fresh_on (arities (take n ss)) c.in_ok-tins.tins (vec_len c.args.memory.nodes) fresh;
    }
