use Rattle.std.proofs.Common.{rules}
use Rattle.store.proofs.Signatures.{arity_read}
use Rattle.store.proofs.signature.CardSymbolsSignature.arity.Goals as goal

pub returns : goal.returns
returns c =
    arity_read c.args.self.now.0.now c.args.symbol c.get.result c.map.result c.get.ensures.lookup.3 (λ e. rw e at c.map.ensures.cases)
    (λ x e. let h = rw e at c.map.ensures.cases in search rules)
