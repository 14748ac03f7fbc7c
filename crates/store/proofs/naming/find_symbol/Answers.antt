use Rattle.std.proofs.Common.{sym, ◌∙◌, rules}
use Rattle.std.proofs.lemmas.Iterator.{YieldsList-from_slice}
use Rattle.std.proofs.lemmas.Iterator.Search.{position_from_yields_List}
use Rattle.std.proofs.lemmas.Iterator.Adapters.{position_from-zero}
use Rattle.std.proofs.lemmas.Slice.Eq.{slice_eq-Decides}
use Rattle.std.proofs.lemmas.Bool.Decides.{same_from_decides, Decides-eqb}
use Rattle.card.specs.Bytes.{letters_of, same_bytes}
use Rattle.card.proofs.Naming.{same_bytes_decides}
use Rattle.store.proofs.Named.{named_is}
use Rattle.store.proofs.naming.find_symbol.Goals as goal

pub returns-clause-first : goal.returns-clause-first
returns-clause-first c =
    let ss = c.args.symbols.now in
    let bytes = c.args.name.now in
    position_from_yields_List (λ s. same_bytes (letters_of s.name) bytes) _ _ c.position.result c.position.ensures.ran (YieldsList-from_slice ss cc)
    (λ x b q k. (search rules, same_from_decides b _ (slice_eq-Decides Decides-eqb (letters_of x.now.name) bytes b (search rules)) (same_bytes_decides _ _)))
    ∙ (position_from-zero (λ s. same_bytes (letters_of s.name) bytes) ss ∙ sym (named_is bytes 0 ss))
