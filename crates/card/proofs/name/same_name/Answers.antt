use Rattle.std.proofs.lemmas.Slice.Eq.{slice_eq-Decides}
use Rattle.std.proofs.lemmas.Bool.Decides.{same_from_decides, Decides-eqb}
use Rattle.card.proofs.Naming.{same_bytes_decides}
use Rattle.card.proofs.name.same_name.Goals as goal

pub returns : goal.returns
returns c = same_from_decides _ _ (slice_eq-Decides Decides-eqb c.args.a.now c.args.b.now _ c.eq.ensures) (same_bytes_decides c.args.a.now c.args.b.now)
