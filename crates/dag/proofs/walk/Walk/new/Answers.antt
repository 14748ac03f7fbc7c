use Rattle.std.proofs.Common.{arith}
use Rattle.dag.proofs.Invariant.{one_tree_each}
use Rattle.dag.proofs.Visiting.{walk_starts}
use Rattle.dag.proofs.walk.Walk.new.Goals as goal

pub returns-clause-walking : goal.returns-clause-walking
returns-clause-walking c =
    let t = c.args.table.now in
    walk_starts _ _ _ (omega (arith, one_tree_each t, t.valid.fits, t.rows.ok.0, c.requires.sizes.0)) (omega (arith, one_tree_each t, t.valid.fits, t.rows.ok.0, c.requires.sizes.1)) c.requires.clear
