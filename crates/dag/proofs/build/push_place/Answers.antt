use Rattle.std.proofs.Common.{refl}
use Rattle.dag.proofs.Stacking.{pushed_variable}
use Rattle.dag.proofs.build.push_place.Goals as goal

pub returns-in-Variable : goal.returns-in-Variable
returns-in-Variable g c =
    record {
      capacity = refl;
      records = refl;
      cases =
          pushed_variable (g.S.Signature.arities c.args.signature.now) c.args.table.now c.args.bindings.now c.args.stack.now c.replace.new.self
          c.args.place c.in-Variable.variable _ c.in-Variable.is c.requires.readable c.requires.records c.replace.ensures.room c.replace.ensures.records;
    }
