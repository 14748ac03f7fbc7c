use Rattle.std.proofs.Common.{rules}
use Rattle.explicit.specs.Meaning.{listed}
use Rattle.listing.proofs.Searches.{row_is}
use Rattle.listing.proofs.sheet.row_for.Goals as goal

pub returns : goal.returns
returns c =
    row_is (listed c.args.order.now) c.args.tree.now c.deref.result.now c.in_ok-collect.field-0.items c.deref.ensures.value (search rules)
