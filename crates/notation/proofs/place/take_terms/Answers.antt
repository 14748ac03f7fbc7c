use Rattle.std.proofs.Common.{◌≡◌, ◌-◌, length, reverse, ap, ◌∙◌, rules}
use Rattle.explicit.specs.Meaning.{terms_of}
use Rattle.notation.specs.Stack.{stack_of}
use Rattle.notation.proofs.Stacks.{taken, stays}
use Rattle.notation.proofs.place.take_terms.Goals as goal

pub returns : goal.returns
returns c =
    let s = c.args.stack.now in
    let at : c.saturating_sub.result ≡ length s.items - c.args.count = search rules in (
      ap terms_of (c.reverse.ensures.items ∙ ap reverse c.in_ok-terms.ensures.tail) ∙ taken c.args.count s.items c.saturating_sub.result at,
      ap stack_of c.in_ok-terms.ensures.items ∙ stays c.args.count s.items c.saturating_sub.result at,
    )
