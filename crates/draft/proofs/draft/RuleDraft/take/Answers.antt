use Rattle.std.proofs.Common.{subst, sym, refl, ap, ◌∙◌}
use Rattle.std.proofs.lemmas.Result.{err_from_is_err_and}
use Rattle.card.specs.Records.{Kept}
use Rattle.draft.specs.Drafts.{broken_line}
use Rattle.reading.specs.Lines.{rule_line}
use Rattle.draft.proofs.Counted.{counted}
use Rattle.draft.proofs.draft.RuleDraft.take.Goals as goal

pub returns-in_err-rule : goal.returns-in_err-rule
returns-in_err-rule g c =
    let p = err_from_is_err_and c.from_residual-in_err-rule.result c.from_residual-in_err-rule.ensures.1 in
    let kept = subst (Kept c.args.symbols.now c.args.rules.now) c.counts.ensures c.in_ok-tested.ensures in
    let same = ap (λ ss. rule_line ss c.args.self.now.rules (g.S.Source.rest c.args.line.now)) (counted c.args.self.now.symbols c.args.symbols.now kept.few_symbols) in
    rw p.1 (refl, refl, broken_line c.in_err-rule.field-0.0 p.2 kept (sym (c.in_err-rule.ensures ∙ same)))

pub returns : goal.returns
returns g c =
    let kept = subst (Kept c.args.symbols.now c.args.rules.now) c.counts.ensures c.in_ok-tested.ensures in
    let same = ap (λ ss. rule_line ss c.args.self.now.rules (g.S.Source.rest c.args.line.now)) (counted c.args.self.now.symbols c.args.symbols.now kept.few_symbols) in
    (refl, refl, record { kept = kept; rule = c.in_ok-rule.rule; line = sym (c.in_ok-rule.ensures ∙ same); written = refl })
