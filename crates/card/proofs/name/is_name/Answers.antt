use Rattle.std.proofs.Common.{◌≡◌, not, eqb, length, drop, sym, ap, ◌∙◌, rules, tests}
use Rattle.std.specs.List.{list_all}
use Rattle.std.proofs.lemmas.Bool.{true≢false}
use Rattle.std.proofs.lemmas.Iterator.{YieldsList-from_slice}
use Rattle.std.proofs.lemmas.Iterator.Adapters.{YieldsList-from_skip}
use Rattle.std.proofs.lemmas.Iterator.Search.{all_from_yields_List}
use Rattle.card.specs.Bytes.{letter}
use Rattle.card.proofs.Naming.{name_decided, no_letter, no_letters}
use Rattle.card.proofs.name.is_name.Goals as goal
use Rattle.card.proofs.name.is_name.Goals.{then-not-is_empty, else-not-is_empty}

pub returns-then-all : goal.returns-then-all
returns-then-all c =
    let bs = c.args.name.now in
    let k = c.letters-letters.result.now in
    let zeros : c.all-then-all.result ≡ list_all (λ b. eqb b 0) (drop (length k) bs) =
    all_from_yields_List (λ b. eqb b 0) _ _ c.all-then-all.result c.all-then-all.ensures.ran
    (YieldsList-from_skip (length k) (YieldsList-from_slice bs (cc)) (cc)) (λ x b q j. search (rules, tests)) in
    elim c.if-not-is_empty.branch [
      | then-not-is_empty w ↦
          let letters : w.all.result ≡ list_all letter k =
          all_from_yields_List letter _ _ w.all.result w.all.ensures.ran (YieldsList-from_slice k (cc)) (λ x b q j. search (rules, tests)) in
          name_decided bs c.told-name k c.letters-letters.ensures c.all-then-all.result c.is_empty.result c.is_empty.ensures w.if-not-is_empty.true
          (sym letters ∙ (sym w.value-is ∙ c.if-all.true)) zeros
      | else-not-is_empty w ↦ absurd (true≢false (sym c.if-all.true ∙ (w.value-is ∙ ap not w.if-not-is_empty.false)))
    ]

pub returns-else-all : goal.returns-else-all
returns-else-all c =
    let bs = c.args.name.now in
    let k = c.letters-letters.result.now in
    elim c.if-not-is_empty.branch [
      | then-not-is_empty w ↦
          let letters : w.all.result ≡ list_all letter k =
          all_from_yields_List letter _ _ w.all.result w.all.ensures.ran (YieldsList-from_slice k (cc)) (λ x b q j. search (rules, tests)) in
          no_letter bs c.told-name k c.letters-letters.ensures c.if-not-is_empty.value c.if-all.false (w.value-is ∙ letters)
      | else-not-is_empty w ↦
          no_letters bs c.told-name k c.letters-letters.ensures c.if-not-is_empty.value c.is_empty.result c.if-all.false c.is_empty.ensures w.if-not-is_empty.false
    ]
