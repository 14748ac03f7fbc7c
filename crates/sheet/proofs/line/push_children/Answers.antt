use Rattle.std.proofs.Common.{◌+◌, [], ◌∷◌, ◌++◌, get_or, drop, decimal, sym, ap, ◌∙◌, append_assoc, arith}
use Rattle.std.proofs.lemmas.List.{at_drop_more, at_drop_all}
use Rattle.sheet.specs.SheetText.{child_numbers}
use Rattle.sheet.specs.Texts.{bytes_of}
use Rattle.sheet.proofs.Lengths.{five_digits, joined_length}
use Rattle.sheet.proofs.line.push_children.Goals as goal

pub push_number-requires : goal.push_number-requires
push_number-requires c =
    let child = get_or c.args.children.now c.loop-child.child-index 0 in
    let d = five_digits child (c.type_inv.children c.loop-child.child-index).fits in
    let l = joined_length (bytes_of c.push.new.self) (bytes_of c.loop-child.text) (32 ∷ []) c.push.ensures in
    omega arith

pub loop-child-preserved : goal.loop-child-preserved
loop-child-preserved c =
    let i = c.loop-child.child-index in
    let children = c.args.children.now in
    let child = get_or children i 0 in
    let text = bytes_of c.loop-child.text in
    let rest = child_numbers (drop (i + 1) children) in
    let d = five_digits child (c.type_inv.children i).fits in
    let l = joined_length (bytes_of c.push.new.self) text (32 ∷ []) c.push.ensures in
    let m = joined_length (bytes_of c.push_number.new.self) (bytes_of c.push.new.self) (decimal child) c.push_number.ensures in (
      ap (λ x. x ++ rest) (c.push_number.ensures ∙ (ap (λ x. x ++ decimal child) c.push.ensures ∙ append_assoc text (32 ∷ []) (decimal child)))
          ∙ (append_assoc text (32 ∷ decimal child) rest ∙ (ap (λ x. text ++ x) (sym (at_drop_more child_numbers children i 0 c.loop-child-test.true)) ∙ c.loop-child.invariant.0)),
      omega arith,
    )

pub returns : goal.returns
returns c =
    c.push-2.ensures
    ∙ (ap (λ x. bytes_of c.loop-child.text ++ x) (sym (at_drop_all child_numbers c.args.children.now c.loop-child.child-index c.loop-child-test.false)) ∙ c.loop-child.invariant.0)
