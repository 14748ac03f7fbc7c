use Rattle.std.proofs.Common.{◌≡◌, ◌+◌, ◌*◌, ◌≤◌, ◌++◌, length, drop}
use Rattle.sheet.specs.SheetText.{child_numbers}
use Rattle.sheet.specs.Texts.{bytes_of}
use Rattle.sheet.proofs.line.push_children.Given as goal

-- with the children still to come the text is the whole, and each child takes six bytes at most
abbrev pub invariant-loop-child : goal.invariant-loop-child
invariant-loop-child l =
    (bytes_of l.text ++ child_numbers (drop l.child-index l.children) ≡ bytes_of l.initial.text ++ child_numbers l.children)
    × (length (bytes_of l.text) ≤ length (bytes_of l.initial.text) + 6 * l.child-index)
