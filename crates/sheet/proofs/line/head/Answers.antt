use Rattle.std.proofs.Common.{◌≡◌, [], ◌∷◌, ◌++◌, length, decimal, ap, ◌∙◌, append_assoc, arith}
use Rattle.card.specs.Bytes.{letters_of}
use Rattle.card.proofs.Naming.{letters_few}
use Rattle.sheet.specs.Texts.{bytes_of}
use Rattle.sheet.proofs.Lengths.{five_digits, joined_length}
use Rattle.sheet.proofs.line.head.Goals as goal

pub push_number-requires : goal.push_number-requires
push_number-requires c = let e = ap length c.new-text.ensures in let d = five_digits c.args.number c.ranges.number.fits in omega arith

pub push-requires : goal.push-requires
push-requires c =
    let e = ap length c.new-text.ensures in
    let d = five_digits c.args.number c.ranges.number.fits in
    let l = joined_length (bytes_of c.push_number.new.self) (bytes_of c.new-text.result) (decimal c.args.number) c.push_number.ensures in
    omega arith

pub push_all-requires : goal.push_all-requires
push_all-requires c =
    let e = ap length c.new-text.ensures in
    let d = five_digits c.args.number c.ranges.number.fits in
    let l = joined_length (bytes_of c.push_number.new.self) (bytes_of c.new-text.result) (decimal c.args.number) c.push_number.ensures in
    let m = joined_length (bytes_of c.push.new.self) (bytes_of c.push_number.new.self) (32 ∷ []) c.push.ensures in
    let n = ap length c.letters.ensures in
    let k = letters_few c.args.name.now in
    omega arith

pub returns : goal.returns
returns c =
    let d = five_digits c.args.number c.ranges.number.fits in
    let name = c.letters.result.now in
    let start : bytes_of c.push_number.new.self ≡ decimal c.args.number = c.push_number.ensures ∙ ap (λ x. x ++ decimal c.args.number) c.new-text.ensures in
    let all : bytes_of c.push_all.new.self ≡ decimal c.args.number ++ (32 ∷ letters_of c.args.name.now) =
    c.push_all.ensures
    ∙ (ap (λ x. x ++ name) (c.push.ensures ∙ ap (λ x. x ++ (32 ∷ [])) start)
    ∙ (append_assoc (decimal c.args.number) (32 ∷ []) name ∙ ap (λ x. decimal c.args.number ++ (32 ∷ x)) c.letters.ensures)) in
    let l = joined_length (bytes_of c.push_all.new.self) (decimal c.args.number) (32 ∷ letters_of c.args.name.now) all in
    let k = letters_few c.args.name.now in
    record { bytes = all; short = omega arith }
