use Rattle.std.proofs.Common.{◌≡◌, ℕ, List, [], ◌∷◌, ◌++◌, length, decimal, ap, ◌∙◌, append_assoc, arith}
use Rattle.sheet.specs.Texts.{bytes_of}
use Rattle.sheet.proofs.Lengths.{five_digits, twenty_digits, joined_length}
use Rattle.sheet.proofs.trailer.trailer.Goals as goal

abbrev top : List ℕ
top = 116 ∷ 111 ∷ 112 ∷ 32 ∷ []

abbrev place : List ℕ
place = 32 ∷ 97 ∷ 116 ∷ 32 ∷ []

pub push_number-requires : goal.push_number-requires
push_number-requires c =
    let e = ap length c.new-text.ensures in
    let a = joined_length (bytes_of c.push_all.new.self) (bytes_of c.new-text.result) top c.push_all.ensures in
    let r = five_digits c.args.root c.ranges.root.fits in
    omega arith

pub push_all-requires-2 : goal.push_all-requires-2
push_all-requires-2 c =
    let e = ap length c.new-text.ensures in
    let a = joined_length (bytes_of c.push_all.new.self) (bytes_of c.new-text.result) top c.push_all.ensures in
    let b = joined_length (bytes_of c.push_number.new.self) (bytes_of c.push_all.new.self) (decimal c.args.root) c.push_number.ensures in
    let r = five_digits c.args.root c.ranges.root.fits in
    omega arith

pub push_number-requires-2 : goal.push_number-requires-2
push_number-requires-2 c =
    let e = ap length c.new-text.ensures in
    let a = joined_length (bytes_of c.push_all.new.self) (bytes_of c.new-text.result) top c.push_all.ensures in
    let b = joined_length (bytes_of c.push_number.new.self) (bytes_of c.push_all.new.self) (decimal c.args.root) c.push_number.ensures in
    let d = joined_length (bytes_of c.push_all-2.new.self) (bytes_of c.push_number.new.self) place c.push_all-2.ensures in
    let r = five_digits c.args.root c.ranges.root.fits in
    let p = twenty_digits c.args.place c.ranges.place.fits in
    omega arith

pub push-requires : goal.push-requires
push-requires c =
    let e = ap length c.new-text.ensures in
    let a = joined_length (bytes_of c.push_all.new.self) (bytes_of c.new-text.result) top c.push_all.ensures in
    let b = joined_length (bytes_of c.push_number.new.self) (bytes_of c.push_all.new.self) (decimal c.args.root) c.push_number.ensures in
    let d = joined_length (bytes_of c.push_all-2.new.self) (bytes_of c.push_number.new.self) place c.push_all-2.ensures in
    let g = joined_length (bytes_of c.push_number-2.new.self) (bytes_of c.push_all-2.new.self) (decimal c.args.place) c.push_number-2.ensures in
    let r = five_digits c.args.root c.ranges.root.fits in
    let p = twenty_digits c.args.place c.ranges.place.fits in
    omega arith

regrouped : (a b c d e : List ℕ) → (((a ++ b) ++ c) ++ d) ++ e ≡ a ++ (b ++ (c ++ (d ++ e)))
regrouped a b c d e = simp append_assoc

pub returns : goal.returns
returns c =
    let r = decimal c.args.root in
    let p = decimal c.args.place in
    c.push.ensures
    ∙ (ap (λ x. x ++ (10 ∷ []))
    (c.push_number-2.ensures
    ∙ ap (λ x. x ++ p) (c.push_all-2.ensures ∙ ap (λ x. x ++ place) (c.push_number.ensures ∙ ap (λ x. x ++ r) (c.push_all.ensures ∙ ap (λ x. x ++ top) c.new-text.ensures))))
    ∙ regrouped top r place p (10 ∷ []))
