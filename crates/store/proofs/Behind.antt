-- A text written behind another in a buffer. Assumes nothing.
use Rattle.std.proofs.Common.{◌≡◌, ℕ, ◌+◌, ◌-◌, List, [], ◌++◌, length, take, drop, sym, ap, ◌∙◌, ap₂, append_assoc, append-nil, arith, length-append, length-drop}
use borrow.Rule.Slice.PartMut.{put_mid}
use Rattle.std.proofs.lemmas.List.{drop_all, drop_at, drop-drop, take_at, take_rest}
use Rattle.sheet.specs.Texts.{PutAtFront}

-- a text at the front of a buffer's tail
pub tail_put : (text before after : List ℕ) (at n : ℕ) → PutAtFront text n (take (length before - at) (drop at before)) after
    → put_mid at (length before - at) before after ≡ take at before ++ (text ++ drop (at + n) before)
tail_put text before after at n p =
    let rest : after ≡ text ++ drop (at + n) before =
    p.holds ∙ ap (λ r. text ++ r) (ap₂ drop (sym p.count) (take_rest before at) ∙ drop-drop n at before) in
    let none = drop_all (length before - at) (drop at before) (omega (arith, length-drop at before)) in
    ap (λ r. take at before ++ (after ++ r)) none ∙ ap (λ r. take at before ++ r) (append-nil after ∙ rest)

-- one text more
pub put_more : (front text before mid after : List ℕ) (end new : ℕ) → PutAtFront front end before mid → new ≡ end + length text
    → after ≡ take end mid ++ (text ++ drop new mid) → PutAtFront (front ++ text) new before after
put_more front text before mid after end new p e w =
    let l = length-append front text in
    let count : new ≡ length (front ++ text) = omega (arith, p.count) in
    let old : take end mid ≡ front = ap (take end) p.holds ∙ take_at front (drop (length front) before) end (sym p.count) in
    let tail : drop end mid ≡ drop (length front) before = ap (drop end) p.holds ∙ drop_at front (drop (length front) before) end (sym p.count) in
    let rest : drop new mid ≡ drop (length (front ++ text)) before =
    ap (λ m. drop m mid) e ∙ (sym (drop-drop (length text) end mid) ∙ (ap (drop (length text)) tail ∙ (drop-drop (length text) (length front) before ∙ ap (λ m. drop m before) (sym l)))) in
    record { count = count; holds = w ∙ (ap₂ (λ x y. x ++ (text ++ y)) old rest ∙ sym (append_assoc front text (drop (length (front ++ text)) before))) }

pub nothing_put : (text before : List ℕ) → text ≡ [] → PutAtFront text 0 before before
nothing_put text before e = let l = ap length e in record { count = sym l; holds = sym (ap (λ t. t ++ drop (length t) before) e) }
