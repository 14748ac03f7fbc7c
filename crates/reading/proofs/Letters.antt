-- Letters taken off the front of a source. Assumes nothing.
use Rattle.std.proofs.Common.{◌≡◌, ℕ, suc, ◌+◌, ◌-◌, ◌<◌, true, List, [], ◌∷◌, ◌++◌, length, drop, set, replicate, Some, None, sym, refl, ap, ◌∙◌, ap₂, append_assoc, arith, length-append}
use Rattle.std.proofs.lemmas.List.{set_at}
use Rattle.std.proofs.ByRecursion.{All-push}
use Rattle.card.specs.Bytes.{letter, filled}
use Rattle.reading.specs.Sources.{first, Taken}

-- a source whose next byte is known is that byte and what comes behind it
pub first_rest : (xs : List ℕ) (b : ℕ) → first xs ≡ Some b → xs ≡ b ∷ drop 1 xs
first_rest [] b e = cc
first_rest (x ∷ xs) b e = let q : x ≡ b = cc in ap (λ y. y ∷ xs) q

pub first_none : (xs : List ℕ) → first xs ≡ None → xs ≡ []
first_none [] e = refl
first_none (x ∷ xs) e = cc

-- a name filled with zeros, with one letter more
pub filled_more : (w : List ℕ) (b : ℕ) → length w < 12 → set (filled w) (length w) b ≡ filled (w ++ (b ∷ []))
filled_more w b h =
    let n : 12 - length w ≡ suc (12 - length (w ++ (b ∷ []))) = omega (arith, length-append w (b ∷ [])) in
    ap (λ k. set (w ++ replicate k 0) (length w) b) n
    ∙ (set_at w 0 (replicate (12 - length (w ++ (b ∷ []))) 0) b (length w) refl ∙ sym (append_assoc w (b ∷ []) (replicate (12 - length (w ++ (b ∷ []))) 0)))

pub taken_more : {n : ℕ} {held before after after' : List ℕ} {b : ℕ} → Taken n held before after → first after ≡ Some b → letter b ≡ true → n < 12
    → after' ≡ drop 1 after → Taken (n + 1) (set held n b) before after'
taken_more {n} {held} {before} {after} {after'} {b} t e l h d =
    let w = t.letters in
    let q : length w ≡ n = t.as_many in
    record {
      letters = w ++ (b ∷ []);
      as_many = omega (arith, length-append w (b ∷ []));
      few = omega arith;
      each = All-push (λ x. letter x ≡ true) w b t.each l;
      spelled = t.spelled ∙ (ap (λ xs. w ++ xs) (first_rest after b e ∙ ap (λ xs. b ∷ xs) (sym d)) ∙ sym (append_assoc w (b ∷ []) after'));
      holds = ap₂ (λ l k. set l k b) t.holds (sym q) ∙ filled_more w b (omega arith);
    }
