-- Terms taken from the top of a stack. Assumes nothing.
use Rattle.std.proofs.Common.{◌≡◌, ℕ, zero, suc, ◌-◌, ◌<◌, ◌≤◌, List, [], ◌∷◌, ◌++◌, map, reverse, length, take, drop, sym, refl, ap, ◌∙◌, arith, length-drop, length-take}
use Rattle.std.proofs.lemmas.List.{reverse-append, length-reverse, length-map, map-append, take-append-drop}
use Rattle.rewriting.specs.Terms as theory
use Rattle.rewriting.specs.Places.{firsts}
use Rattle.explicit.specs.declared.term.Term.{Term}
use Rattle.explicit.specs.Meaning.{rowᵗ, term_of, terms_of}
use Rattle.notation.specs.Stack.{stack_of}

-- a count takes the first of two parts if it is as long, or longer and the second part is empty
firsts_front : (n : ℕ) (ts us : List theory.Term) → length ts ≤ n → (length ts < n → length us ≡ 0) → firsts n (ts ++ us) ≡ rowᵗ ts
firsts_front zero [] us long none = refl
firsts_front zero (t ∷ ts) us long none = absurd (omega arith)
firsts_front (suc n) [] [] long none = refl
firsts_front (suc n) [] (u ∷ us) long none = absurd (omega (arith, none (omega arith)))
firsts_front (suc n) (t ∷ ts) us long none = ap (theory.consᵗ t) (firsts_front n ts us (omega arith) (λ h. none (omega arith)))

drop_front : (n : ℕ) (ts us : List theory.Term) → length ts ≤ n → (length ts < n → length us ≡ 0) → drop n (ts ++ us) ≡ us
drop_front zero [] us long none = refl
drop_front zero (t ∷ ts) us long none = absurd (omega arith)
drop_front (suc n) [] [] long none = refl
drop_front (suc n) [] (u ∷ us) long none = absurd (omega (arith, none (omega arith)))
drop_front (suc n) (t ∷ ts) us long none = drop_front n ts us (omega arith) (λ h. none (omega arith))

-- what is split off the end of a stack, turned round, and what stays
module _ (n : ℕ) (xs : List Term) (k : ℕ) (at : k ≡ length xs - n) where
  apart : stack_of xs ≡ stack_of (drop k xs) ++ stack_of (take k xs)
  apart =
      ap stack_of (sym (take-append-drop k xs)) ∙ ap (map term_of) (reverse-append (take k xs) (drop k xs))
      ∙ map-append term_of (reverse (drop k xs)) (reverse (take k xs))

  size : (ys : List Term) → length (stack_of ys) ≡ length ys
  size ys = length-map (reverse ys) term_of ∙ length-reverse ys

  long : length (stack_of (drop k xs)) ≤ n
  long = omega (arith, size (drop k xs), length-drop k xs)

  none : length (stack_of (drop k xs)) < n → length (stack_of (take k xs)) ≡ 0
  none h = omega (arith, size (drop k xs), size (take k xs), length-drop k xs, length-take k xs)

  pub taken : terms_of (reverse (drop k xs)) ≡ firsts n (stack_of xs)
  taken = sym (ap (firsts n) apart ∙ firsts_front n (stack_of (drop k xs)) (stack_of (take k xs)) long none)

  pub stays : stack_of (take k xs) ≡ drop n (stack_of xs)
  stays = sym (ap (drop n) apart ∙ drop_front n (stack_of (drop k xs)) (stack_of (take k xs)) long none)
