-- The signature of a card's symbols. Assumes nothing.
use Rattle.std.proofs.Common.{◌≡◌, ℕ, zero, suc, ◌<◌, ◌≤◌, List, [], ◌∷◌, length, get_or, Some, None, Option, MatchOption, sym, refl, ap, ◌∙◌, subst, arith}
use Rattle.std.specs.Borrow.{Bor}
use Rattle.std.specs.List.{HoldsAt}
use Rattle.card.specs.Records.{arities, blank_symbol}
use Rattle.card.specs.declared.record.SymbolRecord.{SymbolRecord}
use Rattle.dag.specs.Places.{FewChildren}

pub arity_there : (ss : List SymbolRecord) (f : ℕ) (d : SymbolRecord) → f < length ss → arities ss f ≡ Some (get_or ss f d).arity
arity_there [] f d h = absurd (omega arith)
arity_there (s ∷ ss) zero d h = refl
arity_there (s ∷ ss) (suc f) d h = arity_there ss f d (omega arith)

pub arity_missing : (ss : List SymbolRecord) (f : ℕ) → length ss ≤ f → arities ss f ≡ None
arity_missing [] f h = refl
arity_missing (s ∷ ss) zero h = absurd (omega arith)
arity_missing (s ∷ ss) (suc f) h = arity_missing ss f (omega arith)

-- the arity of the record that is there, and none if none is
pub arity_read : (ss : List SymbolRecord) (f : ℕ) (r : Option (Bor SymbolRecord)) (a : Option ℕ)
    → MatchOption r (length ss ≤ f) (λ x. (f < length ss) × HoldsAt (λ y. x.now ≡ y) ss f)
    → (r ≡ None → a ≡ None) → ((x : Bor SymbolRecord) → r ≡ Some x → a ≡ Some x.now.arity) → a ≡ arities ss f
arity_read ss f None a past none some = none refl ∙ sym (arity_missing ss f past)
arity_read ss f (Some x) a there none some = some x refl ∙ (ap (λ s. Some s.arity) (there.1 blank_symbol) ∙ sym (arity_there ss f blank_symbol there.0))

-- a symbol that has an arity is on the card
pub symbol_there : (ss : List SymbolRecord) (f a : ℕ) → arities ss f ≡ Some a → f < length ss
symbol_there [] f a e = let z : ◌≡◌ {A = ℕ} 0 1 = cc in absurd (omega arith)
symbol_there (s ∷ ss) zero a e = omega arith
symbol_there (s ∷ ss) (suc f) a e = let h = symbol_there ss f a e in omega arith

pub few_children : (ss : List SymbolRecord) → ((f : ℕ) → f < length ss → (get_or ss f blank_symbol).arity ≤ 4) → FewChildren (arities ss)
few_children ss few f a e =
    let h = symbol_there ss f a e in
    let same = sym (arity_there ss f blank_symbol h) ∙ e in
    let k : (get_or ss f blank_symbol).arity ≡ a = cc in
    subst (λ n. n ≤ 4) k (few f h)
