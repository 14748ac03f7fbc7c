-- The symbol that bytes name. Assumes nothing.
use Rattle.std.proofs.Common.{◌≡◌, ℕ, suc, ◌+◌, Bool, true, false, cond, List, [], ◌∷◌, Some, Option, sym, refl, ap, ◌∙◌, add-one}
use Rattle.std.specs.List.{position_from}
use Rattle.card.specs.Bytes.{letters_of, same_bytes}
use Rattle.card.specs.declared.record.SymbolRecord.{SymbolRecord}
use Rattle.store.specs.Results.{named_from}

-- the first symbol with a name is the first that passes the test for it
pub named_is : (bytes : List ℕ) (i : ℕ) (ss : List SymbolRecord) → named_from bytes i ss ≡ position_from (λ s. same_bytes (letters_of s.name) bytes) i ss
named_is bytes i [] = refl
named_is bytes i (s ∷ ss) = go (same_bytes (letters_of s.name) bytes) (named_is bytes (suc i) ss ∙ ap (λ n. position_from (λ s. same_bytes (letters_of s.name) bytes) n ss) (sym (add-one i)))
  where
    go : (b : Bool) → named_from bytes (suc i) ss ≡ position_from (λ s. same_bytes (letters_of s.name) bytes) (i + 1) ss
        → elim b as (λ q. Option ℕ) [ true ↦ Some i | false ↦ named_from bytes (suc i) ss ] ≡ cond b (Some i) (position_from (λ s. same_bytes (letters_of s.name) bytes) (i + 1) ss)
    go true e = refl
    go false e = e
