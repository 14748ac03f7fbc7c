-- The results of calls by their cases. Assumes nothing.
use Rattle.std.proofs.Common.{◌≡◌, ℕ, ◌<◌, ◌≤◌, true, List, length, get_or, take, set, Some, None, Ok, Err, Option, Result, sym, ap, ◌∙◌}
use Rattle.std.specs.Option.{ok_or}
use Rattle.std.proofs.lemmas.List.{take_all}
use Rattle.std.proofs.lemmas.Bool.{lt-ltb}
use Rattle.rewriting.specs.Terms.{Tree}
use Rattle.card.specs.declared.record.Place.{Place}
use Rattle.card.specs.declared.record.SymbolRecord.{SymbolRecord}
use Rattle.card.specs.declared.refusal.Refusal.{Refusal}
use Rattle.reading.specs.Recipes.{recipe}
use Rattle.store.specs.Results.{Held, is_tin, clear_result, copied, copy_result, put_read, put_result}

pub tin_there : (tin : ℕ) → tin < 16 → is_tin tin ≡ true
tin_there tin h = lt-ltb tin 16 h

-- why a call is refused that asks for what is not there
pub refused : {T : Type 0} (o : Option T) (f g : Refusal) → o ≡ None → Err f ≡ ok_or o g → f ≡ g
refused o f g none e = let h = rw none at e in cc

pub clear_done : (tins after : Held) (tin : ℕ) → tin < 16 → after ≡ set tins tin None → clear_result tins tin ≡ Ok after
clear_done tins after tin h e = let t = tin_there tin h in rw (t, clear_result) (ap Ok (sym e))

module _ (tins : Held) (target source : ℕ) (h : target < 16) (k : source < 16) where
  copy_there : copy_result tins target source ≡ copied tins target (get_or tins source None)
  copy_there = let t = tin_there target h in let s = tin_there source k in rw (t, copy_result) (rw s)

  pub copy_done : (after : Held) (t : Tree) → get_or tins source None ≡ Some t → after ≡ set tins target (Some t) → copy_result tins target source ≡ Ok after
  copy_done after t e d = copy_there ∙ (ap (copied tins target) e ∙ ap Ok (sym d))

-- a recipe over all the symbols of a card
pub recipe_over : (ss : List SymbolRecord) (text : List ℕ) (r : Result (List Place) Refusal) → length ss ≤ 64 → recipe (take 64 ss) text ≡ r → recipe ss text ≡ r
recipe_over ss text r few e = ap (λ xs. recipe xs text) (sym (take_all 64 ss few)) ∙ e

pub put_told : (ss : List SymbolRecord) (room : ℕ) (tins : Held) (tin : ℕ) (text : List ℕ) (r : Result (List Place) Refusal)
    → tin < 16 → recipe ss text ≡ r → put_result ss room tins tin text ≡ put_read room tins tin ss r
put_told ss room tins tin text r h e = let t = tin_there tin h in rw (t, put_result) (ap (put_read room tins tin ss) e)
