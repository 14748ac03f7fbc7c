-- Two trees of a card have the same sheet exactly if they are equal. Assumes nothing.
use Rattle.std.proofs.Common.{◌≡◌, ℕ, zero, suc, ◌^◌, ◌<◌, ◌≤◌, Bool, true, false, List, [], ◌∷◌, length, get_or, Some, sym, ap, subst, arith}
use Rattle.std.specs.List.{AllByRecursion}
use Rattle.std.proofs.ByRecursion.{All-get_or, All-from_get_or, All-map}
use Rattle.std.proofs.lemmas.List.{length-map}
use Rattle.rewriting.specs.Terms.{Tree, node, Trees, symbol, children, to_list, same}
use Rattle.rewriting.specs.Cards.{Signature, OnSignature, AllOnSignature}
use Rattle.rewriting.specs.Subterms.{Subterm, self, below, SubtermIn, in_first, in_rest, row, place_of, subterms, sheet}
use Rattle.rewriting.proofs.Members.{place_mem}
use Rattle.rewriting.proofs.Walking.{subterms_list}
use Rattle.rewriting.proofs.Sheets.{equal_sheets}
use Rattle.card.specs.Records.{arities, name_of, blank_symbol, WellFormedSymbol}
use Rattle.card.specs.declared.record.SymbolRecord.{SymbolRecord}
use Rattle.card.proofs.Naming.{lettered, names_apart}
use Rattle.sheet.specs.SheetText.{sheet_text, before_last, SameSheetSameTree}
use Rattle.sheet.proofs.SheetForms.{Plain, rows_same}

-- the subterms of a tree of the card are trees of the card
mutual
  subterm_on : (Σ : Signature) {s t : Tree} → Subterm s t → OnSignature Σ t → OnSignature Σ s
  subterm_on Σ (self e) on = subst (OnSignature Σ) (sym e) on
  subterm_on Σ (below i) on = subterm_in_on Σ i on.1

  subterm_in_on : (Σ : Signature) {s : Tree} {ts : Trees} → SubtermIn s ts → AllOnSignature Σ ts → OnSignature Σ s
  subterm_in_on Σ (in_first i) on = subterm_on Σ i on.0
  subterm_in_on Σ (in_rest i) on = subterm_in_on Σ i on.1

arity_known : (ss : List SymbolRecord) (f n : ℕ) → arities ss f ≡ Some n → f < length ss
arity_known [] f n e = let z : ◌≡◌ {A = ℕ} 0 1 = cc in absurd (omega arith)
arity_known (s ∷ ss) zero n e = omega arith
arity_known (s ∷ ss) (suc f) n e = let h = arity_known ss f n e in omega arith

symbol_known : (ss : List SymbolRecord) (t : Tree) → OnSignature (arities ss) t → symbol t < length ss
symbol_known ss (node f ts) on = arity_known ss f _ on.0

place_few : (t : Tree) (xs : List Tree) → place_of t xs ≤ length xs
place_few t [] = omega arith
place_few t (x ∷ xs) = go (same t x) (place_few t xs)
  where
    go : (b : Bool) → place_of t xs ≤ length xs → elim b as (λ q. ℕ) [ true ↦ zero | false ↦ suc (place_of t xs) ] ≤ suc (length xs)
    go true h = omega arith
    go false h = omega arith

everywhere : {A : Type 0} (P : A → Type 0) → ((x : A) → P x) → (xs : List A) → AllByRecursion P xs
everywhere P p [] = tt
everywhere P p (x ∷ xs) = (p x, everywhere P p xs)

module _ (ss : List SymbolRecord) (each : AllByRecursion WellFormedSymbol ss) where
  abbrev Known : ℕ → Type 0
  Known f = f < length ss

  row_plain : (order : List Tree) (s : Tree) → length order ≤ 4096 → OnSignature (arities ss) s → Plain (name_of ss) Known (row order s)
  row_plain order s few on =
      let known = symbol_known ss s on in
      record {
        known = known;
        letters = (lettered (get_or ss (symbol s) blank_symbol) (All-get_or WellFormedSymbol ss (symbol s) blank_symbol known each)).is_name.letters;
        numbers = All-map (λ k. k < 2 ^ 64) (λ c. suc (place_of c order)) (to_list (children s)) (everywhere (λ c. suc (place_of c order) < 2 ^ 64) (λ c. let p = place_few c order in omega arith) (to_list (children s)));
      }

  rows_plain : (t : Tree) → OnSignature (arities ss) t → length (subterms t) ≤ 4096 → AllByRecursion (Plain (name_of ss) Known) (sheet t)
  rows_plain t on few =
      All-map (Plain (name_of ss) Known) (row (subterms t)) (subterms t)
      (All-from_get_or (λ s. Plain (name_of ss) Known (row (subterms t) s)) (subterms t) t
      (λ i h. row_plain (subterms t) (get_or (subterms t) i t) few (subterm_on (arities ss) ((subterms_list (get_or (subterms t) i t) t).0 (place_mem t (subterms t) i h)) on)))

pub same_sheet_same_tree : SameSheetSameTree
same_sheet_same_tree ss each distinct t u on on' few few' = (
  λ e. (equal_sheets t u).0
      (rows_same (name_of ss) (Known ss each) (λ f g h k. names_apart ss each distinct f g h k) (sheet t) (sheet u) 1 (length (sheet t)) (before_last (name_of ss) 1 (sheet t)) (length (sheet u)) (before_last (name_of ss) 1 (sheet u))
      (omega (arith, length-map (subterms t) (row (subterms t)))) (omega (arith, length-map (subterms u) (row (subterms u)))) (rows_plain ss each t on few) (rows_plain ss each u on' few') e),
  ap (sheet_text (name_of ss)),
)
