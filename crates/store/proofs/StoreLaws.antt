-- The laws of every store. Assumes nothing.
use Rattle.std.proofs.Common.{◌≡◌, ℕ, zero, suc, ◌≤◌, Bool, true, false, leb, List, [], ◌∷◌, length, get_or, Some, None, Ok, Err, Option, Result, sym, refl, ap, ◌∙◌, subst, ap₂, arith}
use Rattle.std.proofs.lemmas.Bool.{and_from, ltb-true}
use Rattle.rewriting.specs.Terms.{Tree, same}
use Rattle.rewriting.specs.Cards.{OnSignature}
use Rattle.rewriting.specs.Subterms.{Subterm, SubtermIn, in_first, in_rest, subterms}
use Rattle.rewriting.proofs.Equality.{same_eq, same_refl}
use Rattle.rewriting.proofs.Members.{fewer_members}
use Rattle.rewriting.proofs.Walking.{grown_distinct, subterms_grown, subterms_list}
use Rattle.card.specs.Records.{arities, name_of}
use Rattle.card.specs.declared.record.SymbolRecord.{SymbolRecord}
use Rattle.card.specs.declared.refusal.Refusal.{Refusal}
use Rattle.card.specs.declared.refusal.Refusal.TheVariants.{BufferTooShort, NoSuchTin}
use Rattle.sheet.specs.SheetText.{sheet_text}
use Rattle.sheet.proofs.SheetLaws.{same_sheet_same_tree}
use Rattle.dag.specs.Roots.{present}
use Rattle.dag.specs.Tables.{trees}
use Rattle.dag.proofs.Invariant.{distinct_trees, one_tree_each}
use Rattle.dag.proofs.Keeping.{compact_members}
use Rattle.store.specs.declared.store.Store.{Store}
use Rattle.store.specs.OnCard.{tin_on, TreesOnASignatureAreTold}
use Rattle.store.specs.Results.{compared, Held, is_tin, same_result, sheet_of, sheet_result}
use Rattle.store.specs.Stores.{symbols_of, trees_of}
use Rattle.store.specs.StoreLaws.{OneRecordForEachSubterm, SameSheetsSameTrees}
use Rattle.store.proofs.OnCard.{on_from, on_told}
use Rattle.store.proofs.Settled.{tin_inside}

pub trees_on_a_signature_are_told : TreesOnASignatureAreTold
trees_on_a_signature_are_told Σ t = (on_told Σ t, on_from Σ t)

pub one_record_for_each_subterm : OneRecordForEachSubterm
one_record_for_each_subterm s = (distinct_trees s.tins.table, compact_members s.tins.table s.tins.roots s.tins.used s.compact)

-- a sheet that was had is that of a tree in a tin
record Sheet (ss : List SymbolRecord) (tins : Held) (tin : ℕ) (x : List ℕ) : Type 0 where
  pub tree : Tree
  pub there : is_tin tin ≡ true
  pub holds : get_or tins tin None ≡ Some tree
  pub bytes : sheet_text (name_of ss) tree ≡ x

sheet_had : (ss : List SymbolRecord) (tins : Held) (tin room : ℕ) (x : List ℕ) → sheet_result ss tins tin room ≡ Ok x → Sheet ss tins tin x
sheet_had ss tins tin room x e = go (is_tin tin) refl (get_or tins tin None) refl e
  where
    fits : (t : Tree) (b : Bool) → elim b as (λ q. Result (List ℕ) Refusal) [ true ↦ Ok (sheet_text (name_of ss) t) | false ↦ Err BufferTooShort ] ≡ Ok x → sheet_text (name_of ss) t ≡ x
    fits t true h = cc
    fits t false h = let z : ◌≡◌ {A = ℕ} 0 1 = cc in absurd (omega arith)

    go : (b : Bool) → is_tin tin ≡ b → (o : Option Tree) → get_or tins tin None ≡ o
        → elim b as (λ q. Result (List ℕ) Refusal) [ false ↦ Err NoSuchTin | true ↦ sheet_of ss room o ] ≡ Ok x → Sheet ss tins tin x
    go false p o q h = let z : ◌≡◌ {A = ℕ} 0 1 = cc in absurd (omega arith)
    go true p None q h = let z : ◌≡◌ {A = ℕ} 0 1 = cc in absurd (omega arith)
    go true p (Some t) q h = record { tree = t; there = p; holds = q; bytes = fits t (leb (length (sheet_text (name_of ss) t)) room) h }

-- a tree that a tin holds is one of the trees that are there
held_present : (tins : Held) (tin : ℕ) (t : Tree) → get_or tins tin None ≡ Some t → (u : Tree) → Subterm u t → SubtermIn u (present tins)
held_present [] tin t e u h = let z : ◌≡◌ {A = ℕ} 0 1 = cc in absurd (omega arith)
held_present (None ∷ os) zero t e u h = let z : ◌≡◌ {A = ℕ} 0 1 = cc in absurd (omega arith)
held_present (None ∷ os) (suc i) t e u h = held_present os i t e u h
held_present (Some s ∷ os) zero t e u h = let k : t ≡ s = cc in in_first (subst (Subterm u) k h)
held_present (Some s ∷ os) (suc i) t e u h = in_rest (held_present os i t e u h)

module _ (s : Store) (tin : ℕ) (t : Tree) (h : is_tin tin ≡ true) (e : get_or (trees_of s) tin None ≡ Some t) where
  tree_on : OnSignature (arities (symbols_of s)) t
  tree_on = on_told (arities (symbols_of s)) t (subst (λ o. tin_on (arities (symbols_of s)) o ≡ true) e (s.card tin (tin_inside s.tins tin (ltb-true tin 16 h))))

  -- its subterms have records, of which there are 4,096 at most
  tree_small : length (subterms t) ≤ 4096
  tree_small =
      let few = s.tins.table.valid.fits in
      let small = s.tins.table.small in
      let n = one_tree_each s.tins.table in
      let k = fewer_members (subterms t) (trees s.tins.table) (grown_distinct (subterms_grown t))
      (λ u m. (compact_members s.tins.table s.tins.roots s.tins.used s.compact u).1 (held_present (trees_of s) tin t e u ((subterms_list u t).0 m))) in
      omega arith

pub same_sheets_same_trees : SameSheetsSameTrees
same_sheets_same_trees s each distinct left right room room' x y e f =
    let a = sheet_had (symbols_of s) (trees_of s) left room x e in
    let b = sheet_had (symbols_of s) (trees_of s) right room' y f in
    let law = same_sheet_same_tree (symbols_of s) each distinct a.tree b.tree (tree_on s left a.tree a.there a.holds) (tree_on s right b.tree b.there b.holds)
    (tree_small s left a.tree a.there a.holds) (tree_small s right b.tree b.there b.holds) in
    let both = and_from (is_tin left) (is_tin right) a.there b.there in
    let told : same_result (trees_of s) left right ≡ Ok (same a.tree b.tree) = rw (both, same_result) (ap₂ compared a.holds b.holds) in (
      (λ q. told ∙ ap Ok (subst (λ u. same a.tree u ≡ true) (law.0 (a.bytes ∙ (q ∙ sym b.bytes))) (same_refl a.tree))),
      (λ q. let yes : same a.tree b.tree ≡ true = let r = sym told ∙ q in cc in sym a.bytes ∙ (law.1 (same_eq a.tree b.tree yes) ∙ b.bytes)),
    )
