-- What each call makes of the trees in the tins, or why it is refused. Assumes nothing.
use Rattle.std.specs.Prelude.{ℕ, suc, Bool, true, false, ◌&&◌, List, [], ◌∷◌, length, Some, None, Ok, Err, Option, Result, nat_le, nat_lt, slice_index_or, slice_set}
use Rattle.rewriting.specs.Terms.{Tree, node, Trees, nil, cons, count, same}
use Rattle.rewriting.specs.Counting.{distinct_count}
use Rattle.card.specs.Bytes.{letters_of, same_bytes}
use Rattle.card.specs.Records.{arities, name_of}
use Rattle.card.specs.declared.record.Place.{Place}
use Rattle.card.specs.declared.record.SymbolRecord.{SymbolRecord}
use Rattle.card.specs.declared.refusal.Refusal.{Refusal}
use Rattle.card.specs.declared.refusal.Refusal.TheVariants.{NoSuchTin, EmptyTin, UnknownName, WrongChildren, NoRoom, BufferTooShort}
use Rattle.reading.specs.Recipes.{recipe}
use Rattle.sheet.specs.SheetText.{sheet_text}
use Rattle.dag.specs.Places.{spelled_tree}
use Rattle.dag.specs.Roots.{present}
use Rattle.store.specs.OnCard.{takes}

-- the tree of each of the sixteen tins, if it holds one
abbrev pub Held : Type 0
Held = List (Option Tree)

-- whether there is such a tin
abbrev pub is_tin : ℕ → Bool
is_tin tin = nat_lt tin 16

-- a new tree fits if its subterms and those of all tins, equal ones counted once, are no more than the records
abbrev pub fits : ℕ → Held → Tree → Bool
fits room tins t = nat_le (distinct_count (cons t (present tins))) room

abbrev pub placed : ℕ → Held → ℕ → Tree → Result Held Refusal
placed room tins tin t = elim (fits room tins t) [ true ↦ Ok (slice_set tins tin (Some t)) | false ↦ Err NoRoom ]

-- PUT

-- the tree that the places of a recipe spell; it has no variables, so what they would stand for plays no part
abbrev pub recipe_tree : List SymbolRecord → List Place → Tree
recipe_tree ss ps = spelled_tree (arities ss) [] [] ps

abbrev pub put_read : ℕ → Held → ℕ → List SymbolRecord → Result (List Place) Refusal → Result Held Refusal
put_read room tins tin ss (Ok ps) = placed room tins tin (recipe_tree ss ps)
put_read room tins tin ss (Err f) = Err f

abbrev pub put_result : List SymbolRecord → ℕ → Held → ℕ → List ℕ → Result Held Refusal
put_result ss room tins tin text =
    elim (is_tin tin) [ false ↦ Err NoSuchTin | true ↦ put_read room tins tin ss (recipe ss text) ]

-- COPY

abbrev pub copied : Held → ℕ → Option Tree → Result Held Refusal
copied tins target None = Err EmptyTin
copied tins target (Some t) = Ok (slice_set tins target (Some t))

abbrev pub copy_result : Held → ℕ → ℕ → Result Held Refusal
copy_result tins target source =
    elim (is_tin target && is_tin source) [ false ↦ Err NoSuchTin | true ↦ copied tins target (slice_index_or tins source None) ]

-- CLEAR

abbrev pub clear_result : Held → ℕ → Result Held Refusal
clear_result tins tin = elim (is_tin tin) [ false ↦ Err NoSuchTin | true ↦ Ok (slice_set tins tin None) ]

-- SAME

abbrev pub compared : Option Tree → Option Tree → Result Bool Refusal
compared None u = Err EmptyTin
compared (Some t) None = Err EmptyTin
compared (Some t) (Some u) = Ok (same t u)

abbrev pub same_result : Held → ℕ → ℕ → Result Bool Refusal
same_result tins a b = elim (is_tin a && is_tin b) [ false ↦ Err NoSuchTin | true ↦ compared (slice_index_or tins a None) (slice_index_or tins b None) ]

-- JOIN

-- the number of the first symbol whose name these bytes are, where the list's first symbol has the number i
abbrev pub named_from : List ℕ → ℕ → List SymbolRecord → Option ℕ
named_from bytes i [] = None
named_from bytes i (s ∷ ss) = elim (same_bytes (letters_of s.name) bytes) [ true ↦ Some i | false ↦ named_from bytes (suc i) ss ]

-- whether all of these are tins
abbrev pub all_tins : List ℕ → Bool
all_tins [] = true
all_tins (tin ∷ sources) = is_tin tin && all_tins sources

-- the trees of these tins, if all hold one
abbrev pub taken_with : Option Tree → Option Trees → Option Trees
taken_with None ts = None
taken_with (Some t) None = None
taken_with (Some t) (Some ts) = Some (cons t ts)

abbrev pub source_trees : Held → List ℕ → Option Trees
source_trees tins [] = Some nil
source_trees tins (tin ∷ sources) = taken_with (slice_index_or tins tin None) (source_trees tins sources)

-- a symbol over trees, if it takes as many
abbrev pub joined : List SymbolRecord → ℕ → Held → ℕ → Trees → Option ℕ → Result Held Refusal
joined ss room tins target ts None = Err UnknownName
joined ss room tins target ts (Some f) =
    elim (takes (arities ss f) (count ts)) [ false ↦ Err WrongChildren | true ↦ placed room tins target (node f ts) ]

abbrev pub join_over : List SymbolRecord → ℕ → Held → ℕ → List ℕ → Option Trees → Result Held Refusal
join_over ss room tins target name None = Err EmptyTin
join_over ss room tins target name (Some ts) = joined ss room tins target ts (named_from name 0 ss)

abbrev pub join_result : List SymbolRecord → ℕ → Held → ℕ → List ℕ → List ℕ → Result Held Refusal
join_result ss room tins target name sources =
    elim (is_tin target && all_tins sources) [ false ↦ Err NoSuchTin | true ↦ join_over ss room tins target name (source_trees tins sources) ]

-- SHEET

abbrev pub sheet_of : List SymbolRecord → ℕ → Option Tree → Result (List ℕ) Refusal
sheet_of ss buffer None = Err EmptyTin
sheet_of ss buffer (Some t) =
    elim (nat_le (length (sheet_text (name_of ss) t)) buffer) [ true ↦ Ok (sheet_text (name_of ss) t) | false ↦ Err BufferTooShort ]

-- the bytes of a tin's sheet, for a buffer of this length
abbrev pub sheet_result : List SymbolRecord → Held → ℕ → ℕ → Result (List ℕ) Refusal
sheet_result ss tins tin buffer = elim (is_tin tin) [ false ↦ Err NoSuchTin | true ↦ sheet_of ss buffer (slice_index_or tins tin None) ]
