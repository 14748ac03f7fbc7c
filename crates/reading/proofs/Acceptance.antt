-- A text is accepted exactly if it is the written form of an allowed term. Assumes nothing.
use Rattle.std.proofs.Common.{◌≡◌, ℕ, false, ltb, ◌↔◌, List, [], ◌∷◌, ◌++◌, map, length, Ok, sym, refl, ap, ◌∙◌, append-nil, arith}
use Rattle.rewriting.specs.Terms.{Term}
use Rattle.rewriting.specs.Places as theory
use Rattle.rewriting.proofs.Reading.{forest_of_places}
use Rattle.card.specs.Records.{arities, stored}
use Rattle.card.specs.declared.record.Place.{Place}
use Rattle.card.specs.declared.record.Place.TheVariants.{Empty, Symbol, Variable}
use Rattle.card.specs.declared.record.SymbolRecord.{SymbolRecord}
use Rattle.reading.specs.Recipes.{recipe_grammar, recipe_read, recipe}
use Rattle.reading.specs.Scanning.{Grammar, at_start, Scan, whole, stuck, scan}
use Rattle.reading.specs.Written.{written, Allowed, TextOf, ProperSymbols}
use Rattle.reading.proofs.Automaton.{behind_top}
use Rattle.reading.proofs.Spelling.{term_read, ends_nothing}
use Rattle.reading.proofs.Tests.{chosen}
use Rattle.reading.proofs.Peeling.{text_peeled}

-- what a stored place stands for
abbrev shown : Place → theory.Place
shown Empty = theory.Variable 0
shown (Symbol f) = theory.Symbol f
shown (Variable v) = theory.Variable v

shown_stored : (ps : List theory.Place) → map shown (map stored ps) ≡ ps
shown_stored [] = refl
shown_stored (theory.Symbol f ∷ ps) = ap (λ qs. theory.Symbol f ∷ qs) (shown_stored ps)
shown_stored (theory.Variable v ∷ ps) = ap (λ qs. theory.Variable v ∷ qs) (shown_stored ps)

pub stored_apart : (ps qs : List theory.Place) → map stored ps ≡ map stored qs → ps ≡ qs
stored_apart ps qs e = sym (shown_stored ps) ∙ (ap (map shown) e ∙ shown_stored qs)

module _ (G : Grammar) (proper : ProperSymbols G.symbols) where
  pub written_accepted : (t : Term) → Allowed G t → scan G (at_start []) [] (written G.symbols t) ≡ whole (map stored (theory.places t)) []
  written_accepted t a =
      ap (scan G (at_start []) []) (sym (append-nil (written G.symbols t)))
      ∙ (term_read G proper t a.on a.variables [] [] [] (omega (arith, a.few_places)) (omega (arith, a.few_brackets)) ends_nothing
      ∙ behind_top G (map stored (theory.places t)) [])

  pub accepted_exactly : (text : List ℕ) (ps : List Place) → (scan G (at_start []) [] text ≡ whole ps []) ↔ TextOf G text ps
  accepted_exactly text ps = (
    text_peeled G text ps,
    λ t. ap (scan G (at_start []) []) t.spelled ∙ (written_accepted t.term t.allowed ∙ ap (λ x. whole x []) (sym t.places_are)),
  )

  pub written_apart : (t u : Term) → Allowed G t → Allowed G u → written G.symbols t ≡ written G.symbols u → t ≡ u
  written_apart t u a b e =
      let same = sym (written_accepted t a) ∙ (ap (scan G (at_start []) []) e ∙ written_accepted u b) in
      let stored_same : map stored (theory.places t) ≡ map stored (theory.places u) = cc in
      let places_same = stored_apart (theory.places t) (theory.places u) stored_same in
      let p = forest_of_places (arities G.symbols) t a.on [] in
      let q = forest_of_places (arities G.symbols) u b.on [] in
      let r = ap (λ ps. theory.forest (arities G.symbols) (ps ++ [])) places_same in
      cc

module _ (ss : List SymbolRecord) (text : List ℕ) (ps : List Place) where
  read_whole : (r : Scan) → recipe_read r ≡ Ok ps → r ≡ whole ps []
  read_whole (stuck f rest) e = cc
  read_whole (whole qs []) e = let q : qs ≡ ps = cc in ap (λ x. whole x []) q
  read_whole (whole qs (b ∷ bs)) e = cc

  -- an accepted recipe is a tree's written form, whatever the symbols are
  pub recipe_told : recipe ss text ≡ Ok ps → (ltb 4096 (length text) ≡ false) × TextOf (recipe_grammar ss) text ps
  recipe_told =
      chosen (ltb 4096 (length text)) (λ l e. cc)
      (λ l e. (l, text_peeled (recipe_grammar ss) text ps (read_whole (scan (recipe_grammar ss) (at_start []) [] text) e)))

pub recipe_exactly : (ss : List SymbolRecord) → ProperSymbols ss → (text : List ℕ) (ps : List Place)
    → (recipe ss text ≡ Ok ps → (ltb 4096 (length text) ≡ false) × TextOf (recipe_grammar ss) text ps)
    × (ltb 4096 (length text) ≡ false → TextOf (recipe_grammar ss) text ps → recipe ss text ≡ Ok ps)
recipe_exactly ss proper text ps = (recipe_told ss text ps, λ l t. rw (l, recipe) (ap recipe_read ((accepted_exactly (recipe_grammar ss) proper text ps).1 t)))
