-- A recipe that was read, as what the node table builds. Assumes nothing.
use Rattle.std.proofs.Common.{◌≡◌, ℕ, ◌≤◌, true, List, [], length, Ok, sym, ap, ◌∙◌, subst, arith}
use Rattle.std.proofs.lemmas.List.{length-map}
use Rattle.rewriting.specs.Terms.{occurs, Tree, Term}
use Rattle.rewriting.specs.Cards.{OnSignature}
use Rattle.rewriting.specs.Places.{places}
use Rattle.rewriting.proofs.Equality.{apply_agrees}
use Rattle.rewriting.proofs.Stepping.{apply_on}
use Rattle.card.specs.Records.{arities, side_term, stored}
use Rattle.card.specs.declared.record.Place.{Place}
use Rattle.card.specs.declared.record.SymbolRecord.{SymbolRecord}
use Rattle.reading.specs.Recipes.{recipe}
use Rattle.reading.proofs.Acceptance.{recipe_told}
use Rattle.dag.specs.Places.{binding, Spells, spelled_tree}
use Rattle.dag.proofs.Spelling.{one_term_spelled}
use Rattle.store.specs.Results.{recipe_tree}

-- its places spell one term, which has no variables
pub record ReadAs (ss : List SymbolRecord) (ps : List Place) : Type 0 where
  pub spells : Spells (arities ss) ps (side_term (arities ss) ps)
  pub ground : (v : ℕ) → occurs v (side_term (arities ss) ps) ≡ true → ⊥
  pub short : length ps ≤ 4096

pub read_as : (ss : List SymbolRecord) (text : List ℕ) (ps : List Place) → recipe ss text ≡ Ok ps → ReadAs ss ps
read_as ss text ps e =
    let t = (recipe_told ss text ps e).1 in
    let spells : Spells (arities ss) ps t.term = record { on = t.allowed.on; spelled = t.places_are } in
    let one : side_term (arities ss) ps ≡ t.term = one_term_spelled (arities ss) ps t.term spells in
    let n = ap length t.places_are ∙ length-map (places t.term) stored in
    let few = t.allowed.few_places in
    record {
      spells = subst (Spells (arities ss) ps) (sym one) spells;
      ground = subst (λ (x : Term). (v : ℕ) → occurs v x ≡ true → ⊥) (sym one) t.allowed.variables;
      short = omega arith;
    }

module _ (ss : List SymbolRecord) (ps : List Place) (read : ReadAs ss ps) where
  -- what variables would stand for plays no part
  pub spelled_same : (ts : List Tree) → spelled_tree (arities ss) ts [] ps ≡ recipe_tree ss ps
  spelled_same ts = apply_agrees (binding ts []) (binding [] []) (side_term (arities ss) ps) (λ v o. absurd (read.ground v o))

  -- the tree is one of the card's
  pub recipe_on : OnSignature (arities ss) (recipe_tree ss ps)
  recipe_on = apply_on (arities ss) (binding [] []) (side_term (arities ss) ps) read.spells.on (λ v o. absurd (read.ground v o))
