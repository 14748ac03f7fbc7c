-- The sources of a join one by one. Assumes nothing.
use Rattle.std.proofs.Common.{◌≡◌, ℕ, ◌+◌, ◌<◌, true, ◌&&◌, List, [], ◌∷◌, ◌++◌, length, get_or, take, set, is_some, Some, None, Option, unwrap_or, sym, refl, ap, ◌∙◌, subst, ap₂, arith, MatchOption}
use Rattle.std.specs.List.{AllByRecursion, list_all}
use Rattle.std.proofs.lemmas.List.{get_or-map, length-map, take_more, take_more_set}
use Rattle.std.proofs.lemmas.Bool.{and_parts, ltb-true, true≢false}
use Rattle.dag.specs.declared.node.Node.{Node}
use Rattle.dag.specs.Roots.{in_use, RootsInUse}
use Rattle.dag.specs.Rows.{children_of}
use Rattle.dag.specs.Tables.{node_tree, OverRecords, trees}
use Rattle.dag.specs.Trees.{tree_over}
use Rattle.dag.proofs.Shapes.{children_each}
use Rattle.store.specs.declared.tins.Tins.{Tins}
use Rattle.store.specs.Results.{all_tins, is_tin}
use Rattle.store.specs.Sources.{all_filled, source_records}

pub all_tins_is : (sources : List ℕ) → all_tins sources ≡ list_all is_tin sources
all_tins_is [] = refl
all_tins_is (tin ∷ sources) = ap (λ b. is_tin tin && b) (all_tins_is sources)

pub all_filled_is : (roots : List (Option ℕ)) (sources : List ℕ) → all_filled roots sources ≡ list_all (λ tin. is_some (get_or roots tin None)) sources
all_filled_is roots [] = refl
all_filled_is roots (tin ∷ sources) = ap (λ b. is_some (get_or roots tin None) && b) (all_filled_is roots sources)

-- one record more
pub record_more : (roots : List (Option ℕ)) (sources records : List ℕ) (i v : ℕ) → i < length sources → i < length records → v ≡ unwrap_or (get_or roots (get_or sources i 0) None) 0
    → take i records ≡ take i (source_records roots sources) → take (i + 1) (set records i v) ≡ take (i + 1) (source_records roots sources)
record_more roots sources records i v h k e inv =
    let all = source_records roots sources in
    let n = length-map sources (λ tin. unwrap_or (get_or roots tin None) 0) in
    let here : get_or all i 0 ≡ v = get_or-map (λ tin. unwrap_or (get_or roots tin None) 0) sources i 0 0 h ∙ sym e in
    take_more_set records i v k ∙ (ap₂ (λ x y. x ++ (y ∷ [])) inv (sym here) ∙ sym (take_more all i 0 (omega arith)))

-- the tins' records are in use
pub source_records_used : (roots : List (Option ℕ)) (n : ℕ) (sources : List ℕ) → length roots ≡ 16 → RootsInUse n roots → all_tins sources ≡ true → all_filled roots sources ≡ true
    → AllByRecursion (λ k. k < n) (source_records roots sources)
source_records_used roots n [] l used tins filled = tt
source_records_used roots n (tin ∷ sources) l used tins filled =
    let p = and_parts (is_tin tin) (all_tins sources) tins in
    let q = and_parts (is_some (get_or roots tin None)) (all_filled roots sources) filled in
    let h = ltb-true tin 16 p.0 in
    (go (get_or roots tin None) q.0 (used tin (omega arith)), source_records_used roots n sources l used p.1 q.1)
  where
    go : (o : Option ℕ) → is_some o ≡ true → in_use n o ≡ true → unwrap_or o 0 < n
    go None s u = absurd (true≢false (sym s))
    go (Some k) s u = ltb-true k n u

-- the node of a symbol over them
pub node_over_told : (t : Tins) (symbol : ℕ) (sources slice : List ℕ) (r : Option Node) → slice ≡ source_records t.roots sources → all_tins sources ≡ true → all_filled t.roots sources ≡ true
    → MatchOption r (4 < length slice) (λ n. (n.row.symbol ≡ symbol) × (children_of n.row ≡ slice))
    → MatchOption r (4 < length sources) (λ n. OverRecords t.table n × (node_tree t.table n ≡ tree_over (trees t.table) symbol (source_records t.roots sources)))
node_over_told t symbol sources slice None e tins filled h = omega (arith, ap length e, length-map sources (λ tin. unwrap_or (get_or t.roots tin None) 0))
node_over_told t symbol sources slice (Some n) e tins filled h = (
  children_each t.table.count n.row (omega (arith, n.few, n.four))
      (subst (AllByRecursion (λ k. k < t.table.count)) (sym (h.1 ∙ e)) (source_records_used t.roots t.table.count sources t.sixteen t.used tins filled)),
  ap₂ (tree_over (trees t.table)) h.0 (h.1 ∙ e),
)
