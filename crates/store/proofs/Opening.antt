-- A store that was just opened. Assumes nothing.
use Rattle.std.proofs.Common.{◌≡◌, ℕ, zero, suc, ◌<◌, ◌≤◌, List, length, get_or, replicate, None, Ok, Err, Result, MatchResult, sym, refl, ap, ◌∙◌, subst, arith}
use Rattle.std.specs.List.{AllByRecursion}
use Rattle.std.specs.Result.{IsErrAnd}
use Rattle.std.proofs.ByRecursion.{All-get_or}
use Rattle.rewriting.specs.Cards.{Signature}
use Rattle.rewriting.specs.Counting.{distinct_count}
use Rattle.card.specs.Records.{blank_symbol, WellFormedSymbol}
use Rattle.card.specs.declared.record.SymbolRecord.{SymbolRecord}
use Rattle.dag.specs.Roots.{Compact, held_trees, root_trees}
use Rattle.dag.specs.Tables.{trees}
use Rattle.store.specs.declared.tins.Tins.{Tins}
use Rattle.store.specs.Holding.{Fresh, tin_trees}
use Rattle.store.proofs.Placing.{AllOn}

pub few_arities : (ss : List SymbolRecord) → AllByRecursion WellFormedSymbol ss → (f : ℕ) → f < length ss → (get_or ss f blank_symbol).arity ≤ 4
few_arities ss each f h = (All-get_or WellFormedSymbol ss f blank_symbol h each).is.few_children

module _ (t : Tins) (n : ℕ) (fresh : Fresh t n) where
  pub fresh_tins : tin_trees t ≡ replicate 16 None
  fresh_tins = ap (held_trees (trees t.table)) fresh.no_roots

  pub fresh_compact : Compact (trees t.table) t.roots
  fresh_compact = ap length fresh.no_records ∙ sym (ap (λ roots. distinct_count (root_trees (trees t.table) roots)) fresh.no_roots)

none_on : (Σ : Signature) (k : ℕ) → AllOn Σ (replicate k None)
none_on Σ (suc k) zero l = refl
none_on Σ (suc k) (suc i) l = none_on Σ k i (omega arith)
none_on Σ zero i l = absurd (omega arith)

pub fresh_on : (Σ : Signature) (t : Tins) (n : ℕ) → Fresh t n → AllOn Σ (tin_trees t)
fresh_on Σ t n fresh = subst (AllOn Σ) (sym (fresh_tins t n fresh)) (none_on Σ 16)

-- a result whose error alone was changed
pub ok_kept : {T E F : Type 0} (r : Result T E) (m : Result T F) (x : T) (P : T → Type 0) (Q : E → Type 0) (D : E → F → Type 0)
    → MatchResult r (λ y. m ≡ Ok y) (λ e. IsErrAnd m (D e)) → m ≡ Ok x → MatchResult r P Q → P x
ok_kept (Ok y) m x P Q D h e p = let same : y ≡ x = cc in subst P same p
ok_kept (Err f) m x P Q D h e p = absurd (rw e at h)
