-- A term and its children: one stretch of reading behind another. Assumes nothing.
use Rattle.std.proofs.Common.{◌≡◌, ℕ, suc, ◌+◌, ◌-◌, ◌<◌, ◌≤◌, List, ◌∷◌, length, take, drop, sym, ap, ◌∙◌, arith}
use Rattle.std.proofs.lemmas.List.{drop-drop}
use Rattle.card.specs.declared.record.Place.{Place}
use Rattle.reading.specs.declared.fault.Fault.{Fault}
use Rattle.reading.specs.Scanning.{Grammar, at_start, behind, scan}
use Rattle.reading.specs.Progress.{behind_head, ChildEnded, ChildStuck, Advanced, Stopped}

-- what is kept from a place on is kept from every later place on
drop_later : (m n : ℕ) (xs ys : List Place) → m ≤ n → drop m xs ≡ drop m ys → drop n xs ≡ drop n ys
drop_later m n xs ys h e =
    let k : m + (n - m) ≡ n = omega arith in
    ap (λ i. drop i xs) (sym k) ∙ (sym (drop-drop (n - m) m xs) ∙ (ap (drop (n - m)) e ∙ (drop-drop (n - m) m ys ∙ ap (λ i. drop i ys) k)))

-- the head of a term was read and some of its children, of which `left` are still due
pub record HasRead (G : Grammar) (depth left filled n : ℕ) (out out' : List Place) (before after : List ℕ) : Type 0 where
  pub so_far : Advanced G at_start (λ K. behind_head K left) depth filled n out out' before after
  pub nested : 0 < left → depth < G.brackets

module _ (G : Grammar) (depth filled : ℕ) (out : List Place) (before : List ℕ) where
  -- at a child, behind which `left` more are due
  module _ (due left n : ℕ) (out' : List Place) (mid : List ℕ) (one : due ≡ suc left) (r : HasRead G depth due filled n out out' before mid) where
    to_child : (K : List ℕ) → length K ≡ depth → scan G (at_start K) (take filled out) before ≡ scan G (at_start (left ∷ K)) (take n out') mid
    to_child K d = r.so_far.goes K d ∙ ap (λ m. scan G (behind_head K m) (take n out') mid) one

    module _ (k : ℕ) (out'' : List Place) (over : List ℕ) (a : Advanced G at_start behind (depth + 1) n k out' out'' mid over) where
      behind_child : (K : List ℕ) → length K ≡ depth → scan G (at_start K) (take filled out) before ≡ scan G (behind (left ∷ K)) (take k out'') over
      behind_child K d = to_child K d ∙ a.goes (left ∷ K) (omega arith)

      pub end_stops : (end : List ℕ) (f : Fault) → ChildStuck left over end f → Stopped G at_start depth filled out before end f
      end_stops end f s K d = behind_child K d ∙ s G K (take k out'')

      pub child_has_read : (end : List ℕ) → ChildEnded left over end → HasRead G depth left filled k out out'' before end
      child_has_read end e =
          record {
            so_far =
                record {
                  longer = omega (arith, r.so_far.longer, a.longer);
                  room = a.room;
                  shorter = omega (arith, r.so_far.shorter, a.shorter, e.shorter);
                  kept = a.kept ∙ drop_later n k out' out (omega (arith, a.longer)) r.so_far.kept;
                  goes = λ K d. behind_child K d ∙ e.goes G K (take k out'');
                };
            nested = λ h. r.nested (omega arith);
          }
