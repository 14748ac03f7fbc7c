-- Finding a symbol by its name. Assumes nothing.
use Rattle.std.proofs.Common.{◌≡◌, ℕ, zero, suc, ◌+◌, ◌<◌, Bool, true, false, eqb, ◌⊎◌, List, [], ◌∷◌, length, get_or, Some, None, Decides, Option, sym, refl, ap, ◌∙◌, inl, inr, add-one, arith, MatchOption}
use Rattle.std.proofs.Math.Bool.{cond}
use Rattle.std.specs.List.{enumerate_from, list_all, position, position_from}
use Rattle.std.specs.Option.{option_eq}
use Rattle.std.proofs.lemmas.Iterator.Adapters.{position_from-zero}
use Rattle.std.proofs.lemmas.Bool.{and_from, and_parts, cases_order}
use Rattle.std.proofs.lemmas.Bool.Decides.{not_from_Decides}
use Rattle.card.specs.declared.record.SymbolRecord.{SymbolRecord}
use Rattle.card.specs.Bytes.{same_bytes}
use Rattle.card.specs.Records.{blank_symbol, DistinctNames, find_from}
use Rattle.card.proofs.Naming.{same_bytes_decides}
use Rattle.card.proofs.Tables.{equals_some}

abbrev pub name_at : List SymbolRecord → ℕ → List ℕ
name_at ss i = (get_or ss i blank_symbol).name

-- where the symbols of a list are numbered from n on
abbrev Found : List ℕ → ℕ → List SymbolRecord → Option ℕ → Type 0
Found bytes n ss o =
    MatchOption o ((i : ℕ) → i < length ss → name_at ss i ≡ bytes → ⊥) (λ k. (i : ℕ) × (i < length ss) × (k ≡ n + i) × (name_at ss i ≡ bytes))

found_later : (bytes : List ℕ) (n : ℕ) (s : SymbolRecord) (ss : List SymbolRecord) (o : Option ℕ)
    → (s.name ≡ bytes → ⊥) → Found bytes (suc n) ss o → Found bytes n (s ∷ ss) o
found_later bytes n s ss None other h = lacks
  where
    lacks : (i : ℕ) → i < suc (length ss) → name_at (s ∷ ss) i ≡ bytes → ⊥
    lacks zero k e = other e
    lacks (suc i) k e = h i (omega arith) e
found_later bytes n s ss (Some m) other h = (suc h.0, omega (arith, h.1), omega (arith, h.2), h.3)

found : (bytes : List ℕ) (n : ℕ) (ss : List SymbolRecord) → Found bytes n ss (find_from bytes n ss)
found bytes n [] = λ i k e. absurd (omega arith)
found bytes n (s ∷ ss) = go (found bytes (suc n) ss) (same_bytes s.name bytes) refl
  where
    go : Found bytes (suc n) ss (find_from bytes (suc n) ss) → (t : Bool) → same_bytes s.name bytes ≡ t
        → Found bytes n (s ∷ ss) (elim t as (λ x. Option ℕ) [ true ↦ Some n | false ↦ find_from bytes (suc n) ss ])
    go rec true e = (0, omega arith, omega arith, (same_bytes_decides s.name bytes).0 e)
    go rec false e =
        found_later bytes n s ss (find_from bytes (suc n) ss) (not_from_Decides (same_bytes s.name bytes) (same_bytes_decides s.name bytes) e) rec

pub name_is_found_exactly : (bytes : List ℕ) (ss : List SymbolRecord)
    → MatchOption (find_from bytes 0 ss) ((i : ℕ) → i < length ss → name_at ss i ≡ bytes → ⊥) (λ i. (i < length ss) × (name_at ss i ≡ bytes))
name_is_found_exactly bytes ss = go (find_from bytes 0 ss) (found bytes 0 ss)
  where
    go : (o : Option ℕ) → Found bytes 0 ss o
        → MatchOption o ((i : ℕ) → i < length ss → name_at ss i ≡ bytes → ⊥) (λ i. (i < length ss) × (name_at ss i ≡ bytes))
    go None h = h
    go (Some k) h =
        let e : h.0 ≡ k = omega (arith, h.2) in
        (omega (arith, h.1), ap (name_at ss) (sym e) ∙ h.3)

-- names are distinct exactly if each is found where it stands
pub distinct_from_found : (ss : List SymbolRecord) → ((k : ℕ) → k < length ss → find_from (name_at ss k) 0 ss ≡ Some k)
    → DistinctNames ss
distinct_from_found ss h i j l k e =
    let both : Some i ≡ Some j = sym (h i (omega arith)) ∙ (ap (λ n. find_from n 0 ss) e ∙ h j k) in
    let same : i ≡ j = cc in
    absurd (omega arith)

pub found_from_distinct : (ss : List SymbolRecord) → DistinctNames ss → (k : ℕ) → k < length ss
    → find_from (name_at ss k) 0 ss ≡ Some k
found_from_distinct ss d k l = go (find_from (name_at ss k) 0 ss) (name_is_found_exactly (name_at ss k) ss)
  where
    go : (o : Option ℕ)
        → MatchOption o ((i : ℕ) → i < length ss → name_at ss i ≡ name_at ss k → ⊥) (λ i. (i < length ss) × (name_at ss i ≡ name_at ss k))
        → o ≡ Some k
    go None h = absurd (h k l refl)
    go (Some i) h = ap Some (at (cases_order i k))
      where
        at : (i ≡ k) ⊎ ((i < k) ⊎ (k < i)) → i ≡ k
        at (inl e) = e
        at (inr (inl b)) = absurd (d i k b l h.1)
        at (inr (inr b)) = absurd (d k i b h.0 (sym h.1))

find_from_numbered : (bytes : List ℕ) (i : ℕ) (ss : List SymbolRecord)
    → find_from bytes i ss ≡ position_from (λ s. same_bytes s.name bytes) i ss
find_from_numbered bytes i [] = refl
find_from_numbered bytes i (s ∷ ss) = go (same_bytes s.name bytes) (find_from_numbered bytes (suc i) ss)
  where
    go : (t : Bool) → find_from bytes (suc i) ss ≡ position_from (λ s. same_bytes s.name bytes) (suc i) ss
        → elim t as (λ x. Option ℕ) [ true ↦ Some i | false ↦ find_from bytes (suc i) ss ]
        ≡ cond t (Some i) (position_from (λ s. same_bytes s.name bytes) (i + 1) ss)
    go true rec = refl
    go false rec = rec ∙ ap (λ n. position_from (λ s. same_bytes s.name bytes) n ss) (sym (add-one i))

pub find_from_position : (bytes : List ℕ) (ss : List SymbolRecord)
    → find_from bytes 0 ss ≡ position (λ s. same_bytes s.name bytes) ss
find_from_position bytes ss = find_from_numbered bytes 0 ss ∙ sym (position_from-zero (λ s. same_bytes s.name bytes) ss)

-- whether a symbol's name is found at the symbol's own number
abbrev pub found_there : List SymbolRecord → ℕ × SymbolRecord → Bool
found_there ss p = option_eq eqb (find_from p.1.name 0 ss) (Some p.0)

each_found : (ss : List SymbolRecord) (n : ℕ) (xs : List SymbolRecord) → list_all (found_there ss) (enumerate_from n xs) ≡ true
    → (k : ℕ) → k < length xs → find_from (name_at xs k) 0 ss ≡ Some (n + k)
each_found ss n [] h k l = absurd (omega arith)
each_found ss n (x ∷ xs) h zero l =
    let p = and_parts (found_there ss (n, x)) (list_all (found_there ss) (enumerate_from (n + 1) xs)) h in
    let m : n ≡ n + 0 = omega arith in
    (equals_some (find_from x.name 0 ss) n (found_there ss (n, x)) refl).0 p.0 ∙ ap Some m
each_found ss n (x ∷ xs) h (suc k) l =
    let p = and_parts (found_there ss (n, x)) (list_all (found_there ss) (enumerate_from (n + 1) xs)) h in
    let m : n + 1 + k ≡ n + suc k = omega arith in
    each_found ss (n + 1) xs p.1 k (omega arith) ∙ ap Some m

all_found : (ss : List SymbolRecord) (n : ℕ) (xs : List SymbolRecord)
    → ((k : ℕ) → k < length xs → find_from (name_at xs k) 0 ss ≡ Some (n + k)) → list_all (found_there ss) (enumerate_from n xs) ≡ true
all_found ss n [] h = refl
all_found ss n (x ∷ xs) h =
    let m : n + 0 ≡ n = omega arith in
    and_from (found_there ss (n, x)) (list_all (found_there ss) (enumerate_from (n + 1) xs))
    ((equals_some (find_from x.name 0 ss) n (found_there ss (n, x)) refl).1 (h 0 (omega arith) ∙ ap Some m))
    (all_found ss (n + 1) xs (λ k l. let j : n + suc k ≡ n + 1 + k = omega arith in h (suc k) (omega arith) ∙ ap Some j))

pub names_told : (ss : List SymbolRecord) → Decides (list_all (found_there ss) (enumerate_from 0 ss)) (DistinctNames ss)
names_told ss = (
  λ e. distinct_from_found ss (λ k l. let m : 0 + k ≡ k = omega arith in each_found ss 0 ss e k l ∙ ap Some m),
  λ d. all_found ss 0 ss (λ k l. let m : k ≡ 0 + k = omega arith in found_from_distinct ss d k l ∙ ap Some m),
)
