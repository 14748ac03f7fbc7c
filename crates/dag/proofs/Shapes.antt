-- Rows that are in order: their children one by one and together, rows with the same children. Assumes nothing.
use Rattle.std.proofs.Common.{◌≡◌, ℕ, ◌<◌, ◌≤◌, length, get_or, drop, sym, ap, ◌∙◌, subst, arith}
use Rattle.std.specs.List.{AllByRecursion}
use Rattle.std.proofs.ByRecursion.{All-from_get_or, All-get_or}
use Rattle.std.proofs.lemmas.List.{ext_get_or, get_or-take, length-drop, length-take-le, take-append-drop}
use Rattle.dag.specs.declared.row.Row.{Row}
use Rattle.dag.specs.Rows.{children_of, ChildrenBelow, Shaped}

-- the records of a row's children, one by one and together
pub children_all : (n : ℕ) (r : Row) → r.arity ≤ length r.children → ChildrenBelow n r → AllByRecursion (λ k. k < n) (children_of r)
children_all n r fits b =
    let l = length-take-le r.arity r.children fits in
    All-from_get_or (λ k. k < n) (children_of r) 0
    (λ i h. let j : i < r.arity = omega arith in subst (λ k. k < n) (sym (get_or-take r.arity r.children i 0 j)) (b i j))

pub children_each : (n : ℕ) (r : Row) → r.arity ≤ length r.children → AllByRecursion (λ k. k < n) (children_of r) → ChildrenBelow n r
children_each n r fits h j l =
    let m = length-take-le r.arity r.children fits in
    subst (λ k. k < n) (get_or-take r.arity r.children j 0 l) (All-get_or (λ k. k < n) (children_of r) j 0 (omega arith) h)

-- rows in order with the same symbol over the same children are equal
pub same_row : (r q : Row) → length r.children ≡ 4 → length q.children ≡ 4 → Shaped r → Shaped q → r.symbol ≡ q.symbol → children_of r ≡ children_of q → r ≡ q
same_row r q w v s u f h =
    let a : r.arity ≡ q.arity = sym (length-take-le r.arity r.children (omega (arith, s.0))) ∙ (ap length h ∙ length-take-le q.arity q.children (omega (arith, u.0))) in
    let m : length (drop r.arity r.children) ≡ length (drop q.arity q.children) = omega (arith, length-drop r.arity r.children, length-drop q.arity q.children) in
    let d : drop r.arity r.children ≡ drop q.arity q.children = ext_get_or 0 _ _ m (λ i l. s.1 i ∙ sym (u.1 i)) in
    let p : r.children ≡ q.children = sym (take-append-drop r.arity r.children) ∙ (cc (h, d) ∙ take-append-drop q.arity q.children) in
    let e : record { symbol = r.symbol; arity = r.arity; children = r.children } ≡ record { symbol = q.symbol; arity = q.arity; children = q.children } = cc in
    e

pub child_below : (n : ℕ) (r : Row) → r.arity ≤ length r.children → ChildrenBelow n r → (j : ℕ) → j < length (children_of r) → get_or (children_of r) j 0 < n
child_below n r fits b j h = All-get_or (λ k. k < n) (children_of r) j 0 h (children_all n r fits b)
