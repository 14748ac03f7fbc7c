-- The trees of a table as a left fold over its rows: one row more, a front of the rows, one record's tree. Assumes nothing.
use Rattle.std.proofs.Common.{◌≡◌, ℕ, ◌+◌, ◌<◌, ◌≤◌, List, [], ◌∷◌, ◌++◌, map, length, get_or, take, drop, set, sym, refl, ap, ◌∙◌, subst, arith}
use Rattle.std.specs.List.{AllByRecursion}
use Rattle.std.proofs.lemmas.List.{append_assoc, append-nil, get_or_append_left, get_or_push, length_push, length-take-le, take-append-drop, take_more, take_more_set, take-take}
use Rattle.rewriting.specs.Terms.{Tree, node}
use Rattle.dag.specs.declared.row.Row.{Row}
use Rattle.dag.specs.Rows.{blank, children_of}
use Rattle.dag.specs.Trees.{add_rows, from_list, row_tree, table_trees, tree_at, tree_over, Valid}
use Rattle.dag.proofs.Shapes.{children_all}

add_rows_append : (ts : List Tree) (rs qs : List Row) → add_rows ts (rs ++ qs) ≡ add_rows (add_rows ts rs) qs
add_rows_append ts [] qs = refl
add_rows_append ts (r ∷ rs) qs = add_rows_append (ts ++ (row_tree ts r ∷ [])) rs qs

length_add_rows : (ts : List Tree) (rs : List Row) → length (add_rows ts rs) ≡ length ts + length rs
length_add_rows ts [] = omega arith
length_add_rows ts (r ∷ rs) = length_add_rows (ts ++ (row_tree ts r ∷ [])) rs ∙ omega (arith, length_push ts (row_tree ts r))

add_rows_front : (ts : List Tree) (rs : List Row) → (us : List Tree) × (add_rows ts rs ≡ ts ++ us)
add_rows_front ts [] = ([], sym (append-nil ts))
add_rows_front ts (r ∷ rs) =
    let f = add_rows_front (ts ++ (row_tree ts r ∷ [])) rs in
    (row_tree ts r ∷ f.0, f.1 ∙ append_assoc ts (row_tree ts r ∷ []) f.0)

pub no_trees : (rows : List Row) → table_trees rows 0 ≡ []
unfolding table_trees
no_trees rows = refl

pub length_trees : (rows : List Row) (n : ℕ) → n ≤ length rows → length (table_trees rows n) ≡ n
unfolding table_trees
length_trees rows n h = length_add_rows [] (take n rows) ∙ omega (arith, length-take-le n rows h)

-- one row more appends one tree
pub trees_more : (rows : List Row) (i : ℕ) → i < length rows
    → table_trees rows (i + 1) ≡ table_trees rows i ++ (row_tree (table_trees rows i) (get_or rows i blank) ∷ [])
unfolding table_trees
trees_more rows i h = ap (add_rows []) (take_more rows i blank h) ∙ add_rows_append [] (take i rows) (get_or rows i blank ∷ [])

pub trees_set : (rows : List Row) (i : ℕ) (r : Row) → i < length rows
    → table_trees (set rows i r) (i + 1) ≡ table_trees rows i ++ (row_tree (table_trees rows i) r ∷ [])
unfolding table_trees
trees_set rows i r h = ap (add_rows []) (take_more_set rows i r h) ∙ add_rows_append [] (take i rows) (r ∷ [])

-- the trees of fewer rows stand in front
pub trees_front : (rows : List Row) (k n : ℕ) → k ≤ n → (us : List Tree) × (table_trees rows n ≡ table_trees rows k ++ us)
unfolding table_trees
trees_front rows k n h =
    let f = add_rows_front (add_rows [] (take k rows)) (drop k (take n rows)) in (
      f.0,
      ap (add_rows []) (sym (take-append-drop k (take n rows)) ∙ ap (λ l. l ++ drop k (take n rows)) (take-take k n rows h))
          ∙ (add_rows_append [] (take k rows) (drop k (take n rows)) ∙ f.1),
    )

-- the records of a row's children stand below it
pub children_before : (rows : List Row) (n : ℕ) → Valid rows n → (i : ℕ) → i < n → AllByRecursion (λ k. k < i) (children_of (get_or rows i blank))
children_before rows n v i h = children_all i (get_or rows i blank) (omega (arith, v.four i h, (v.shaped i h).0)) (v.children_below i h)

-- a tree over records is the same over more trees
pub over_front : (ts us : List Tree) (ks : List ℕ) → AllByRecursion (λ k. k < length ts) ks → map (tree_at (ts ++ us)) ks ≡ map (tree_at ts) ks
over_front ts us [] h = refl
over_front ts us (k ∷ ks) h = cc (get_or_append_left ts us _ k h.0, over_front ts us ks h.1)

pub tree_over_front : (ts us : List Tree) (f : ℕ) (ks : List ℕ) → AllByRecursion (λ k. k < length ts) ks → tree_over (ts ++ us) f ks ≡ tree_over ts f ks
tree_over_front ts us f ks h = ap (λ xs. node f (from_list xs)) (over_front ts us ks h)

record_tree : (rows : List Row) (k n : ℕ) → k < n → n ≤ length rows → tree_at (table_trees rows n) k ≡ row_tree (table_trees rows k) (get_or rows k blank)
record_tree rows k n h l =
    let f = trees_front rows (k + 1) n (omega arith) in
    let len : k < length (table_trees rows (k + 1)) = omega (arith, length_trees rows (k + 1) (omega arith)) in
    ap (λ ts. tree_at ts k) f.1
    ∙ (get_or_append_left (table_trees rows (k + 1)) f.0 _ k len
    ∙ (ap (λ ts. tree_at ts k) (trees_more rows k (omega arith)) ∙ get_or_push (table_trees rows k) _ _ k (length_trees rows k (omega arith))))

-- a record's tree is its row's, over the trees of the whole table
pub tree_of_row : (rows : List Row) (n : ℕ) → Valid rows n → (k : ℕ) → k < n → tree_at (table_trees rows n) k ≡ row_tree (table_trees rows n) (get_or rows k blank)
tree_of_row rows n v k h =
    let r = get_or rows k blank in
    let f = trees_front rows k n (omega arith) in
    let fits = v.fits in
    let len = length_trees rows k (omega arith) in
    let kids = subst (λ m. AllByRecursion (λ x. x < m) (children_of r)) (sym len) (children_before rows n v k h) in
    record_tree rows k n h fits
    ∙ (sym (tree_over_front (table_trees rows k) f.0 r.symbol (children_of r) kids) ∙ ap (λ ts. row_tree ts r) (sym f.1))
