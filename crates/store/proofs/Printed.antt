-- The lines of listed records, one behind the other, and the trailer behind them. Assumes nothing.
use Rattle.std.proofs.Common.{◌≡◌, ℕ, suc, ◌+◌, ◌<◌, ◌≤◌, List, [], ◌∷◌, ◌++◌, length, get_or, take, drop, sym, refl, ap, ◌∙◌, ap₂, append_assoc, append-nil, arith, length-append}
use Rattle.std.proofs.lemmas.List.{get_or-map, length-map, length-take-le, take_all, take-append-drop, take_more}
use Rattle.rewriting.specs.Subterms.{Row, row}
use Rattle.sheet.specs.SheetText.{before_last, line_text, lines_from, trailer_text}
use Rattle.dag.specs.declared.table.Table.{Table}
use Rattle.dag.specs.Tables.{trees}
use Rattle.dag.specs.Trees.{blank_tree, tree_at}
use Rattle.store.specs.Printing.{line_at, lines_to, listed_text, rows_at, trees_at}

module _ (names : ℕ → List ℕ) where
  abbrev row_line : ℕ → Row → List ℕ
  row_line n r = line_text n (names r.symbol) r.children

  pub lines_append : (n : ℕ) (rs qs : List Row) → lines_from names n (rs ++ qs) ≡ lines_from names n rs ++ lines_from names (n + length rs) qs
  lines_append n [] qs = let e : n ≡ n + 0 = omega arith in ap (λ m. lines_from names m qs) e
  lines_append n (r ∷ rs) qs =
      let e : suc n + length rs ≡ n + suc (length rs) = omega arith in
      ap (λ l. row_line n r ++ l) (lines_append (suc n) rs qs ∙ ap (λ m. lines_from names (suc n) rs ++ lines_from names m qs) e)
      ∙ sym (append_assoc (row_line n r) (lines_from names (suc n) rs) (lines_from names (n + suc (length rs)) qs))

  pub before_last_line : (n : ℕ) (rs : List Row) (r : Row) → before_last names n (rs ++ (r ∷ [])) ≡ length (lines_from names n rs)
  before_last_line n [] r = refl
  before_last_line n (q ∷ []) r = omega (arith, length-append (row_line n q) [])
  before_last_line n (q ∷ s ∷ rs) r =
      ap (λ m. length (row_line n q) + m) (before_last_line (suc n) (s ∷ rs) r) ∙ sym (length-append (row_line n q) (lines_from names (suc n) (s ∷ rs)))

  module _ (table : Table) (order : List ℕ) where
    pub length_rows : length (rows_at table order) ≡ length order
    length_rows = length-map (trees_at table order) (row (trees_at table order)) ∙ length-map order (tree_at (trees table))

    row_there : (i : ℕ) (d : Row) → i < length order → get_or (rows_at table order) i d ≡ row (trees_at table order) (tree_at (trees table) (get_or order i 0))
    row_there i d h =
        get_or-map (row (trees_at table order)) (trees_at table order) i blank_tree d (omega (arith, length-map order (tree_at (trees table))))
        ∙ ap (row (trees_at table order)) (get_or-map (tree_at (trees table)) order i 0 blank_tree h)

    -- one line more
    pub lines_more : (i : ℕ) (line : List ℕ) → i < length order → line ≡ line_at names table order i → lines_to names table order (i + 1) ≡ lines_to names table order i ++ line
    unfolding lines_to line_at
    lines_more i line h e =
        let rows = rows_at table order in
        let here = row (trees_at table order) (tree_at (trees table) (get_or order i 0)) in
        let l : i < length rows = omega (arith, length_rows) in
        let n : 1 + length (take i rows) ≡ i + 1 = omega (arith, length-take-le i rows (omega arith)) in
        ap (lines_from names 1) (take_more rows i here l)
        ∙ (lines_append 1 (take i rows) (get_or rows i here ∷ [])
        ∙ ap (λ s. lines_from names 1 (take i rows) ++ s) (append-nil (row_line (1 + length (take i rows)) (get_or rows i here)) ∙ (ap₂ row_line n (row_there i here h) ∙ sym e)))

    pub lines_longer : (i : ℕ) (line : List ℕ) → i < length order → line ≡ line_at names table order i → length (lines_to names table order (i + 1)) ≡ length (lines_to names table order i) + length line
    lines_longer i line h e = ap length (lines_more i line h e) ∙ length-append (lines_to names table order i) line

    pub no_lines : lines_to names table order 0 ≡ []
    unfolding lines_to
    no_lines = refl

    all_lines : lines_to names table order (length order) ≡ lines_from names 1 (rows_at table order)
    unfolding lines_to
    all_lines = ap (lines_from names 1) (take_all (length order) (rows_at table order) (omega (arith, length_rows)))

    pub lines_shorter : (i : ℕ) → length (lines_to names table order i) ≤ length (lines_to names table order (length order))
    unfolding lines_to
    lines_shorter i =
        let rows = rows_at table order in
        let rest = lines_from names (1 + length (take i rows)) (drop i rows) in
        let split : lines_from names 1 rows ≡ lines_from names 1 (take i rows) ++ rest = ap (lines_from names 1) (sym (take-append-drop i rows)) ∙ lines_append 1 (take i rows) (drop i rows) in
        omega (arith, ap length all_lines, ap length split, length-append (lines_from names 1 (take i rows)) rest)

    module _ (last : ℕ) (is_last : last + 1 ≡ length order) where
      pub lines_length_is : (place : ℕ) (line : List ℕ) → place ≡ length (lines_to names table order last) → line ≡ line_at names table order last
          → length (lines_to names table order (length order)) ≡ place + length line
      lines_length_is place line p e =
          ap (λ n. length (lines_to names table order n)) (sym is_last) ∙ (lines_longer last line (omega arith) e ∙ ap (λ n. n + length line) (sym p))

      -- behind the lines the trailer, which says how many lines there are and where the last of them begins
      pub text_is : (place : ℕ) (foot : List ℕ) → place ≡ length (lines_to names table order last) → foot ≡ trailer_text (length order) place
          → listed_text names table order ≡ lines_to names table order (length order) ++ foot
      unfolding lines_to listed_text
      text_is place foot p f =
          let rows = rows_at table order in
          let l : last < length rows = omega (arith, length_rows) in
          let d = row (trees_at table order) blank_tree in
          let parts : rows ≡ take last rows ++ (get_or rows last d ∷ []) = sym (take_all (last + 1) rows (omega (arith, length_rows))) ∙ take_more rows last d l in
          let begins : before_last names 1 rows ≡ place = ap (before_last names 1) parts ∙ (before_last_line 1 (take last rows) (get_or rows last d) ∙ sym p) in
          ap₂ ◌++◌ (sym all_lines) (ap₂ trailer_text length_rows begins ∙ sym f)
