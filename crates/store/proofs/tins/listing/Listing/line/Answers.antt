use Rattle.std.proofs.Common.{◌≡◌, ◌+◌, ◌<◌, length, take, sym, ap, ◌∙◌, subst, ap₂, arith, length-take}
use Rattle.std.specs.List.{AllByRecursion}
use Rattle.std.proofs.ByRecursion.{All-weaker}
use Rattle.std.proofs.lemmas.List.{take_all}
use mathlib.Core.List.{Memᴰ}
use Rattle.card.specs.Bytes.{letters_of}
use Rattle.card.specs.Records.{name_of}
use Rattle.rewriting.specs.Subterms.{row}
use Rattle.rewriting.specs.Terms.{symbol}
use Rattle.rewriting.proofs.Members.{member_mem}
use Rattle.sheet.specs.SheetText.{line_text}
use Rattle.dag.specs.Rows.{children_of}
use Rattle.dag.specs.Tables.{trees}
use Rattle.dag.specs.Trees.{tree_at}
use Rattle.dag.proofs.Invariant.{one_tree_each}
use Rattle.dag.proofs.Shapes.{children_all}
use Rattle.store.specs.Printing.{line_at, trees_at}
use Rattle.store.proofs.Numbering.{row_children, tree_listed}
use Rattle.store.proofs.tins.listing.Listing.line.Goals as goal
use Rattle.store.proofs.tins.listing.Listing.line.Goals.{After-node}

-- the node's children are records in use
kids : (c : After-node) → AllByRecursion (λ k. k < c.args.self.now.table.now.count) (children_of c.node.result.row)
kids c = let n = c.node.result in children_all c.args.self.now.table.now.count n.row (omega (arith, n.few, n.four)) c.node.ensures.over

pub node-requires : goal.node-requires
node-requires c = let l = c.args.self.now in omega (arith, l.ready.inside c.args.place c.requires.inside, c.requires.there)

pub renumbered-node-requires : goal.renumbered-node-requires
renumbered-node-requires c =
    let l = c.args.self.now in
    let long = l.ready.long in
    All-weaker (λ k. k < l.table.now.count) (λ k. k < length l.numbers.now) (λ x h. omega arith) (children_of c.node.result.row) (kids (goal.at.renumbered-node-requires c).After-node)

pub returns : goal.returns
unfolding line_at
returns c =
    let l = c.args.self.now in
    let table = l.table.now in
    let ready = l.ready in
    let k = c.args.at in
    let n = c.node.result.row in
    let m = c.renumbered-node.result in
    let is = c.node.ensures.same.1 in
    let below = subst (λ x. AllByRecursion (λ y. y < x) (children_of n)) (sym (one_tree_each table)) (kids (goal.at.returns c).After-node) in
    let named : letters_of c.name_at-name.result ≡ name_of l.symbols.now (symbol (tree_at (trees table) k)) =
    ap letters_of c.name_at-name.ensures ∙ ap (name_of l.symbols.now) (c.symbol.ensures ∙ (c.renumbered-node.ensures.symbol ∙ sym (ap symbol is))) in
    let all : take 4 c.children.result.now ≡ children_of m.row =
    ap (take 4) c.children.ensures ∙ take_all 4 (children_of m.row) (omega (arith, length-take m.row.arity m.row.children, m.few)) in
    let numbered =
    all ∙ (c.renumbered-node.ensures.children
    ∙ row_children (trees table) (trees_at table l.order.now) l.numbers.now ready.numbered (tree_at (trees table) k) n.symbol (children_of n)
    (λ s x i h. member_mem x (trees_at table l.order.now) (ready.children_there s x i h)) (subst (λ x. Memᴰ (tree_at (trees table) x) (trees_at table l.order.now)) (sym c.requires.there) (tree_listed (trees table) l.order.now c.args.place c.requires.inside)) is below) in
    c.text.ensures ∙ (ap₂ (line_text (c.args.place + 1)) named numbered ∙ ap (λ x. let r = row (trees_at table l.order.now) (tree_at (trees table) x) in line_text (c.args.place + 1) (name_of l.symbols.now r.symbol) r.children) c.requires.there)
