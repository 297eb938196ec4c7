use Rattle.cpp_press.proofs.Basics.{◌≡◌, ℕ, List, Bool, true, false, ap, sym, ◌∙◌, get_or, cond, is_open, ReadSymbol, table_of, tree_at, trees, free_is, has_free, Likeness, plain_at, likeness_of}
use Rattle.cpp_tree.proofs.FreeParameters.{node-open}
use Rattle.cpp_press.proofs.Open.{open-erased}
use Rattle.cpp_press.proofs.pressing.likeness_of.Goals as goal

likeness-is : (y : ReadSymbol) (ns : List ℕ) (node e number : ℕ) (b : Bool) → number ≡ get_or ns node 0 → b ≡ is_open (plain_at y node)
    → ◌≡◌ {A = Likeness} (record { number = number; encoding = cond b e 0 }) (likeness_of y ns node e)
likeness-is y ns node e number b same is =
    ap {A = ℕ} {B = Likeness} (λ m. record { number = m; encoding = cond b e 0 }) same
    ∙ ap {A = Bool} {B = Likeness} (λ d. record { number = get_or ns node 0; encoding = cond d e 0 }) is

pub returns-then-is_open : goal.returns-then-is_open
returns-then-is_open c =
    let y = c.args.symbol.now in
    likeness-is y c.args.firsts.now c.args.node c.args.encoding c.first_node-number.result true c.first_node-number.ensures.number
    (sym c.if-is_open.true ∙ c.is_open.ensures ∙ ap (λ e. has_free (free_is e.free)) c.entry.ensures ∙ node-open (table_of y) c.args.node c.requires.table c.requires.node ∙ open-erased (tree_at (trees (table_of y)) c.args.node))

pub returns-else-is_open : goal.returns-else-is_open
returns-else-is_open c =
    let y = c.args.symbol.now in
    likeness-is y c.args.firsts.now c.args.node c.args.encoding c.first_node-number.result false c.first_node-number.ensures.number
    (sym c.if-is_open.false ∙ c.is_open.ensures ∙ ap (λ e. has_free (free_is e.free)) c.entry.ensures ∙ node-open (table_of y) c.args.node c.requires.table c.requires.node ∙ open-erased (tree_at (trees (table_of y)) c.args.node))
