-- What a symbol's items print.
use Rattle.cpp_layout.proofs.Basics.{◌≡◌, ℕ, None, List, [], ◌++◌, length, take, reverse, sym, ap, subst, ◌∙◌, append-nil, arith, refill, length-reverse, reverse-reverse, drop_all, take_all, Item, Held, Part, Unshared, joined, Stacked, Detail, printed-parts, noted_shown, parts, parts_in, rank, ranks_fall, tree_at, trees, IsTable, Context, ReadSymbol, table_of, item_of, bytes_of_part, unshared_of, MayCome, MayBeAsked, Shows}
use Rattle.sym_print.specs.Unfold.{printed}
use Rattle.cpp_layout.proofs.Growing.{closed-item}

-- a list that shows the parts of an item shows what the item prints
pub prints : (y : ReadSymbol) (i : Item Context) (below held : Held Context) → IsTable (table_of y)
    → Shows y i.ctx.detail below held (parts_in i.ctx.detail (item_of (table_of y) i).context (item_of (table_of y) i).form (item_of (table_of y) i).tree)
    → Stacked (unshared_of y) (bytes_of_part y) (MayBeAsked y) below.items held.items (unshared_of y i)
unfolding parts
prints y i below held table shows =
    let same = subst (Stacked (unshared_of y) (bytes_of_part y) (MayCome (table_of y)) below.items held.items) (sym (printed-parts (parts i.ctx.detail) rank (ranks_fall i.ctx.detail) (item_of (table_of y) i))) shows.stacked in
    record { added = same.added; is = same.is; all = λ k e less. (table, same.all k e less); joined = same.joined }

-- refilling a list with its reverse gives the reverse
turned : {X : Type 0} (old new : List X) → new ≡ reverse old → refill (length old) old new ≡ reverse old
turned {X} old new r =
    let same : length new ≡ length old = ap (λ (xs : List X). length xs) r ∙ length-reverse old in
    ap (λ l. take (length old) (new ++ l)) (drop_all (length new) old (omega (arith, same))) ∙ ap (λ l. take (length old) l) (append-nil new) ∙ take_all (length old) new (omega (arith, same)) ∙ r

-- parts that were put onto an empty list, the last first, and then reversed, print what is shown
pub filled : (y : ReadSymbol) (below held new : List (Part Context)) (s : Unshared) → Stacked (unshared_of y) (bytes_of_part y) (MayBeAsked y) below held s → below ≡ [] → new ≡ reverse held
    → s ≡ joined (unshared_of y) (bytes_of_part y) (refill (length held) held new)
filled y below held new s stacked empty r =
    stacked.joined ∙ sym (ap (joined (unshared_of y) (bytes_of_part y)) (turned held new r ∙ ap reverse (stacked.is ∙ ap (λ l. l ++ reverse stacked.added) empty) ∙ reverse-reverse stacked.added))

-- what the item of the root prints, if its context has neither an index nor an argument
pub closed-root : (y : ReadSymbol) (d : Detail) (c : Context) (node : ℕ) → c ≡ record { index = None; detail = d; argument = None }
    → unshared_of y (record { node = node; form = 9; at = 0; ctx = c }) ≡ noted_shown d (tree_at (trees (table_of y)) node)
closed-root y d c node is =
    ap (λ (x : Context). printed (parts x.detail) rank (item_of (table_of y) (record { node = node; form = 9; at = 0; ctx = x }))) is ∙ ap (printed (parts d) rank) (closed-item y d 9 node)
