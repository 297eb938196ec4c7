use Rattle.cpp_layout.proofs.Basics.{ap, sym, ◌∙◌, ◌∷◌, as_item, context_of, table_of, printed_tree, trees}
use Rattle.cpp_grammar.specs.Items as heads
use Rattle.cpp_layout.proofs.Growing.{fills, told-so}
use Rattle.cpp_layout.proofs.Naming.{prefix-held}
use Rattle.cpp_layout.proofs.Others.{prefix-encoding, prefix-other}
use Rattle.cpp_layout.proofs.symbol.Symbol.push_prefix.Goals as goal

pub returns-then-is_encoding-clause-shows : goal.returns-then-is_encoding-clause-shows
returns-then-is_encoding-clause-shows g c below others shows =
    let said = c.place-place.ensures in
    let stored = c.stored-stored.ensures in
    fills c.args.self.now c.args.ctx.detail _ _ _ (c.push_closed.ensures.shows _ _ shows)
    (ap (λ i. i ∷ others) (prefix-encoding c.args.self.now.bytes c.args.self.now.table.thunks (trees (table_of c.args.self.now)) _ (context_of c.args.ctx) c.stored-stored.result stored.own _ _ stored.plain (sym said.tree ∙ stored.tree) (sym c.is_encoding.ensures ∙ c.if-is_encoding.true)))

pub returns-in-Holder-clause-shows : goal.returns-in-Holder-clause-shows
returns-in-Holder-clause-shows g c below others shows =
    let told = c.place-place.result.ctx in
    let said = c.place-place.ensures in
    let stored = c.stored-stored.ensures in
    fills c.args.self.now c.args.ctx.detail _ _ _
    (told-so c.args.self.now told.detail c.args.ctx.detail _ _ said.detail (c.push_item.ensures.shows _ _ (told-so c.args.self.now c.args.ctx.detail told.detail _ _ (sym said.detail) shows)))
    (ap (λ x. as_item heads.left x (printed_tree c.args.self.now told c.in-Holder.name) ∷ others) said.index
    ∙ ap (λ i. i ∷ others) (prefix-held c.args.self.now.bytes c.args.self.now.table.thunks (trees (table_of c.args.self.now)) _ (context_of c.args.ctx) c.stored-stored.result stored.own _ _ (sym said.tree ∙ stored.tree) c.in-Holder.is))

pub returns-in_default-clause-shows : goal.returns-in_default-clause-shows
returns-in_default-clause-shows g c below others shows =
    let said = c.place-place.ensures in
    let stored = c.stored-stored.ensures in
    fills c.args.self.now c.args.ctx.detail _ _ _ (c.push_item-in_default.ensures.shows _ _ shows)
    (ap (λ i. i ∷ others) (prefix-other c.args.self.now.bytes c.args.self.now.table.thunks (trees (table_of c.args.self.now)) _ (context_of c.args.ctx) c.stored-stored.result stored.own _ (sym said.tree ∙ stored.tree) (sym c.is_encoding.ensures ∙ c.if-is_encoding.false) c.in_default.not-Holder))
