use Rattle.cpp_layout.proofs.Basics.{sym, context_of}
use Rattle.cpp_layout.proofs.Growing.{fills, starts, told-so}
use Rattle.cpp_layout.proofs.Naming.{attached-whole}
use Rattle.cpp_layout.proofs.symbol.Symbol.fill_attached.Goals as goal

pub returns-clause-shows : goal.returns-clause-shows
returns-clause-shows g c =
    let inside = c.args.around.detail in
    let outside = c.args.ctx.detail in
    fills c.args.self.now outside _ _ _
    (told-so c.args.self.now inside outside _ _ c.requires.detail (c.push_before.ensures.shows _ _ (told-so c.args.self.now outside inside _ _ (sym c.requires.detail)
    (c.push_item-2.ensures.shows _ _ (told-so c.args.self.now inside outside _ _ c.requires.detail (c.push_text.ensures.shows _ _ _ (c.push_item.ensures.shows _ _ (told-so c.args.self.now outside inside _ _ (sym c.requires.detail) (starts c.args.self.now outside _)))))))))
    (attached-whole (context_of c.args.ctx) (context_of c.args.around) _ _ _ c.requires.index)
