use Rattle.cpp_layout.proofs.Basics.{sym, ◌∙◌, qualifiers_of}
use Rattle.cpp_layout.proofs.Growing.{fills}
use Rattle.cpp_layout.proofs.Typing.{qualifiers-bracket, qualifiers-none, qualifiers-plain}
use Rattle.cpp_layout.proofs.symbol.Symbol.push_qualifiers.Goals as goal

pub returns-then-is_reference-clause-shows : goal.returns-then-is_reference-clause-shows
returns-then-is_reference-clause-shows g c below others shows = fills c.args.self.now c.args.ctx.detail _ _ _ shows (qualifiers-none _ _ (qualifiers_of c.args.qualifiers) others (sym c.is_reference.ensures ∙ c.if-is_reference.true))

pub returns-then-is_function-clause-shows : goal.returns-then-is_function-clause-shows
returns-then-is_function-clause-shows g c below others shows = fills c.args.self.now c.args.ctx.detail _ _ _ (c.push_blanked.ensures.shows _ _ _ shows) (qualifiers-bracket _ _ (qualifiers_of c.args.qualifiers) others (sym c.is_reference.ensures ∙ c.if-is_reference.false) (sym c.is_function.ensures ∙ c.if-is_function.true))

pub returns-else-is_function-clause-shows : goal.returns-else-is_function-clause-shows
returns-else-is_function-clause-shows g c below others shows = fills c.args.self.now c.args.ctx.detail _ _ _ (c.push_suffix.ensures.shows _ _ _ shows) (qualifiers-plain _ _ (qualifiers_of c.args.qualifiers) others (sym c.is_reference.ensures ∙ c.if-is_reference.false) (sym c.is_function.ensures ∙ c.if-is_function.false))
