use Rattle.rust_tree.proofs.symbol.Symbol.text.Goals as goal

pub returns-clause-text : goal.returns-clause-text
returns-clause-text c = c.text_as.ensures.text

pub returns-clause-within : goal.returns-clause-within
returns-clause-within c = c.text_as.ensures.within

pub returns-clause-too_long : goal.returns-clause-too_long
returns-clause-too_long c = c.text_as.ensures.too_long
