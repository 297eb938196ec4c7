use Rattle.rust_tree.proofs.Basics.{ap, ◌∙◌, sym, constant_parts, constant_in, constant_of}
use Rattle.rust_tree.proofs.Pushing.{starts, fills}
use Rattle.rust_tree.proofs.Showing.{boolean-shown, integer-shown}
use Rattle.rust_tree.proofs.symbol.Symbol.fill_constant.Goals as goal

pub returns-in-Placeholder-clause-shows : goal.returns-in-Placeholder-clause-shows
unfolding constant_parts constant_of
returns-in-Placeholder-clause-shows g c =
    fills c.args.self.now _ _ _ (c.push_text.ensures.shows _ _ (starts c.args.self.now _)) (ap (λ t. constant_parts (constant_in t)) c.in-Placeholder.ensures.tree)

pub returns-in-Character-clause-shows : goal.returns-in-Character-clause-shows
unfolding constant_parts constant_of
returns-in-Character-clause-shows g c =
    fills c.args.self.now _ _ _ (c.push_character.ensures.shows _ _ (starts c.args.self.now _)) (ap (λ t. constant_parts (constant_in t)) c.in-Character.ensures.tree)

pub returns-in-Boolean-clause-shows : goal.returns-in-Boolean-clause-shows
unfolding constant_parts constant_of
returns-in-Boolean-clause-shows g c =
    fills c.args.self.now _ _ _ (c.push_either.ensures.shows _ _ (starts c.args.self.now _)) (ap (λ t. constant_parts (constant_in t)) c.in-Boolean.ensures.tree ∙ boolean-shown c.in-Boolean.truth)

pub returns-in-Integer-clause-shows : goal.returns-in-Integer-clause-shows
unfolding constant_parts constant_of
returns-in-Integer-clause-shows g c =
    fills c.args.self.now _ _ _ (c.push_printed.ensures.shows _ _ (starts c.args.self.now _) c.in-Integer.ensures.parts.2) (ap (λ t. constant_parts (constant_in t)) c.in-Integer.ensures.tree ∙ integer-shown _ _ (sym c.in-Integer.ensures.parts.3))
