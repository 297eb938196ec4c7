use Rattle.cpp_layout.proofs.Basics.{ap, sym, ◌∙◌, letter_name, front_of_name, reargued, tree_of}
use Rattle.cpp_layout.proofs.Declaring.{front-letter, front-none, front-pack}
use Rattle.cpp_layout.proofs.symbol.Symbol.front_of_name.Goals as goal

pub returns-then-second-eq112-clause-text : goal.returns-then-second-eq112-clause-text
unfolding tree_of reargued
returns-then-second-eq112-clause-text c =
    c.letter_name.ensures.text ∙ ap letter_name c.declared_letter.ensures ∙ front-pack c.in-Operation.first c.in-Operation.second _ _ c.if-second-eq112.true
    ∙ ap front_of_name (sym c.in-Operation.ensures.tree ∙ c.place-place.ensures.tree)

pub returns-else-second-eq112-clause-text : goal.returns-else-second-eq112-clause-text
unfolding tree_of reargued
returns-else-second-eq112-clause-text c =
    c.letter_name-else-second-eq112.ensures.text ∙ front-letter c.in-Operation.first c.in-Operation.second _ _ c.if-second-eq112.false
    ∙ ap front_of_name (sym c.in-Operation.ensures.tree ∙ c.place-place.ensures.tree)

pub returns-in_default : goal.returns-in_default
returns-in_default c = record {
  text = c.letter_name-in_default.ensures.text ∙ front-none _ _ _ _ c.stored.result c.stored.ensures.own _ (sym c.place-place.ensures.tree ∙ c.stored.ensures.tree) c.in_default.not-Operation;
  some = c.letter_name-in_default.ensures.some;
}
