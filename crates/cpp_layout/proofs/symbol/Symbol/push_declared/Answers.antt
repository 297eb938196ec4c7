use Rattle.cpp_layout.proofs.Basics.{ap, arith, sym, ◌∙◌, ◌∷◌, context_of, printed_tree, as_item, reargued, tree_of}
use Rattle.cpp_grammar.specs.Items as heads
use Rattle.cpp_layout.proofs.Declaring.{rest-nil, rest-none, rest-some}
use Rattle.cpp_layout.proofs.Functions.{not-nil}
use Rattle.cpp_layout.proofs.Growing.{fills}
use Rattle.cpp_layout.proofs.symbol.Symbol.push_declared.Goals as goal

pub returns-in_default-clause-shows : goal.returns-in_default-clause-shows
returns-in_default-clause-shows g c below others shows =
    fills c.args.self.now c.args.ctx.detail _ _ _ shows (rest-none (context_of c.args.ctx) (printed_tree c.args.self.now c.args.ctx c.args.rest) c.args.at others (omega (arith, c.in_default.ensures)))

pub returns-in-Nil-clause-shows : goal.returns-in-Nil-clause-shows
unfolding tree_of reargued
returns-in-Nil-clause-shows g c below others shows =
    fills c.args.self.now c.args.ctx.detail _ _ _ shows
    (rest-nil (context_of c.args.ctx) (printed_tree c.args.self.now c.args.ctx c.args.rest) c.args.at others (sym c.place-place.ensures.tree ∙ c.in-Nil.ensures.tree))

pub returns-in_default-stored : goal.returns-in_default-stored
returns-in_default-stored g c = record {
  shows = λ below others shows.
      fills c.args.self.now c.args.ctx.detail _ _ _ (c.push_item.ensures.shows _ _ shows)
      (ap (λ n. as_item (heads.declared n) (context_of c.args.ctx) (printed_tree c.args.self.now c.args.ctx c.args.rest) ∷ others) c.in-Some.ensures.1
      ∙ rest-some (context_of c.args.ctx) (printed_tree c.args.self.now c.args.ctx c.args.rest) c.args.at others c.in-Some.ensures.0
      (not-nil _ _ _ _ c.stored.result c.stored.ensures.own _ (sym c.place-place.ensures.tree ∙ c.stored.ensures.tree) c.in_default-stored.not-Nil));
  room = omega (arith, c.push_item.ensures.room);
}
