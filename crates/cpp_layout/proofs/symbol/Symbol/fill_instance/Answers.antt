use Rattle.cpp_layout.proofs.Basics.{ap, if◌then◌else◌, sym, ◌∙◌, context_of, printed_tree, instance_parts, BLANK_LESS, LESS}
use Rattle.cpp_layout.proofs.Growing.{fills, starts}
use Rattle.cpp_layout.proofs.Naming.{brief-whole, instance-whole}
use Rattle.cpp_layout.proofs.symbol.Symbol.fill_instance.Goals as goal

pub returns-then-has_arguments-clause-shows : goal.returns-then-has_arguments-clause-shows
returns-then-has_arguments-clause-shows g c = fills c.args.self.now c.args.ctx.detail _ _ _ (c.push_item.ensures.shows _ _ (c.push_either.ensures.shows _ _ _ (c.push_list.ensures.shows _ _ (c.push_text.ensures.shows _ _ _ (starts c.args.self.now c.args.ctx.detail _))))) (instance-whole (context_of c.args.ctx) _ _ (if c.ends_in_angle-blank.result then BLANK_LESS else LESS) c.ends_in_angle-blank.ensures ∙ ap (λ b. instance_parts b (context_of c.args.ctx) (printed_tree c.args.self.now c.args.ctx c.args.template) (printed_tree c.args.self.now c.args.ctx c.args.arguments)) (sym (sym c.has_arguments.ensures ∙ c.if-has_arguments.true)))

pub returns-else-has_arguments-clause-shows : goal.returns-else-has_arguments-clause-shows
returns-else-has_arguments-clause-shows g c = fills c.args.self.now c.args.ctx.detail _ _ _ (c.push_item-else-has_arguments.ensures.shows _ _ (starts c.args.self.now c.args.ctx.detail _)) (brief-whole _ _ _ ∙ ap (λ b. instance_parts b (context_of c.args.ctx) (printed_tree c.args.self.now c.args.ctx c.args.template) (printed_tree c.args.self.now c.args.ctx c.args.arguments)) (sym (sym c.has_arguments.ensures ∙ c.if-has_arguments.false)))
