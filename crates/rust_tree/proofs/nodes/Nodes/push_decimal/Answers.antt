use Rattle.rust_tree.proofs.Basics.{ap, ◌∙◌, sym, [], ◌++◌, append-nil, signed_text}
use Rattle.rust_tree.proofs.Trees.{grows-text, text-stands}
use Rattle.rust_tree.proofs.nodes.Nodes.push_decimal.Goals as goal

pub returns-clause-grows : goal.returns-clause-grows
returns-clause-grows c = grows-text c.args.self.now _ (signed_text c.args.minus c.args.value) (ap (λ t. t.nodes) c.self.view_is) (c.in_ok-span.ensures.text ∙ ap (λ t. t.text ++ (signed_text c.args.minus c.args.value)) c.self.view_is)

pub returns-in_err-span-clause-grows : goal.returns-in_err-span-clause-grows
returns-in_err-span-clause-grows c = grows-text c.args.self.now _ [] (ap (λ t. t.nodes) c.self.view_is) (c.in_err-span.ensures.same ∙ ap (λ t. t.text) c.self.view_is ∙ sym (append-nil c.args.self.now.text))

pub returns-clause-stays : goal.returns-clause-stays
returns-clause-stays c s is = text-stands s c.args.self.now _ (signed_text c.args.minus c.args.value) (ap (λ t. t.nodes) c.self.view_is) (c.in_ok-span.ensures.text ∙ ap (λ t. t.text ++ (signed_text c.args.minus c.args.value)) c.self.view_is) is

pub returns-in_err-span-clause-stays : goal.returns-in_err-span-clause-stays
returns-in_err-span-clause-stays c s is = text-stands s c.args.self.now _ [] (ap (λ t. t.nodes) c.self.view_is) (c.in_err-span.ensures.same ∙ ap (λ t. t.text) c.self.view_is ∙ sym (append-nil c.args.self.now.text)) is
