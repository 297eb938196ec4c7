use Rattle.cpp_link.proofs.Basics.{◌∙◌, ap, counted_value, Seq36, bytes_at, trees_in, module_of, maybe_candidate}
use Rattle.cpp_link.proofs.Modules.{module_is, module_there, no_module, nothing_named}
use Rattle.cpp_link.proofs.linked.Linked.named_module.Goals as goal

pub returns-then-is_closed_module-clause-is : goal.returns-then-is_closed_module-clause-is
returns-then-is_closed_module-clause-is c = λ state counted.
    let ts = trees_in c.args.symbol.now c.args.self.now.nodes in
    module_is ts c.args.self.now.candidates.list.items (counted_value Seq36 (bytes_at c.args.symbol.now c.args.digits)) c.named_by_both.result state c.named_by_both.ensures.is counted
    ∙ ap (λ o. module_of (maybe_candidate ts o)) c.in-Some.is ∙ module_there ts c.in-Some.candidate c.is_closed_module.result c.is_closed_module.ensures c.if-is_closed_module.true

pub returns-else-is_closed_module-clause-is : goal.returns-else-is_closed_module-clause-is
returns-else-is_closed_module-clause-is c = λ state counted.
    let ts = trees_in c.args.symbol.now c.args.self.now.nodes in
    module_is ts c.args.self.now.candidates.list.items (counted_value Seq36 (bytes_at c.args.symbol.now c.args.digits)) c.named_by_both.result state c.named_by_both.ensures.is counted
    ∙ ap (λ o. module_of (maybe_candidate ts o)) c.in-Some.is ∙ no_module ts c.in-Some.candidate c.is_closed_module.result c.is_closed_module.ensures c.if-is_closed_module.false

pub returns-in-None-clause-is : goal.returns-in-None-clause-is
returns-in-None-clause-is c = λ state counted.
    let ts = trees_in c.args.symbol.now c.args.self.now.nodes in
    module_is ts c.args.self.now.candidates.list.items (counted_value Seq36 (bytes_at c.args.symbol.now c.args.digits)) c.named_by_both.result state c.named_by_both.ensures.is counted
    ∙ ap (λ o. module_of (maybe_candidate ts o)) c.in-None.is ∙ nothing_named ts
