use Rattle.cpp_link.proofs.Basics.{sym, ◌∙◌, ap, false, ◌&&◌, Option, both, in_name, in_types, Term, is_open, Around, tree_of, outermost, shown, tree_if_there, trees_in, around_of}
use Rattle.cpp_link.proofs.PassedOver.{passed_is, name_passed, name_apart, types_passed, types_apart}
use Rattle.cpp_link.proofs.linked.Linked.in_encoding_apart.Goals as goal

pub returns-then-is_passed_over-clause-name : goal.returns-then-is_passed_over-clause-name
returns-then-is_passed_over-clause-name c none =
    let ts = trees_in c.args.symbol.now c.args.self.now.nodes in
    c.passed_over.ensures.around ts ∙ name_passed (around_of ts c.args.kept) c.args.place (passed_is ts c.args.kept ∙ sym c.is_passed_over.ensures ∙ c.if-is_passed_over.true)

pub returns-then-is_empty-clause-name : goal.returns-then-is_empty-clause-name
unfolding in_name tree_if_there
returns-then-is_empty-clause-name c none =
    let ts = trees_in c.args.symbol.now c.args.self.now.nodes in
    c.in_encoding.ensures.around ts ∙ name_apart (around_of ts c.args.kept) c.args.place (passed_is ts c.args.kept ∙ sym c.is_passed_over.ensures ∙ c.if-is_passed_over.false)

pub returns-then-goes_on_open-clause-types : goal.returns-then-goes_on_open-clause-types
returns-then-goes_on_open-clause-types c one =
    let ts = trees_in c.args.symbol.now c.args.self.now.nodes in
    c.passed_over-then-goes_on_open.ensures.around ts
    ∙ types_passed (around_of ts c.args.kept) c.args.place _
    (both (λ b t. b && is_open t) (passed_is ts c.args.kept) (sym (c.node-name.ensures.is ∙ ap tree_of c.given.ensures.is)) ∙ sym c.goes_on_open.ensures ∙ c.if-goes_on_open.true)

pub returns-clause-types : goal.returns-clause-types
unfolding in_types
returns-clause-types c one =
    let ts = trees_in c.args.symbol.now c.args.self.now.nodes in
    let name = c.node-name.ensures.is ∙ ap tree_of c.given.ensures.is in
    let Types : Option Term → Around = λ scope. record { scope = scope; encoding = c.args.place; in_lambda = false; in_expansion = false; prefix = outermost; showing = shown } in
    c.in_encoding-2.ensures.around ts ∙ ap Types c.closed_arguments.ensures.is ∙ ap (in_types c.args.place) name
    ∙ types_apart (around_of ts c.args.kept) c.args.place _
    (both (λ b t. b && is_open t) (passed_is ts c.args.kept) (sym name) ∙ sym c.goes_on_open.ensures ∙ c.if-goes_on_open.false)
