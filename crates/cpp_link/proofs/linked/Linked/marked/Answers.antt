use Rattle.cpp_link.proofs.Basics.{refl, sym, ◌∙◌, ap, with_holder, tree_of, with_mark, trees_in, values_in, around_of}
use Rattle.cpp_link.proofs.Held.{no_marks}
use Rattle.cpp_link.proofs.Rescoped.{unmarked}
use Rattle.cpp_link.proofs.linked.Linked.marked.Goals as goal

pub returns-in-Holder-clause-is : goal.returns-in-Holder-clause-is
unfolding with_mark
returns-in-Holder-clause-is c state =
    let ts = trees_in c.args.symbol.now c.args.self.now.nodes in
    let around = around_of ts c.args.kept in
    rw c.in-Holder.is (c.holder_marks.ensures.is ts state ∙ ap (λ t. with_holder around t state) (c.node-name.ensures.is ∙ ap tree_of c.given.ensures.is))

pub returns-in-HeldArguments-clause-is : goal.returns-in-HeldArguments-clause-is
unfolding with_mark
returns-in-HeldArguments-clause-is c state = rw c.in-HeldArguments.is (c.held_marks.ensures.is state)

pub returns-in_default-clause-is : goal.returns-in_default-clause-is
returns-in_default-clause-is c state =
    let ts = trees_in c.args.symbol.now c.args.self.now.nodes in
    let around = around_of ts c.args.kept in
    no_marks around ts _ state refl refl
    ∙ sym (unmarked c.args.production around (values_in c.args.symbol.now c.args.self.now.nodes c.args.parts.now) state c.in_default.not-Holder c.in_default.not-HeldArguments)
