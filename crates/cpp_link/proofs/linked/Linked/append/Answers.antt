use Rattle.cpp_link.proofs.Basics.{sym, ◌∙◌, ap, subst, length, State, IsAliasBelow, counted_of, trees_in, around_of, candidates_of, with_candidate}
use Rattle.cpp_link.proofs.Appending.{one_noted, none_noted}
use Rattle.cpp_link.proofs.linked.Linked.append.Goals as goal

pub push_candidate-requires-clause-below : goal.push_candidate-requires-clause-below
push_candidate-requires-clause-below c = subst (λ o. IsAliasBelow (length c.args.self.now.nodes.nodes) o) c.in-Some.is c.requires.candidate

pub returns-in_ok-push_candidate-in-Some-clause-is : goal.returns-in_ok-push_candidate-in-Some-clause-is
returns-in_ok-push_candidate-in-Some-clause-is c state =
    let ts = trees_in c.args.symbol.now c.args.self.now.nodes in
    let before : State = record state { candidates = candidates_of ts c.args.self.now.candidates.list.items } in
    ap (λ o. with_candidate (counted_of c.args.counted) (around_of ts c.args.kept) ts o before) c.in-Some.is ∙ one_noted c.args.counted ts c.args.kept c.in-Some.node before
    ∙ ap (λ cs. record state { candidates = cs }) (sym (c.in_ok-push_candidate-in-Some.ensures.is ts))

pub returns-in-None-clause-is : goal.returns-in-None-clause-is
returns-in-None-clause-is c state =
    let ts = trees_in c.args.symbol.now c.args.self.now.nodes in
    let before : State = record state { candidates = candidates_of ts c.args.self.now.candidates.list.items } in
    ap (λ o. with_candidate (counted_of c.args.counted) (around_of ts c.args.kept) ts o before) c.in-None.is ∙ none_noted (counted_of c.args.counted) ts c.args.kept before
