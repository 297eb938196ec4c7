use Rattle.cpp_link.proofs.Basics.{sym, ◌∙◌, ap, subst, ◌-◌, length, slice_get, err_from_is_err_and, counted_value, Seq36, substituted, bytes_at, state_of, trees_in, around_of, candidates_of, value_of, AreNodesThere, node_read, fails_is}
use Rattle.cpp_link.proofs.linked.Linked.substitute.Goals as goal

pub substitution-requires-clause-there : goal.substitution-requires-clause-there
substitution-requires-clause-there c = subst (λ cs. AreNodesThere (length c.args.self.now.nodes.nodes) cs) (sym c.deref.ensures.value) c.requires.whole.there.0

pub returns-in_err-node-clause-refused : goal.returns-in_err-node-clause-refused
unfolding node_read
returns-in_err-node-clause-refused c =
    let ts = trees_in c.args.symbol.now c.args.self.now.nodes in
    let around = around_of ts c.args.kept in
    let cs = candidates_of ts c.args.self.now.candidates.list.items in
    let state = state_of c.args.symbol.now c.args.self.now in
    let p = err_from_is_err_and c.from_residual.result c.from_residual.ensures.1 in
    let named = ap (λ ds. slice_get (candidates_of ts ds) (counted_value Seq36 (bytes_at c.args.symbol.now c.text-digits.result))) c.deref.ensures.value ∙ ap (λ bytes. slice_get cs (counted_value Seq36 bytes)) c.text-digits.ensures.is in
    rw (p.1, p.2) (fails_is c.in_err-node.field-0.0 _ (ap (λ o. substituted around (c.args.place - 1) o state) (sym named) ∙ c.in_err-node.ensures.is state))

pub returns-clause-is : goal.returns-clause-is
unfolding node_read value_of
returns-clause-is c =
    let ts = trees_in c.args.symbol.now c.args.self.now.nodes in
    let around = around_of ts c.args.kept in
    let cs = candidates_of ts c.args.self.now.candidates.list.items in
    let state = state_of c.args.symbol.now c.args.self.now in
    let named = ap (λ ds. slice_get (candidates_of ts ds) (counted_value Seq36 (bytes_at c.args.symbol.now c.text-digits.result))) c.deref.ensures.value ∙ ap (λ bytes. slice_get cs (counted_value Seq36 bytes)) c.text-digits.ensures.is in
    ap (λ o. substituted around (c.args.place - 1) o state) (sym named) ∙ c.in_ok-node.ensures.is state
