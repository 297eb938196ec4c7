use Rattle.cpp_direct.proofs.ForAnswers.{false, subst, sym, ◌∙◌, IsAddressNamed, IsEnclosingNamed, IsInstanceNamed, IsNameEnded, IsOwn, symbol_by, name-addressed, name-within, has-arguments, instance-within, arguments-noted, name-comes}
use Rattle.cpp_direct.proofs.direct.Direct.nest_name_ended.Goals as goal

pub name_ended-requires-clause-ended : goal.name_ended-requires-clause-ended
name_ended-requires-clause-ended g c =
    let old = c.args.self.now in
    let before = c.requires.writing.is_before in
    subst (λ n. IsNameEnded (symbol_by g.G.Grammar.IS_WIDE g.G.Grammar.IS_BARE g.G.Grammar.IS_BRIEF c.args.s.now) (record old { at = n }) c.in-Name.mark c.is_function_instance-is_function.result c.noted-argument.result old.nest.from) (sym c.in_ok-self.ensures.1)
    (name-comes _ old c.requires.writing.kept before.0 c.in-Name.mark c.is_function_instance-is_function.result c.noted-argument.result
    before.1 (λ e. before.2 (subst IsOwn (sym c.in-Name.is) tt) (sym c.is_function_instance-is_function.ensures ∙ e))
    (λ e. before.3 (sym c.is_function_instance-is_function.ensures ∙ e))
    (arguments-noted old.nest.is_instance old.text.list.items old.argument c.noted-argument.result before.0 c.noted-argument.ensures.known
    c.noted-argument.ensures.none before.4) c.requires.end c.in-Name.is)

pub enclosing_instance-requires-clause-named : goal.enclosing_instance-requires-clause-named
enclosing_instance-requires-clause-named g c =
    let s = symbol_by g.G.Grammar.IS_WIDE g.G.Grammar.IS_BARE g.G.Grammar.IS_BRIEF c.args.s.now in
    let old = c.args.self.now in
    let before = c.requires.writing.is_before in
    let is_instance = sym c.is_function_instance.ensures ∙ c.if-is_function_instance.true in
    subst (λ n. IsInstanceNamed s (record old { at = n }) c.in-Enclosing.mark c.in-Enclosing.encoding old.nest.from) (sym c.in_ok-self.ensures.1)
    (instance-within s old c.requires.writing.kept before.0 c.in-Enclosing.mark c.in-Enclosing.encoding before.1 (before.3 is_instance)
    (before.4 (has-arguments old.nest.is_instance old.nest.has_class is_instance)) c.requires.end c.in-Enclosing.is)

pub enclosing_named-requires-clause-named : goal.enclosing_named-requires-clause-named
enclosing_named-requires-clause-named g c =
    let old = c.args.self.now in
    let before = c.requires.writing.is_before in
    subst (λ n. IsEnclosingNamed (symbol_by g.G.Grammar.IS_WIDE g.G.Grammar.IS_BARE g.G.Grammar.IS_BRIEF c.args.s.now) (record old { at = n }) c.in-Enclosing.mark false old.nest.from) (sym c.in_ok-self.ensures.1)
    (name-within _ old c.requires.writing.kept before.0 c.in-Enclosing.mark c.in-Enclosing.encoding false before.1
    (before.2 (subst IsOwn (sym c.in-Enclosing.is) tt) (sym c.is_function_instance.ensures ∙ c.if-is_function_instance.false)) c.requires.end c.in-Enclosing.is)

pub addressed_named-requires-clause-named : goal.addressed_named-requires-clause-named
addressed_named-requires-clause-named g c =
    let s = symbol_by g.G.Grammar.IS_WIDE g.G.Grammar.IS_BARE g.G.Grammar.IS_BRIEF c.args.s.now in
    let old = c.args.self.now in
    let before = c.requires.writing.is_before in
    subst (λ n. IsAddressNamed s (record old { at = n }) c.in-Address.mark) (sym c.in_ok-self.ensures.1)
    (name-addressed s old c.requires.writing.kept before.0 c.in-Address.mark before.1 before.2 before.3 before.4 c.requires.end c.in-Address.is)
