use Rattle.cpp_direct.proofs.ForAnswers.{true, refl, sym, ◌∙◌, address-items, front-addressed, now-scoped, plain-awaits, arguments-noted}
use Rattle.cpp_direct.proofs.direct.Direct.addressed_named.Goals as goal

pub addressed_parameters-requires-clause-awaits : goal.addressed_parameters-requires-clause-awaits
addressed_parameters-requires-clause-awaits g c =
    let old = c.args.self.now in
    let p = c.requires.named in
    let noted = c.noted.result in
    let w = record old { waiting = c.pop.new.self; has_scope = true } in
    let items = address-items _ old w c.args.mark c.in-Address.encoding p (rw c.in-Address.is at c.in_ok-encoding.ensures.items) c.if-self.false in
    let q = now-scoped old w c.end-to.result (record noted { encoding = c.in-Address.encoding }) noted p.kept p.has items c.if-self.false refl refl refl refl
    (arguments-noted old.nest.is_instance old.text.list.items old.argument noted p.own c.noted.ensures.known c.noted.ensures.none p.names) c.end-to.ensures in
    plain-awaits w q.0 p.has (p.no_return (sym c.is_function_instance.ensures ∙ c.if-not-is_function_instance.true)) q.1 q.2

pub returns : goal.returns
returns g c =
    let old = c.args.self.now in
    let p = c.requires.named in
    let noted = c.noted.result in
    let w = record old { waiting = c.pop.new.self; has_scope = true } in
    let items = address-items _ old w c.args.mark c.in-Address.encoding p (rw c.in-Address.is at c.in_ok-encoding.ensures.items) c.if-self.false in
    let q = now-scoped old w c.end-to.result (record noted { encoding = c.in-Address.encoding }) noted p.kept p.has items c.if-self.false refl refl refl refl
    (arguments-noted old.nest.is_instance old.text.list.items old.argument noted p.own c.noted.ensures.known c.noted.ensures.none p.names) c.end-to.ensures in
    front-addressed _ w _ c.args.mark old.nest.from c.end-to.result _ q.0 p.has (p.returns (sym c.is_function_instance.ensures ∙ c.if-not-is_function_instance.false)) q.1 q.2
    c.in_ok-push.ensures.items refl refl refl refl
