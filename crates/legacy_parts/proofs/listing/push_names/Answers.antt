use Rattle.legacy_parts.proofs.Basics.{sym, ◌∙◌, on_ok_weaker}
use Rattle.legacy_parts.proofs.Marking.{listed-first, listed-later, more-names, one-name}
use Rattle.legacy_parts.proofs.listing.push_names.Goals as goal

pub returns-then-names-eq0-clause-parts : goal.returns-then-names-eq0-clause-parts
returns-then-names-eq0-clause-parts c =
    on_ok_weaker c.push_base.result (λ is. is ∙ listed-first c.args.found.now c.args.names.last c.requires.begins ∙ sym (one-name c.args.root c.args.names c.if-names-eq0.true)) c.push_base.ensures.parts

pub returns-clause-parts : goal.returns-clause-parts
returns-clause-parts c =
    let scope = c.in_ok-begin.ensures in
    let root = c.in_ok-begin-2.ensures in
    on_ok_weaker c.push_base-2.result (λ is.
    is ∙ listed-later c.args.found.now c.begin.new.self c.begin-2.new.self c.skip.new.self c.args.root c.args.names c.requires.begins
    scope.stretches scope.place root.stretches root.place c.skip.ensures.stretches c.skip.ensures.place
    ∙ sym (more-names c.args.root c.args.names c.if-names-eq0.false))
    c.push_base-2.ensures.parts
