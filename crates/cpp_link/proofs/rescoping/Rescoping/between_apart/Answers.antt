use Rattle.cpp_link.proofs.Basics.{sym, ◌∙◌, ◌≡◌, ◌-◌, false, length, Ok, Err, production_at, steps_apart, is_lambda, both}
use Rattle.cpp_link.proofs.Rescoped.{goes_counted, plain_goes}
use Rattle.cpp_link.proofs.rescoping.Rescoping.between_apart.Goals as goal

pub before_apart-requires-clause-apart : goal.before_apart-requires-clause-apart
before_apart-requires-clause-apart c =
    let frame = c.args.frame.now in
    let lambda = is_lambda frame.kept.scope in
    both (λ p n. steps_apart p lambda (n - frame.base)) (sym c.requires.numbered) (sym (c.len.ensures ∙ c.args.parts.now.ok.0)) ∙ sym c.steps_apart.ensures ∙ c.if-steps_apart.true

pub returns-in-Ok-clause-goes : goal.returns-in-Ok-clause-goes
returns-in-Ok-clause-goes c =
    let did = c.before_apart in
    goes_counted c.args.symbol.now c.args.self.now did.new.self c.args.frame.now c.args.parts.now.items did.new.parts.items (Ok c.in-Ok.then) c.requires.room.paid.begun c.in-Ok.ensures.makes c.in-Ok.ensures.goes

pub returns-in-Ok-before_rare-clause-goes : goal.returns-in-Ok-before_rare-clause-goes
returns-in-Ok-before_rare-clause-goes c =
    let did = c.before_rare in
    let frame = c.args.frame.now in
    let lambda = is_lambda frame.kept.scope in
    let apart : steps_apart (production_at frame.rule) lambda (length c.args.parts.now.items - frame.base) ≡ false =
    both (λ p n. steps_apart p lambda (n - frame.base)) (sym c.requires.numbered) (sym (c.len.ensures ∙ c.args.parts.now.ok.0)) ∙ sym c.steps_apart.ensures ∙ c.if-steps_apart.false in
    plain_goes c.args.symbol.now c.args.self.now did.new.self frame c.args.parts.now.items did.new.parts.items (Ok c.in-Ok-before_rare.then) c.requires.room.paid.begun apart
    c.in-Ok-before_rare.ensures.makes c.in-Ok-before_rare.ensures.goes

pub returns-in-Err-before_rare-clause-goes : goal.returns-in-Err-before_rare-clause-goes
returns-in-Err-before_rare-clause-goes c =
    let did = c.before_rare in
    let frame = c.args.frame.now in
    let lambda = is_lambda frame.kept.scope in
    let apart : steps_apart (production_at frame.rule) lambda (length c.args.parts.now.items - frame.base) ≡ false =
    both (λ p n. steps_apart p lambda (n - frame.base)) (sym c.requires.numbered) (sym (c.len.ensures ∙ c.args.parts.now.ok.0)) ∙ sym c.steps_apart.ensures ∙ c.if-steps_apart.false in
    plain_goes c.args.symbol.now c.args.self.now did.new.self frame c.args.parts.now.items did.new.parts.items (Err c.in-Err-before_rare.refusal) c.requires.room.paid.begun apart
    c.in-Err-before_rare.ensures.makes c.in-Err-before_rare.ensures.goes
