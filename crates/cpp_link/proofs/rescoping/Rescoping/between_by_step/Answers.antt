use Rattle.cpp_link.proofs.Basics.{sym, ◌∙◌, ◌≡◌, ap, ℕ, ◌-◌, false, length, Production, production_at, steps_apart, is_lambda}
use Rattle.cpp_link.proofs.Rescoped.{plain_goes}
use Rattle.cpp_link.proofs.rescoping.Rescoping.between_by_step.Goals as goal

pub returns-else-in_lambda-clause-goes : goal.returns-else-in_lambda-clause-goes
unfolding steps_apart
returns-else-in_lambda-clause-goes c =
    let did = c.before_as in
    let frame = c.args.frame.now in
    let parts = c.args.parts.now.items in
    let before : ℕ = length parts - frame.base in
    let apart : steps_apart (production_at frame.rule) (is_lambda frame.kept.scope) before ≡ false =
    ap (λ p. steps_apart p (is_lambda frame.kept.scope) before) (sym c.production_of-production.ensures ∙ c.in-Encoding.is)
    ∙ ap (λ l. steps_apart Production.Encoding l before) (sym c.in_lambda.ensures ∙ c.if-in_lambda.false) in
    plain_goes c.args.symbol.now c.args.self.now did.new.self frame parts did.new.parts.items did.result c.requires.room.paid.begun apart did.ensures.makes did.ensures.goes

pub returns-in-NestNext-clause-goes : goal.returns-in-NestNext-clause-goes
unfolding steps_apart
returns-in-NestNext-clause-goes c =
    let did = c.before_as-in-NestNext in
    let frame = c.args.frame.now in
    let parts = c.args.parts.now.items in
    plain_goes c.args.symbol.now c.args.self.now did.new.self frame parts did.new.parts.items did.result c.requires.room.paid.begun
    (ap (λ p. steps_apart p (is_lambda frame.kept.scope) (length parts - frame.base)) (sym c.production_of-production.ensures ∙ c.in-NestNext.is)) did.ensures.makes did.ensures.goes

pub returns-in-SourceName-clause-goes : goal.returns-in-SourceName-clause-goes
unfolding steps_apart
returns-in-SourceName-clause-goes c =
    let did = c.before_as-in-SourceName in
    let frame = c.args.frame.now in
    let parts = c.args.parts.now.items in
    plain_goes c.args.symbol.now c.args.self.now did.new.self frame parts did.new.parts.items did.result c.requires.room.paid.begun
    (ap (λ p. steps_apart p (is_lambda frame.kept.scope) (length parts - frame.base)) (sym c.production_of-production.ensures ∙ c.in-SourceName.is)) did.ensures.makes did.ensures.goes

pub returns-in-NestSource-clause-goes : goal.returns-in-NestSource-clause-goes
unfolding steps_apart
returns-in-NestSource-clause-goes c =
    let did = c.before_as-in-NestSource in
    let frame = c.args.frame.now in
    let parts = c.args.parts.now.items in
    plain_goes c.args.symbol.now c.args.self.now did.new.self frame parts did.new.parts.items did.result c.requires.room.paid.begun
    (ap (λ p. steps_apart p (is_lambda frame.kept.scope) (length parts - frame.base)) (sym c.production_of-production.ensures ∙ c.in-NestSource.is)) did.ensures.makes did.ensures.goes

pub returns-in-Arguments-clause-goes : goal.returns-in-Arguments-clause-goes
unfolding steps_apart
returns-in-Arguments-clause-goes c =
    let did = c.before_as-in-Arguments in
    let frame = c.args.frame.now in
    let parts = c.args.parts.now.items in
    plain_goes c.args.symbol.now c.args.self.now did.new.self frame parts did.new.parts.items did.result c.requires.room.paid.begun
    (ap (λ p. steps_apart p (is_lambda frame.kept.scope) (length parts - frame.base)) (sym c.production_of-production.ensures ∙ c.in-Arguments.is)) did.ensures.makes did.ensures.goes

pub returns-in-NestTemplate-clause-goes : goal.returns-in-NestTemplate-clause-goes
unfolding steps_apart
returns-in-NestTemplate-clause-goes c =
    let did = c.before_as-in-NestTemplate in
    let frame = c.args.frame.now in
    let parts = c.args.parts.now.items in
    plain_goes c.args.symbol.now c.args.self.now did.new.self frame parts did.new.parts.items did.result c.requires.room.paid.begun
    (ap (λ p. steps_apart p (is_lambda frame.kept.scope) (length parts - frame.base)) (sym c.production_of-production.ensures ∙ c.in-NestTemplate.is)) did.ensures.makes did.ensures.goes

pub returns-in-TypeWithS-clause-goes : goal.returns-in-TypeWithS-clause-goes
unfolding steps_apart
returns-in-TypeWithS-clause-goes c =
    let did = c.before_as-in-TypeWithS in
    let frame = c.args.frame.now in
    let parts = c.args.parts.now.items in
    plain_goes c.args.symbol.now c.args.self.now did.new.self frame parts did.new.parts.items did.result c.requires.room.paid.begun
    (ap (λ p. steps_apart p (is_lambda frame.kept.scope) (length parts - frame.base)) (sym c.production_of-production.ensures ∙ c.in-TypeWithS.is)) did.ensures.makes did.ensures.goes

pub returns-in-TaggedStdType-clause-goes : goal.returns-in-TaggedStdType-clause-goes
unfolding steps_apart
returns-in-TaggedStdType-clause-goes c =
    let did = c.before_as-in-TaggedStdType in
    let frame = c.args.frame.now in
    let parts = c.args.parts.now.items in
    plain_goes c.args.symbol.now c.args.self.now did.new.self frame parts did.new.parts.items did.result c.requires.room.paid.begun
    (ap (λ p. steps_apart p (is_lambda frame.kept.scope) (length parts - frame.base)) (sym c.production_of-production.ensures ∙ c.in-TaggedStdType.is)) did.ensures.makes did.ensures.goes
