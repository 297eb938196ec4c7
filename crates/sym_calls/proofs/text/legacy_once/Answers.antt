use Rattle.sym_calls.proofs.Basics.{true, ◌∙◌, ap, sym, subst, ◌-◌, length, take, drop, List, ℕ, answers_by, language_answer_by, Answering, EndsAs, answered, ending_of}
use Rattle.sym_calls.proofs.Ending.{name-ends, no-name-ends, rest-of, told-ends}
use Rattle.sym_calls.proofs.text.legacy_once.Goals as goal

pub returns-in-Err : goal.returns-in-Err
returns-in-Err g c =
    let answers : Answering = answers_by g.C.Mangling.mangled true c.args.legacy.now.languages.limit c.args.legacy.now.languages.detail in
    no-name-ends answers c.args.asked c.args.name.now c.args.buffer.now c.in-Err.status _
    (sym c.named.ensures.is ∙ c.in-Err.is) (ap (λ o. ending_of o c.args.buffer.now) c.alone.ensures)

pub returns-in-Some : goal.returns-in-Some
returns-in-Some g c =
    let limit = c.args.legacy.now.languages.limit in
    let languages : Answering = λ kind symbol. language_answer_by g.C.Mangling.mangled limit c.args.legacy.now.languages.detail kind.lang symbol in
    let answers : Answering = answers_by g.C.Mangling.mangled true c.args.legacy.now.languages.limit c.args.legacy.now.languages.detail in
    let kind = c.in-Ok.kind in
    let slice : List ℕ = take (length c.args.name.now - kind.skip) (drop kind.skip c.args.name.now) in
    let same = c.may_be_legacy.ensures c.if-may_be_legacy.false limit (languages kind slice) in
    name-ends answers c.args.asked c.args.name.now c.args.buffer.now kind _ (sym c.named.ensures.is ∙ c.in-Ok.is)
    (subst (λ s. EndsAs (answered (answers kind s) kind.skip c.args.buffer.now) c.args.buffer.now (ending_of c.in-Some.outcome c.short_once.new.buffer)) (rest-of kind.skip c.args.name.now)
    (subst (λ a. EndsAs (answered a kind.skip c.args.buffer.now) c.args.buffer.now (ending_of c.in-Some.outcome c.short_once.new.buffer)) (sym same)
    (told-ends (languages kind slice) kind.skip c.args.buffer.now c.short_once.new.buffer c.short_once.result c.in-Some.outcome c.in-Some.is c.short_once.ensures.told)))

pub returns-in-None : goal.returns-in-None
returns-in-None g c =
    let limit = c.args.legacy.now.languages.limit in
    let answers : Answering = answers_by g.C.Mangling.mangled true c.args.legacy.now.languages.limit c.args.legacy.now.languages.detail in
    let kind = c.in-Ok.kind in
    let slice : List ℕ = take (length c.args.name.now - kind.skip) (drop kind.skip c.args.name.now) in
    name-ends answers c.args.asked c.args.name.now c.args.buffer.now kind _ (sym c.named.ensures.is ∙ c.in-Ok.is)
    (subst (λ s. EndsAs (answered (answers kind s) kind.skip c.args.buffer.now) c.args.buffer.now (ending_of c.symbol_by_rows.result c.symbol_by_rows.new.buffer)) (rest-of kind.skip c.args.name.now)
    (subst (λ b. EndsAs (answered (answers kind slice) kind.skip b) b (ending_of c.symbol_by_rows.result c.symbol_by_rows.new.buffer)) (c.short_once.ensures.same c.in-None.is) c.symbol_by_rows.ensures))
