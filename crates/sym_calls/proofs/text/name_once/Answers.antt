use Rattle.sym_calls.proofs.Basics.{◌∙◌, ap, sym, subst, ◌-◌, length, take, drop, List, ℕ, language_answer_by, Answering, EndsAs, answered, ending_of}
use Rattle.sym_calls.proofs.Ending.{name-ends, no-name-ends, rest-of, told-ends}
use Rattle.sym_calls.proofs.text.name_once.Goals as goal

pub returns-in-Err : goal.returns-in-Err
returns-in-Err g c =
    no-name-ends (λ kind symbol. language_answer_by g.C.Mangling.mangled c.args.languages.now.limit c.args.languages.now.detail kind.lang symbol) c.args.asked c.args.name.now c.args.buffer.now c.in-Err.status _
    (sym c.named.ensures.is ∙ c.in-Err.is) (ap (λ o. ending_of o c.args.buffer.now) c.alone.ensures)

pub returns-in-Some : goal.returns-in-Some
returns-in-Some g c =
    let answers : Answering = λ kind symbol. language_answer_by g.C.Mangling.mangled c.args.languages.now.limit c.args.languages.now.detail kind.lang symbol in
    let kind = c.in-Ok.kind in
    let slice : List ℕ = take (length c.args.name.now - kind.skip) (drop kind.skip c.args.name.now) in
    name-ends answers c.args.asked c.args.name.now c.args.buffer.now kind _ (sym c.named.ensures.is ∙ c.in-Ok.is)
    (subst (λ s. EndsAs (answered (answers kind s) kind.skip c.args.buffer.now) c.args.buffer.now (ending_of c.in-Some.outcome c.short_once.new.buffer)) (rest-of kind.skip c.args.name.now)
    (told-ends (answers kind slice) kind.skip c.args.buffer.now c.short_once.new.buffer c.short_once.result c.in-Some.outcome c.in-Some.is c.short_once.ensures.told))

pub returns-in-None : goal.returns-in-None
returns-in-None g c =
    let answers : Answering = λ kind symbol. language_answer_by g.C.Mangling.mangled c.args.languages.now.limit c.args.languages.now.detail kind.lang symbol in
    let kind = c.in-Ok.kind in
    let slice : List ℕ = take (length c.args.name.now - kind.skip) (drop kind.skip c.args.name.now) in
    name-ends answers c.args.asked c.args.name.now c.args.buffer.now kind _ (sym c.named.ensures.is ∙ c.in-Ok.is)
    (subst (λ s. EndsAs (answered (answers kind s) kind.skip c.args.buffer.now) c.args.buffer.now (ending_of c.symbol_by_rows.result c.symbol_by_rows.new.buffer)) (rest-of kind.skip c.args.name.now)
    (subst (λ b. EndsAs (answered (answers kind slice) kind.skip b) b (ending_of c.symbol_by_rows.result c.symbol_by_rows.new.buffer)) (c.short_once.ensures.same c.in-None.is) c.symbol_by_rows.ensures))
