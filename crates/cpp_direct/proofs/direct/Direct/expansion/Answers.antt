use Rattle.cpp_direct.proofs.ForAnswers.{arith, ◌∙◌, ◌≡◌, detail_by, parameter-expected, expansion-read, nothing-read, pack-separated}
use Rattle.cpp_direct.proofs.direct.Direct.expansion.Goals as goal

pub returns-in_default : goal.returns-in_default
returns-in_default g c = parameter-expected _ c.args.self.now c.separate.new.self c.args.is_first c.args.mark c.args.start c.args.argument c.requires.awaits c.in_ok-separate.ensures

pub expand_all-requires : goal.expand_all-requires
expand_all-requires g c =
    let a = c.requires.awaits in
    let pack = pack-separated _ c.args.self.now c.separate-2.new.self c.args.is_first c.args.mark c.args.start c.args.argument c.in-Some.read.end a c.requires.has_pack
    c.in_ok-separate-2.ensures in
    record { pack = (detail_by g.G.Grammar.IS_BARE g.G.Grammar.IS_BRIEF, (a.is_function.names.1 c.requires.has_pack).elements, pack) }

pub close-requires-clause-ended : goal.close-requires-clause-ended
close-requires-clause-ended g c =
    let number : c.in-Some.read.number ≡ c.args.argument.before = c.if-read-argument.false in
    let stands = rw number at c.in-Some.ensures.stands in
    let end = rw number at c.in-Some.ensures.end in
    nothing-read _ c.in-Some.read.pattern c.args.self.now c.add_expansion.new.self c.args.is_first c.args.mark c.args.start c.args.argument c.requires.awaits
    c.requires.has_pack c.if-argument-eq0.true (omega (arith, number, c.in-Some.ensures.few)) stands
    c.add_expansion.ensures.text c.in_ok-add_expansion.ensures.candidates c.add_expansion.ensures.scope (c.add_expansion.ensures.at ∙ end)

pub close_parameters-requires-clause-ended : goal.close_parameters-requires-clause-ended
close_parameters-requires-clause-ended g c =
    let old = c.args.self.now in
    let a = c.requires.awaits in
    let pattern = c.in-Some.read.pattern in
    let mid = c.separate-2.new.self in
    let ts = (a.is_function.names.1 c.requires.has_pack).elements in
    let pack = pack-separated _ old mid c.args.is_first c.args.mark c.args.start c.args.argument c.in-Some.read.end a c.requires.has_pack c.in_ok-separate-2.ensures in
    let number : c.in-Some.read.number ≡ c.args.argument.before = c.if-read-argument.false in
    let stands = rw number at c.in-Some.ensures.stands in
    let end = rw number at c.in-Some.ensures.end in
    expansion-read _ pattern old mid c.expand_all.new.self c.add_expansion-2.new.self c.args.is_first c.args.mark c.args.start c.args.argument c.in-Some.read.end a
    c.requires.has_pack (λ none. c.if-argument-eq0.false none) (omega (arith, number, c.in-Some.ensures.few)) stands end
    c.in_ok-separate-2.ensures (c.in_ok-expand_all.ensures (detail_by g.G.Grammar.IS_BARE g.G.Grammar.IS_BRIEF) ts pack)
    c.add_expansion-2.ensures.text c.in_ok-add_expansion-2.ensures.candidates c.add_expansion-2.ensures.open c.add_expansion-2.ensures.scope
    c.add_expansion-2.ensures.at
