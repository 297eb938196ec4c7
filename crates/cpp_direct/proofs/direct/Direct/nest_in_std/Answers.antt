use Rattle.cpp_direct.proofs.ForAnswers.{◌≡◌, ◌+◌, ◌++◌, length, subst, ap, ◌∙◌, arith, source_text, symbol_by, IsNameAt, std-begins}
use Rattle.cpp_direct.proofs.direct.Direct.nest_in_std.Goals as goal

pub nest_named-requires-clause-named : goal.nest_named-requires-clause-named
nest_named-requires-clause-named g c =
    let s = symbol_by g.G.Grammar.IS_WIDE g.G.Grammar.IS_BARE g.G.Grammar.IS_BRIEF c.args.s.now in
    let old = c.args.self.now in
    let a = c.requires.awaits in
    let wrote = c.in_ok-push.ensures in
    let read = c.in_ok-name.ensures in
    let there : c.push.new.self.at ≡ a.0 + 2 = omega (arith, wrote.at, c.in_ok-self.ensures.1, a.1) in
    std-begins s old c.name.new.self c.args.purpose a.0 read.0 a.3 a.2 (subst (λ n. IsNameAt s.bytes n read.0 c.name.new.self.at) there read.1) read.2
    (read.3.text ∙ ap (λ l. l ++ source_text read.0) wrote.text) (read.3.candidates ∙ wrote.candidates) (read.3.waiting ∙ wrote.waiting) (read.3.scope ∙ wrote.scope)
    c.end-from.result c.end-class_from.result c.end.result c.end-from.ensures (c.end-class_from.ensures ∙ ap length wrote.text) c.end.ensures
