use Rattle.cpp_direct.proofs.ForAnswers.{true, arith, ◌∷◌, [], subst, IsWriting, symbol_by, StandsAt, first-is-rest, opened-so, component-next, first-opens, there, Step}
use Rattle.cpp_direct.proofs.direct.Direct.rest_at.Goals as goal

pub returns-then-byte_at-eq73 : goal.returns-then-byte_at-eq73
returns-then-byte_at-eq73 g c =
    let s = symbol_by g.G.Grammar.IS_WIDE g.G.Grammar.IS_BARE g.G.Grammar.IS_BRIEF c.args.s.now in
    let mid = c.add_unless.new.self in
    let writing = c.requires.writing in
    let added = c.in_ok-add_unless.ensures in
    opened-so c.open_first.result (Step.List true) _ (IsWriting s c.open_first.new.self) c.open_first.ensures
    (first-opens s writing.is_before.1 c.args.self.now mid c.open_first.new.self writing.kept writing.is_before.0 writing.is_before.2 writing.is_before.3
    (subst (λ n. StandsAt s.bytes n (73 ∷ [])) added.at (there s.bytes mid.at c.byte_at.result 73 c.if-byte_at-eq73.true (omega arith) c.byte_at.ensures))
    added)

pub returns : goal.returns
returns g c =
    let writing = c.requires.writing in
    component-next _ writing.is_before.1 c.args.self.now c.add_unless.new.self writing.kept writing.is_before.0
    (first-is-rest writing.is_before.1 writing.is_before.2) writing.is_before.3 c.in_ok-add_unless.ensures
