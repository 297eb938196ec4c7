use Rattle.cpp_direct.proofs.ForAnswers.{false, subst, sym, added_unless, IsWriting, Lists, symbol_by, type-ended, Step}
use Rattle.cpp_direct.proofs.direct.Direct.nest_type_ended.Goals as goal

pub returns : goal.returns
returns g c =
    let before = c.requires.writing.is_before in
    let old = c.args.self.now in
    let added = c.in_ok-add_unless.ensures in
    let s = symbol_by g.G.Grammar.IS_WIDE g.G.Grammar.IS_BARE g.G.Grammar.IS_BRIEF c.args._s.now in
    subst (λ n. IsWriting s c.add_unless.new.self (Step.Value false n.is_dependent)) (sym added.nest)
    (type-ended s c.args.self.now c.add_unless.new.self c.requires.writing.kept before.0 before.1 c.requires.end c.requires.purpose
    (subst (λ n. Lists (record old { at = n }) c.add_unless.new.self (added_unless old old.nest.is_listed old.nest.from old.nest.is_dependent)) c.in_ok-self.ensures.1 added))
