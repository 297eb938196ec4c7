use Rattle.cpp_direct.proofs.ForAnswers.{sym, named-tagged}
use Rattle.cpp_direct.proofs.direct.Direct.nest_named.Goals as goal

pub nest_tagged-requires : goal.nest_tagged-requires
nest_tagged-requires g c =
    let is = c.in_ok-tag.ensures in
    named-tagged _ c.args.self.now c.tag.new.self is.0 (sym c.if-IS_WIDE.ensures) c.requires.named is.1 is.2
