use Rattle.cpp_direct.proofs.ForAnswers.{sym, unscoped-tagged}
use Rattle.cpp_direct.proofs.direct.Direct.unscoped_named.Goals as goal

pub unscoped_tagged-requires-clause-named : goal.unscoped_tagged-requires-clause-named
unscoped_tagged-requires-clause-named g c =
    let is = c.in_ok-tag.ensures in
    unscoped-tagged _ c.args.self.now c.tag.new.self c.args.from c.args.takes is.0 (sym c.if-IS_WIDE.ensures) c.requires.named is.1 is.2
