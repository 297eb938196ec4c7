use Rattle.cpp_direct.proofs.ForAnswers.{sym, ◌∙◌, symbol-ended}
use Rattle.cpp_direct.proofs.direct.Direct.encoded.Goals as goal

pub finish-requires : goal.finish-requires
finish-requires g c = symbol-ended _ c.args.self.now c.requires.ended (sym c.is_local.ensures ∙ c.if-is_local.false)
