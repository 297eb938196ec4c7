use Rattle.cpp_direct.proofs.ForAnswers.{true, refl, IsWriting, waits-last, pack-begins, opened-so, Step}
use Rattle.cpp_direct.proofs.direct.Direct.begin_pack.Goals as goal

pub returns-in_default : goal.returns-in_default
returns-in_default g c =
    opened-so c.open_type.result (Step.List true) _ (IsWriting _ c.open_type.new.self) c.open_type.ensures
    (pack-begins _ c.args.self.now c.open_type.new.self c.in_ok-last.field-0.now c.requires.awaits c.requires.letter
    (waits-last _ _ _ _ c.as_slice.ensures c.in_ok-last.ensures.value refl) c.in_default.not-Pack)
