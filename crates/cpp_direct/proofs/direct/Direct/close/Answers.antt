use Rattle.cpp_direct.proofs.ForAnswers.{sym, ◌∙◌, function-closed, own-function-named, name-within-text}
use Rattle.cpp_direct.proofs.direct.Direct.close.Goals as goal

pub keep-requires : goal.keep-requires
keep-requires g c = record { within = name-within-text _ c.args.self.now c.args.mark c.args.start c.requires.ended (sym c.IS_BARE.ensures ∙ c.if-IS_BARE.true) }

pub encoded-requires-clause-ended : goal.encoded-requires-clause-ended
encoded-requires-clause-ended g c =
    own-function-named _ c.args.self.now c.keep.new.self c.args.mark c.args.start c.requires.ended (sym c.IS_BARE.ensures ∙ c.if-IS_BARE.true) c.keep.ensures

pub end-requires-clause-ended : goal.end-requires-clause-ended
end-requires-clause-ended g c =
    function-closed _ c.args.self.now c.push_byte.new.self c.cut.new.self c.args.mark c.args.start
    c.requires.ended (sym c.IS_BARE.ensures ∙ c.if-IS_BARE.false) c.in_ok-push_byte.ensures c.in_ok-cut.ensures
