use Rattle.cpp_direct.proofs.ForAnswers.{refl, sym, ◌∙◌, front-bare, front-same, front-turned}
use Rattle.cpp_direct.proofs.direct.Direct.front_ended.Goals as goal

pub begin_parameters-requires-clause-awaits : goal.begin_parameters-requires-clause-awaits
begin_parameters-requires-clause-awaits g c =
    front-bare _ c.args.self.now _ c.args.mark c.args.start c.args.argument c.requires.ended (sym c.IS_BARE.ensures ∙ c.if-IS_BARE.true) refl refl refl refl

pub begin_parameters-requires-2-clause-awaits : goal.begin_parameters-requires-2-clause-awaits
begin_parameters-requires-2-clause-awaits g c =
    front-turned _ c.args.self.now _ c.push_byte.new.self c.repeat.new.self c.args.mark c.args.start c.args.argument c.requires.ended
    (sym c.IS_BARE.ensures ∙ c.if-IS_BARE.false) (sym c.is_local.ensures ∙ c.if-is_local.false) refl refl refl refl c.in_ok-push_byte.ensures c.in_ok-repeat.ensures

pub front_hidden-requires-clause-ended : goal.front_hidden-requires-clause-ended
front_hidden-requires-clause-ended g c = front-same _ c.args.self.now _ c.args.mark c.args.start c.args.argument c.requires.ended refl refl refl refl
