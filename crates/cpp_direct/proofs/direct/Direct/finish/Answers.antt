use Rattle.cpp_direct.proofs.ForAnswers.{sym, ◌∙◌, eqb-true, ends-plain, ends-suffixed}
use Rattle.cpp_direct.proofs.direct.Direct.finish.Goals as goal

pub returns-then-is_empty : goal.returns-then-is_empty
returns-then-is_empty g c =
    ends-plain _ c.in_ok-suffix.suffix.now c.args.self.now c.requires c.in_ok-suffix.ensures.lookup.0.0 c.in_ok-suffix.ensures.lookup.0.2
    (eqb-true _ _ (sym c.is_empty.ensures ∙ c.if-is_empty.true))

pub returns : goal.returns
returns g c =
    ends-suffixed _ c.in_ok-suffix.suffix.now c.args.self.now c.push.new.self c.push-2.new.self c.push-3.new.self c.requires
    c.in_ok-suffix.ensures.lookup.0.0 c.in_ok-suffix.ensures.lookup.0.2 (c.is_suffix.ensures c.if-not-is_suffix.false)
    c.in_ok-push.ensures c.in_ok-push-2.ensures c.in_ok-push-3.ensures
