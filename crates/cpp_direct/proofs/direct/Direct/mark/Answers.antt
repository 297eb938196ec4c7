use Rattle.cpp_direct.proofs.ForAnswers.{◌∙◌, ap, reverse, refl, mark-answer, popped}
use Rattle.cpp_direct.proofs.direct.Direct.mark.Goals as goal

pub returns : goal.returns
returns g c =
    mark-answer _ c.args.self.now c.push_short.new.self c.add_candidate.new.self c.args.mark.now c.args.from c.args.is_reference c.args.is_dependent c.requires
    (ap (λ v. reverse v.list.items) c.in_ok-push_short.ensures.waiting
    ∙ popped c.args.self.now.waiting.list.items c.pop-open.new.self.list.items c.requires.rest c.requires.entry _ refl c.requires.open_is
    c.pop-open.ensures.rest)
    c.in_ok-push_short.ensures.text c.in_ok-push_short.ensures.candidates c.in_ok-push_short.ensures.scope c.in_ok-push_short.ensures.at
    c.in_ok-add_candidate.ensures
