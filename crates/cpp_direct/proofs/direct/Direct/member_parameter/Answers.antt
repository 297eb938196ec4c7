use Rattle.cpp_direct.proofs.ForAnswers.{◌++◌, ◌∷◌, arith, refl, sym, ◌∙◌, function-shown, function-unshown, led-inside, next-led, none-named, none-scoped, Open}
use Rattle.cpp_direct.proofs.direct.Direct.member_parameter.Goals as goal

pub returns-then-not-may_end : goal.returns-then-not-may_end
returns-then-not-may_end g c =
    let p = c.requires.read in
    next-led c.args.self.now c.push_pair.new.self p c.in_ok-push_pair.ensures (λ os h. h)
    (λ around h. none-scoped p.scope around (Open.Member c.args.mark c.args.to ∷ p.rest) refl)

pub leave_out-requires : goal.leave_out-requires
leave_out-requires g c = record { within = led-inside c.args.self.now c.args.to c.requires.read c.requires.read.leads.1 }

pub member_ended-requires : goal.member_ended-requires
member_ended-requires g c =
    let p = c.requires.read in
    let left = c.in_ok-leave_out.ensures in
    function-unshown c.args.self.now (record c.args.self.now { waiting = c.pop-open.new.self }) c.leave_out.new.self c.args.to p c.as_slice.result.now (p.leads.0, p.leads.2)
    c.as_slice.ensures (sym c.ends_with.ensures.value ∙ c.if-ends_with.false) p.leads.1
    (rw (p.keeps.unknown c.if-self.false).0 (none-named (p.front ++ p.name)))
    refl refl refl refl c.pop-open.ensures.rest left.text left.candidates left.«open» left.scope left.at (sym c.IS_BARE.ensures ∙ c.if-IS_BARE.true)

pub member_ended-requires-2 : goal.member_ended-requires-2
member_ended-requires-2 g c =
    let p = c.requires.read in
    function-shown c.args.self.now (record c.args.self.now { waiting = c.pop-open.new.self }) c.push_byte.new.self p c.as_slice.result.now (p.leads.0, p.leads.2)
    c.as_slice.ensures (sym c.ends_with.ensures.value ∙ c.if-ends_with.false) (omega arith) refl refl refl refl c.pop-open.ensures.rest
    c.in_ok-push_byte.ensures (sym c.IS_BARE.ensures ∙ c.if-IS_BARE.false)
