use Rattle.cpp_direct.proofs.ForAnswers.{◌++◌, ◌∷◌, arith, refl, sym, ◌∙◌, function-shown, function-unshown, led-inside, next-led, none-named, none-scoped, Open}
use Rattle.cpp_direct.proofs.direct.Direct.enclosing_parameter.Goals as goal

pub returns-then-byte_at-ne69 : goal.returns-then-byte_at-ne69
returns-then-byte_at-ne69 g c =
    let p = c.requires.read in
    next-led c.args.self.now c.push_pair.new.self p c.in_ok-push_pair.ensures (λ os h. h)
    (λ around h. none-scoped p.scope around (Open.Enclosing c.args.mark c.args.from c.args.to ∷ p.rest) refl)

pub leave_out-requires : goal.leave_out-requires
leave_out-requires g c = record { within = led-inside c.args.self.now c.args.to c.requires.read c.requires.read.leads.1 }

pub enclosing_ended-requires-clause-read : goal.enclosing_ended-requires-clause-read
enclosing_ended-requires-clause-read g c =
    function-shown c.args.self.now (record c.args.self.now { waiting = c.pop-open.new.self }) c.push_byte.new.self c.requires.read c.as_slice.result.now c.requires.read.leads.0
    c.as_slice.ensures (sym c.ends_with.ensures.value ∙ c.if-ends_with.false) (omega arith) refl refl refl refl c.pop-open.ensures.rest
    c.in_ok-push_byte.ensures (sym c.IS_BARE.ensures ∙ c.if-IS_BARE.false)

pub enclosed-requires-clause-read : goal.enclosed-requires-clause-read
enclosed-requires-clause-read g c =
    let p = c.requires.read in
    let left = c.in_ok-leave_out.ensures in
    function-unshown c.args.self.now (record c.args.self.now { waiting = c.pop-open.new.self }) c.leave_out.new.self c.args.to p c.as_slice.result.now p.leads.0
    c.as_slice.ensures (sym c.ends_with.ensures.value ∙ c.if-ends_with.false) p.leads.1
    (rw (p.keeps.unknown c.if-self.false).0 (none-named (p.front ++ p.name)))
    refl refl refl refl c.pop-open.ensures.rest left.text left.candidates left.«open» left.scope left.at (sym c.IS_BARE.ensures ∙ c.if-IS_BARE.true)
