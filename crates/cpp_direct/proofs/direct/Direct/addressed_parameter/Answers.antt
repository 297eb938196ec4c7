use Rattle.cpp_direct.proofs.ForAnswers.{arith, refl, sym, ◌∙◌, function-shown, function-unshown, led-inside, next-led, entry-scoped, Open}
use Rattle.cpp_direct.proofs.direct.Direct.addressed_parameter.Goals as goal

pub returns-then-byte_at-ne69 : goal.returns-then-byte_at-ne69
returns-then-byte_at-ne69 g c =
    let p = c.requires.read.1 in
    next-led c.args.self.now c.push_pair.new.self p c.in_ok-push_pair.ensures (λ os h. h)
    (λ around h. entry-scoped p.scope around (Open.Addressed c.args.mark c.args.to c.requires.read.0) c.requires.read.0 p.rest refl refl p.leads.named h)

pub leave_out-requires : goal.leave_out-requires
leave_out-requires g c = record { within = led-inside c.args.self.now c.args.to c.requires.read.1 c.requires.read.1.leads.to_is }

pub addressed-requires : goal.addressed-requires
addressed-requires g c =
    let p = c.requires.read.1 in
    let left = c.in_ok-leave_out.ensures in
    record {
      read = function-unshown c.args.self.now (record c.args.self.now { waiting = c.pop-open.new.self }) c.leave_out.new.self c.args.to p c.as_slice.result.now p.leads.typed
          c.as_slice.ensures (sym c.ends_with.ensures.value ∙ c.if-ends_with.false) p.leads.to_is p.leads.there
          refl refl refl refl c.pop-open.ensures.rest left.text left.candidates left.«open» left.scope left.at (sym c.IS_BARE.ensures ∙ c.if-IS_BARE.true);
    }

pub addressed_marked-requires : goal.addressed_marked-requires
addressed_marked-requires g c = record {
  read = function-shown c.args.self.now (record c.args.self.now { waiting = c.pop-open.new.self }) c.push_byte.new.self c.requires.read.1 c.as_slice.result.now c.requires.read.1.leads.typed
      c.as_slice.ensures (sym c.ends_with.ensures.value ∙ c.if-ends_with.false) (omega arith) refl refl refl refl c.pop-open.ensures.rest
      c.in_ok-push_byte.ensures (sym c.IS_BARE.ensures ∙ c.if-IS_BARE.false);
}
