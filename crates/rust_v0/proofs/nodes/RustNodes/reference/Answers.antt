use Rattle.rust_v0.proofs.Meanings.{reference_gives}
use Rattle.rust_v0.proofs.nodes.RustNodes.reference.Goals as goal

pub returns-clause-gives : goal.returns-clause-gives
returns-clause-gives c at known is place bound there keeps are =
    reference_gives at c.args.self.now c.refer_as.new.self c.args.production c.args.parts.now known c.in_ok-found.found _ c.referred-target.result c.refer_as.result is
    c.in_ok-found.ensures.is are keeps (λ n number. rw (← c.deref.ensures.value) (c.referred-target.ensures n number)) (λ value noted. c.refer_as.ensures.gives at value is place bound there keeps noted)
