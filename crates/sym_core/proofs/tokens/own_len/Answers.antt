use Rattle.std.proofs.Common.{arith, sym, ◌∙◌}
use Rattle.sym_core.proofs.NameTokens.{own_found}
use Rattle.sym_core.proofs.tokens.own_len.Goals as goal

pub returns-else-is_name_byte-clause-own : goal.returns-else-is_name_byte-clause-own
returns-else-is_name_byte-clause-own c =
    let i = c.loop-end.invariant in
    own_found c.args.names c.args.bytes.now c.args.most c.loop-end.end i.high i.few i.each (λ lt more. sym c.is_name_byte.ensures ∙ c.if-is_name_byte.false)

pub returns-else-end-most-clause-own : goal.returns-else-end-most-clause-own
returns-else-end-most-clause-own c =
    let i = c.loop-end.invariant in
    own_found c.args.names c.args.bytes.now c.args.most c.loop-end.end i.high i.few i.each (λ lt more. absurd (omega (arith, c.if-end-most.false)))

pub returns-after-loop-end-clause-own : goal.returns-after-loop-end-clause-own
returns-after-loop-end-clause-own c =
    let i = c.loop-end.invariant in
    own_found c.args.names c.args.bytes.now c.args.most c.loop-end.end i.high i.few i.each (λ lt more. absurd (omega (arith, c.loop-end-test.false)))
