use Rattle.sym_calls.proofs.Basics.{rules, AreBytes}
use Rattle.sym_calls.proofs.Ending.{short-written}
use Rattle.sym_calls.proofs.text.write_short.Goals as goal

pub returns-clause-told : goal.returns-clause-told
returns-clause-told g c =
    let bytes : AreBytes c.args.symbol.now = λ i. search (rules, c.type_inv.symbol i) in
    short-written g.M.Mangling.mangled c.args.detail c.args.limit c.args.symbol.now (g.M.Mangling.written c.write.new.direct) c.text.result.now c.args.buffer.now _
    bytes (c.write.ensures c.if-not-write.false) c.text.ensures c.write-2.ensures
