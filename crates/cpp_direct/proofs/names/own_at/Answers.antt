use Rattle.cpp_direct.proofs.ForAnswers.{◌-◌, ◌≤◌, length, sym, ◌∙◌, arith, own-each, own-placed, own-is}
use Rattle.cpp_direct.proofs.names.own_at.Goals as goal

pub returns : goal.returns
returns c =
    let s = c.args.s.now in
    let few : c.args.size ≤ length s - c.args.from = omega (arith, c.if-size-s.false) in
    let own = own-is s c.args.from c.args.size in
    own-placed s c.args._at c.args.from c.args.size _ c.requires.read c.requires.within few own (sym c.is_digit.ensures ∙ c.if-is_digit.false)
    (own-each s c.args.from c.args.size _ c.requires.within few own c.requires.readable.plain)
