use Rattle.rust_v0.proofs.Basics.{◌-◌, length, take, drop, err_from_is_err_and, span_length}
use Rattle.rust_v0.proofs.Undecoded.{undecoded_few}
use Rattle.rust_v0.proofs.Printing.{prints-none}
use Rattle.rust_v0.proofs.nodes.RustNodes.punycode_name.Goals as goal

pub returns-then-not-are_name_bytes-clause-prints : goal.returns-then-not-are_name_bytes-clause-prints
returns-then-not-are_name_bytes-clause-prints c = prints-none c.args.self.now

pub returns-in_err-printed-clause-full : goal.returns-in_err-printed-clause-full
returns-in_err-printed-clause-full c =
    let p = err_from_is_err_and c.from_residual.result c.from_residual.ensures.1 in
    let bytes = take (c.args.own.to - c.args.own.from) (drop c.args.own.from c.args.symbol.now) in
    rw (p.1, c.in_err-printed.ensures.same)
    (λ memory. undecoded_few bytes c.args.self.now.nodes.text_room (length c.args.self.now.nodes.text) (c.args.own.to - c.args.own.from)
    (span_length c.args.own.from c.args.own.to c.args.symbol.now c.requires.within.0 c.requires.within.1) c.in_err-printed.ensures.full)
