use Rattle.rust_direct.proofs.Basics.{Rust, is_name_byte}
use Rattle.rust_direct.proofs.LaneLemmas.{last-pass}
use Rattle.rust_direct.proofs.names.are_last_name_bytes.Goals as goal

pub returns : goal.returns
returns c = λ all.
    last-pass (is_name_byte Rust) c.args.s.now c.args.from c.args.to c.requires.from c.if-to-from-gt-LANES.false c.if-to-lt-LANES.false (c.are_name_lanes.ensures all)
