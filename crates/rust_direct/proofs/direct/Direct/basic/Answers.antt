use Rattle.rust_direct.proofs.Basics.{subst, Writes}
use Rattle.rust_direct.proofs.ArgumentsRead.{basic-read, filled-text, letter-there}
use Rattle.rust_direct.proofs.direct.Direct.basic.Goals as goal

pub ended-requires : goal.ended-requires
ended-requires g c =
    let filled = filled-text c.basic_text-text.result.now _ c.basic_text-text.ensures c.if-is_empty.ensures in
    basic-read g.S.Showing.IS_BRIEF c.args.s.now c.args.self.now c.push.new.self c.len-from.result c.args.letter c.in_ok-self.field-0 c.requires.awaits
    (letter-there c.args.s.now c.args.self.now.at c.args.letter filled c.requires.letter) filled c.len-from.ensures c.in_ok-self.ensures.1
    (subst (λ l. Writes (record c.args.self.now { at = c.in_ok-self.field-0 }) c.push.new.self l) c.basic_text-text.ensures c.in_ok-push.ensures)
