use Rattle.rust_direct.proofs.Basics.{sym, subst, OnSome, decimal_digit, Writes}
use Rattle.rust_direct.proofs.direct.Direct.push_decimal.Goals as goal

pub returns-then-value-lt10 : goal.returns-then-value-lt10
returns-then-value-lt10 c =
    subst (λ text. OnSome c.push_byte.result (Writes c.args.self.now c.push_byte.new.self text)) (sym (decimal_digit c.args.value c.if-value-lt10.true)) c.push_byte.ensures
