use Rattle.cpp_direct.proofs.ForAnswers.{◌+◌, ◌∷◌, [], refl, arith, stands-moved, constructor-awaits, structor-digit-some}
use Rattle.cpp_direct.proofs.direct.Direct.constructor.Goals as goal

pub class_again-requires-clause-awaits : goal.class_again-requires-clause-awaits
class_again-requires-clause-awaits g c =
    let is = c.is_constructor_digit.ensures c.if-not-is_constructor_digit.false in
    constructor-awaits _ c.args.self.now _ c.push.new.self c.byte_at-digit.result c.in_ok-push.ensures
    (record { text = refl; candidates = refl; waiting = refl; scope = refl; nest = refl; at = omega (arith, c.in_ok-self.ensures, c.in_ok-self-2.ensures) })
    c.requires.writing c.requires.letter
    (stands-moved c.args.s.now _ (c.args.self.now.at + 1) (c.byte_at-digit.result ∷ []) (omega (arith, c.in_ok-self.ensures))
    (c.byte_at-digit.ensures (structor-digit-some 49 (omega arith) is))) is c.if-not-self.false c.if-self.false
