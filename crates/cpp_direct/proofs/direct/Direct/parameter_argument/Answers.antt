use Rattle.cpp_direct.proofs.ForAnswers.{◌≡◌, ◌+◌, ◌∷◌, ◌++◌, [], length, ap, ◌∙◌, arith, refl, parameter_digits, stands-moved, operand-done, operand-inside, there}
use Rattle.cpp_direct.proofs.direct.Direct.parameter_argument.Goals as goal

pub repeat-requires : goal.repeat-requires
repeat-requires g c =
    let is = operand-inside _ c.args.self.now c.in_ok-named.named c.in_ok-read.read.number c.in_ok-argument.argument c.requires.awaits
    c.in_ok-named.ensures c.in_ok-argument.ensures.is c.in_ok-argument.ensures.known in
    record { from = is.0; to = is.1 }

pub returns : goal.returns
returns g c =
    let s = c.args.s.now in
    let old = c.args.self.now in
    let first = c.in_ok-behind.behind in
    let second = c.in_ok-checked_add.field-0 in
    let read = c.in_ok-read.read in
    let letters = parameter_digits read.number ++ 95 ∷ [] in
    let second_is : second ≡ old.at + 1 + 1 = c.in_ok-checked_add.ensures.1 ∙ ap (λ n. n + 1) c.in_ok-behind.ensures.1 in
    let end_is : read.end ≡ old.at + 1 + 1 + length letters = c.in_ok-read.ensures.end ∙ ap (λ n. n + length letters) second_is in
    operand-done _ old c.repeat.new.self _ c.in_ok-named.named read.number c.in_ok-argument.argument c.in_ok-self.field-0 c.pop.new.self.list.items c.in_ok-pop.field-0
    c.in_ok-entry.entry c.requires.awaits c.requires.wide c.in_ok-read.ensures.few c.requires.letter
    (stands-moved s first (old.at + 1) (84 ∷ []) c.in_ok-behind.ensures.1 (there s first c.byte_at.result 84 c.if-byte_at-ne84.false (omega arith) c.byte_at.ensures))
    (stands-moved s second (old.at + 1 + 1) letters second_is c.in_ok-read.ensures.stands)
    (stands-moved s read.end (old.at + 1 + 1 + length letters) (69 ∷ []) end_is
    (there s read.end c.byte_at-2.result 69 c.if-byte_at-ne69.false (omega arith) c.byte_at-2.ensures))
    c.in_ok-named.ensures c.in_ok-argument.ensures.is c.in_ok-argument.ensures.known c.if-named-eq0.false c.in_ok-repeat.ensures
    (c.in_ok-self.ensures.1 ∙ ap (λ n. n + 1) end_is) c.in_ok-pop.ensures.items c.in_ok-entry.ensures c.in_ok-push.ensures.items refl refl refl refl
