use Rattle.cpp_direct.proofs.ForAnswers.{◌+◌, false, ◌∙◌, ap, arith, inl, inr, IsReferable, IsWriting, opened-so, argument-inside, forwarded-done, reference-opened, there, Step}
use Rattle.cpp_direct.proofs.direct.Direct.rvalue_at.Goals as goal

pub returns-then-byte_at-ne84 : goal.returns-then-byte_at-ne84
returns-then-byte_at-ne84 g c =
    opened-so c.open_type.result Step.Type _ (IsWriting _ c.open_type.new.self) c.open_type.ensures
    (reference-opened _ c.args.self.now c.open_type.new.self false c.end-from.result c.requires.awaits c.end-from.ensures c.requires.letter)

pub returns-then-not-argument : goal.returns-then-not-argument
returns-then-not-argument g c =
    let opened = c.open_type-then-not-argument in
    opened-so opened.result Step.Type _ (IsWriting _ opened.new.self) opened.ensures
    (reference-opened _ c.args.self.now opened.new.self false c.end-from.result c.requires.awaits c.end-from.ensures c.requires.letter)

pub repeat-requires : goal.repeat-requires
repeat-requires g c =
    let is = argument-inside _ c.args.self.now c.in_ok-named.named c.in_ok-read.read.number c.in_ok-argument.argument c.requires.awaits
    c.in_ok-named.ensures c.in_ok-argument.ensures.is c.in_ok-argument.ensures.known in
    record { from = is.0; to = is.1 }

pub returns : goal.returns
returns g c =
    let old = c.args.self.now in
    let k = c.in_ok-read.read.number in
    let here = c.in_ok-behind.ensures.1 in
    let line = c.in_ok-checked_add.ensures.1 ∙ ap (λ n. n + 1) here in
    let refers : IsReferable c.requires.awaits.kind = elim c.requires.awaits.referable [
      | inl may ↦ may
      | inr none ↦ absurd (none.1 c.requires.letter)
    ] in
    forwarded-done _ old c.repeat.new.self c.add_candidate.new.self c.add_candidate-2.new.self c.in_ok-named.named k c.in_ok-argument.argument c.in_ok-read.read.end c.end-from.result
    c.requires.awaits c.in_ok-read.ensures.few refers c.requires.letter
    (rw here at (there c.args.s.now c.in_ok-behind.behind c.byte_at.result 84 c.if-byte_at-ne84.false (omega arith) c.byte_at.ensures))
    (rw line at c.in_ok-read.ensures.stands)
    c.in_ok-named.ensures c.in_ok-argument.ensures.is c.in_ok-argument.ensures.known c.if-named-eq0.false c.if-not-argument.false c.end-from.ensures
    c.in_ok-repeat.ensures (rw line at c.in_ok-read.ensures.end) c.in_ok-add_candidate.ensures c.in_ok-add_candidate-2.ensures
