use Rattle.cpp_direct.proofs.ForAnswers.{◌≢◌, ◌+◌, ◌∷◌, [], subst, arith, StandsAt, IsWriting, opened-so, stands-join, there, pointer-opened, Step}
use Rattle.cpp_direct.proofs.direct.Direct.pointer_at.Goals as goal

pub begin_function-requires-clause-letters : goal.begin_function-requires-clause-letters
begin_function-requires-clause-letters g c =
    let s = c.args.s.now in
    let at = c.args.self.now.at in
    let behind = c.byte_at in
    stands-join s at (80 ∷ []) (70 ∷ []) c.requires.letter
    (there s (at + 1) behind.result 70 c.if-byte_at-eq70.true (omega arith)
    (subst (λ n. behind.result ≢ 0 → StandsAt s n (behind.result ∷ [])) c.in_ok-checked_add.ensures.1 behind.ensures))

pub returns : goal.returns
returns g c =
    opened-so c.open_type.result Step.Type _ (IsWriting _ c.open_type.new.self) c.open_type.ensures
    (pointer-opened _ c.args.self.now c.open_type.new.self c.end-from.result c.requires.awaits c.end-from.ensures c.requires.letter)

pub begin_array-requires-clause-letters : goal.begin_array-requires-clause-letters
begin_array-requires-clause-letters g c = stands-join c.args.s.now c.args.self.now.at (80 ∷ []) (65 ∷ []) c.requires.letter (c.is_array_behind.ensures c.if-is_array_behind.true)
