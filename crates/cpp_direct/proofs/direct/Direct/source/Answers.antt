use Rattle.cpp_direct.proofs.ForAnswers.{sym, subst, arith, Moves, letters, moves-to, source-follows}
use Rattle.cpp_direct.proofs.direct.Direct.source.Goals as goal

pub nest_named-requires-clause-named : goal.nest_named-requires-clause-named
nest_named-requires-clause-named g c =
    let n = c.in_ok-name.ensures in
    let moved : Moves c.args.self.now c.if-is_internal.self (letters c.args.is_internal) = elim c.if-is_internal.branch [
      | goal.then-is_internal+in_ok-self b ↦ subst (λ i. Moves c.args.self.now c.if-is_internal.self (letters i)) (sym b.if-is_internal.true)
          (moves-to c.args.self.now c.if-is_internal.self b.in_ok-self.field-0 1 b.self-is b.in_ok-self.ensures.1)
      | goal.else-is_internal b ↦ subst (λ i. Moves c.args.self.now c.if-is_internal.self (letters i)) (sym b.if-is_internal.false)
          (moves-to c.args.self.now c.if-is_internal.self c.args.self.now.at 0 b.self-is (omega arith))
    ] in
    source-follows _ c.args.self.now c.if-is_internal.self c.push_pair.new.self c.name.new.self _ _ c.args.is_internal c.requires.writing
    c.requires.letter moved c.in_ok-push_pair.ensures n.0 n.1 n.2 n.3 c.end-class_from.ensures c.end.ensures
