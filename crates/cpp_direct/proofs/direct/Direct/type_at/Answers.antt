use Rattle.cpp_direct.proofs.ForAnswers.{◌∷◌, [], true, arith, subst, if◌then◌else◌, IsWriting, symbol_by, opened-so, stands-join, awaits-type, names-awaited, there, reference-opened, const-opened, Step}
use Rattle.cpp_direct.proofs.direct.Direct.type_at.Goals as goal

pub nested_type-requires-clause-letter : goal.nested_type-requires-clause-letter
nested_type-requires-clause-letter g c = there c.args.s.now c.args.self.now.at c.byte_at.result 78 c.in-78.is (omega arith) c.byte_at.ensures

pub nested_type-requires-clause-awaits : goal.nested_type-requires-clause-awaits
nested_type-requires-clause-awaits g c = names-awaited _ c.args.self.now (awaits-type _ c.args.self.now c.args.is_plain c.requires.writing)

pub named_type-requires-clause-awaits : goal.named_type-requires-clause-awaits
named_type-requires-clause-awaits g c = names-awaited _ c.args.self.now (awaits-type _ c.args.self.now c.args.is_plain c.requires.writing)

pub builtin_with_d-requires-clause-awaits : goal.builtin_with_d-requires-clause-awaits
builtin_with_d-requires-clause-awaits g c = awaits-type _ c.args.self.now c.args.is_plain c.requires.writing

pub builtin-requires-clause-awaits : goal.builtin-requires-clause-awaits
builtin-requires-clause-awaits g c = awaits-type _ c.args.self.now c.args.is_plain c.requires.writing

pub returns-else-not-is_plain : goal.returns-else-not-is_plain
returns-else-not-is_plain g c =
    opened-so c.open_type.result Step.Type _ (IsWriting _ c.open_type.new.self) c.open_type.ensures
    (reference-opened _ c.args.self.now c.open_type.new.self true c.end-from.result (awaits-type _ c.args.self.now c.args.is_plain c.requires.writing) c.end-from.ensures
    (there c.args.s.now c.args.self.now.at c.byte_at.result 82 c.in-82.is (omega arith) c.byte_at.ensures))

pub begin_array-requires-clause-letters : goal.begin_array-requires-clause-letters
begin_array-requires-clause-letters g c =
    let s = c.args.s.now in
    let at = c.args.self.now.at in
    stands-join s at (82 ∷ []) (65 ∷ []) (there s at c.byte_at.result 82 c.in-82.is (omega arith) c.byte_at.ensures)
    (c.is_array_behind.ensures c.if-is_array_behind.true)

pub rvalue_at-requires-clause-awaits : goal.rvalue_at-requires-clause-awaits
rvalue_at-requires-clause-awaits g c = awaits-type _ c.args.self.now c.args.is_plain c.requires.writing

pub returns-else-is_plain-3 : goal.returns-else-is_plain-3
returns-else-is_plain-3 g c =
    opened-so c.open_type-in-75.result Step.Plain _ (IsWriting _ c.open_type-in-75.new.self) c.open_type-in-75.ensures
    (const-opened _ c.args.self.now c.open_type-in-75.new.self c.end-from.result
    (subst (λ p. IsWriting (symbol_by g.G.Grammar.IS_WIDE g.G.Grammar.IS_BARE g.G.Grammar.IS_BRIEF c.args.s.now) c.args.self.now (if p then Step.Plain else Step.Type)) c.if-is_plain-3.false c.requires.writing)
    c.end-from.ensures (there c.args.s.now c.args.self.now.at c.byte_at.result 75 c.in-75.is (omega arith) c.byte_at.ensures))

pub template_parameter-requires-clause-awaits : goal.template_parameter-requires-clause-awaits
template_parameter-requires-clause-awaits g c = awaits-type _ c.args.self.now c.args.is_plain c.requires.writing

pub pointer_at-requires-clause-awaits : goal.pointer_at-requires-clause-awaits
pointer_at-requires-clause-awaits g c = awaits-type _ c.args.self.now c.args.is_plain c.requires.writing

pub begin_function-requires-clause-writing : goal.begin_function-requires-clause-writing
begin_function-requires-clause-writing g c =
    subst (λ p. IsWriting (symbol_by g.G.Grammar.IS_WIDE g.G.Grammar.IS_BARE g.G.Grammar.IS_BRIEF c.args.s.now) c.args.self.now (if p then Step.Plain else Step.Type)) c.if-is_plain.false c.requires.writing

pub begin_array-requires-clause-writing : goal.begin_array-requires-clause-writing
begin_array-requires-clause-writing g c =
    subst (λ p. IsWriting (symbol_by g.G.Grammar.IS_WIDE g.G.Grammar.IS_BARE g.G.Grammar.IS_BRIEF c.args.s.now) c.args.self.now (if p then Step.Plain else Step.Type)) c.if-not-is_plain.true c.requires.writing

pub begin_array-requires-in-65-clause-writing : goal.begin_array-requires-in-65-clause-writing
begin_array-requires-in-65-clause-writing g c =
    subst (λ p. IsWriting (symbol_by g.G.Grammar.IS_WIDE g.G.Grammar.IS_BARE g.G.Grammar.IS_BRIEF c.args.s.now) c.args.self.now (if p then Step.Plain else Step.Type)) c.if-is_plain-2.false c.requires.writing
