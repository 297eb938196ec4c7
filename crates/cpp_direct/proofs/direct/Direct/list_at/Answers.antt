use Rattle.cpp_direct.proofs.ForAnswers.{◌∷◌, [], sym, ◌∙◌, arith, false≢true, then-there, there, another-expected, first-expected, type-expected}
use Rattle.cpp_direct.proofs.direct.Direct.list_at.Goals as goal

pub empty_pack-requires-clause-letters : goal.empty_pack-requires-clause-letters
empty_pack-requires-clause-letters g c =
    then-there c.args.s.now (74 ∷ []) c.args.self.now.at c.in_ok-checked_add.field-0 c.byte_at-behind.result 69
    (there c.args.s.now c.args.self.now.at c.byte_at-byte.result 74 c.if-byte-eq74.true (omega arith) c.byte_at-byte.ensures)
    c.in_ok-checked_add.ensures.1 c.if-behind-eq69.true (omega arith) c.byte_at-behind.ensures

pub literal-requires-clause-awaits : goal.literal-requires-clause-awaits
literal-requires-clause-awaits g c = elim c.if-not-is_first.branch [
  | goal.then-not-is_first+in_ok-push_pair w ↦
      another-expected _ c.args.self.now w.push_pair.new.self c.if-not-is_first.self c.args.is_first c.requires.writing w.if-not-is_first.true
      w.in_ok-push_pair.ensures w.self-is
  | goal.else-not-is_first w ↦
      first-expected _ c.args.self.now c.if-not-is_first.self c.args.is_first c.requires.writing w.if-not-is_first.false w.self-is
]

pub begin_pack-requires-clause-awaits : goal.begin_pack-requires-clause-awaits
begin_pack-requires-clause-awaits g c = elim c.if-not-is_first.branch [
  | goal.then-not-is_first+in_ok-push_pair w ↦
      another-expected _ c.args.self.now w.push_pair.new.self c.if-not-is_first.self c.args.is_first c.requires.writing w.if-not-is_first.true
      w.in_ok-push_pair.ensures w.self-is
  | goal.else-not-is_first w ↦
      first-expected _ c.args.self.now c.if-not-is_first.self c.args.is_first c.requires.writing w.if-not-is_first.false w.self-is
]

pub begin_level-requires-clause-awaits : goal.begin_level-requires-clause-awaits
begin_level-requires-clause-awaits g c = elim c.if-not-is_first.branch [
  | goal.then-not-is_first+in_ok-push_pair w ↦
      another-expected _ c.args.self.now w.push_pair.new.self c.if-not-is_first.self c.args.is_first c.requires.writing w.if-not-is_first.true
      w.in_ok-push_pair.ensures w.self-is
  | goal.else-not-is_first w ↦
      first-expected _ c.args.self.now c.if-not-is_first.self c.args.is_first c.requires.writing w.if-not-is_first.false w.self-is
]

pub parameter_argument-requires-clause-awaits : goal.parameter_argument-requires-clause-awaits
parameter_argument-requires-clause-awaits g c = elim c.if-not-is_first.branch [
  | goal.then-not-is_first+in_ok-push_pair w ↦
      another-expected _ c.args.self.now w.push_pair.new.self c.if-not-is_first.self c.args.is_first c.requires.writing w.if-not-is_first.true
      w.in_ok-push_pair.ensures w.self-is
  | goal.else-not-is_first w ↦
      first-expected _ c.args.self.now c.if-not-is_first.self c.args.is_first c.requires.writing w.if-not-is_first.false w.self-is
]

pub returns-else-is_first-3 : goal.returns-else-is_first-3
returns-else-is_first-3 g c = type-expected _ c.if-not-is_first.self (elim c.if-not-is_first.branch [
  | goal.then-not-is_first+in_ok-push_pair w ↦
      another-expected _ c.args.self.now w.push_pair.new.self c.if-not-is_first.self c.args.is_first c.requires.writing w.if-not-is_first.true
      w.in_ok-push_pair.ensures w.self-is
  | goal.else-not-is_first w ↦
      first-expected _ c.args.self.now c.if-not-is_first.self c.args.is_first c.requires.writing w.if-not-is_first.false w.self-is
])

pub first_type-requires-clause-writing : goal.first_type-requires-clause-writing
first_type-requires-clause-writing g c = elim c.if-not-is_first.branch [
  | goal.then-not-is_first+in_ok-push_pair w ↦ absurd (false≢true (sym w.if-not-is_first.true ∙ c.if-is_first-3.true))
  | goal.else-not-is_first w ↦ rw w.self-is (rw c.if-is_first-3.true at c.requires.writing)
]

pub first_pack-requires-clause-writing : goal.first_pack-requires-clause-writing
first_pack-requires-clause-writing g c = rw c.if-is_first.true at c.requires.writing

pub first_literal-requires-clause-writing : goal.first_literal-requires-clause-writing
first_literal-requires-clause-writing g c = elim c.if-not-is_first.branch [
  | goal.then-not-is_first+in_ok-push_pair w ↦ absurd (false≢true (sym w.if-not-is_first.true ∙ c.if-is_first-2.true))
  | goal.else-not-is_first w ↦ rw w.self-is (rw c.if-is_first-2.true at c.requires.writing)
]
