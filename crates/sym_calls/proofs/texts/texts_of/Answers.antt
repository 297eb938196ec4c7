use Rattle.sym_calls.proofs.Basics.{true, false, sym, ◌∙◌, length, nat_eq, eq-eqb, ne_eqb, AreTold, are_ends}
use Rattle.sym_calls.proofs.Ending.{by-width}
use Rattle.sym_calls.proofs.Telling.{not-as-many, not-ends, texts-refused, texts-told}
use Rattle.sym_calls.proofs.texts.texts_of.Goals as goal

-- the outcomes are fewer or more than the ends
pub returns-then-outcomes-ends : goal.returns-then-outcomes-ends
returns-then-outcomes-ends c =
    texts-refused _ c.in-Some.asked c.args.limit c.args.names.now c.args.ends.now c.args.buffer.now c.args.outcomes.now (sym c.asked_of.ensures ∙ c.in-Some.is)
    (not-as-many (nat_eq (length c.args.outcomes.now) (length c.args.ends.now)) (are_ends 0 (length c.args.names.now) c.args.ends.now) (ne_eqb (length c.args.outcomes.now) (length c.args.ends.now) c.if-outcomes-ends.true))

-- the ends are wrong
pub returns-then-not-are_ends : goal.returns-then-not-are_ends
returns-then-not-are_ends c =
    texts-refused _ c.in-Some.asked c.args.limit c.args.names.now c.args.ends.now c.args.buffer.now c.args.outcomes.now (sym c.asked_of.ensures ∙ c.in-Some.is)
    (not-ends (nat_eq (length c.args.outcomes.now) (length c.args.ends.now)) (are_ends 0 (length c.args.names.now) c.args.ends.now) (sym c.are_ends.ensures ∙ c.if-not-are_ends.true))

pub returns-then-asked : goal.returns-then-asked
returns-then-asked c =
    texts-told _ c.in-Some.asked c.args.limit c.args.names.now c.args.ends.now c.args.buffer.now c.tell_in.new.buffer c.args.outcomes.now c.tell_in.new.outcomes c.tell_in.result (sym c.asked_of.ensures ∙ c.in-Some.is)
    (eq-eqb (length c.args.outcomes.now) (length c.args.ends.now) c.if-outcomes-ends.false) (sym c.are_ends.ensures ∙ c.if-not-are_ends.false) c.tell_in.ensures.status
    (by-width (λ answers told. AreTold answers c.in-Some.asked c.args.names.now 0 c.args.ends.now c.args.buffer.now c.tell_in.new.buffer told) c.in-Some.asked true c.args.limit c.tell_in.new.outcomes c.if-asked.true c.tell_in.ensures.told)

pub returns : goal.returns
returns c =
    texts-told _ c.in-Some.asked c.args.limit c.args.names.now c.args.ends.now c.args.buffer.now c.tell_in-2.new.buffer c.args.outcomes.now c.tell_in-2.new.outcomes c.tell_in-2.result (sym c.asked_of.ensures ∙ c.in-Some.is)
    (eq-eqb (length c.args.outcomes.now) (length c.args.ends.now) c.if-outcomes-ends.false) (sym c.are_ends.ensures ∙ c.if-not-are_ends.false) c.tell_in-2.ensures.status
    (by-width (λ answers told. AreTold answers c.in-Some.asked c.args.names.now 0 c.args.ends.now c.args.buffer.now c.tell_in-2.new.buffer told) c.in-Some.asked false c.args.limit c.tell_in-2.new.outcomes c.if-asked.false c.tell_in-2.ensures.told)
