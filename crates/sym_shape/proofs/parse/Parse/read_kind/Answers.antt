use Rattle.sym_shape.proofs.Basics.{err_from_is_err_and, ◌≡◌, IfSome, refl, sym, subst, ◌+◌, symbols_of, to_do, room_of}
use Rattle.sym_shape.proofs.Steps.{all_begins, both_not, out_of_memory, memory_passed}
use Rattle.sym_shape.proofs.Frames.{IsFramed, frame_rule, next_kind, rule_within}
use Rattle.sym_shape.proofs.parse.Parse.read_kind.Goals as goal

pub rule-requires : goal.rule-requires
rule-requires g c =
    let old = c.args.self.now in
    next_kind g.G.Grammar.listed g.G.Grammar.table c.args.ended c.args.bytes.now old.steps old.at c.args.kind old.top old.below.items old.rows.items c.requires.parsing c.requires.next

pub place-place-requires : goal.place-place-requires
place-place-requires g c =
    let old = c.args.self.now in
    next_kind g.G.Grammar.listed g.G.Grammar.table c.args.ended c.args.bytes.now old.steps old.at c.args.kind old.top old.below.items old.rows.items c.requires.parsing c.requires.next

pub returns-in_ok-take_rule-in-Some-rule-clause-moves : goal.returns-in_ok-take_rule-in-Some-rule-clause-moves
returns-in_ok-take_rule-in-Some-rule-clause-moves g c =
    let old = c.args.self.now in
    let byte = c.in-Some.ensures in
    let taken = c.in_ok-take_rule-in-Some-rule.ensures in
    let frame = c.take_rule.new.top in
    let moved = frame_rule g.G.Grammar.listed g.G.Grammar.table g.met.G.Grammar.lawful c.args.ended c.args.bytes.now old.steps old.at c.args.kind c.in-Some.next c.place-place.result c.after-after.result c.in-Some-rule.rule old.top frame old.below.items c.take_rule.new.below.items old.rows.items c.take_rule.new.rows.items c.requires.parsing c.requires.next byte.within byte.is byte.fits (sym c.in-Some-rule.ensures) (subst (λ r. IfSome r (λ rule. g.G.Grammar.listed c.place-place.result ≡ symbols_of rule)) (sym c.in-Some-rule.ensures) c.place-place.ensures) c.after-after.ensures taken.taken in
    (subst (λ n. IsFramed g.G.Grammar.listed g.G.Grammar.table c.args.ended c.args.bytes.now (old.steps + 1) n frame c.take_rule.new.below.items c.take_rule.new.rows.items) (sym c.behind-self.ensures) moved, refl, taken.one)

pub returns-in-None-clause-moves : goal.returns-in-None-clause-moves
returns-in-None-clause-moves g c =
    let old = c.args.self.now in
    record {
      same = refl;
      begins = all_begins g.G.Grammar.table g.met.G.Grammar.lawful c.args.ended c.args.bytes.now old.steps old.at (to_do g.G.Grammar.listed old) old.rows.items c.requires.parsing c.in-None.ensures;
      read = λ told. absurd (both_not c.args.ended told c.if-not-ended.true);
    }

pub returns-in_err-take_rule-in-Some-rule-clause-moves : goal.returns-in_err-take_rule-in-Some-rule-clause-moves
returns-in_err-take_rule-in-Some-rule-clause-moves g c =
    let stop = c.in_err-take_rule-in-Some-rule in
    let handed = err_from_is_err_and c.from_residual.result c.from_residual.ensures.1 in
    out_of_memory g.G.Grammar.listed g.G.Grammar.table c.args.ended c.args.bytes.now c.args.self.now (record c.args.self.now { top = c.take_rule.new.top; below = c.take_rule.new.below; rows = c.take_rule.new.rows }) c.from_residual.result handed.0 handed.1 (memory_passed _ stop.field-0.0 handed.0 refl stop.ensures.memory handed.2) refl stop.ensures.one

pub returns-in_ok-take_rule-in-Some-rule-clause-bounded : goal.returns-in_ok-take_rule-in-Some-rule-clause-bounded
returns-in_ok-take_rule-in-Some-rule-clause-bounded g c =
    let old = c.args.self.now in
    rule_within g.G.Grammar.listed g.G.Grammar.table c.args.ended c.args.bytes.now old.steps old.at old.top old.below.items old.rows.items (room_of old) (room_of (record old { top = c.take_rule.new.top; below = c.take_rule.new.below; rows = c.take_rule.new.rows })) c.requires.parsing c.take_rule.ensures.rows_grown c.take_rule.ensures.rules_grown

pub returns-in_err-take_rule-in-Some-rule-clause-bounded : goal.returns-in_err-take_rule-in-Some-rule-clause-bounded
returns-in_err-take_rule-in-Some-rule-clause-bounded g c =
    let old = c.args.self.now in
    rule_within g.G.Grammar.listed g.G.Grammar.table c.args.ended c.args.bytes.now old.steps old.at old.top old.below.items old.rows.items (room_of old) (room_of (record old { top = c.take_rule.new.top; below = c.take_rule.new.below; rows = c.take_rule.new.rows })) c.requires.parsing c.take_rule.ensures.rows_grown c.take_rule.ensures.rules_grown
