use Rattle.sym_shape.proofs.Basics.{◌≡◌, ◌+◌, IfSome, ap, arith, length, length-append, subst, sym, ◌∙◌, symbols_of, lone_rows, IsWholeToken, room_of}
use Rattle.sym_shape.proofs.Frames.{IsFramed, frame_rule, frame_lone, frame_empty, next_kind, lone_within, rule_within}
use Rattle.sym_shape.proofs.Steps.{takes_none}
use Rattle.sym_shape.proofs.parse.Parse.enter_kind.Goals as goal

pub rule_at-requires : goal.rule_at-requires
rule_at-requires g c =
    let old = c.args.self.now in
    next_kind g.G.Grammar.listed g.G.Grammar.table c.args.ended c.args.bytes.now c.args.progress.steps c.args.progress.at c.args.kind old.top old.below.items old.rows.items c.requires.parsing c.requires.next

pub place-place-requires : goal.place-place-requires
place-place-requires g c =
    let old = c.args.self.now in
    next_kind g.G.Grammar.listed g.G.Grammar.table c.args.ended c.args.bytes.now c.args.progress.steps c.args.progress.at c.args.kind old.top old.below.items old.rows.items c.requires.parsing c.requires.next

pub may_be_empty-requires : goal.may_be_empty-requires
may_be_empty-requires g c =
    let old = c.args.self.now in
    next_kind g.G.Grammar.listed g.G.Grammar.table c.args.ended c.args.bytes.now c.args.progress.steps c.args.progress.at c.args.kind old.top old.below.items old.rows.items c.requires.parsing c.requires.next

pub push_rule_with_token-requires-clause-place : goal.push_rule_with_token-requires-clause-place
push_rule_with_token-requires-clause-place g c =
    let old = c.args.self.now in
    let whole = subst (λ n. IsWholeToken g.G.Grammar.table.names c.in-Some-lone_token.symbol c.args.ended c.args.bytes.now n c.in-Some-complete_token.place) c.behind.ensures c.in-Some-complete_token.ensures in
    let within = lone_within g.G.Grammar.table.names c.in-Some-lone_token.symbol c.in-Some.rule c.args.ended c.args.bytes.now c.args.progress.at c.in-Some-complete_token.place c.in-Some.ensures.stands.within whole in
    omega (arith, within.1, within.2, c.requires.fits)

pub push_rule_with_token-requires-clause-end : goal.push_rule_with_token-requires-clause-end
push_rule_with_token-requires-clause-end g c =
    let old = c.args.self.now in
    let whole = subst (λ n. IsWholeToken g.G.Grammar.table.names c.in-Some-lone_token.symbol c.args.ended c.args.bytes.now n c.in-Some-complete_token.place) c.behind.ensures c.in-Some-complete_token.ensures in
    let within = lone_within g.G.Grammar.table.names c.in-Some-lone_token.symbol c.in-Some.rule c.args.ended c.args.bytes.now c.args.progress.at c.in-Some-complete_token.place c.in-Some.ensures.stands.within whole in
    omega (arith, within.2, c.requires.fits)

pub returns-in_ok-push_rule_with_token-in-Some-complete_token-clause-moves : goal.returns-in_ok-push_rule_with_token-in-Some-complete_token-clause-moves
returns-in_ok-push_rule_with_token-in-Some-complete_token-clause-moves g c =
    let old = c.args.self.now in
    let progress = c.args.progress in
    let chosen = c.in-Some.ensures in
    let place = c.in-Some-complete_token.place in
    let made = c.in_ok-push_rule_with_token-in-Some-complete_token.ensures in
    let size : length c.push_rule_with_token.new.rows.items ≡ length old.rows.items + 2 = ap length made.rows ∙ length-append old.rows.items (lone_rows c.in-Some.rule c.after-after.result progress.at place (length old.rows.items)) in
    let whole = subst (λ n. IsWholeToken g.G.Grammar.table.names c.in-Some-lone_token.symbol c.args.ended c.args.bytes.now n c.in-Some-complete_token.place) c.behind.ensures c.in-Some-complete_token.ensures in
    let moved = frame_lone g.G.Grammar.listed g.G.Grammar.table g.met.G.Grammar.lawful c.args.ended c.args.bytes.now progress.steps progress.at c.args.kind chosen.byte c.after-after.result c.in-Some.rule c.in-Some-lone_token.symbol place old.top old.below.items old.rows.items c.push_rule_with_token.new.rows.items c.requires.parsing c.requires.next chosen.stands.within chosen.stands.is chosen.stands.fits chosen.chosen c.in-Some-lone_token.ensures whole c.after-after.ensures made.rows in
    rw c.further.ensures (moved, omega arith, omega (arith, size))

pub returns-in_ok-take_rule-in-None-lone_token-clause-moves : goal.returns-in_ok-take_rule-in-None-lone_token-clause-moves
returns-in_ok-take_rule-in-None-lone_token-clause-moves g c =
    let old = c.args.self.now in
    let progress = c.args.progress in
    let chosen = c.in-Some.ensures in
    let taken = c.in_ok-take_rule-in-None-lone_token.ensures in
    let listed : g.G.Grammar.listed c.place-place.result ≡ symbols_of c.in-Some.rule = subst (λ r. IfSome r (λ rule. g.G.Grammar.listed c.place-place.result ≡ symbols_of rule)) (ap (g.G.Grammar.table.rule c.args.kind) chosen.stands.is ∙ chosen.chosen) c.place-place.ensures in
    let moved = frame_rule g.G.Grammar.listed g.G.Grammar.table g.met.G.Grammar.lawful c.args.ended c.args.bytes.now progress.steps progress.at c.args.kind chosen.byte c.place-place.result c.after-after-in-None-lone_token.result c.in-Some.rule old.top c.take_rule.new.top old.below.items c.take_rule.new.below.items old.rows.items c.take_rule.new.rows.items c.requires.parsing c.requires.next chosen.stands.within chosen.stands.is chosen.stands.fits chosen.chosen listed c.after-after-in-None-lone_token.ensures taken.taken in
    let reached = subst (λ n. IsFramed g.G.Grammar.listed g.G.Grammar.table c.args.ended c.args.bytes.now (progress.steps + 1) n c.take_rule.new.top c.take_rule.new.below.items c.take_rule.new.rows.items) (sym c.behind-in-None-lone_token.ensures) moved in
    rw c.further-in-None-lone_token.ensures (reached, omega arith, omega (arith, taken.one))

pub returns-in-None-2-clause-moves : goal.returns-in-None-2-clause-moves
returns-in-None-2-clause-moves g c =
    let old = c.args.self.now in
    let progress = c.args.progress in
    let none = takes_none g.G.Grammar.table c.args.kind c.args.ended c.args.bytes.now progress.at c.if-may_go_on.ensures.known c.in-None.ensures in
    let moved = frame_empty g.G.Grammar.listed g.G.Grammar.table g.met.G.Grammar.lawful c.args.ended c.args.bytes.now progress.steps progress.at c.args.kind old.top old.below.items old.rows.items c.requires.parsing c.requires.next (sym c.may_be_empty.ensures ∙ c.if-may_be_empty.true) none in
    rw c.further-in-None-2.ensures (moved, omega arith, omega arith)

pub returns-in_ok-take_rule-in-None-lone_token-clause-bounded : goal.returns-in_ok-take_rule-in-None-lone_token-clause-bounded
returns-in_ok-take_rule-in-None-lone_token-clause-bounded g c =
    let old = c.args.self.now in
    rule_within g.G.Grammar.listed g.G.Grammar.table c.args.ended c.args.bytes.now c.args.progress.steps c.args.progress.at old.top old.below.items old.rows.items (room_of old) (room_of (record old { top = c.take_rule.new.top; below = c.take_rule.new.below; rows = c.take_rule.new.rows })) c.requires.parsing c.take_rule.ensures.rows_grown c.take_rule.ensures.rules_grown

pub returns-in_err-take_rule-in-None-lone_token-clause-bounded : goal.returns-in_err-take_rule-in-None-lone_token-clause-bounded
returns-in_err-take_rule-in-None-lone_token-clause-bounded g c =
    let old = c.args.self.now in
    rule_within g.G.Grammar.listed g.G.Grammar.table c.args.ended c.args.bytes.now c.args.progress.steps c.args.progress.at old.top old.below.items old.rows.items (room_of old) (room_of (record old { top = c.take_rule.new.top; below = c.take_rule.new.below; rows = c.take_rule.new.rows })) c.requires.parsing c.take_rule.ensures.rows_grown c.take_rule.ensures.rules_grown
