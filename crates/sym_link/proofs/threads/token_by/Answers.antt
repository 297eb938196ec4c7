use Rattle.sym_link.proofs.Basics.{rules, ◌-◌, arith, Ok, Err, drop, sym, subst, take, err_from_is_err_and, token, passed, Takes, next_of, taken_in, skipped_from, ◌>>=◌, one_by_one, lists_with}
use Rattle.sym_link.proofs.Passing.{row_first, open_first, token_passed, token_gone, token_refused, token_right}
use Rattle.sym_link.proofs.Room.{room_then, only_refused, list_more}
use Rattle.sym_link.proofs.threads.token_by.Goals as goal

pub pass-requires-clause-open : goal.pass-requires-clause-open
pass-requires-clause-open g c =
    open_first (g.L.Threading.view c.args.symbol.now) c.args.symbol.now (g.met.L.Threading.laws c.args.symbol.now) c.args.language.now c.args.frame.now c.args.parts.now.items c.requires.base
    c.requires.open.rule c.requires.open.known c.requires.open.from c.requires.open.left c.requires.open.state c.requires.open.inside

pub returns-in_err-pass-clause-takes : goal.returns-in_err-pass-clause-takes
returns-in_err-pass-clause-takes g c around known from left state t rest is left_is row_is after =
    let view = g.L.Threading.view c.args.symbol.now in
    let laws = g.met.L.Threading.laws c.args.symbol.now in
    let lower = take c.args.frame.now.base c.args.parts.now.items in
    let first = row_first view c.args.symbol.now laws c.args.language.now c.args.frame.now c.args.parts.now.items c.requires.base around known from left state is _ c.args.row.after c.ahead-to.result (c.ahead-to.ensures c.args.symbol.now) (omega (arith, c.len.ensures, c.args.parts.now.ok.0)) (token t) rest left_is after in
    let p = err_from_is_err_and c.from_residual.result c.from_residual.ensures.1 in
    rw (p.1, p.2)
    (token_passed view c.args.symbol.now laws c.args.language.now c.args.frame.now c.args.parts.now.items c.requires.base around known from left state is (g.L.Threading.surrounds c.args.symbol.now) c.args.row t row_is c.pass.new.language c.pass.new.parts.items c.in_err-pass.field-0.0
    (c.in_err-pass.ensures.passes lower (passed view.reading around known from left state) first))

pub returns-in_err-between-clause-takes : goal.returns-in_err-between-clause-takes
returns-in_err-between-clause-takes g c around known from left state t rest is left_is row_is after =
    let view = g.L.Threading.view c.args.symbol.now in
    let laws = g.met.L.Threading.laws c.args.symbol.now in
    let lower = take c.args.frame.now.base c.args.parts.now.items in
    let first = row_first view c.args.symbol.now laws c.args.language.now c.args.frame.now c.args.parts.now.items c.requires.base around known from left state is _ c.args.row.after c.ahead-to.result (c.ahead-to.ensures c.args.symbol.now) (omega (arith, c.len.ensures, c.args.parts.now.ok.0)) (token t) rest left_is after in
    let p = err_from_is_err_and c.from_residual-in_err-between.result c.from_residual-in_err-between.ensures.1 in
    rw (p.1, p.2)
    (token_gone view c.args.symbol.now laws c.args.language.now c.args.frame.now c.args.parts.now.items c.requires.base around known from left state is (g.L.Threading.surrounds c.args.symbol.now) c.args.row t row_is c.pass.new.language c.between.new.self c.pass.new.parts.items c.between.new.parts.items c.in_ok-pass.ensures.adds.0
    (c.in_ok-pass.ensures.passes lower (passed view.reading around known from left state) first) c.in_err-between.field-0.0 c.in_err-between.ensures.goes)

pub returns-in_err-part-clause-takes : goal.returns-in_err-part-clause-takes
returns-in_err-part-clause-takes g c around known from left state t rest is left_is row_is after =
    let view = g.L.Threading.view c.args.symbol.now in
    let laws = g.met.L.Threading.laws c.args.symbol.now in
    let lower = take c.args.frame.now.base c.args.parts.now.items in
    let first = row_first view c.args.symbol.now laws c.args.language.now c.args.frame.now c.args.parts.now.items c.requires.base around known from left state is _ c.args.row.after c.ahead-to.result (c.ahead-to.ensures c.args.symbol.now) (omega (arith, c.len.ensures, c.args.parts.now.ok.0)) (token t) rest left_is after in
    let p = err_from_is_err_and c.from_residual-in_err-part.result c.from_residual-in_err-part.ensures.1 in
    rw (p.1, p.2)
    (token_refused view c.args.symbol.now laws c.args.language.now c.args.frame.now c.args.parts.now.items c.requires.base around known from left state is (g.L.Threading.surrounds c.args.symbol.now) c.args.row t row_is c.pass.new.language c.between.new.self c.pass.new.parts.items c.between.new.parts.items c.in_ok-pass.ensures.adds.0
    (c.in_ok-pass.ensures.passes lower (passed view.reading around known from left state) first) c.text.new.self c.in_ok-between.field-0 c.in_err-part.field-0.0 c.in_ok-between.ensures.goes c.in_err-part.ensures.taken)

pub returns-clause-takes : goal.returns-clause-takes
returns-clause-takes g c around known from left state t rest is left_is row_is after =
    let view = g.L.Threading.view c.args.symbol.now in
    let laws = g.met.L.Threading.laws c.args.symbol.now in
    let lower = take c.args.frame.now.base c.args.parts.now.items in
    let first = row_first view c.args.symbol.now laws c.args.language.now c.args.frame.now c.args.parts.now.items c.requires.base around known from left state is _ c.args.row.after c.ahead-to.result (c.ahead-to.ensures c.args.symbol.now) (omega (arith, c.len.ensures, c.args.parts.now.ok.0)) (token t) rest left_is after in
    subst (λ qs. Takes view c.text.new.self lower qs (Ok tt) (next_of view.reading around known from left state >>= taken_in view.reading t (skipped_from from left))) (sym c.in_ok-push.ensures.items)
    (token_right view c.args.symbol.now laws c.args.language.now c.args.frame.now c.args.parts.now.items c.requires.base around known from left state is (g.L.Threading.surrounds c.args.symbol.now) c.args.row t row_is c.pass.new.language c.between.new.self c.pass.new.parts.items c.between.new.parts.items c.in_ok-pass.ensures.adds.0
    (c.in_ok-pass.ensures.passes lower (passed view.reading around known from left state) first) c.text.new.self c.in_ok-between.field-0 c.in_ok-part.part c.in_ok-between.ensures.goes c.in_ok-part.ensures.adds.0 c.in_ok-part.ensures.taken)

pub returns-in_err-pass-clause-few : goal.returns-in_err-pass-clause-few
returns-in_err-pass-clause-few g c =
    let p = err_from_is_err_and c.from_residual.result c.from_residual.ensures.1 in
    rw p.1 c.in_err-pass.ensures.few

pub returns-in_err-between-clause-few : goal.returns-in_err-between-clause-few
returns-in_err-between-clause-few g c =
    let p = err_from_is_err_and c.from_residual-in_err-between.result c.from_residual-in_err-between.ensures.1 in
    rw p.1 (omega (arith, c.in_err-between.ensures.few, c.in_ok-pass.ensures.few))

pub returns-in_err-part-clause-few : goal.returns-in_err-part-clause-few
returns-in_err-part-clause-few g c =
    let p = err_from_is_err_and c.from_residual-in_err-part.result c.from_residual-in_err-part.ensures.1 in
    rw p.1 (omega (arith, c.in_err-part.ensures.few, c.in_ok-between.ensures.few, c.in_ok-pass.ensures.few))

pub returns-in_err-push-clause-few : goal.returns-in_err-push-clause-few
returns-in_err-push-clause-few g c =
    let p = err_from_is_err_and c.from_residual-in_err-push.result c.from_residual-in_err-push.ensures.1 in
    rw p.1 (omega (arith, c.in_ok-part.ensures.adds.1, c.in_ok-between.ensures.few, c.in_ok-pass.ensures.few))

pub returns-in_err-between-clause-keeps : goal.returns-in_err-between-clause-keeps
returns-in_err-between-clause-keeps g c =
    let view = g.L.Threading.view c.args.symbol.now in
    let before = lists_with view c.args.language.now c.args.parts.now in
    let after_pass = lists_with view c.pass.new.language c.pass.new.parts in
    let after_between = lists_with view c.between.new.self c.between.new.parts in
    room_then before after_pass after_between c.in_ok-pass.ensures.keeps c.in_err-between.ensures.keeps

pub returns-in_err-between-clause-full : goal.returns-in_err-between-clause-full
returns-in_err-between-clause-full g c =
    let view = g.L.Threading.view c.args.symbol.now in
    let before = lists_with view c.args.language.now c.args.parts.now in
    let after_pass = lists_with view c.pass.new.language c.pass.new.parts in
    let after_between = lists_with view c.between.new.self c.between.new.parts in
    let p = err_from_is_err_and c.from_residual-in_err-between.result c.from_residual-in_err-between.ensures.1 in
    rw (p.1, p.2)
    (only_refused ⊥ (view.TakesMemory c.args.frame.now.rule (take (c.args.row.to - c.args.row.from) (drop c.args.row.from c.args.symbol.now)))
    before after_pass after_between c.in_err-between.field-0.0 (λ none. absurd none) c.in_ok-pass.ensures.keeps c.in_err-between.ensures.full)

pub returns-in_err-part-clause-keeps : goal.returns-in_err-part-clause-keeps
returns-in_err-part-clause-keeps g c =
    let view = g.L.Threading.view c.args.symbol.now in
    let before = lists_with view c.args.language.now c.args.parts.now in
    let after_between = lists_with view c.between.new.self c.between.new.parts in
    let after_text = lists_with view c.text.new.self c.between.new.parts in
    let after_pass = lists_with view c.pass.new.language c.pass.new.parts in
    room_then before after_between after_text (room_then before after_pass after_between c.in_ok-pass.ensures.keeps c.in_ok-between.ensures.keeps)
    (omega arith, c.in_err-part.ensures.keeps)

pub returns-in_err-part-clause-full : goal.returns-in_err-part-clause-full
returns-in_err-part-clause-full g c =
    let view = g.L.Threading.view c.args.symbol.now in
    let before = lists_with view c.args.language.now c.args.parts.now in
    let after_between = lists_with view c.between.new.self c.between.new.parts in
    let after_text = lists_with view c.text.new.self c.between.new.parts in
    let after_pass = lists_with view c.pass.new.language c.pass.new.parts in
    let p = err_from_is_err_and c.from_residual-in_err-part.result c.from_residual-in_err-part.ensures.1 in
    rw (p.1, p.2)
    (only_refused ⊥ (view.TakesMemory c.args.frame.now.rule (take (c.args.row.to - c.args.row.from) (drop c.args.row.from c.args.symbol.now)))
    before after_between after_text c.in_err-part.field-0.0 (λ none. absurd none)
    (room_then before after_pass after_between c.in_ok-pass.ensures.keeps c.in_ok-between.ensures.keeps)
    (list_more ⊥ (one_by_one c.between.new.parts) (one_by_one c.between.new.parts)
    (view.lists c.between.new.self) (view.lists c.text.new.self) (Err c.in_err-part.field-0.0) c.in_err-part.ensures.full))

pub returns-in_err-push-clause-keeps : goal.returns-in_err-push-clause-keeps
returns-in_err-push-clause-keeps g c =
    let view = g.L.Threading.view c.args.symbol.now in
    let before = lists_with view c.args.language.now c.args.parts.now in
    let after_between = lists_with view c.between.new.self c.between.new.parts in
    let after_push = lists_with view c.text.new.self c.push.new.self in
    let after_pass = lists_with view c.pass.new.language c.pass.new.parts in
    room_then before after_between after_push (room_then before after_pass after_between c.in_ok-pass.ensures.keeps c.in_ok-between.ensures.keeps)
    (search rules, c.in_ok-part.ensures.keeps)

pub returns-clause-keeps : goal.returns-clause-keeps
returns-clause-keeps g c =
    let view = g.L.Threading.view c.args.symbol.now in
    let before = lists_with view c.args.language.now c.args.parts.now in
    let after_between = lists_with view c.between.new.self c.between.new.parts in
    let after_push = lists_with view c.text.new.self c.push.new.self in
    let after_pass = lists_with view c.pass.new.language c.pass.new.parts in
    room_then before after_between after_push (room_then before after_pass after_between c.in_ok-pass.ensures.keeps c.in_ok-between.ensures.keeps)
    (search rules, c.in_ok-part.ensures.keeps)
