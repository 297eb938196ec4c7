use Rattle.sym_link.proofs.Basics.{arith, Err, take, err_from_is_err_and, branch, passed, one_by_one, lists_with}
use Rattle.sym_link.proofs.Passing.{row_first, open_first, begins_passed, begins_gone, begins_refused, begins_right}
use Rattle.sym_link.proofs.Room.{room_then, only_refused, list_more}
use Rattle.sym_link.proofs.threads.enter_by.Goals as goal

pub pass-requires-clause-open : goal.pass-requires-clause-open
pass-requires-clause-open g c =
    open_first (g.L.Threading.view c.args.symbol.now) c.args.symbol.now (g.met.L.Threading.laws c.args.symbol.now) c.args.language.now c.args.frame.now c.args.parts.now.items c.requires.base
    c.requires.open.rule c.requires.open.known c.requires.open.from c.requires.open.left c.requires.open.state c.requires.open.inside

pub returns-in_err-pass-clause-opens : goal.returns-in_err-pass-clause-opens
returns-in_err-pass-clause-opens g c around known from left state rule taken inner rest is left_is row_is after =
    let view = g.L.Threading.view c.args.symbol.now in
    let laws = g.met.L.Threading.laws c.args.symbol.now in
    let lower = take c.args.frame.now.base c.args.parts.now.items in
    let first = row_first view c.args.symbol.now laws c.args.language.now c.args.frame.now c.args.parts.now.items c.requires.base around known from left state is _ c.args.row.after c.ahead-to.result (c.ahead-to.ensures c.args.symbol.now) (omega (arith, c.len.ensures, c.args.parts.now.ok.0)) (branch rule taken inner) rest left_is after in
    let p = err_from_is_err_and c.from_residual.result c.from_residual.ensures.1 in
    rw (p.1, p.2)
    (begins_passed view c.args.symbol.now laws c.args.language.now c.args.frame.now c.args.parts.now.items c.requires.base around known from left state is (g.L.Threading.surrounds c.args.symbol.now) c.args.rows.now c.args.row rule taken inner row_is rest left_is c.pass.new.language c.pass.new.parts.items c.in_err-pass.field-0.0
    (c.in_err-pass.ensures.passes lower (passed view.reading around known from left state) first))

pub returns-in_err-context-clause-opens : goal.returns-in_err-context-clause-opens
returns-in_err-context-clause-opens g c around known from left state rule taken inner rest is left_is row_is after =
    let view = g.L.Threading.view c.args.symbol.now in
    let laws = g.met.L.Threading.laws c.args.symbol.now in
    let lower = take c.args.frame.now.base c.args.parts.now.items in
    let first = row_first view c.args.symbol.now laws c.args.language.now c.args.frame.now c.args.parts.now.items c.requires.base around known from left state is _ c.args.row.after c.ahead-to.result (c.ahead-to.ensures c.args.symbol.now) (omega (arith, c.len.ensures, c.args.parts.now.ok.0)) (branch rule taken inner) rest left_is after in
    let p = err_from_is_err_and c.from_residual-in_err-context.result c.from_residual-in_err-context.ensures.1 in
    rw (p.1, p.2)
    (begins_gone view c.args.symbol.now laws c.args.language.now c.args.frame.now c.args.parts.now.items c.requires.base around known from left state is (g.L.Threading.surrounds c.args.symbol.now) c.args.rows.now c.args.row rule taken inner row_is rest left_is c.pass.new.language c.between.new.self c.pass.new.parts.items c.between.new.parts.items c.in_ok-pass.ensures.adds.0
    (c.in_ok-pass.ensures.passes lower (passed view.reading around known from left state) first) c.in_err-context.field-0.0 c.in_err-context.ensures.goes)

pub returns-in_err-kept-clause-opens : goal.returns-in_err-kept-clause-opens
returns-in_err-kept-clause-opens g c around known from left state rule taken inner rest is left_is row_is after =
    let view = g.L.Threading.view c.args.symbol.now in
    let laws = g.met.L.Threading.laws c.args.symbol.now in
    let lower = take c.args.frame.now.base c.args.parts.now.items in
    let first = row_first view c.args.symbol.now laws c.args.language.now c.args.frame.now c.args.parts.now.items c.requires.base around known from left state is _ c.args.row.after c.ahead-to.result (c.ahead-to.ensures c.args.symbol.now) (omega (arith, c.len.ensures, c.args.parts.now.ok.0)) (branch rule taken inner) rest left_is after in
    let p = err_from_is_err_and c.from_residual-in_err-kept.result c.from_residual-in_err-kept.ensures.1 in
    rw (p.1, p.2)
    (begins_refused view c.args.symbol.now laws c.args.language.now c.args.frame.now c.args.parts.now.items c.requires.base around known from left state is (g.L.Threading.surrounds c.args.symbol.now) c.args.rows.now c.args.row rule taken inner row_is rest left_is c.pass.new.language c.between.new.self c.pass.new.parts.items c.between.new.parts.items c.in_ok-pass.ensures.adds.0
    (c.in_ok-pass.ensures.passes lower (passed view.reading around known from left state) first) c.begin.new.self c.in_ok-context.context c.in_err-kept.field-0.0 c.in_ok-context.ensures.goes c.in_err-kept.ensures.begins)

pub returns-clause-opens : goal.returns-clause-opens
returns-clause-opens g c around known from left state rule taken inner rest is left_is row_is after =
    let view = g.L.Threading.view c.args.symbol.now in
    let laws = g.met.L.Threading.laws c.args.symbol.now in
    let lower = take c.args.frame.now.base c.args.parts.now.items in
    let first = row_first view c.args.symbol.now laws c.args.language.now c.args.frame.now c.args.parts.now.items c.requires.base around known from left state is _ c.args.row.after c.ahead-to.result (c.ahead-to.ensures c.args.symbol.now) (omega (arith, c.len.ensures, c.args.parts.now.ok.0)) (branch rule taken inner) rest left_is after in
    begins_right view c.args.symbol.now laws c.args.language.now c.args.frame.now c.args.parts.now.items c.requires.base around known from left state is (g.L.Threading.surrounds c.args.symbol.now) c.args.rows.now c.args.row rule taken inner row_is rest left_is c.pass.new.language c.between.new.self c.pass.new.parts.items c.between.new.parts.items c.in_ok-pass.ensures.adds.0
    (c.in_ok-pass.ensures.passes lower (passed view.reading around known from left state) first) c.begin.new.self c.in_ok-context.context c.in_ok-kept.kept c.in_ok-context.ensures.goes c.in_ok-kept.ensures.adds.0 c.in_ok-kept.ensures.begins

pub returns-in_err-pass-clause-few : goal.returns-in_err-pass-clause-few
returns-in_err-pass-clause-few g c =
    let p = err_from_is_err_and c.from_residual.result c.from_residual.ensures.1 in
    rw p.1 c.in_err-pass.ensures.few

pub returns-in_err-context-clause-few : goal.returns-in_err-context-clause-few
returns-in_err-context-clause-few g c =
    let p = err_from_is_err_and c.from_residual-in_err-context.result c.from_residual-in_err-context.ensures.1 in
    rw p.1 (omega (arith, c.in_err-context.ensures.few, c.in_ok-pass.ensures.few))

pub returns-in_err-kept-clause-few : goal.returns-in_err-kept-clause-few
returns-in_err-kept-clause-few g c =
    let p = err_from_is_err_and c.from_residual-in_err-kept.result c.from_residual-in_err-kept.ensures.1 in
    rw p.1 (omega (arith, c.in_err-kept.ensures.few, c.in_ok-context.ensures.few, c.in_ok-pass.ensures.few))

pub returns-in_err-context-clause-keeps : goal.returns-in_err-context-clause-keeps
returns-in_err-context-clause-keeps g c =
    let view = g.L.Threading.view c.args.symbol.now in
    let before = lists_with view c.args.language.now c.args.parts.now in
    let after_pass = lists_with view c.pass.new.language c.pass.new.parts in
    let after_between = lists_with view c.between.new.self c.between.new.parts in
    room_then before after_pass after_between c.in_ok-pass.ensures.keeps c.in_err-context.ensures.keeps

pub returns-in_err-context-clause-full : goal.returns-in_err-context-clause-full
returns-in_err-context-clause-full g c =
    let view = g.L.Threading.view c.args.symbol.now in
    let before = lists_with view c.args.language.now c.args.parts.now in
    let after_pass = lists_with view c.pass.new.language c.pass.new.parts in
    let after_between = lists_with view c.between.new.self c.between.new.parts in
    let p = err_from_is_err_and c.from_residual-in_err-context.result c.from_residual-in_err-context.ensures.1 in
    rw (p.1, p.2)
    (only_refused ⊥ ⊥ before after_pass after_between c.in_err-context.field-0.0 (λ none. none) c.in_ok-pass.ensures.keeps c.in_err-context.ensures.full)

pub returns-in_err-kept-clause-keeps : goal.returns-in_err-kept-clause-keeps
returns-in_err-kept-clause-keeps g c =
    let view = g.L.Threading.view c.args.symbol.now in
    let before = lists_with view c.args.language.now c.args.parts.now in
    let after_between = lists_with view c.between.new.self c.between.new.parts in
    let after_begin = lists_with view c.begin.new.self c.between.new.parts in
    let after_pass = lists_with view c.pass.new.language c.pass.new.parts in
    room_then before after_between after_begin (room_then before after_pass after_between c.in_ok-pass.ensures.keeps c.in_ok-context.ensures.keeps)
    (omega arith, c.in_err-kept.ensures.keeps)

pub returns-in_err-kept-clause-full : goal.returns-in_err-kept-clause-full
returns-in_err-kept-clause-full g c =
    let view = g.L.Threading.view c.args.symbol.now in
    let before = lists_with view c.args.language.now c.args.parts.now in
    let after_between = lists_with view c.between.new.self c.between.new.parts in
    let after_begin = lists_with view c.begin.new.self c.between.new.parts in
    let after_pass = lists_with view c.pass.new.language c.pass.new.parts in
    let p = err_from_is_err_and c.from_residual-in_err-kept.result c.from_residual-in_err-kept.ensures.1 in
    rw (p.1, p.2)
    (only_refused ⊥ ⊥ before after_between after_begin c.in_err-kept.field-0.0 (λ none. none)
    (room_then before after_pass after_between c.in_ok-pass.ensures.keeps c.in_ok-context.ensures.keeps)
    (list_more ⊥ (one_by_one c.between.new.parts) (one_by_one c.between.new.parts)
    (view.lists c.between.new.self) (view.lists c.begin.new.self) (Err c.in_err-kept.field-0.0) c.in_err-kept.ensures.full))

pub returns-clause-keeps : goal.returns-clause-keeps
returns-clause-keeps g c =
    let view = g.L.Threading.view c.args.symbol.now in
    let before = lists_with view c.args.language.now c.args.parts.now in
    let after_between = lists_with view c.between.new.self c.between.new.parts in
    let after_begin = lists_with view c.begin.new.self c.between.new.parts in
    let after_pass = lists_with view c.pass.new.language c.pass.new.parts in
    room_then before after_between after_begin (room_then before after_pass after_between c.in_ok-pass.ensures.keeps c.in_ok-context.ensures.keeps)
    (omega arith, c.in_ok-kept.ensures.keeps)
