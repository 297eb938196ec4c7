use Rattle.sym_link.proofs.Basics.{arith, Ok, Err, take, err_from_is_err_and, passed, lists_with}
use Rattle.sym_link.proofs.Passing.{close_first, open_first, closed_all, closed_none}
use Rattle.sym_link.proofs.Room.{room_then, only_refused}
use Rattle.sym_link.proofs.threads.close_by.Goals as goal

pub pass-requires-clause-open : goal.pass-requires-clause-open
pass-requires-clause-open g c =
    open_first (g.L.Threading.view c.args.symbol.now) c.args.symbol.now (g.met.L.Threading.laws c.args.symbol.now) c.args.language.now c.args.frame.now c.args.parts.now.items c.requires.base
    c.requires.open.rule c.requires.open.known c.requires.open.from c.requires.open.left c.requires.open.state c.requires.open.inside

pub returns-in_err-pass-clause-closes : goal.returns-in_err-pass-clause-closes
returns-in_err-pass-clause-closes g c rule known from left state is none =
    let view = g.L.Threading.view c.args.symbol.now in
    let laws = g.met.L.Threading.laws c.args.symbol.now in
    let lower = take c.args.frame.now.base c.args.parts.now.items in
    let first = close_first view c.args.symbol.now laws c.args.language.now c.args.frame.now c.args.parts.now.items c.requires.base rule known from left state is c.count-to.result (c.count-to.ensures c.args.symbol.now) none in
    let p = err_from_is_err_and c.from_residual.result c.from_residual.ensures.1 in
    rw (p.1, p.2)
    (closed_none view c.args.symbol.now laws c.args.language.now c.args.frame.now c.args.parts.now.items c.requires.base rule known from left state is c.pass.new.language c.pass.new.parts.items c.in_err-pass.field-0.0
    (c.in_err-pass.ensures.passes lower (passed view.reading rule known from left state) first))

pub returns-in_err-finish-clause-closes : goal.returns-in_err-finish-clause-closes
returns-in_err-finish-clause-closes g c rule known from left state is none =
    let view = g.L.Threading.view c.args.symbol.now in
    let laws = g.met.L.Threading.laws c.args.symbol.now in
    let lower = take c.args.frame.now.base c.args.parts.now.items in
    let first = close_first view c.args.symbol.now laws c.args.language.now c.args.frame.now c.args.parts.now.items c.requires.base rule known from left state is c.count-to.result (c.count-to.ensures c.args.symbol.now) none in
    let p = err_from_is_err_and c.from_residual-in_err-finish.result c.from_residual-in_err-finish.ensures.1 in
    rw (p.1, p.2)
    (closed_all view c.args.symbol.now laws c.args.language.now c.args.frame.now c.args.parts.now.items c.requires.base rule known from left state is c.pass.new.language c.finish.new.self c.pass.new.parts.items c.finish.new.parts.items (Err c.in_err-finish.field-0.0) c.in_ok-pass.ensures.adds.0
    (c.in_ok-pass.ensures.passes lower (passed view.reading rule known from left state) first) c.in_err-finish.ensures.closes)

pub returns-clause-closes : goal.returns-clause-closes
returns-clause-closes g c rule known from left state is none =
    let view = g.L.Threading.view c.args.symbol.now in
    let laws = g.met.L.Threading.laws c.args.symbol.now in
    let lower = take c.args.frame.now.base c.args.parts.now.items in
    let first = close_first view c.args.symbol.now laws c.args.language.now c.args.frame.now c.args.parts.now.items c.requires.base rule known from left state is c.count-to.result (c.count-to.ensures c.args.symbol.now) none in
    closed_all view c.args.symbol.now laws c.args.language.now c.args.frame.now c.args.parts.now.items c.requires.base rule known from left state is c.pass.new.language c.finish.new.self c.pass.new.parts.items c.finish.new.parts.items (Ok tt) c.in_ok-pass.ensures.adds.0
    (c.in_ok-pass.ensures.passes lower (passed view.reading rule known from left state) first) c.in_ok-finish.ensures.closes

pub returns-in_err-pass-clause-few : goal.returns-in_err-pass-clause-few
returns-in_err-pass-clause-few g c = c.in_err-pass.ensures.few

pub returns-in_err-finish-clause-few : goal.returns-in_err-finish-clause-few
returns-in_err-finish-clause-few g c = omega (arith, c.in_err-finish.ensures.few, c.in_ok-pass.ensures.few)

pub returns-clause-few : goal.returns-clause-few
returns-clause-few g c = omega (arith, c.in_ok-finish.ensures.few, c.in_ok-pass.ensures.few)

pub returns-in_err-finish-clause-keeps : goal.returns-in_err-finish-clause-keeps
returns-in_err-finish-clause-keeps g c =
    let view = g.L.Threading.view c.args.symbol.now in
    let before = lists_with view c.args.language.now c.args.parts.now in
    let after_pass = lists_with view c.pass.new.language c.pass.new.parts in
    let after_finish = lists_with view c.finish.new.self c.finish.new.parts in
    room_then before after_pass after_finish c.in_ok-pass.ensures.keeps c.in_err-finish.ensures.keeps

pub returns-in_err-finish-clause-full : goal.returns-in_err-finish-clause-full
returns-in_err-finish-clause-full g c =
    let view = g.L.Threading.view c.args.symbol.now in
    let before = lists_with view c.args.language.now c.args.parts.now in
    let after_pass = lists_with view c.pass.new.language c.pass.new.parts in
    let after_finish = lists_with view c.finish.new.self c.finish.new.parts in
    let p = err_from_is_err_and c.from_residual-in_err-finish.result c.from_residual-in_err-finish.ensures.1 in
    rw (p.1, p.2)
    (only_refused ⊥ ⊥ before after_pass after_finish c.in_err-finish.field-0.0 (λ none. none) c.in_ok-pass.ensures.keeps c.in_err-finish.ensures.full)

pub returns-clause-keeps : goal.returns-clause-keeps
returns-clause-keeps g c =
    let view = g.L.Threading.view c.args.symbol.now in
    let before = lists_with view c.args.language.now c.args.parts.now in
    let after_pass = lists_with view c.pass.new.language c.pass.new.parts in
    let after_finish = lists_with view c.finish.new.self c.finish.new.parts in
    room_then before after_pass after_finish c.in_ok-pass.ensures.keeps c.in_ok-finish.ensures.keeps
