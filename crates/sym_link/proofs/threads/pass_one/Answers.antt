use Rattle.sym_link.proofs.Basics.{arith, sym, subst, ap, ◌∙◌, ◌∷◌, ◌++◌, [], drop, length, length-append, err_from_is_err_and, IsOpenAt, Passing, owed_behind}
use Rattle.sym_link.proofs.Lists.{dropped_push}
use Rattle.sym_link.proofs.Passing.{passing_next, open_next, passing_fails, owed_pushed}
use Rattle.sym_link.proofs.threads.pass_one.Goals as goal

pub returns-in_err-between-clause-passing : goal.returns-in_err-between-clause-passing
returns-in_err-between-clause-passing g c lower to whole passing less =
    let p = err_from_is_err_and c.from_residual.result c.from_residual.ensures.1 in
    rw (p.1, p.2)
    (passing_fails (g.L.Threading.view c.args.symbol.now) c.args.symbol.now (g.L.Threading.surrounds c.args.symbol.now) (g.met.L.Threading.laws c.args.symbol.now) c.args.language.now c.between.new.self c.args.frame.now
    lower c.args.parts.now.items c.between.new.parts.items to whole passing less c.in_err-between.field-0.0 c.in_err-between.ensures.goes)

pub returns-clause-passing : goal.returns-clause-passing
returns-clause-passing g c lower to whole passing less =
    subst (λ ps. Passing (g.L.Threading.view c.args.symbol.now) c.args.symbol.now c.between.new.self c.args.frame.now lower ps to whole) (sym c.in_ok-push.ensures.items)
    (passing_next (g.L.Threading.view c.args.symbol.now) c.args.symbol.now (g.L.Threading.surrounds c.args.symbol.now) (g.met.L.Threading.laws c.args.symbol.now) c.args.language.now c.between.new.self c.args.frame.now
    lower c.args.parts.now.items c.between.new.parts.items to whole passing less c.in_ok-between.field-0 c.nothing.result c.in_ok-between.ensures.goes c.in_ok-between.ensures.adds.0
    (c.nothing.ensures.stands c.args.symbol.now))

pub returns-clause-open : goal.returns-clause-open
returns-clause-open g c =
    subst (λ ps. IsOpenAt (g.L.Threading.view c.args.symbol.now) c.args.symbol.now c.between.new.self c.args.frame.now ps) (sym c.in_ok-push.ensures.items)
    (open_next (g.L.Threading.view c.args.symbol.now) c.args.symbol.now (g.L.Threading.surrounds c.args.symbol.now) (g.met.L.Threading.laws c.args.symbol.now) c.args.language.now c.between.new.self c.args.frame.now
    c.args.parts.now.items c.between.new.parts.items c.requires.base c.requires.open c.in_ok-between.field-0 c.nothing.result c.in_ok-between.ensures.goes c.in_ok-between.ensures.adds.0
    (c.nothing.ensures.stands c.args.symbol.now))

pub returns-clause-adds : goal.returns-clause-adds
returns-clause-adds g c =
    rw c.in_ok-push.ensures.items
    (owed_pushed (g.L.Threading.view c.args.symbol.now) c.args.language.now c.between.new.self c.args.frame.now c.args.parts.now.items c.between.new.parts.items c.nothing.result
    (owed_behind (g.L.Threading.view c.args.symbol.now) c.args.frame.now c.args.parts.now.items) (omega (arith, c.requires.base, c.in_ok-between.ensures.count)) c.in_ok-between.ensures.adds)

pub returns-clause-count : goal.returns-clause-count
returns-clause-count g c = omega (arith, c.in_ok-between.ensures.count, ap (λ ps. length ps) c.in_ok-push.ensures.items, length-append c.between.new.parts.items (c.nothing.result ∷ []))

pub returns-in_err-between-clause-few : goal.returns-in_err-between-clause-few
returns-in_err-between-clause-few g c =
    let p = err_from_is_err_and c.from_residual.result c.from_residual.ensures.1 in
    rw p.1 c.in_err-between.ensures.few

pub returns-in_err-push-clause-few : goal.returns-in_err-push-clause-few
returns-in_err-push-clause-few g c =
    let p = err_from_is_err_and c.from_residual-in_err-push.result c.from_residual-in_err-push.ensures.1 in
    rw p.1 (omega (arith, c.in_ok-between.ensures.few))

pub returns-clause-few : goal.returns-clause-few
returns-clause-few g c =
    let base = c.args.frame.now.base in
    let middle = c.between.new.parts.items in
    let pushed = ap (λ ps. drop base ps) c.in_ok-push.ensures.items ∙ dropped_push base middle c.nothing.result (omega (arith, c.requires.base, c.in_ok-between.ensures.count))
    ∙ ap (λ part. drop base middle ++ part ∷ []) c.nothing.ensures.is in
    rw pushed c.in_ok-between.ensures.few
