use Rattle.sym_link.proofs.Basics.{Ok, Err, arith, err_from_is_err_and, one_by_one, TokenTakesMemory, lists_with, all_lists}
use Rattle.sym_link.proofs.Driving.{closing_room, closing_open, closing_place, closing_base, closed}
use Rattle.sym_link.proofs.Room.{room_then, only_refused, list_more}
use Rattle.sym_link.proofs.driver.close_lone_token.Goals as goal

pub take_alone-requires : goal.take_alone-requires
take_alone-requires g c = (c.args.frames.now.items, c.requires)

pub close-requires-clause-room : goal.close-requires-clause-room
close-requires-clause-room g c =
    let alone = c.in_ok-behind.ensures.follows c.requires.whole c.requires.steps c.requires.most c.args.frames.now.items c.requires.follows in
    closing_room (g.L.Linking.view c.args.symbol.now) c.args.symbol.now c.take_alone.new.language c.args.frame c.take_alone.new.parts.items (g.met.L.Linking.laws c.args.symbol.now)
    (record { whole = c.requires.whole; shape = c.args.rows.now; due = alone.0; lower = c.args.frames.now.items; next = c.in_ok-behind.behind; follows = alone.2; ends = c.if-frame-behind.false; fits = c.requires.fits })

pub close-requires-clause-open : goal.close-requires-clause-open
close-requires-clause-open g c =
    let alone = c.in_ok-behind.ensures.follows c.requires.whole c.requires.steps c.requires.most c.args.frames.now.items c.requires.follows in
    closing_open (g.L.Linking.view c.args.symbol.now) c.args.symbol.now c.take_alone.new.language c.args.frame c.take_alone.new.parts.items
    (record { whole = c.requires.whole; shape = c.args.rows.now; due = alone.0; lower = c.args.frames.now.items; next = c.in_ok-behind.behind; follows = alone.2; ends = c.if-frame-behind.false; fits = c.requires.fits })

pub close-requires-clause-base : goal.close-requires-clause-base
close-requires-clause-base g c =
    let alone = c.in_ok-behind.ensures.follows c.requires.whole c.requires.steps c.requires.most c.args.frames.now.items c.requires.follows in
    closing_base (g.L.Linking.view c.args.symbol.now) c.args.symbol.now c.take_alone.new.language c.args.frame c.take_alone.new.parts.items
    (record { whole = c.requires.whole; shape = c.args.rows.now; due = alone.0; lower = c.args.frames.now.items; next = c.in_ok-behind.behind; follows = alone.2; ends = c.if-frame-behind.false; fits = c.requires.fits })

pub close-requires-clause-place : goal.close-requires-clause-place
close-requires-clause-place g c =
    let alone = c.in_ok-behind.ensures.follows c.requires.whole c.requires.steps c.requires.most c.args.frames.now.items c.requires.follows in
    closing_place (g.L.Linking.view c.args.symbol.now) c.args.symbol.now c.take_alone.new.language c.args.frame c.take_alone.new.parts.items (g.met.L.Linking.laws c.args.symbol.now)
    (record { whole = c.requires.whole; shape = c.args.rows.now; due = alone.0; lower = c.args.frames.now.items; next = c.in_ok-behind.behind; follows = alone.2; ends = c.if-frame-behind.false; fits = c.requires.fits })

pub returns-in_err-behind-clause-follows : goal.returns-in_err-behind-clause-follows
returns-in_err-behind-clause-follows g c whole left most follows =
    let p = err_from_is_err_and c.from_residual.result c.from_residual.ensures.1 in
    rw (p.1, p.2) (c.in_err-behind.ensures.follows whole left most c.args.frames.now.items follows)

pub returns-in_err-close-clause-follows : goal.returns-in_err-close-clause-follows
returns-in_err-close-clause-follows g c whole left most follows =
    let alone = c.in_ok-behind.ensures.follows whole left most c.args.frames.now.items follows in
    let p = err_from_is_err_and c.from_residual-in_err-close.result c.from_residual-in_err-close.ensures.1 in
    rw (p.1, p.2)
    (closed (g.L.Linking.view c.args.symbol.now) c.args.symbol.now c.args.rows.now whole alone.0 c.take_alone.new.language c.close.new.self c.in_ok-behind.behind c.args.frames.now.items c.args.frame
    c.take_alone.new.parts.items c.close.new.parts.items (Err c.in_err-close.field-0.0) (g.met.L.Linking.laws c.args.symbol.now) alone.2 c.if-frame-behind.false
    c.in_err-close.ensures.closes c.in_err-close.ensures.adds c.in_err-close.ensures.pays left alone.1)

pub returns-clause-follows : goal.returns-clause-follows
returns-clause-follows g c whole left most follows =
    let alone = c.in_ok-behind.ensures.follows whole left most c.args.frames.now.items follows in
    closed (g.L.Linking.view c.args.symbol.now) c.args.symbol.now c.args.rows.now whole alone.0 c.take_alone.new.language c.close.new.self c.in_ok-behind.behind c.args.frames.now.items c.args.frame
    c.take_alone.new.parts.items c.close.new.parts.items (Ok tt) (g.met.L.Linking.laws c.args.symbol.now) alone.2 c.if-frame-behind.false
    c.in_ok-close.ensures.closes c.in_ok-close.ensures.adds c.in_ok-close.ensures.pays left alone.1

pub returns-then-frame-behind-clause-follows : goal.returns-then-frame-behind-clause-follows
returns-then-frame-behind-clause-follows g c whole left most follows =
    let alone = c.in_ok-behind.ensures.follows whole left most c.args.frames.now.items follows in
    rw c.in_ok-push.ensures.items (alone.3 c.if-frame-behind.true)

pub returns-in_err-behind-clause-few : goal.returns-in_err-behind-clause-few
returns-in_err-behind-clause-few g c whole left most follows = c.in_err-behind.ensures.few whole left most c.args.frames.now.items follows

pub returns-in_err-close-clause-few : goal.returns-in_err-close-clause-few
returns-in_err-close-clause-few g c whole left most follows =
    omega (arith, c.in_err-close.ensures.few, (c.in_ok-behind.ensures.few whole left most c.args.frames.now.items follows).1 c.if-frame-behind.false)

pub returns-clause-few : goal.returns-clause-few
returns-clause-few g c whole left most follows =
    omega (arith, c.in_ok-close.ensures.few, (c.in_ok-behind.ensures.few whole left most c.args.frames.now.items follows).1 c.if-frame-behind.false)

pub returns-in_err-push-clause-few : goal.returns-in_err-push-clause-few
returns-in_err-push-clause-few g c whole left most follows = (c.in_ok-behind.ensures.few whole left most c.args.frames.now.items follows).0

pub returns-then-frame-behind-clause-few : goal.returns-then-frame-behind-clause-few
returns-then-frame-behind-clause-few g c whole left most follows = (c.in_ok-behind.ensures.few whole left most c.args.frames.now.items follows).0

pub returns-in_err-close-clause-keeps : goal.returns-in_err-close-clause-keeps
returns-in_err-close-clause-keeps g c =
    let view = g.L.Linking.view c.args.symbol.now in
    let before = all_lists view c.args.language.now c.args.frames.now c.args.parts.now in
    let after_alone = all_lists view c.take_alone.new.language c.args.frames.now c.take_alone.new.parts in
    let after_close = all_lists view c.close.new.self c.args.frames.now c.close.new.parts in
    room_then before after_alone after_close
    (omega arith, c.in_ok-behind.ensures.keeps) (omega arith, c.in_err-close.ensures.keeps)

pub returns-in_err-close-clause-full : goal.returns-in_err-close-clause-full
returns-in_err-close-clause-full g c =
    let view = g.L.Linking.view c.args.symbol.now in
    let before = all_lists view c.args.language.now c.args.frames.now c.args.parts.now in
    let after_alone = all_lists view c.take_alone.new.language c.args.frames.now c.take_alone.new.parts in
    let after_close = all_lists view c.close.new.self c.args.frames.now c.close.new.parts in
    let own_after_alone = lists_with view c.take_alone.new.language c.take_alone.new.parts in
    let own_after_close = lists_with view c.close.new.self c.close.new.parts in
    let p = err_from_is_err_and c.from_residual-in_err-close.result c.from_residual-in_err-close.ensures.1 in
    rw (p.1, p.2)
    (only_refused ⊥ (TokenTakesMemory view c.args.symbol.now) before after_alone after_close c.in_err-close.field-0.0
    (λ none. absurd none) (omega arith, c.in_ok-behind.ensures.keeps)
    (list_more ⊥ (one_by_one c.args.frames.now) (one_by_one c.args.frames.now) own_after_alone own_after_close
    (Err c.in_err-close.field-0.0) c.in_err-close.ensures.full))

pub returns-clause-keeps : goal.returns-clause-keeps
returns-clause-keeps g c =
    let view = g.L.Linking.view c.args.symbol.now in
    let before = all_lists view c.args.language.now c.args.frames.now c.args.parts.now in
    let after_alone = all_lists view c.take_alone.new.language c.args.frames.now c.take_alone.new.parts in
    let after_close = all_lists view c.close.new.self c.args.frames.now c.close.new.parts in
    room_then before after_alone after_close
    (omega arith, c.in_ok-behind.ensures.keeps) (omega arith, c.in_ok-close.ensures.keeps)
