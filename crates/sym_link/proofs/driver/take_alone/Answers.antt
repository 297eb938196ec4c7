use Rattle.sym_link.proofs.Basics.{◌≡◌, ◌≢◌, refl, arith, ℕ, Ok, Err, ◌+◌, ◌++◌, ◌∷◌, [], slice_index_or, err_from_is_err_and, waiting, starting, TokenTakesMemory, lists_with}
use Rattle.sym_link.proofs.Driving.{token_there, more_rows, token_asks, token_taken, begun_waits, alone_within, token_within, token_refused_within}
use Rattle.sym_link.proofs.driver.take_alone.Goals as goal
use Rattle.sym_link.proofs.Room.{room_same, only_refused}
use Rattle.sym_link.proofs.driver.take_alone.Goals.{else-frame-next-via-then-frame-next+else-rows-next, else-frame-next-via-else-frame-next}

open_still : (end next : ℕ) → end ≡ next + 1 → end ≢ next
open_still end next ends same = omega (arith, ends, same)

pub bounds-rows-next : goal.bounds-rows-next
bounds-rows-next g c =
    more_rows (g.L.Linking.view c.args.symbol.now) c.args.symbol.now c.args.rows.now (starting c.requires.1.steps c.requires.1.most) c.args.language.now c.args.next (c.requires.0 ++ c.args.frame ∷ []) c.args.frame c.args.parts.now.items
    (record { rule = 0; after = 0; from = 0; to = 0; end = 0 }) (g.met.L.Linking.laws c.args.symbol.now)
    (record { whole = c.requires.1.whole; follows = c.requires.1.follows; last = (c.requires.0, refl); open_still = open_still _ _ c.if-frame-next.true; fits = c.requires.1.fits })

pub token-requires-clause-room : goal.token-requires-clause-room
token-requires-clause-room g c =
    (token_asks (g.L.Linking.view c.args.symbol.now) c.args.symbol.now c.args.rows.now (starting c.requires.1.steps c.requires.1.most) c.args.language.now c.args.next (c.requires.0 ++ c.args.frame ∷ []) c.args.frame c.args.parts.now.items
    (slice_index_or c.args.rows.now c.args.next (record { rule = 0; after = 0; from = 0; to = 0; end = 0 })) (record { rule = 0; after = 0; from = 0; to = 0; end = 0 }) (g.met.L.Linking.laws c.args.symbol.now)
    (record { whole = c.requires.1.whole; follows = c.requires.1.follows; last = (c.requires.0, refl); open_still = open_still _ _ c.if-frame-next.true; fits = c.requires.1.fits }) refl c.if-rows-next.true).room

pub token-requires-clause-open : goal.token-requires-clause-open
token-requires-clause-open g c =
    (token_asks (g.L.Linking.view c.args.symbol.now) c.args.symbol.now c.args.rows.now (starting c.requires.1.steps c.requires.1.most) c.args.language.now c.args.next (c.requires.0 ++ c.args.frame ∷ []) c.args.frame c.args.parts.now.items
    (slice_index_or c.args.rows.now c.args.next (record { rule = 0; after = 0; from = 0; to = 0; end = 0 })) (record { rule = 0; after = 0; from = 0; to = 0; end = 0 }) (g.met.L.Linking.laws c.args.symbol.now)
    (record { whole = c.requires.1.whole; follows = c.requires.1.follows; last = (c.requires.0, refl); open_still = open_still _ _ c.if-frame-next.true; fits = c.requires.1.fits }) refl c.if-rows-next.true).stands

pub token-requires-clause-from : goal.token-requires-clause-from
token-requires-clause-from g c =
    (token_asks (g.L.Linking.view c.args.symbol.now) c.args.symbol.now c.args.rows.now (starting c.requires.1.steps c.requires.1.most) c.args.language.now c.args.next (c.requires.0 ++ c.args.frame ∷ []) c.args.frame c.args.parts.now.items
    (slice_index_or c.args.rows.now c.args.next (record { rule = 0; after = 0; from = 0; to = 0; end = 0 })) (record { rule = 0; after = 0; from = 0; to = 0; end = 0 }) (g.met.L.Linking.laws c.args.symbol.now)
    (record { whole = c.requires.1.whole; follows = c.requires.1.follows; last = (c.requires.0, refl); open_still = open_still _ _ c.if-frame-next.true; fits = c.requires.1.fits }) refl c.if-rows-next.true).from

pub token-requires-clause-to : goal.token-requires-clause-to
token-requires-clause-to g c =
    (token_asks (g.L.Linking.view c.args.symbol.now) c.args.symbol.now c.args.rows.now (starting c.requires.1.steps c.requires.1.most) c.args.language.now c.args.next (c.requires.0 ++ c.args.frame ∷ []) c.args.frame c.args.parts.now.items
    (slice_index_or c.args.rows.now c.args.next (record { rule = 0; after = 0; from = 0; to = 0; end = 0 })) (record { rule = 0; after = 0; from = 0; to = 0; end = 0 }) (g.met.L.Linking.laws c.args.symbol.now)
    (record { whole = c.requires.1.whole; follows = c.requires.1.follows; last = (c.requires.0, refl); open_still = open_still _ _ c.if-frame-next.true; fits = c.requires.1.fits }) refl c.if-rows-next.true).to

pub returns-in_err-token-clause-follows : goal.returns-in_err-token-clause-follows
returns-in_err-token-clause-follows g c whole left most lower follows =
    let p = err_from_is_err_and c.from_residual.result c.from_residual.ensures.1 in
    rw (p.1, p.2)
    (token_taken (g.L.Linking.view c.args.symbol.now) c.args.symbol.now c.args.rows.now whole (starting left most) c.args.language.now c.token.new.self c.args.next (lower ++ c.args.frame ∷ []) c.args.frame
    c.args.parts.now.items c.token.new.parts.items (slice_index_or c.args.rows.now c.args.next (record { rule = 0; after = 0; from = 0; to = 0; end = 0 })) (record { rule = 0; after = 0; from = 0; to = 0; end = 0 }) (Err c.in_err-token.field-0.0)
    (g.met.L.Linking.laws c.args.symbol.now) (lower, refl) follows (open_still _ _ c.if-frame-next.true) refl c.if-rows-next.true
    c.in_err-token.ensures.takes c.in_err-token.ensures.adds c.in_err-token.ensures.pays (left + 1) (refl, c.if-frame-next.true))

pub returns-then-rows-next-clause-follows : goal.returns-then-rows-next-clause-follows
returns-then-rows-next-clause-follows g c whole left most lower follows = (
  waiting (left + 1),
  refl,
  token_taken (g.L.Linking.view c.args.symbol.now) c.args.symbol.now c.args.rows.now whole (starting left most) c.args.language.now c.token.new.self c.args.next (lower ++ c.args.frame ∷ []) c.args.frame
      c.args.parts.now.items c.token.new.parts.items (slice_index_or c.args.rows.now c.args.next (record { rule = 0; after = 0; from = 0; to = 0; end = 0 })) (record { rule = 0; after = 0; from = 0; to = 0; end = 0 }) (Ok tt)
      (g.met.L.Linking.laws c.args.symbol.now) (lower, refl) follows (open_still _ _ c.if-frame-next.true) refl c.if-rows-next.true
      c.in_ok-token.ensures.takes c.in_ok-token.ensures.adds c.in_ok-token.ensures.pays (left + 1) (refl, c.if-frame-next.true),
  λ still. absurd (still c.if-frame-next.true),
)

pub returns-clause-follows : goal.returns-clause-follows
returns-clause-follows g c whole left most lower follows = (
  starting left most,
  refl,
  follows,
  λ still. begun_waits (g.L.Linking.view c.args.symbol.now) c.args.symbol.now c.args.rows.now whole left most c.args.language.now c.args.next lower c.args.frame c.args.parts.now.items
      (slice_index_or c.args.rows.now c.args.next (record { rule = 0; after = 0; from = 0; to = 0; end = 0 })) (record { rule = 0; after = 0; from = 0; to = 0; end = 0 }) (g.met.L.Linking.laws c.args.symbol.now) follows still refl
      (λ is_token ends. elim c.else-frame-next.branch [
        | else-frame-next-via-then-frame-next+else-rows-next w ↦ w.if-rows-next.false is_token
        | else-frame-next-via-else-frame-next w ↦ w.if-frame-next.false ends
      ]),
)

pub returns-in_err-token-clause-few : goal.returns-in_err-token-clause-few
returns-in_err-token-clause-few g c whole left most lower follows =
    let p = err_from_is_err_and c.from_residual.result c.from_residual.ensures.1 in
    rw p.1 (token_refused_within (g.L.Linking.view c.args.symbol.now) c.args.symbol.now c.args.rows.now whole left most c.args.language.now c.token.new.self c.args.next lower c.args.frame c.args.parts.now.items
    (slice_index_or c.args.rows.now c.args.next (record { rule = 0; after = 0; from = 0; to = 0; end = 0 })) (record { rule = 0; after = 0; from = 0; to = 0; end = 0 }) (g.met.L.Linking.laws c.args.symbol.now) follows c.if-frame-next.true refl c.if-rows-next.true c.in_err-token.ensures.few)

pub returns-then-rows-next-clause-few : goal.returns-then-rows-next-clause-few
returns-then-rows-next-clause-few g c whole left most lower follows =
    token_within (g.L.Linking.view c.args.symbol.now) c.args.symbol.now c.args.rows.now whole left most c.args.language.now c.token.new.self c.args.next lower c.args.frame c.args.parts.now.items c.token.new.parts.items
    (slice_index_or c.args.rows.now c.args.next (record { rule = 0; after = 0; from = 0; to = 0; end = 0 })) (record { rule = 0; after = 0; from = 0; to = 0; end = 0 }) (g.met.L.Linking.laws c.args.symbol.now) follows c.if-frame-next.true refl c.if-rows-next.true c.in_ok-token.ensures.takes c.in_ok-token.ensures.adds

pub returns-clause-few : goal.returns-clause-few
returns-clause-few g c whole left most lower follows =
    alone_within (g.L.Linking.view c.args.symbol.now) c.args.symbol.now c.args.rows.now whole left most c.args.language.now c.args.next lower c.args.frame c.args.parts.now.items follows

pub returns-clause-keeps : goal.returns-clause-keeps
returns-clause-keeps g c =
    let view = g.L.Linking.view c.args.symbol.now in
    let before = lists_with view c.args.language.now c.args.parts.now in
    room_same before

pub returns-in_err-token-clause-full : goal.returns-in_err-token-clause-full
returns-in_err-token-clause-full g c =
    let view = g.L.Linking.view c.args.symbol.now in
    let before = lists_with view c.args.language.now c.args.parts.now in
    let after_token = lists_with view c.token.new.self c.token.new.parts in
    let p = err_from_is_err_and c.from_residual.result c.from_residual.ensures.1 in
    rw (p.1, p.2)
    (only_refused _ (TokenTakesMemory view c.args.symbol.now) before before after_token c.in_err-token.field-0.0
    (token_there view c.args.symbol.now c.args.rows.now (starting c.requires.1.steps c.requires.1.most) c.args.language.now c.args.next (c.requires.0 ++ c.args.frame ∷ []) c.args.frame c.args.parts.now.items
    (slice_index_or c.args.rows.now c.args.next (record { rule = 0; after = 0; from = 0; to = 0; end = 0 })) (record { rule = 0; after = 0; from = 0; to = 0; end = 0 }) (g.met.L.Linking.laws c.args.symbol.now)
    (record { whole = c.requires.1.whole; follows = c.requires.1.follows; last = (c.requires.0, refl); open_still = open_still _ _ c.if-frame-next.true; fits = c.requires.1.fits }) refl c.if-rows-next.true)
    (room_same before) c.in_err-token.ensures.full)
