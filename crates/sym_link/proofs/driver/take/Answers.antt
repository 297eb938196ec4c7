use Rattle.sym_link.proofs.Basics.{refl, sym, ◌∙◌, arith, Ok, Err, ◌+◌, slice_index_or, err_from_is_err_and, waiting, one_by_one, TokenTakesMemory, lists_with, all_lists}
use Rattle.sym_link.proofs.Driving.{more_rows, token_there, token_asks, rule_asks, token_taken, rule_begun, rule_refused, few_two, added_two}
use Rattle.sym_link.proofs.Room.{room_same, room_then, only_then, only_refused, list_more}
use Rattle.sym_link.proofs.driver.take.Goals as goal

pub bounds-rows-next : goal.bounds-rows-next
bounds-rows-next g c =
    more_rows (g.L.Linking.view c.args.symbol.now) c.args.symbol.now c.args.rows.now (waiting (c.requires.0 + 1))
    c.args.language.now c.args.next c.args.frames.now.items c.top-frame.result.now c.args.parts.now.items
    (record { rule = 0; after = 0; from = 0; to = 0; end = 0 }) (g.met.L.Linking.laws c.args.symbol.now)
    (c.requires.1 c.top-frame.result.now (c.top-frame.ensures.0, sym c.deref.ensures.value ∙ c.top-frame.ensures.1))

pub token-requires-clause-room : goal.token-requires-clause-room
token-requires-clause-room g c =
    (token_asks (g.L.Linking.view c.args.symbol.now) c.args.symbol.now c.args.rows.now (waiting (c.requires.0 + 1))
    c.args.language.now c.args.next c.args.frames.now.items c.top-frame.result.now c.args.parts.now.items
    (slice_index_or c.args.rows.now c.args.next (record { rule = 0; after = 0; from = 0; to = 0; end = 0 }))
    (record { rule = 0; after = 0; from = 0; to = 0; end = 0 }) (g.met.L.Linking.laws c.args.symbol.now)
    (c.requires.1 c.top-frame.result.now (c.top-frame.ensures.0, sym c.deref.ensures.value ∙ c.top-frame.ensures.1)) refl
    c.if-row.true).room

pub token-requires-clause-open : goal.token-requires-clause-open
token-requires-clause-open g c =
    (token_asks (g.L.Linking.view c.args.symbol.now) c.args.symbol.now c.args.rows.now (waiting (c.requires.0 + 1))
    c.args.language.now c.args.next c.args.frames.now.items c.top-frame.result.now c.args.parts.now.items
    (slice_index_or c.args.rows.now c.args.next (record { rule = 0; after = 0; from = 0; to = 0; end = 0 }))
    (record { rule = 0; after = 0; from = 0; to = 0; end = 0 }) (g.met.L.Linking.laws c.args.symbol.now)
    (c.requires.1 c.top-frame.result.now (c.top-frame.ensures.0, sym c.deref.ensures.value ∙ c.top-frame.ensures.1)) refl
    c.if-row.true).stands

pub token-requires-clause-from : goal.token-requires-clause-from
token-requires-clause-from g c =
    (token_asks (g.L.Linking.view c.args.symbol.now) c.args.symbol.now c.args.rows.now (waiting (c.requires.0 + 1))
    c.args.language.now c.args.next c.args.frames.now.items c.top-frame.result.now c.args.parts.now.items
    (slice_index_or c.args.rows.now c.args.next (record { rule = 0; after = 0; from = 0; to = 0; end = 0 }))
    (record { rule = 0; after = 0; from = 0; to = 0; end = 0 }) (g.met.L.Linking.laws c.args.symbol.now)
    (c.requires.1 c.top-frame.result.now (c.top-frame.ensures.0, sym c.deref.ensures.value ∙ c.top-frame.ensures.1)) refl
    c.if-row.true).from

pub token-requires-clause-to : goal.token-requires-clause-to
token-requires-clause-to g c =
    (token_asks (g.L.Linking.view c.args.symbol.now) c.args.symbol.now c.args.rows.now (waiting (c.requires.0 + 1))
    c.args.language.now c.args.next c.args.frames.now.items c.top-frame.result.now c.args.parts.now.items
    (slice_index_or c.args.rows.now c.args.next (record { rule = 0; after = 0; from = 0; to = 0; end = 0 }))
    (record { rule = 0; after = 0; from = 0; to = 0; end = 0 }) (g.met.L.Linking.laws c.args.symbol.now)
    (c.requires.1 c.top-frame.result.now (c.top-frame.ensures.0, sym c.deref.ensures.value ∙ c.top-frame.ensures.1)) refl
    c.if-row.true).to

pub returns-in_err-token-clause-follows : goal.returns-in_err-token-clause-follows
returns-in_err-token-clause-follows g c whole left follows =
    let p = err_from_is_err_and c.from_residual.result c.from_residual.ensures.1 in
    rw (p.1, p.2)
    (token_taken (g.L.Linking.view c.args.symbol.now) c.args.symbol.now c.args.rows.now whole (waiting (left + 1))
    c.args.language.now c.token.new.self c.args.next c.args.frames.now.items c.top-frame.result.now
    c.args.parts.now.items c.token.new.parts.items (slice_index_or c.args.rows.now c.args.next
    (record { rule = 0; after = 0; from = 0; to = 0; end = 0 })) (record { rule = 0; after = 0; from = 0; to = 0; end = 0 })
    (Err c.in_err-token.field-0.0) (g.met.L.Linking.laws c.args.symbol.now)
    (c.top-frame.ensures.0, sym c.deref.ensures.value ∙ c.top-frame.ensures.1)
    follows (c.requires.1 c.top-frame.result.now (
      c.top-frame.ensures.0,
      sym c.deref.ensures.value ∙
          c.top-frame.ensures.1,
    )).open_still refl c.if-row.true c.in_err-token.ensures.takes c.in_err-token.ensures.adds
    c.in_err-token.ensures.pays left refl)

pub returns-then-row-clause-follows : goal.returns-then-row-clause-follows
returns-then-row-clause-follows g c whole left follows =
    token_taken (g.L.Linking.view c.args.symbol.now) c.args.symbol.now c.args.rows.now whole (waiting (left + 1))
    c.args.language.now c.token.new.self c.args.next c.args.frames.now.items c.top-frame.result.now
    c.args.parts.now.items c.token.new.parts.items (slice_index_or c.args.rows.now c.args.next
    (record { rule = 0; after = 0; from = 0; to = 0; end = 0 })) (record { rule = 0; after = 0; from = 0; to = 0; end = 0 }) (Ok tt)
    (g.met.L.Linking.laws c.args.symbol.now) (c.top-frame.ensures.0, sym c.deref.ensures.value ∙ c.top-frame.ensures.1)
    follows (c.requires.1 c.top-frame.result.now (
      c.top-frame.ensures.0,
      sym c.deref.ensures.value ∙
          c.top-frame.ensures.1,
    )).open_still refl c.if-row.true c.in_ok-token.ensures.takes c.in_ok-token.ensures.adds
    c.in_ok-token.ensures.pays left refl

pub enter-requires-clause-room : goal.enter-requires-clause-room
enter-requires-clause-room g c =
    (rule_asks (g.L.Linking.view c.args.symbol.now) c.args.symbol.now c.args.rows.now (waiting (c.requires.0 + 1))
    c.args.language.now c.args.next c.args.frames.now.items c.top-frame.result.now c.args.parts.now.items
    (slice_index_or c.args.rows.now c.args.next (record { rule = 0; after = 0; from = 0; to = 0; end = 0 }))
    (record { rule = 0; after = 0; from = 0; to = 0; end = 0 }) (g.met.L.Linking.laws c.args.symbol.now)
    (c.requires.1 c.top-frame.result.now (c.top-frame.ensures.0, sym c.deref.ensures.value ∙ c.top-frame.ensures.1)) refl
    c.if-row.false).room

pub enter-requires-clause-open : goal.enter-requires-clause-open
enter-requires-clause-open g c =
    (rule_asks (g.L.Linking.view c.args.symbol.now) c.args.symbol.now c.args.rows.now (waiting (c.requires.0 + 1))
    c.args.language.now c.args.next c.args.frames.now.items c.top-frame.result.now c.args.parts.now.items
    (slice_index_or c.args.rows.now c.args.next (record { rule = 0; after = 0; from = 0; to = 0; end = 0 }))
    (record { rule = 0; after = 0; from = 0; to = 0; end = 0 }) (g.met.L.Linking.laws c.args.symbol.now)
    (c.requires.1 c.top-frame.result.now (c.top-frame.ensures.0, sym c.deref.ensures.value ∙ c.top-frame.ensures.1)) refl
    c.if-row.false).stands

pub enter-requires-clause-place : goal.enter-requires-clause-place
enter-requires-clause-place g c =
    (rule_asks (g.L.Linking.view c.args.symbol.now) c.args.symbol.now c.args.rows.now (waiting (c.requires.0 + 1))
    c.args.language.now c.args.next c.args.frames.now.items c.top-frame.result.now c.args.parts.now.items
    (slice_index_or c.args.rows.now c.args.next (record { rule = 0; after = 0; from = 0; to = 0; end = 0 }))
    (record { rule = 0; after = 0; from = 0; to = 0; end = 0 }) (g.met.L.Linking.laws c.args.symbol.now)
    (c.requires.1 c.top-frame.result.now (c.top-frame.ensures.0, sym c.deref.ensures.value ∙ c.top-frame.ensures.1)) refl
    c.if-row.false).place

pub enter-requires-clause-end : goal.enter-requires-clause-end
enter-requires-clause-end g c =
    (rule_asks (g.L.Linking.view c.args.symbol.now) c.args.symbol.now c.args.rows.now (waiting (c.requires.0 + 1))
    c.args.language.now c.args.next c.args.frames.now.items c.top-frame.result.now c.args.parts.now.items
    (slice_index_or c.args.rows.now c.args.next (record { rule = 0; after = 0; from = 0; to = 0; end = 0 }))
    (record { rule = 0; after = 0; from = 0; to = 0; end = 0 }) (g.met.L.Linking.laws c.args.symbol.now)
    (c.requires.1 c.top-frame.result.now (c.top-frame.ensures.0, sym c.deref.ensures.value ∙ c.top-frame.ensures.1)) refl
    c.if-row.false).end

pub returns-in_err-kept-clause-follows : goal.returns-in_err-kept-clause-follows
returns-in_err-kept-clause-follows g c whole left follows =
    let p = err_from_is_err_and c.from_residual-in_err-kept.result c.from_residual-in_err-kept.ensures.1 in
    rw (p.1, p.2)
    (rule_refused (g.L.Linking.view c.args.symbol.now) c.args.symbol.now c.args.rows.now whole (waiting (left + 1))
    c.args.language.now c.enter.new.self c.args.next c.args.frames.now.items c.top-frame.result.now
    c.args.parts.now.items c.enter.new.parts.items (slice_index_or c.args.rows.now c.args.next
    (record { rule = 0; after = 0; from = 0; to = 0; end = 0 })) (record { rule = 0; after = 0; from = 0; to = 0; end = 0 }) c.in_err-kept.field-0.0
    (g.met.L.Linking.laws c.args.symbol.now) (c.top-frame.ensures.0, sym c.deref.ensures.value ∙ c.top-frame.ensures.1)
    follows (c.requires.1 c.top-frame.result.now (
      c.top-frame.ensures.0,
      sym c.deref.ensures.value ∙
          c.top-frame.ensures.1,
    )).open_still refl c.if-row.false c.in_err-kept.ensures.opens)

pub returns-in_err-kept-clause-more : goal.returns-in_err-kept-clause-more
returns-in_err-kept-clause-more g c =
    more_rows (g.L.Linking.view c.args.symbol.now) c.args.symbol.now c.args.rows.now (waiting (c.requires.0 + 1))
    c.args.language.now c.args.next c.args.frames.now.items c.top-frame.result.now c.args.parts.now.items
    (record { rule = 0; after = 0; from = 0; to = 0; end = 0 }) (g.met.L.Linking.laws c.args.symbol.now)
    (c.requires.1 c.top-frame.result.now (c.top-frame.ensures.0, sym c.deref.ensures.value ∙ c.top-frame.ensures.1))

pub close_lone_token-requires : goal.close_lone_token-requires
close_lone_token-requires g c =
    record {
      whole = (c.requires.1 c.top-frame.result.now (c.top-frame.ensures.0, sym c.deref.ensures.value ∙ c.top-frame.ensures.1)).whole;
      steps = c.requires.0;
      most = _;
      follows = rule_begun (g.L.Linking.view c.args.symbol.now) c.args.symbol.now c.args.rows.now
          (c.requires.1 c.top-frame.result.now (c.top-frame.ensures.0, sym c.deref.ensures.value ∙ c.top-frame.ensures.1)).whole
          c.requires.0 c.args.language.now c.enter.new.self c.args.next c.args.frames.now.items c.top-frame.result.now
          (record {
            rule = (slice_index_or c.args.rows.now c.args.next (record { rule = 0; after = 0; from = 0; to = 0; end = 0 })).rule;
            place = (slice_index_or c.args.rows.now c.args.next (record { rule = 0; after = 0; from = 0; to = 0; end = 0 })).from;
            end =
                (slice_index_or c.args.rows.now c.args.next (record { rule = 0; after = 0; from = 0; to = 0; end = 0 })).end;
            base = c.len.result;
            kept = c.in_ok-kept.kept;
          })
          c.args.parts.now.items c.enter.new.parts.items (slice_index_or c.args.rows.now c.args.next
          (record { rule = 0; after = 0; from = 0; to = 0; end = 0 })) (record { rule = 0; after = 0; from = 0; to = 0; end = 0 })
          (g.met.L.Linking.laws c.args.symbol.now) (c.top-frame.ensures.0, sym c.deref.ensures.value ∙ c.top-frame.ensures.1)
          (c.requires.1 c.top-frame.result.now (c.top-frame.ensures.0, sym c.deref.ensures.value ∙ c.top-frame.ensures.1)).follows
          (c.requires.1 c.top-frame.result.now (
            c.top-frame.ensures.0,
            sym c.deref.ensures.value ∙
                c.top-frame.ensures.1,
          )).open_still refl c.if-row.false c.in_ok-kept.ensures.opens c.in_ok-kept.ensures.adds
          c.in_ok-kept.ensures.pays
          refl refl refl (omega (arith, c.len.ensures, c.enter.new.parts.ok.0));
      fits = (c.requires.1 c.top-frame.result.now (c.top-frame.ensures.0, sym c.deref.ensures.value ∙ c.top-frame.ensures.1)).fits;
    }

pub returns-clause-follows : goal.returns-clause-follows
returns-clause-follows g c whole left follows =
    c.close_lone_token.ensures.follows whole left _
    (rule_begun (g.L.Linking.view c.args.symbol.now) c.args.symbol.now c.args.rows.now whole left c.args.language.now
    c.enter.new.self c.args.next c.args.frames.now.items c.top-frame.result.now
    (record {
      rule = (slice_index_or c.args.rows.now c.args.next (record { rule = 0; after = 0; from = 0; to = 0; end = 0 })).rule;
      place =
          (slice_index_or c.args.rows.now c.args.next (record { rule = 0; after = 0; from = 0; to = 0; end = 0 })).from;
      end =
          (slice_index_or c.args.rows.now c.args.next (record { rule = 0; after = 0; from = 0; to = 0; end = 0 })).end;
      base = c.len.result;
      kept =
          c.in_ok-kept.kept;
    })
    c.args.parts.now.items c.enter.new.parts.items (slice_index_or c.args.rows.now c.args.next
    (record { rule = 0; after = 0; from = 0; to = 0; end = 0 })) (record { rule = 0; after = 0; from = 0; to = 0; end = 0 })
    (g.met.L.Linking.laws c.args.symbol.now) (c.top-frame.ensures.0, sym c.deref.ensures.value ∙ c.top-frame.ensures.1)
    follows (c.requires.1 c.top-frame.result.now (
      c.top-frame.ensures.0,
      sym c.deref.ensures.value ∙
          c.top-frame.ensures.1,
    )).open_still refl c.if-row.false c.in_ok-kept.ensures.opens c.in_ok-kept.ensures.adds
    c.in_ok-kept.ensures.pays
    refl refl refl (omega (arith, c.len.ensures, c.enter.new.parts.ok.0)))

pub returns-clause-more : goal.returns-clause-more
returns-clause-more g c =
    more_rows (g.L.Linking.view c.args.symbol.now) c.args.symbol.now c.args.rows.now (waiting (c.requires.0 + 1))
    c.args.language.now c.args.next c.args.frames.now.items c.top-frame.result.now c.args.parts.now.items
    (record { rule = 0; after = 0; from = 0; to = 0; end = 0 }) (g.met.L.Linking.laws c.args.symbol.now)
    (c.requires.1 c.top-frame.result.now (c.top-frame.ensures.0, sym c.deref.ensures.value ∙ c.top-frame.ensures.1))

pub returns-in_err-token-clause-few : goal.returns-in_err-token-clause-few
returns-in_err-token-clause-few g c = few_two (g.L.Linking.view c.args.symbol.now) c.args.language.now c.token.new.self
    c.top-frame.result.now c.args.parts.now.items (g.met.L.Linking.laws c.args.symbol.now) c.in_err-token.ensures.few

pub returns-then-row-clause-few : goal.returns-then-row-clause-few
returns-then-row-clause-few g c = added_two (g.L.Linking.view c.args.symbol.now) c.args.language.now c.token.new.self
    c.top-frame.result.now c.args.parts.now.items _ (g.met.L.Linking.laws c.args.symbol.now) c.in_ok-token.ensures.adds

pub returns-in_err-kept-clause-few : goal.returns-in_err-kept-clause-few
returns-in_err-kept-clause-few g c = few_two (g.L.Linking.view c.args.symbol.now) c.args.language.now c.enter.new.self
    c.top-frame.result.now c.args.parts.now.items (g.met.L.Linking.laws c.args.symbol.now) c.in_err-kept.ensures.few

pub returns-clause-few : goal.returns-clause-few
returns-clause-few g c =
    c.close_lone_token.ensures.few (c.requires.1 c.top-frame.result.now
    (c.top-frame.ensures.0, sym c.deref.ensures.value ∙ c.top-frame.ensures.1)).whole c.requires.0 _
    (rule_begun (g.L.Linking.view c.args.symbol.now) c.args.symbol.now c.args.rows.now
    (c.requires.1 c.top-frame.result.now (c.top-frame.ensures.0, sym c.deref.ensures.value ∙ c.top-frame.ensures.1)).whole
    c.requires.0 c.args.language.now c.enter.new.self c.args.next c.args.frames.now.items c.top-frame.result.now
    (record {
      rule = (slice_index_or c.args.rows.now c.args.next (record { rule = 0; after = 0; from = 0; to = 0; end = 0 })).rule;
      place =
          (slice_index_or c.args.rows.now c.args.next (record { rule = 0; after = 0; from = 0; to = 0; end = 0 })).from;
      end =
          (slice_index_or c.args.rows.now c.args.next (record { rule = 0; after = 0; from = 0; to = 0; end = 0 })).end;
      base = c.len.result;
      kept =
          c.in_ok-kept.kept;
    })
    c.args.parts.now.items c.enter.new.parts.items (slice_index_or c.args.rows.now c.args.next
    (record { rule = 0; after = 0; from = 0; to = 0; end = 0 })) (record { rule = 0; after = 0; from = 0; to = 0; end = 0 })
    (g.met.L.Linking.laws c.args.symbol.now) (c.top-frame.ensures.0, sym c.deref.ensures.value ∙ c.top-frame.ensures.1)
    (c.requires.1 c.top-frame.result.now (c.top-frame.ensures.0, sym c.deref.ensures.value ∙ c.top-frame.ensures.1)).follows
    (c.requires.1 c.top-frame.result.now (c.top-frame.ensures.0, sym c.deref.ensures.value ∙ c.top-frame.ensures.1)).open_still
    refl c.if-row.false c.in_ok-kept.ensures.opens c.in_ok-kept.ensures.adds c.in_ok-kept.ensures.pays
    refl refl refl (omega (arith, c.len.ensures, c.enter.new.parts.ok.0)))

pub token-requires-clause-base : goal.token-requires-clause-base
token-requires-clause-base g c =
    (token_asks (g.L.Linking.view c.args.symbol.now) c.args.symbol.now c.args.rows.now (waiting (c.requires.0 + 1))
    c.args.language.now c.args.next c.args.frames.now.items c.top-frame.result.now c.args.parts.now.items
    (slice_index_or c.args.rows.now c.args.next (record { rule = 0; after = 0; from = 0; to = 0; end = 0 }))
    (record { rule = 0; after = 0; from = 0; to = 0; end = 0 }) (g.met.L.Linking.laws c.args.symbol.now)
    (c.requires.1 c.top-frame.result.now (c.top-frame.ensures.0, sym c.deref.ensures.value ∙ c.top-frame.ensures.1)) refl
    c.if-row.true).base

pub enter-requires-clause-base : goal.enter-requires-clause-base
enter-requires-clause-base g c =
    (rule_asks (g.L.Linking.view c.args.symbol.now) c.args.symbol.now c.args.rows.now (waiting (c.requires.0 + 1))
    c.args.language.now c.args.next c.args.frames.now.items c.top-frame.result.now c.args.parts.now.items
    (slice_index_or c.args.rows.now c.args.next (record { rule = 0; after = 0; from = 0; to = 0; end = 0 }))
    (record { rule = 0; after = 0; from = 0; to = 0; end = 0 }) (g.met.L.Linking.laws c.args.symbol.now)
    (c.requires.1 c.top-frame.result.now (c.top-frame.ensures.0, sym c.deref.ensures.value ∙ c.top-frame.ensures.1)) refl
    c.if-row.false).base

pub overflow_add-result : goal.overflow_add-result
overflow_add-result g c =
    omega (
      arith,
      more_rows (g.L.Linking.view c.args.symbol.now) c.args.symbol.now c.args.rows.now (waiting (c.requires.0 + 1))
          c.args.language.now c.args.next c.args.frames.now.items c.top-frame.result.now c.args.parts.now.items
          (record { rule = 0; after = 0; from = 0; to = 0; end = 0 }) (g.met.L.Linking.laws c.args.symbol.now)
          (c.requires.1 c.top-frame.result.now (c.top-frame.ensures.0, sym c.deref.ensures.value ∙ c.top-frame.ensures.1)),
      (c.requires.1 c.top-frame.result.now (c.top-frame.ensures.0, sym c.deref.ensures.value ∙ c.top-frame.ensures.1)).fits.rows,
      (c.requires.1 c.top-frame.result.now (c.top-frame.ensures.0, sym c.deref.ensures.value ∙ c.top-frame.ensures.1)).fits.symbol,
    )

pub overflow_add-next : goal.overflow_add-next
overflow_add-next g c =
    omega (
      arith,
      more_rows (g.L.Linking.view c.args.symbol.now) c.args.symbol.now c.args.rows.now (waiting (c.requires.0 + 1))
          c.args.language.now c.args.next c.args.frames.now.items c.top-frame.result.now c.args.parts.now.items
          (record { rule = 0; after = 0; from = 0; to = 0; end = 0 }) (g.met.L.Linking.laws c.args.symbol.now)
          (c.requires.1 c.top-frame.result.now (c.top-frame.ensures.0, sym c.deref.ensures.value ∙ c.top-frame.ensures.1)),
      (c.requires.1 c.top-frame.result.now (c.top-frame.ensures.0, sym c.deref.ensures.value ∙ c.top-frame.ensures.1)).fits.rows,
      (c.requires.1 c.top-frame.result.now (c.top-frame.ensures.0, sym c.deref.ensures.value ∙ c.top-frame.ensures.1)).fits.symbol,
    )

pub returns-clause-keeps : goal.returns-clause-keeps
returns-clause-keeps g c =
    let view = g.L.Linking.view c.args.symbol.now in
    let before = all_lists view c.args.language.now c.args.frames.now c.args.parts.now in
    let after_enter = all_lists view c.enter.new.self c.args.frames.now c.enter.new.parts in
    let after_settle = all_lists view c.close_lone_token.new.language c.close_lone_token.new.frames c.close_lone_token.new.parts in
    room_then before after_enter after_settle
    (omega arith, c.in_ok-kept.ensures.keeps) c.close_lone_token.ensures.keeps

pub returns-clause-full : goal.returns-clause-full
returns-clause-full g c =
    let view = g.L.Linking.view c.args.symbol.now in
    let before = all_lists view c.args.language.now c.args.frames.now c.args.parts.now in
    let after_enter = all_lists view c.enter.new.self c.args.frames.now c.enter.new.parts in
    let after_settle = all_lists view c.close_lone_token.new.language c.close_lone_token.new.frames c.close_lone_token.new.parts in
    only_then (TokenTakesMemory view c.args.symbol.now) before after_enter after_settle c.close_lone_token.result
    (omega arith, c.in_ok-kept.ensures.keeps) c.close_lone_token.ensures.full

pub returns-in_err-token-clause-full : goal.returns-in_err-token-clause-full
returns-in_err-token-clause-full g c =
    let view = g.L.Linking.view c.args.symbol.now in
    let before = all_lists view c.args.language.now c.args.frames.now c.args.parts.now in
    let after_token = all_lists view c.token.new.self c.args.frames.now c.token.new.parts in
    let own_before = lists_with view c.args.language.now c.args.parts.now in
    let own_after_token = lists_with view c.token.new.self c.token.new.parts in
    let p = err_from_is_err_and c.from_residual.result c.from_residual.ensures.1 in
    rw (p.1, p.2)
    (only_refused _ (TokenTakesMemory view c.args.symbol.now) before before after_token c.in_err-token.field-0.0
    (token_there view c.args.symbol.now c.args.rows.now (waiting (c.requires.0 + 1)) c.args.language.now c.args.next
    c.args.frames.now.items c.top-frame.result.now c.args.parts.now.items
    (slice_index_or c.args.rows.now c.args.next (record { rule = 0; after = 0; from = 0; to = 0; end = 0 }))
    (record { rule = 0; after = 0; from = 0; to = 0; end = 0 }) (g.met.L.Linking.laws c.args.symbol.now)
    (c.requires.1 c.top-frame.result.now (c.top-frame.ensures.0, sym c.deref.ensures.value ∙ c.top-frame.ensures.1)) refl c.if-row.true)
    (room_same before)
    (list_more _ (one_by_one c.args.frames.now) (one_by_one c.args.frames.now) own_before own_after_token
    (Err c.in_err-token.field-0.0) c.in_err-token.ensures.full))

pub returns-in_err-kept-clause-full : goal.returns-in_err-kept-clause-full
returns-in_err-kept-clause-full g c =
    let view = g.L.Linking.view c.args.symbol.now in
    let before = all_lists view c.args.language.now c.args.frames.now c.args.parts.now in
    let after_enter = all_lists view c.enter.new.self c.args.frames.now c.enter.new.parts in
    let own_before = lists_with view c.args.language.now c.args.parts.now in
    let own_after_enter = lists_with view c.enter.new.self c.enter.new.parts in
    let p = err_from_is_err_and c.from_residual-in_err-kept.result c.from_residual-in_err-kept.ensures.1 in
    rw (p.1, p.2)
    (only_refused ⊥ (TokenTakesMemory view c.args.symbol.now) before before after_enter c.in_err-kept.field-0.0
    (λ none. absurd none) (room_same before)
    (list_more ⊥ (one_by_one c.args.frames.now) (one_by_one c.args.frames.now) own_before own_after_enter
    (Err c.in_err-kept.field-0.0) c.in_err-kept.ensures.full))
