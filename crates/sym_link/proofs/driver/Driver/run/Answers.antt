use Rattle.sym_link.proofs.Basics.{◌∙◌, ap, Ok, None, arith, TokenTakesMemory, all_lists}
use Rattle.sym_link.proofs.Driving.{driving_none, driving_same, step_moved, step_smaller, step_done, step_refused, none_open, none_kept, driving_on}
use Rattle.sym_link.proofs.Room.{room_same, room_then, only_refused}
use Rattle.sym_link.proofs.driver.Driver.run.Goals as goal

pub moves-smaller : goal.moves-smaller
moves-smaller g c =
    let some = c.moves.invariant.1 in
    step_smaller (g.L.Linking.view c.args.symbol.now) c.args.symbol.now c.args.rows.now some.0 c.moves.steps c.advance-moved.new.language c.moves.next c.in-Some-behind.place
    c.moves.self.frames.items c.advance-moved.new.frames.items c.advance-moved.new.parts.items c.advance-moved.result c.in-Ok.behind c.in-Ok.is c.in-Some-behind.is
    some.2.2 (c.advance-moved.ensures.moves some.0 c.moves.steps some.1 some.2.0) c.advance-moved.ensures.counts

pub moves-preserved : goal.moves-preserved
moves-preserved g c =
    let some = c.moves.invariant.1 in (
      c.moves.invariant.0,
      (
        some.0,
        some.1,
        step_moved (g.L.Linking.view c.args.symbol.now) c.args.symbol.now c.args.rows.now some.0 c.advance-moved.new.language c.moves.steps None c.moves.next c.in-Some-behind.place
            c.moves.self.frames.items c.advance-moved.new.frames.items c.advance-moved.new.parts.items c.advance-moved.result c.in-Ok.behind c.in-Ok.is c.in-Some-behind.is
            none_open some.2.1 some.2.3 (c.advance-moved.ensures.moves some.0 c.moves.steps some.1 some.2.0) c.advance-moved.ensures.counts,
      ),
      λ tree is driving. let on = c.moves.invariant.2 tree is driving in
          step_moved (g.L.Linking.view c.args.symbol.now) c.args.symbol.now c.args.rows.now tree c.advance-moved.new.language c.moves.steps None c.moves.next c.in-Some-behind.place
          c.moves.self.frames.items c.advance-moved.new.frames.items c.advance-moved.new.parts.items c.advance-moved.result c.in-Ok.behind c.in-Ok.is c.in-Some-behind.is
          none_open on.1 on.3 (c.advance-moved.ensures.moves tree c.moves.steps is on.0) c.advance-moved.ensures.counts,
      omega (arith, c.moves.invariant.3),
      omega (arith, c.moves.invariant.4, c.advance-moved.ensures.few),
      room_then (all_lists (g.L.Linking.view c.args.symbol.now) c.args.language.now c.args.self.now.frames c.args.self.now.parts) (all_lists (g.L.Linking.view c.args.symbol.now) c.moves.language c.moves.self.frames c.moves.self.parts) (all_lists (g.L.Linking.view c.args.symbol.now) c.advance-moved.new.language c.advance-moved.new.frames c.advance-moved.new.parts) c.moves.invariant.5 c.advance-moved.ensures.keeps,
    )

pub returns-in-None-clause-driving : goal.returns-in-None-clause-driving
returns-in-None-clause-driving g c tree is driving =
    let same = c.advance-moved.ensures.none (c.in-Ok.is ∙ ap (λ o. Ok o) c.in-None.is) in
    driving_none (g.L.Linking.view c.args.symbol.now) c.args.symbol.now c.args.rows.now tree c.advance-moved.new.language c.moves.steps c.moves.self.refused c.moves.next
    c.advance-moved.new.frames.items c.advance-moved.new.parts.items c.moves.invariant.0
    (driving_same (g.L.Linking.view c.args.symbol.now) c.args.symbol.now c.args.rows.now tree c.moves.language c.advance-moved.new.language c.moves.steps c.moves.next
    c.moves.self.frames.items c.advance-moved.new.frames.items c.moves.self.parts.items c.advance-moved.new.parts.items
    same.2 same.3 same.4 (c.moves.invariant.2 tree is driving))

pub returns-in-None-clause-done : goal.returns-in-None-clause-done
returns-in-None-clause-done g c tree is driving =
    let on = c.moves.invariant.2 tree is driving in
    (step_done (g.L.Linking.view c.args.symbol.now) c.args.symbol.now c.args.rows.now tree c.moves.steps c.advance-moved.new.language c.advance-moved.new.frames.items c.advance-moved.new.parts.items
    c.advance-moved.result c.in-Ok.behind c.in-Ok.is c.in-None.is (c.advance-moved.ensures.moves tree c.moves.steps is on.0)).0

pub returns-in-None-clause-counted : goal.returns-in-None-clause-counted
returns-in-None-clause-counted g c tree is driving =
    let on = c.moves.invariant.2 tree is driving in
    (step_done (g.L.Linking.view c.args.symbol.now) c.args.symbol.now c.args.rows.now tree c.moves.steps c.advance-moved.new.language c.advance-moved.new.frames.items c.advance-moved.new.parts.items
    c.advance-moved.result c.in-Ok.behind c.in-Ok.is c.in-None.is (c.advance-moved.ensures.moves tree c.moves.steps is on.0)).1

pub returns-in-Err-clause-driving : goal.returns-in-Err-clause-driving
returns-in-Err-clause-driving g c tree is driving =
    let on = c.moves.invariant.2 tree is driving in
    rw (c.refuse.ensures.steps, c.refuse.ensures.refused)
    (step_refused (g.L.Linking.view c.args.symbol.now) c.args.symbol.now c.args.rows.now tree c.advance-moved.new.language c.moves.steps c.moves.next c.moves.self.frames.items
    c.advance-moved.new.frames.items c.advance-moved.new.parts.items c.advance-moved.result c.in-Err.refusal c.in-Err.is on.1 (c.advance-moved.ensures.moves tree c.moves.steps is on.0) c.advance-moved.ensures.counts)

pub returns-in-Some-clause-keeps : goal.returns-in-Some-clause-keeps
returns-in-Some-clause-keeps g c =
    let view = g.L.Linking.view c.args.symbol.now in
    let before = all_lists view c.args.language.now c.args.self.now.frames c.args.self.now.parts in
    room_same before

pub returns-in-None-clause-keeps : goal.returns-in-None-clause-keeps
returns-in-None-clause-keeps g c =
    let view = g.L.Linking.view c.args.symbol.now in
    let before = all_lists view c.args.language.now c.args.self.now.frames c.args.self.now.parts in
    let at_loop = all_lists view c.moves.language c.moves.self.frames c.moves.self.parts in
    let after_move = all_lists view c.advance-moved.new.language c.advance-moved.new.frames c.advance-moved.new.parts in
    room_then before at_loop after_move c.moves.invariant.5 c.advance-moved.ensures.keeps

pub returns-in-Err-clause-keeps : goal.returns-in-Err-clause-keeps
returns-in-Err-clause-keeps g c =
    let view = g.L.Linking.view c.args.symbol.now in
    let before = all_lists view c.args.language.now c.args.self.now.frames c.args.self.now.parts in
    let at_loop = all_lists view c.moves.language c.moves.self.frames c.moves.self.parts in
    let after_move = all_lists view c.advance-moved.new.language c.advance-moved.new.frames c.advance-moved.new.parts in
    rw (c.refuse.ensures.frames, c.refuse.ensures.parts)
    (room_then before at_loop after_move c.moves.invariant.5 c.advance-moved.ensures.keeps)

pub returns-in-Err-clause-full : goal.returns-in-Err-clause-full
returns-in-Err-clause-full g c none =
    let view = g.L.Linking.view c.args.symbol.now in
    let before = all_lists view c.args.language.now c.args.self.now.frames c.args.self.now.parts in
    let at_loop = all_lists view c.moves.language c.moves.self.frames c.moves.self.parts in
    let after_move = all_lists view c.advance-moved.new.language c.advance-moved.new.frames c.advance-moved.new.parts in
    rw (c.refuse.ensures.frames, c.refuse.ensures.parts)
    (only_refused (TokenTakesMemory view c.args.symbol.now) (TokenTakesMemory view c.args.symbol.now) before at_loop after_move c.in-Err.refusal (λ more. more) c.moves.invariant.5
    (λ is. c.advance-moved.ensures.full (c.in-Err.is ∙ is)))

pub moves-init : goal.moves-init
moves-init g c =
    let view = g.L.Linking.view c.args.symbol.now in
    let before = all_lists view c.args.language.now c.args.self.now.frames c.args.self.now.parts in
    let some = c.requires.driving in (
      none_kept c.args.self.now.refused c.in_default.not-Some,
      (some.0, some.1, driving_on view c.args.symbol.now c.args.rows.now some.0 c.args.language.now c.args.self.now.steps c.args.self.now.refused c.args.self.now.next c.args.self.now.frames.items c.args.self.now.parts.items c.in_default.not-Some some.2),
      λ tree is driving. driving_on view c.args.symbol.now c.args.rows.now tree c.args.language.now c.args.self.now.steps c.args.self.now.refused c.args.self.now.next c.args.self.now.frames.items c.args.self.now.parts.items c.in_default.not-Some driving,
      omega arith,
      omega arith,
      room_same before,
    )
