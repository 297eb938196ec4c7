use Rattle.sym_link.proofs.Basics.{refl, arith, slice_index_or, meaning_of, TokenTakesMemory, all_lists}
use Rattle.sym_link.proofs.Driving.{root_asks, root_left, root_begun}
use Rattle.sym_link.proofs.Room.{room_then, only_then}
use Rattle.sym_link.proofs.driver.begin.Goals as goal

pub root-requires-clause-end : goal.root-requires-clause-end
root-requires-clause-end g c =
    (root_asks (g.L.Linking.view c.args.symbol.now) c.args.symbol.now c.args.rows.now c.args.language.now c.args.frames.now.items c.args.parts.now.items (slice_index_or c.args.rows.now 0 (record { rule = 0; after = 0; from = 0; to = 0; end = 0 })) (record { rule = 0; after = 0; from = 0; to = 0; end = 0 }) (g.met.L.Linking.laws c.args.symbol.now) c.requires refl).end

pub close_lone_token-requires : goal.close_lone_token-requires
close_lone_token-requires g c =
    record {
      whole = meaning_of (g.L.Linking.view c.args.symbol.now) c.requires.tree;
      steps = (root_left (g.L.Linking.view c.args.symbol.now) c.args.symbol.now c.args.rows.now c.requires.tree (g.met.L.Linking.laws c.args.symbol.now) c.requires.is_shape).0;
      most = _;
      follows = root_begun (g.L.Linking.view c.args.symbol.now) c.args.symbol.now c.args.rows.now c.requires.tree c.args.language.now c.root.new.self c.args.frames.now.items
          (record { rule = (slice_index_or c.args.rows.now 0 (record { rule = 0; after = 0; from = 0; to = 0; end = 0 })).rule; place = (slice_index_or c.args.rows.now 0 (record { rule = 0; after = 0; from = 0; to = 0; end = 0 })).from; end = (slice_index_or c.args.rows.now 0 (record { rule = 0; after = 0; from = 0; to = 0; end = 0 })).end; base = 0; kept = c.in_ok-kept.kept })
          c.args.parts.now.items (slice_index_or c.args.rows.now 0 (record { rule = 0; after = 0; from = 0; to = 0; end = 0 })) (record { rule = 0; after = 0; from = 0; to = 0; end = 0 }) (g.met.L.Linking.laws c.args.symbol.now) c.requires.is_shape c.requires.fits.rows c.requires.fresh refl
          c.in_ok-kept.ensures.opens c.in_ok-kept.ensures.adds c.in_ok-kept.ensures.pays refl refl refl refl _
          (root_left (g.L.Linking.view c.args.symbol.now) c.args.symbol.now c.args.rows.now c.requires.tree (g.met.L.Linking.laws c.args.symbol.now) c.requires.is_shape).1;
      fits = c.requires.fits;
    }

pub returns-clause-follows : goal.returns-clause-follows
returns-clause-follows g c tree left is steps =
    c.close_lone_token.ensures.follows (meaning_of (g.L.Linking.view c.args.symbol.now) tree) left _
    (root_begun (g.L.Linking.view c.args.symbol.now) c.args.symbol.now c.args.rows.now tree c.args.language.now c.root.new.self c.args.frames.now.items
    (record { rule = (slice_index_or c.args.rows.now 0 (record { rule = 0; after = 0; from = 0; to = 0; end = 0 })).rule; place = (slice_index_or c.args.rows.now 0 (record { rule = 0; after = 0; from = 0; to = 0; end = 0 })).from; end = (slice_index_or c.args.rows.now 0 (record { rule = 0; after = 0; from = 0; to = 0; end = 0 })).end; base = 0; kept = c.in_ok-kept.kept })
    c.args.parts.now.items (slice_index_or c.args.rows.now 0 (record { rule = 0; after = 0; from = 0; to = 0; end = 0 })) (record { rule = 0; after = 0; from = 0; to = 0; end = 0 }) (g.met.L.Linking.laws c.args.symbol.now) is c.requires.fits.rows c.requires.fresh refl
    c.in_ok-kept.ensures.opens c.in_ok-kept.ensures.adds c.in_ok-kept.ensures.pays refl refl refl refl left steps)

pub returns-clause-few : goal.returns-clause-few
returns-clause-few g c =
    c.close_lone_token.ensures.few (meaning_of (g.L.Linking.view c.args.symbol.now) c.requires.tree) (root_left (g.L.Linking.view c.args.symbol.now) c.args.symbol.now c.args.rows.now c.requires.tree (g.met.L.Linking.laws c.args.symbol.now) c.requires.is_shape).0 _
    (root_begun (g.L.Linking.view c.args.symbol.now) c.args.symbol.now c.args.rows.now c.requires.tree c.args.language.now c.root.new.self c.args.frames.now.items
    (record { rule = (slice_index_or c.args.rows.now 0 (record { rule = 0; after = 0; from = 0; to = 0; end = 0 })).rule; place = (slice_index_or c.args.rows.now 0 (record { rule = 0; after = 0; from = 0; to = 0; end = 0 })).from; end = (slice_index_or c.args.rows.now 0 (record { rule = 0; after = 0; from = 0; to = 0; end = 0 })).end; base = 0; kept = c.in_ok-kept.kept })
    c.args.parts.now.items (slice_index_or c.args.rows.now 0 (record { rule = 0; after = 0; from = 0; to = 0; end = 0 })) (record { rule = 0; after = 0; from = 0; to = 0; end = 0 }) (g.met.L.Linking.laws c.args.symbol.now) c.requires.is_shape c.requires.fits.rows c.requires.fresh refl
    c.in_ok-kept.ensures.opens c.in_ok-kept.ensures.adds c.in_ok-kept.ensures.pays refl refl refl refl _
    (root_left (g.L.Linking.view c.args.symbol.now) c.args.symbol.now c.args.rows.now c.requires.tree (g.met.L.Linking.laws c.args.symbol.now) c.requires.is_shape).1)

pub returns-clause-keeps : goal.returns-clause-keeps
returns-clause-keeps g c =
    let view = g.L.Linking.view c.args.symbol.now in
    let before = all_lists view c.args.language.now c.args.frames.now c.args.parts.now in
    let after_root = all_lists view c.root.new.self c.args.frames.now c.args.parts.now in
    let after_settle = all_lists view c.close_lone_token.new.language c.close_lone_token.new.frames c.close_lone_token.new.parts in
    room_then before after_root after_settle
    (omega arith, (omega arith, c.in_ok-kept.ensures.keeps)) c.close_lone_token.ensures.keeps

pub returns-clause-full : goal.returns-clause-full
returns-clause-full g c =
    let view = g.L.Linking.view c.args.symbol.now in
    let before = all_lists view c.args.language.now c.args.frames.now c.args.parts.now in
    let after_root = all_lists view c.root.new.self c.args.frames.now c.args.parts.now in
    let after_settle = all_lists view c.close_lone_token.new.language c.close_lone_token.new.frames c.close_lone_token.new.parts in
    only_then (TokenTakesMemory view c.args.symbol.now) before after_root after_settle c.close_lone_token.result
    (omega arith, (omega arith, c.in_ok-kept.ensures.keeps)) c.close_lone_token.ensures.full
