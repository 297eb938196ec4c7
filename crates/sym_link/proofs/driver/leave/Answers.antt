use Rattle.sym_link.proofs.Basics.{refl, ◌+◌, waiting}
use Rattle.sym_link.proofs.Driving.{closing_room, closing_open, closing_place, closing_base, closed, few_two}
use Rattle.sym_link.proofs.driver.leave.Goals as goal

pub close-requires-clause-room : goal.close-requires-clause-room
close-requires-clause-room g c =
    closing_room (g.L.Linking.view c.args.symbol.now) c.args.symbol.now c.args.language.now c.args.frame.now c.args.parts.now.items (g.met.L.Linking.laws c.args.symbol.now) c.requires

pub close-requires-clause-open : goal.close-requires-clause-open
close-requires-clause-open g c =
    closing_open (g.L.Linking.view c.args.symbol.now) c.args.symbol.now c.args.language.now c.args.frame.now c.args.parts.now.items c.requires

pub close-requires-clause-base : goal.close-requires-clause-base
close-requires-clause-base g c =
    closing_base (g.L.Linking.view c.args.symbol.now) c.args.symbol.now c.args.language.now c.args.frame.now c.args.parts.now.items c.requires

pub close-requires-clause-place : goal.close-requires-clause-place
close-requires-clause-place g c =
    closing_place (g.L.Linking.view c.args.symbol.now) c.args.symbol.now c.args.language.now c.args.frame.now c.args.parts.now.items (g.met.L.Linking.laws c.args.symbol.now) c.requires

pub returns : goal.returns
returns g c =
    record {
      follows = λ whole shape lower next left follows ends.
          closed (g.L.Linking.view c.args.symbol.now) c.args.symbol.now shape whole (waiting (left + 1)) c.args.language.now c.close.new.self next lower c.args.frame.now
          c.args.parts.now.items c.close.new.parts.items c.close.result (g.met.L.Linking.laws c.args.symbol.now) follows ends
          c.close.ensures.closes c.close.ensures.adds c.close.ensures.pays left refl;
      few = few_two (g.L.Linking.view c.args.symbol.now) c.args.language.now c.close.new.self c.args.frame.now c.args.parts.now.items (g.met.L.Linking.laws c.args.symbol.now) c.close.ensures.few;
      keeps = c.close.ensures.keeps;
      full = c.close.ensures.full;
    }
