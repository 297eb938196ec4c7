use Rattle.rust_v0.proofs.Basics.{◌≡◌, ◌≤◌, ◌+◌, ◌<◌, refl, sym, arith, length, drop, ◌∙◌, Ok, skipped_from, opens_tallied, v0_view, made_by, production_of, bound_behind, ground, ◌^◌, taken_dropped}
use Rattle.rust_v0.proofs.Reading.{v0_next}
use Rattle.rust_v0.proofs.Meanings.{goes_on_same}
use Rattle.rust_v0.proofs.Entering.{bound_agrees, bound_few, skipped_further}
use Rattle.rust_v0.proofs.language.RustNodesLinking.enter.Goals as goal

pub returns-clause-adds : goal.returns-clause-adds
returns-clause-adds c = (goes_on_same c.args.self.now c.args.self.now refl refl, omega arith)

pub returns-clause-opens : goal.returns-clause-opens
returns-clause-opens c = opens_tallied (v0_view c.args.symbol.now) made_by c.args.symbol.now c.args._rows.now c.args.self.now c.args.self.now c.args.frame.now c.args.parts.now.items c.args.parts.now.items
    c.args.row (Ok (record { bound = c.bound_behind-bound.result })) refl (λ around known from left state rule taken inner rest is left_is row_is after.
    let later : around.place ≤ skipped_from from left = omega (arith, is.stands.starts, skipped_further from left) in
    let fits : around.context + 1000 < 2 ^ 64 = omega (arith, is.kept.few, later, row_is.from, c.requires.place, c.requires.room.fits) in
    let g = ground c.args.symbol.now c.args.self.now.nodes in
    let agrees = bound_agrees g (production_of around.rule.number) around.context (drop c.args.frame.now.base c.args.parts.now.items) known is.parts fits in
    let bound : c.bound_behind-bound.result ≡ bound_behind (production_of around.rule.number) around.context known =
    (rw (c.deref.ensures.value, is.number, is.kept.is) at c.bound_behind-bound.ensures) ∙ agrees.0 in
    rw (v0_next c.args.symbol.now around known from left state) (
      _,
      refl,
      record {
        is = bound;
        few = bound_few c.args.symbol.now g around (drop c.args.frame.now.base c.args.parts.now.items) known (length known) from left is.parts is.stands is.kept.few fits later;
        there = omega (arith, row_is.from, c.requires.place, is.holds.places);
      },
      is.holds,
      _,
      sym (taken_dropped c.args.frame.now.base c.args.parts.now.items),
      is.parts,
    ))
