use Rattle.std.proofs.Common.{refl, arith, ◌∙◌}
use Rattle.std.specs.BTreeMap.{get}
use Rattle.sym_spell.proofs.Placed.{AreMarked, IsElsewhere, fresh-at, index-at, held-by-other, no-room, known-in-map, fresh-in-map, index-in-map}
use Rattle.sym_spell.proofs.firsts.Firsts.first_with.Given as given
use Rattle.sym_spell.proofs.firsts.Firsts.first_with.Goals.{then-number-gt0+else-eq, else-number-gt0+else-len}
use Rattle.sym_spell.proofs.firsts.Firsts.first_with.Goals as goal

marked : (g : given.Over) → AreMarked g.K.Ord.cmp g.K.Marked.mark_of
marked g = record { total = g.met.K.Ord.total; alike = g.met.K.Marked.alike }

elsewhere : (g : given.Over) (c : goal.In_ok-first g)
    → IsElsewhere g.K.Ord.cmp g.K.Marked.mark_of (marked g) c.args.self.now.places.items c.args.self.now.seen.items (get g.K.Ord.cmp c.args.self.now.more)
    c.requires.index c.args.key
elsewhere g c =
    let places = c.args.self.now.places.items in
    let seen = c.args.self.now.seen.items in
    let more = get g.K.Ord.cmp c.args.self.now.more in
    elim c.if-number-gt0.branch [
      | then-number-gt0+else-eq w ↦
          held-by-other g.K.Ord.cmp g.K.Marked.mark_of (marked g) places seen more c.requires.index c.args.key c.mark.result c.index.result.now
          w.index-seen.result.now w.eq.result c.mark.ensures c.index.ensures (omega (arith, w.if-number-gt0.true)) w.index-seen.ensures
          (w.eq.ensures ∙ g.met.K.Ord.matches_eq w.index-seen.result.now.key c.args.key) w.if-eq.false
      | else-number-gt0+else-len w ↦
          no-room g.K.Ord.cmp g.K.Marked.mark_of (marked g) places seen more c.requires.index c.args.key c.mark.result c.index.result.now
          c.mark.ensures c.index.ensures (omega (arith, w.if-number-gt0.false)) (omega (arith, w.if-len.false, w.len.ensures, c.args.self.now.seen.ok.0))
    ]

pub returns-then-len-clause-fresh : goal.returns-then-len-clause-fresh
returns-then-len-clause-fresh g c =
    let places = c.args.self.now.places.items in
    let seen = c.args.self.now.seen.items in
    let more = get g.K.Ord.cmp c.args.self.now.more in
    λ none. (
      refl,
      fresh-at g.K.Ord.cmp g.K.Marked.mark_of (marked g) places seen more c.requires.index c.args.key c.args.node c.mark.result c.index.result.now
          c.len-then-len.result c.push.new.self.items c.mark.ensures c.index.ensures (omega (arith, c.if-number-gt0.false)) c.in_ok-push.ensures.items
          (omega (arith, c.len-then-len.ensures, c.push.new.self.ok.0)) (omega (arith, c.if-len.true, c.len.ensures, c.args.self.now.seen.ok.0)),
    )

pub returns-then-len-clause-index : goal.returns-then-len-clause-index
returns-then-len-clause-index g c =
    let places = c.args.self.now.places.items in
    let seen = c.args.self.now.seen.items in
    let more = get g.K.Ord.cmp c.args.self.now.more in
    index-at g.K.Ord.cmp g.K.Marked.mark_of (marked g) places seen more c.requires.index c.args.key c.args.node c.mark.result c.index.result.now
    c.len-then-len.result c.push.new.self.items c.mark.ensures c.index.ensures (omega (arith, c.if-number-gt0.false)) c.in_ok-push.ensures.items
    (omega (arith, c.len-then-len.ensures, c.push.new.self.ok.0)) (omega (arith, c.if-len.true, c.len.ensures, c.args.self.now.seen.ok.0))

pub returns-clause-known : goal.returns-clause-known
returns-clause-known g c =
    known-in-map g.K.Ord.cmp g.K.Marked.mark_of (marked g) c.args.self.now.places.items c.args.self.now.seen.items (get g.K.Ord.cmp c.args.self.now.more)
    c.requires.index (get g.K.Ord.cmp c.first_with.new.nodes) c.args.key c.args.node c.in_ok-first.first (elsewhere g c) c.in_ok-first.ensures.known
    c.in_ok-first.ensures.fresh

pub returns-clause-fresh : goal.returns-clause-fresh
returns-clause-fresh g c =
    fresh-in-map g.K.Ord.cmp g.K.Marked.mark_of (marked g) c.args.self.now.places.items c.args.self.now.seen.items (get g.K.Ord.cmp c.args.self.now.more)
    c.requires.index (get g.K.Ord.cmp c.first_with.new.nodes) c.args.key c.args.node c.in_ok-first.first (elsewhere g c) c.in_ok-first.ensures.known
    c.in_ok-first.ensures.fresh

pub returns-clause-index : goal.returns-clause-index
returns-clause-index g c =
    index-in-map g.K.Ord.cmp g.K.Marked.mark_of (marked g) c.args.self.now.places.items c.args.self.now.seen.items (get g.K.Ord.cmp c.args.self.now.more)
    c.requires.index (get g.K.Ord.cmp c.first_with.new.nodes) c.args.key c.args.node c.in_ok-first.first (elsewhere g c) c.in_ok-first.ensures.known
    c.in_ok-first.ensures.fresh
