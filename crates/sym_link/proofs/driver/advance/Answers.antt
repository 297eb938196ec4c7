use Rattle.sym_link.proofs.Basics.{ℕ, Option, Err, Some, sym, ap, subst, ◌∙◌, ◌+◌, ◌∷◌, [], length, length-append, arith, refl, ◌≢◌, None, Memory as memory, err_from_is_err_and, meaning_of, waiting, all_lists, lists_with, TokenTakesMemory, one_by_one, never_err}
use Rattle.sym_link.proofs.Lists.{popped, last_same}
use Rattle.sym_link.proofs.Driving.{begun_way, closing_way, done_way, fresh_way, root_left}
use Rattle.sym_link.proofs.Never.{never_some, refused_still, some_open}
use Rattle.sym_link.proofs.Room.{room_same, only_refused, list_more}
use Rattle.sym_link.proofs.driver.advance.Goals as goal

pub returns-then-next-gt0 : goal.returns-then-next-gt0
returns-then-next-gt0 g c =
    let view = g.L.Linking.view c.args.symbol.now in
    let before = all_lists view c.args.language.now c.args.frames.now c.args.parts.now in
    record {
      moves = λ tree taken is way. done_way (g.L.Linking.view c.args.symbol.now) c.args.symbol.now c.args.rows.now tree taken c.args.language.now c.args.next c.args.frames.now.items c.args.parts.now.items
          (g.met.L.Linking.laws c.args.symbol.now) is way (sym c.deref.ensures.value ∙ c.in_default.ensures.none) (omega (arith, c.if-next-gt0.true));
      few = omega arith;
      counts = tt;
      over = λ none more. refl;
      none = λ is. (sym c.deref.ensures.value ∙ c.in_default.ensures.none, c.if-next-gt0.true, refl, refl, refl);
      keeps = room_same before;
      full = λ is. absurd (never_err (Option ℕ) None memory is);
    }

pub begin-requires : goal.begin-requires
begin-requires g c =
    record {
      tree = c.requires.tree;
      is_shape = c.requires.is_shape;
      fresh = (fresh_way (g.L.Linking.view c.args.symbol.now) c.args.symbol.now c.args.rows.now c.requires.tree c.requires.taken c.args.language.now c.args.next c.args.frames.now.items c.args.parts.now.items
          (g.met.L.Linking.laws c.args.symbol.now) c.requires.is_shape c.requires.on_way (sym c.deref.ensures.value ∙ c.in_default.ensures.none) (omega (arith, c.if-next-gt0.false))).0;
      fits = c.requires.fits;
    }

pub leave-requires : goal.leave-requires
leave-requires g c =
    let some = closing_way (g.L.Linking.view c.args.symbol.now) c.args.symbol.now c.args.rows.now c.requires.tree c.requires.taken c.args.language.now c.args.next c.args.frames.now.items c.in-Some.frame.now c.args.parts.now.items
    c.requires.on_way (c.in-Some.ensures.some.0, sym c.deref.ensures.value ∙ c.in-Some.ensures.some.1) in
    record {
      whole = meaning_of (g.L.Linking.view c.args.symbol.now) c.requires.tree;
      shape = c.args.rows.now;
      due = waiting (some.0 + 1);
      lower = c.in-Some.ensures.some.0;
      next = c.args.next;
      follows = some.2;
      ends = c.if-frame-next.true;
      fits = c.requires.fits;
    }

pub returns-in_err-leave-clause-moves : goal.returns-in_err-leave-clause-moves
returns-in_err-leave-clause-moves g c tree taken is way =
    let p = err_from_is_err_and c.from_residual-in_err-leave.result c.from_residual-in_err-leave.ensures.1 in
    let some = closing_way (g.L.Linking.view c.args.symbol.now) c.args.symbol.now c.args.rows.now tree taken c.args.language.now c.args.next c.args.frames.now.items c.in-Some.frame.now c.args.parts.now.items way (c.in-Some.ensures.some.0, sym c.deref.ensures.value ∙ c.in-Some.ensures.some.1) in
    rw (p.1, p.2) (c.in_err-leave.ensures.follows (meaning_of (g.L.Linking.view c.args.symbol.now) tree) c.args.rows.now c.in-Some.ensures.some.0 c.args.next some.0 some.2 c.if-frame-next.true)

pub returns-then-frame-next : goal.returns-then-frame-next
returns-then-frame-next g c =
    record {
      moves = λ tree taken is way. let some = closing_way (g.L.Linking.view c.args.symbol.now) c.args.symbol.now c.args.rows.now tree taken c.args.language.now c.args.next c.args.frames.now.items c.in-Some.frame.now c.args.parts.now.items way (c.in-Some.ensures.some.0, sym c.deref.ensures.value ∙ c.in-Some.ensures.some.1) in
          rw (
            c.take_off.ensures.items,
            popped c.args.frames.now.items c.in-Some.ensures.some.0 c.in-Some.frame.now _ (sym c.deref.ensures.value ∙ c.in-Some.ensures.some.1) refl,
          )
          (some.0, some.1, c.in_ok-leave.ensures.follows (meaning_of (g.L.Linking.view c.args.symbol.now) tree) c.args.rows.now c.in-Some.ensures.some.0 c.args.next some.0 some.2 c.if-frame-next.true);
      few = c.leave.ensures.few;
      counts = let lower = c.in-Some.ensures.some.0 in
          let some = sym c.deref.ensures.value ∙ c.in-Some.ensures.some.1 in (
            omega (arith, ap (λ fs. length fs) (c.take_off.ensures.items ∙ popped c.args.frames.now.items lower c.in-Some.frame.now _ some refl), ap (λ fs. length fs) some, length-append lower (c.in-Some.frame.now ∷ [])),
            omega arith,
          );
      over = λ none more. absurd (some_open c.in-Some.ensures.some.0 c.in-Some.frame.now c.args.frames.now.items (sym c.deref.ensures.value ∙ c.in-Some.ensures.some.1) none);
      none = λ is. absurd (never_some c.args.next is);
      keeps = (c.take_off.ensures.keeps, c.leave.ensures.keeps);
      full = λ is. absurd (never_err (Option ℕ) (Some c.args.next) memory is);
    }

pub take-requires : goal.take-requires
take-requires g c =
    let some = begun_way (g.L.Linking.view c.args.symbol.now) c.args.symbol.now c.args.rows.now c.requires.tree c.requires.taken c.args.language.now c.args.next c.args.frames.now.items c.in-Some.frame.now c.args.parts.now.items c.requires.on_way (c.in-Some.ensures.some.0, sym c.deref.ensures.value ∙ c.in-Some.ensures.some.1) in (
      some.0,
      λ frame last. record {
        whole = meaning_of (g.L.Linking.view c.args.symbol.now) c.requires.tree;
        follows = some.2;
        last = last;
        open_still = subst (λ f. f.end ≢ c.args.next) (last_same c.in-Some.ensures.some.0 last.0 c.in-Some.frame.now frame (sym (sym c.deref.ensures.value ∙ c.in-Some.ensures.some.1) ∙ last.1)) c.if-frame-next.false;
        fits = c.requires.fits;
      },
      omega (arith, ap (λ fs. length fs) (sym c.deref.ensures.value ∙ c.in-Some.ensures.some.1), length-append c.in-Some.ensures.some.0 (c.in-Some.frame.now ∷ [])),
    )

pub returns-in_err-behind-2 : goal.returns-in_err-behind-2
returns-in_err-behind-2 g c =
    let p = err_from_is_err_and c.from_residual-in_err-behind-2.result c.from_residual-in_err-behind-2.ensures.1 in
    let view = g.L.Linking.view c.args.symbol.now in
    let before = all_lists view c.args.language.now c.args.frames.now c.args.parts.now in
    let after_move = all_lists view c.take.new.language c.take.new.frames c.take.new.parts in
    record {
      moves = λ tree taken is way. let some = begun_way (g.L.Linking.view c.args.symbol.now) c.args.symbol.now c.args.rows.now tree taken c.args.language.now c.args.next c.args.frames.now.items c.in-Some.frame.now c.args.parts.now.items way (c.in-Some.ensures.some.0, sym c.deref.ensures.value ∙ c.in-Some.ensures.some.1) in
          rw (p.1, p.2) (c.in_err-behind-2.ensures.follows (meaning_of (g.L.Linking.view c.args.symbol.now) tree) some.0 some.2);
      few = c.take.ensures.few;
      counts = rw p.1 (omega (arith, c.take.ensures.more));
      over = λ none more. absurd (some_open c.in-Some.ensures.some.0 c.in-Some.frame.now c.args.frames.now.items (sym c.deref.ensures.value ∙ c.in-Some.ensures.some.1) none);
      none = λ is. absurd (refused_still _ c.from_residual-in_err-behind-2.result c.from_residual-in_err-behind-2.ensures.1 is);
      keeps = c.take.ensures.keeps;
      full = rw (p.1, p.2)
          (only_refused (TokenTakesMemory view c.args.symbol.now) (TokenTakesMemory view c.args.symbol.now) before before after_move c.in_err-behind-2.field-0.0 (λ more. more) (room_same before)
          (λ is. c.take.ensures.full (c.in_err-behind-2.was ∙ is)));
    }

pub returns : goal.returns
returns g c =
    record {
      moves = λ tree taken is way. let some = begun_way (g.L.Linking.view c.args.symbol.now) c.args.symbol.now c.args.rows.now tree taken c.args.language.now c.args.next c.args.frames.now.items c.in-Some.frame.now c.args.parts.now.items way (c.in-Some.ensures.some.0, sym c.deref.ensures.value ∙ c.in-Some.ensures.some.1) in
          (some.0, some.1, c.in_ok-behind-2.ensures.follows (meaning_of (g.L.Linking.view c.args.symbol.now) tree) some.0 some.2);
      few = c.take.ensures.few;
      counts = c.in_ok-behind-2.ensures.counts;
      over = λ none more. absurd (some_open c.in-Some.ensures.some.0 c.in-Some.frame.now c.args.frames.now.items (sym c.deref.ensures.value ∙ c.in-Some.ensures.some.1) none);
      none = λ is. absurd (never_some c.in_ok-behind-2.behind is);
      keeps = c.take.ensures.keeps;
      full = λ is. absurd (never_err (Option ℕ) (Some c.in_ok-behind-2.behind) memory is);
    }

pub returns-in_err-behind : goal.returns-in_err-behind
returns-in_err-behind g c =
    let p = err_from_is_err_and c.from_residual.result c.from_residual.ensures.1 in
    let view = g.L.Linking.view c.args.symbol.now in
    let before = all_lists view c.args.language.now c.args.frames.now c.args.parts.now in
    let after_move = all_lists view c.begin.new.language c.begin.new.frames c.begin.new.parts in
    record {
      moves = λ tree taken is way. let some = root_left (g.L.Linking.view c.args.symbol.now) c.args.symbol.now c.args.rows.now tree (g.met.L.Linking.laws c.args.symbol.now) is in
          rw (p.1, p.2) (c.in_err-behind.ensures.follows tree some.0 is some.1);
      few = c.begin.ensures.few;
      counts = rw p.1 (omega (arith, c.begin.ensures.more, c.if-next-gt0.false));
      over = λ none more. absurd (omega (arith, more, c.if-next-gt0.false));
      none = λ is. absurd (refused_still _ c.from_residual.result c.from_residual.ensures.1 is);
      keeps = c.begin.ensures.keeps;
      full = rw (p.1, p.2)
          (only_refused (TokenTakesMemory view c.args.symbol.now) (TokenTakesMemory view c.args.symbol.now) before before after_move c.in_err-behind.field-0.0 (λ more. more) (room_same before)
          (λ is. c.begin.ensures.full (c.in_err-behind.was ∙ is)));
    }

pub returns-in_default : goal.returns-in_default
returns-in_default g c =
    record {
      moves = λ tree taken is way. let fresh = fresh_way (g.L.Linking.view c.args.symbol.now) c.args.symbol.now c.args.rows.now tree taken c.args.language.now c.args.next c.args.frames.now.items c.args.parts.now.items
          (g.met.L.Linking.laws c.args.symbol.now) is way (sym c.deref.ensures.value ∙ c.in_default.ensures.none) (omega (arith, c.if-next-gt0.false)) in
          let some = root_left (g.L.Linking.view c.args.symbol.now) c.args.symbol.now c.args.rows.now tree (g.met.L.Linking.laws c.args.symbol.now) is in
          (some.0, omega (arith, fresh.1, some.1), c.in_ok-behind.ensures.follows tree some.0 is some.1);
      few = c.begin.ensures.few;
      counts = (omega (arith, c.in_ok-behind.ensures.counts.0, c.if-next-gt0.false), omega (arith, c.in_ok-behind.ensures.counts.1));
      over = λ none more. absurd (omega (arith, more, c.if-next-gt0.false));
      none = λ is. absurd (never_some c.in_ok-behind.behind is);
      keeps = c.begin.ensures.keeps;
      full = λ is. absurd (never_err (Option ℕ) (Some c.in_ok-behind.behind) memory is);
    }

pub returns-in_err-leave-clause-few : goal.returns-in_err-leave-clause-few
returns-in_err-leave-clause-few g c = c.leave.ensures.few

pub returns-in_err-leave-clause-none : goal.returns-in_err-leave-clause-none
returns-in_err-leave-clause-none g c is = absurd (refused_still _ c.from_residual-in_err-leave.result c.from_residual-in_err-leave.ensures.1 is)

pub returns-in_err-leave-clause-over : goal.returns-in_err-leave-clause-over
returns-in_err-leave-clause-over g c none more = absurd (some_open c.in-Some.ensures.some.0 c.in-Some.frame.now c.args.frames.now.items (sym c.deref.ensures.value ∙ c.in-Some.ensures.some.1) none)

pub returns-in_err-leave-clause-full : goal.returns-in_err-leave-clause-full
returns-in_err-leave-clause-full g c =
    let p = err_from_is_err_and c.from_residual-in_err-leave.result c.from_residual-in_err-leave.ensures.1 in
    let view = g.L.Linking.view c.args.symbol.now in
    let before = all_lists view c.args.language.now c.args.frames.now c.args.parts.now in
    let own_before = lists_with view c.args.language.now c.args.parts.now in
    let own_after = lists_with view c.leave.new.language c.leave.new.parts in
    rw (p.1, p.2)
    (only_refused ⊥ (TokenTakesMemory view c.args.symbol.now) before before (one_by_one c.args.frames.now ∷ own_after) c.in_err-leave.field-0.0 (λ no. absurd no) (room_same before)
    (list_more ⊥ (one_by_one c.args.frames.now) (one_by_one c.args.frames.now) own_before own_after (Err c.in_err-leave.field-0.0) (λ is. c.leave.ensures.full (c.in_err-leave.was ∙ is))))

pub returns-in_err-leave-clause-keeps : goal.returns-in_err-leave-clause-keeps
returns-in_err-leave-clause-keeps g c = (omega arith, c.leave.ensures.keeps)
