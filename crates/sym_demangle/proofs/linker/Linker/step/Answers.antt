use Rattle.sym_demangle.proofs.Basics.{refl, ℕ, List, Err, Bool, true, false, sym, ◌∙◌, subst, ap, arith, length, ◌+◌, driving_few, spell, Fails, IsStepTo, meaning_of, IsRefused, Progress, AreLinkSteps, AreFewInAll, TokenTakesMemory, all_lists, KeepRoom, OnlyForRoom, room_same, none_kept, Memory as memory, never_both, never_ok, never_err, never_false, never_done, same_answer}
use Rattle.sym_demangle.proofs.Standing.{driving_fails, shape_steps, done_steps, step_fails, refused_of, counted_two}
use Rattle.sym_demangle.proofs.Continuation.{few_of, goes_on, has_stepped, counts_step, counts_none, stays_open, counts_refusal}
use Rattle.sym_demangle.proofs.linker.Linker.step.Goals as goal

pub returns-then-self : goal.returns-then-self
returns-then-self g c =
    let i = c.self.inside in
    let inv = c.self.invariant in
    record {
      all_steps = λ _. subst (λ (v : Progress). AreLinkSteps g.M.Mangling.mangled.table v.bytes v.steps) c.self.view_is
          (shape_steps g.M.Mangling.mangled.table g.M.Mangling.mangled.lawful i.bytes.items i.bytes.items inv.shape i.driver.steps inv.is_tree inv.is_shape.spelled refl (inv.all_steps c.if-self.true));
      room = subst (λ (v : Progress). KeepRoom v.lists v.lists) c.self.view_is
          (room_same (all_lists (g.M.Linked.Linking.view i.bytes.items) i.linked i.driver.frames i.driver.parts));
      bytes = refl;
      rows = refl;
      read_steps = refl;
      moved = λ is. absurd (never_false is);
      counted = λ none. tt;
      done = λ is. sym (ap (λ (v : Progress). v.done) c.self.view_is) ∙ c.if-self.true;
      same = λ is. refl;
      «open» = (sym (ap (λ (v : Progress). v.refused) c.self.view_is) ∙ none_kept c.self.inside.driver.refused c.in_default.not-Some);
      refused = tt;
      kept = tt;
      again = rw (sym (ap (λ (v : Progress). v.refused) c.self.view_is) ∙ none_kept c.self.inside.driver.refused c.in_default.not-Some) tt;
      done_again = λ done none. (refl, refl);
      nodes = omega arith;
      full = λ none is. absurd (never_err Bool true memory is);
      few = let few = few_of g.M.Mangling.mangled.table (g.M.Linked.Linking.view i.bytes.items) i.bytes.items i.shape.rows i.shape.steps i.linked i.driver.steps i.driver.refused i.driver.next i.driver.frames.items i.driver.parts.items i.done inv in
          subst AreFewInAll c.self.view_is (record { steps = few.0; rows = few.1 });
    }

pub returns-in-Ok : goal.returns-in-Ok
returns-in-Ok g c =
    let i = c.self.inside in
    let inv = c.self.invariant in
    record {
      all_steps = λ over. shape_steps g.M.Mangling.mangled.table g.M.Mangling.mangled.lawful i.bytes.items c.args.self.now.bytes inv.shape c.step.new.self.steps inv.is_tree inv.is_shape.spelled
          (ap (λ (v : Progress). v.bytes) c.self.view_is)
          (done_steps (g.M.Linked.Linking.view c.deref.result.now) c.deref.result.now c.rows.result.now inv.shape _ _ _ _ _ _ c.step.result c.in-Ok.done c.in-Ok.is over
          (c.step.ensures.answers inv.shape (rw (c.deref.ensures.value, c.rows.ensures) inv.is_shape) (rw (c.deref.ensures.value, c.rows.ensures) inv.driving)));
      room = let old = λ (b : List ℕ). all_lists (g.M.Linked.Linking.view b) i.linked i.driver.frames i.driver.parts in
          let new = λ (b : List ℕ). all_lists (g.M.Linked.Linking.view b) c.step.new.language c.step.new.self.frames c.step.new.self.parts in
          subst (λ (v : Progress). KeepRoom v.lists (new i.bytes.items)) c.self.view_is
          (subst (λ b. KeepRoom (old b) (new b)) c.deref.ensures.value c.step.ensures.keeps);
      bytes = ap (λ (v : Progress). v.bytes) c.self.view_is;
      rows = ap (λ (v : Progress). v.rows) c.self.view_is;
      read_steps = ap (λ (v : Progress). v.read_steps) c.self.view_is;
      moved = λ is. let over = same_answer c.in-Ok.done false is in (
        counts_step (g.M.Linked.Linking.view c.deref.result.now) c.deref.result.now c.rows.result.now inv.shape c.step.new.language i.driver.steps c.step.new.self.steps i.driver.refused c.step.new.self.refused c.step.new.self.parts.items c.step.result c.in-Ok.done c.in-Ok.is over
            (c.step.ensures.answers inv.shape (rw (c.deref.ensures.value, c.rows.ensures) inv.is_shape) (rw (c.deref.ensures.value, c.rows.ensures) inv.driving)) ∙ ap (λ (v : Progress). v.steps + 1) c.self.view_is,
        over,
      );
      counted = λ none. tt;
      done = λ is. same_answer c.in-Ok.done true is;
      same = λ is. counts_none (g.M.Linked.Linking.view c.deref.result.now) c.deref.result.now c.rows.result.now inv.shape c.step.new.language i.driver.steps c.step.new.self.steps i.driver.refused c.step.new.self.refused c.step.new.self.parts.items c.step.result c.in-Ok.done c.in-Ok.is (same_answer c.in-Ok.done true is)
          (c.step.ensures.answers inv.shape (rw (c.deref.ensures.value, c.rows.ensures) inv.is_shape) (rw (c.deref.ensures.value, c.rows.ensures) inv.driving)) ∙ ap (λ (v : Progress). v.steps) c.self.view_is;
      «open» = stays_open (g.M.Linked.Linking.view c.deref.result.now) c.deref.result.now c.rows.result.now inv.shape c.step.new.language i.driver.steps c.step.new.self.steps i.driver.refused c.step.new.self.refused c.step.new.self.parts.items c.step.result c.in-Ok.done c.in-Ok.is
          (c.step.ensures.answers inv.shape (rw (c.deref.ensures.value, c.rows.ensures) inv.is_shape) (rw (c.deref.ensures.value, c.rows.ensures) inv.driving));
      refused = tt;
      kept = tt;
      again = rw (sym (ap (λ (v : Progress). v.refused) c.self.view_is) ∙ none_kept c.self.inside.driver.refused c.in_default.not-Some) tt;
      done_again = λ done none. absurd (never_done c.self.inside.done (ap (λ (v : Progress). v.done) c.self.view_is ∙ done) c.if-self.false);
      nodes = let s = c.deref.result.now in
          let added = counted_two (g.M.Linked.Linking.view s) s c.rows.result.now inv.shape i.linked c.step.new.language i.driver.steps c.step.new.self.steps i.driver.refused i.driver.next
          i.driver.frames.items i.driver.parts.items g.M.Mangling.count_of g.M.Mangling.first_nodes (g.met.M.Mangling.counts_nodes s) c.in_default.not-Some
          (rw (c.deref.ensures.value, c.rows.ensures) inv.driving) c.step.ensures.nodes in
          omega (arith, added, ap (λ (v : Progress). v.steps) c.self.view_is, ap (λ (v : Progress). v.nodes) c.self.view_is);
      full = λ none is. absurd (never_err Bool c.in-Ok.done memory is);
      few = let driven = c.step.ensures.driving inv.shape (rw (c.deref.ensures.value, c.rows.ensures) inv.is_shape) (rw (c.deref.ensures.value, c.rows.ensures) inv.driving) in
          record {
            steps = omega (arith, driving_few (g.M.Linked.Linking.view c.deref.result.now) c.deref.result.now c.rows.result.now inv.shape _ _ _ _ _ _ driven, ap (λ rs. length rs) c.rows.ensures, inv.few.steps_few, inv.few.rows_few);
            rows = inv.few.rows_few;
          };
    }

pub returns-in-Err : goal.returns-in-Err
returns-in-Err g c =
    let i = c.self.inside in
    let old = λ (b : List ℕ). all_lists (g.M.Linked.Linking.view b) i.linked i.driver.frames i.driver.parts in
    let new = λ (b : List ℕ). all_lists (g.M.Linked.Linking.view b) c.step.new.language c.step.new.self.frames c.step.new.self.parts in
    let inv = c.self.invariant in
    let s = c.deref.result.now in
    record {
      all_steps = λ is. absurd (never_ok Bool c.in-Err.refusal true is);
      room = subst (λ (v : Progress). KeepRoom v.lists (new i.bytes.items)) c.self.view_is
          (subst (λ b. KeepRoom (old b) (new b)) c.deref.ensures.value c.step.ensures.keeps);
      bytes = ap (λ (v : Progress). v.bytes) c.self.view_is;
      rows = ap (λ (v : Progress). v.rows) c.self.view_is;
      read_steps = ap (λ (v : Progress). v.read_steps) c.self.view_is;
      moved = λ is. absurd (never_ok Bool c.in-Err.refusal false is);
      counted = λ none. (counts_refusal (g.M.Linked.Linking.view c.deref.result.now) c.deref.result.now c.rows.result.now inv.shape c.step.new.language i.driver.steps c.step.new.self.steps i.driver.refused c.step.new.self.refused c.step.new.self.parts.items c.step.result c.in-Err.refusal c.in-Err.is (none_kept i.driver.refused c.in_default.not-Some)
          (c.step.ensures.answers inv.shape (rw (c.deref.ensures.value, c.rows.ensures) inv.is_shape) (rw (c.deref.ensures.value, c.rows.ensures) inv.driving))).0 ∙ ap (λ (v : Progress). v.steps + 1) c.self.view_is;
      done = λ is. absurd (never_ok Bool c.in-Err.refusal true is);
      same = λ is. absurd (never_ok Bool c.in-Err.refusal true is);
      «open» = tt;
      refused = let e = c.in-Err.refusal in
          let to = c.step.ensures.answers inv.shape (rw (c.deref.ensures.value, c.rows.ensures) inv.is_shape) (rw (c.deref.ensures.value, c.rows.ensures) inv.driving) in
          let fails : Fails e (meaning_of (g.M.Linked.Linking.view (spell inv.shape)) inv.shape) = subst (λ b. Fails e (meaning_of (g.M.Linked.Linking.view b) inv.shape)) (◌∙◌ {c = spell inv.shape} c.deref.ensures.value (sym inv.is_shape.spelled))
          (step_fails (g.M.Linked.Linking.view s) s c.rows.result.now inv.shape c.step.new.language i.driver.steps c.step.new.self.steps i.driver.refused c.step.new.self.refused c.step.new.self.parts.items e
          (subst (λ r. IsStepTo (g.M.Linked.Linking.view s) s c.rows.result.now inv.shape c.step.new.language i.driver.steps c.step.new.self.steps i.driver.refused c.step.new.self.refused c.step.new.self.parts.items r) c.in-Err.is to)) in
          subst (λ (v : Progress). IsRefused g.M.Mangling.mangled v.bytes e) c.self.view_is
          (refused_of g.M.Mangling.mangled inv.shape i.bytes.items e inv.is_tree inv.is_shape.spelled (g.met.M.Mangling.fails inv.shape e inv.is_tree fails));
      kept = (counts_refusal (g.M.Linked.Linking.view c.deref.result.now) c.deref.result.now c.rows.result.now inv.shape c.step.new.language i.driver.steps c.step.new.self.steps i.driver.refused c.step.new.self.refused c.step.new.self.parts.items c.step.result c.in-Err.refusal c.in-Err.is (none_kept i.driver.refused c.in_default.not-Some)
          (c.step.ensures.answers inv.shape (rw (c.deref.ensures.value, c.rows.ensures) inv.is_shape) (rw (c.deref.ensures.value, c.rows.ensures) inv.driving))).1;
      again = rw (sym (ap (λ (v : Progress). v.refused) c.self.view_is) ∙ none_kept c.self.inside.driver.refused c.in_default.not-Some) tt;
      done_again = λ done none. absurd (never_done c.self.inside.done (ap (λ (v : Progress). v.done) c.self.view_is ∙ done) c.if-self.false);
      nodes = let added = counted_two (g.M.Linked.Linking.view s) s c.rows.result.now inv.shape i.linked c.step.new.language i.driver.steps c.step.new.self.steps i.driver.refused i.driver.next
          i.driver.frames.items i.driver.parts.items g.M.Mangling.count_of g.M.Mangling.first_nodes (g.met.M.Mangling.counts_nodes s) c.in_default.not-Some
          (rw (c.deref.ensures.value, c.rows.ensures) inv.driving) c.step.ensures.nodes in
          omega (arith, added, ap (λ (v : Progress). v.steps) c.self.view_is, ap (λ (v : Progress). v.nodes) c.self.view_is);
      full = λ none. let token = λ (b : List ℕ). TokenTakesMemory (g.M.Linked.Linking.view b) b in
          subst (λ (v : Progress). OnlyForRoom {A = Bool} (token v.bytes) v.lists (new i.bytes.items) (Err c.in-Err.refusal)) c.self.view_is
          (subst (λ b. OnlyForRoom {A = Bool} (token b) (old b) (new b) (Err c.in-Err.refusal)) c.deref.ensures.value
          (λ is. c.step.ensures.full (none_kept i.driver.refused c.in_default.not-Some) (c.in-Err.is ∙ is)));
      few = let driven = c.step.ensures.driving inv.shape (rw (c.deref.ensures.value, c.rows.ensures) inv.is_shape) (rw (c.deref.ensures.value, c.rows.ensures) inv.driving) in
          record {
            steps = omega (arith, driving_few (g.M.Linked.Linking.view c.deref.result.now) c.deref.result.now c.rows.result.now inv.shape _ _ _ _ _ _ driven, ap (λ rs. length rs) c.rows.ensures, inv.few.steps_few, inv.few.rows_few);
            rows = inv.few.rows_few;
          };
    }

pub returns-in-Some : goal.returns-in-Some
returns-in-Some g c =
    let i = c.self.inside in
    let inv = c.self.invariant in
    record {
      all_steps = λ is. absurd (never_ok Bool c.in-Some.refusal true is);
      room = subst (λ (v : Progress). KeepRoom v.lists v.lists) c.self.view_is
          (room_same (all_lists (g.M.Linked.Linking.view i.bytes.items) i.linked i.driver.frames i.driver.parts));
      bytes = refl;
      rows = refl;
      read_steps = refl;
      moved = λ is. absurd (never_ok Bool c.in-Some.refusal false is);
      counted = λ none. absurd (never_both c.args.self.now.refused c.in-Some.refusal (sym (ap (λ (v : Progress). v.refused) c.self.view_is) ∙ c.in-Some.is) none);
      done = λ is. absurd (never_ok Bool c.in-Some.refusal true is);
      same = λ is. absurd (never_ok Bool c.in-Some.refusal true is);
      «open» = tt;
      refused = let e = c.in-Some.refusal in
          let fails : Fails e (meaning_of (g.M.Linked.Linking.view (spell inv.shape)) inv.shape) = subst (λ b. Fails e (meaning_of (g.M.Linked.Linking.view b) inv.shape)) (sym inv.is_shape.spelled)
          (driving_fails (g.M.Linked.Linking.view i.bytes.items) i.bytes.items i.shape.rows inv.shape i.linked i.driver.steps i.driver.refused i.driver.next i.driver.frames.items i.driver.parts.items e inv.driving c.in-Some.is) in
          subst (λ (v : Progress). IsRefused g.M.Mangling.mangled v.bytes e) c.self.view_is
          (refused_of g.M.Mangling.mangled inv.shape i.bytes.items e inv.is_tree inv.is_shape.spelled (g.met.M.Mangling.fails inv.shape e inv.is_tree fails));
      kept = (sym (ap (λ (v : Progress). v.refused) c.self.view_is) ∙ c.in-Some.is);
      again = rw (sym (ap (λ (v : Progress). v.refused) c.self.view_is) ∙ c.in-Some.is) (refl, refl);
      done_again = λ done none. absurd (never_both c.args.self.now.refused c.in-Some.refusal (sym (ap (λ (v : Progress). v.refused) c.self.view_is) ∙ c.in-Some.is) none);
      nodes = omega arith;
      full = λ none. absurd (never_both c.args.self.now.refused c.in-Some.refusal (sym (ap (λ (v : Progress). v.refused) c.self.view_is) ∙ c.in-Some.is) none);
      few = let few = few_of g.M.Mangling.mangled.table (g.M.Linked.Linking.view i.bytes.items) i.bytes.items i.shape.rows i.shape.steps i.linked i.driver.steps i.driver.refused i.driver.next i.driver.frames.items i.driver.parts.items i.done inv in
          subst AreFewInAll c.self.view_is (record { steps = few.0; rows = few.1 });
    }

pub step-requires-clause-fits : goal.step-requires-clause-fits
step-requires-clause-fits g c = rw (c.deref.ensures.value, c.rows.ensures) c.self.invariant.fits

pub step-requires-clause-driving : goal.step-requires-clause-driving
step-requires-clause-driving g c =
    let i = c.self.inside in
    let inv = c.self.invariant in
    (inv.shape, rw (c.deref.ensures.value, c.rows.ensures) inv.is_shape, rw (c.deref.ensures.value, c.rows.ensures) inv.driving)

pub invariant_of-self-in-Err : goal.invariant_of-self-in-Err
invariant_of-self-in-Err g c =
    let i = c.self.inside in
    let inv = c.self.invariant in
    goes_on g.M.Mangling.mangled.table (λ (b : List ℕ). g.M.Linked.Linking.view b) c.deref.result.now i.bytes.items c.rows.result.now i.shape.rows i.shape.steps i.linked c.step.new.language i.driver.steps c.step.new.self.steps i.driver.refused c.step.new.self.refused i.driver.next c.step.new.self.next
    i.driver.frames.items c.step.new.self.frames.items i.driver.parts.items c.step.new.self.parts.items i.done inv c.if-self.false c.deref.ensures.value c.rows.ensures
    (c.step.ensures.driving inv.shape (rw (c.deref.ensures.value, c.rows.ensures) inv.is_shape) (rw (c.deref.ensures.value, c.rows.ensures) inv.driving))

pub invariant_of-self : goal.invariant_of-self
invariant_of-self g c =
    let i = c.self.inside in
    let inv = c.self.invariant in
    has_stepped g.M.Mangling.mangled.table (λ (b : List ℕ). g.M.Linked.Linking.view b) c.deref.result.now i.bytes.items c.rows.result.now i.shape.rows i.shape.steps i.linked c.step.new.language i.driver.steps c.step.new.self.steps i.driver.refused c.step.new.self.refused i.driver.next c.step.new.self.next
    i.driver.frames.items c.step.new.self.frames.items i.driver.parts.items c.step.new.self.parts.items i.done c.in-Ok.done c.step.result inv c.deref.ensures.value c.rows.ensures c.in-Ok.is
    (c.step.ensures.driving inv.shape (rw (c.deref.ensures.value, c.rows.ensures) inv.is_shape) (rw (c.deref.ensures.value, c.rows.ensures) inv.driving))
    (c.step.ensures.answers inv.shape (rw (c.deref.ensures.value, c.rows.ensures) inv.is_shape) (rw (c.deref.ensures.value, c.rows.ensures) inv.driving))
