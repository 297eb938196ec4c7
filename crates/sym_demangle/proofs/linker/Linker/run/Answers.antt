use Rattle.sym_demangle.proofs.Basics.{refl, ℕ, List, Err, sym, ◌∙◌, subst, ap, arith, length, driving_few, spell, Fails, meaning_of, IsRefused, Progress, AreLinkSteps, AreFewInAll, TokenTakesMemory, all_lists, KeepRoom, OnlyForRoom, room_same, none_kept, Memory as memory, never_both, never_err, never_done}
use Rattle.sym_demangle.proofs.Standing.{shape_steps, driving_fails, refused_of, counted_two}
use Rattle.sym_demangle.proofs.Continuation.{few_of, goes_on, has_run}
use Rattle.sym_demangle.proofs.linker.Linker.run.Goals as goal

pub returns-then-self : goal.returns-then-self
returns-then-self g c =
    let i = c.self.inside in
    let inv = c.self.invariant in
    record {
      all_steps = subst (λ (v : Progress). AreLinkSteps g.M.Mangling.mangled.table v.bytes v.steps) c.self.view_is
          (shape_steps g.M.Mangling.mangled.table g.M.Mangling.mangled.lawful i.bytes.items i.bytes.items inv.shape i.driver.steps inv.is_tree inv.is_shape.spelled refl (inv.all_steps c.if-self.true));
      room = subst (λ (v : Progress). KeepRoom v.lists v.lists) c.self.view_is
          (room_same (all_lists (g.M.Linked.Linking.view i.bytes.items) i.linked i.driver.frames i.driver.parts));
      bytes = refl;
      rows = refl;
      read_steps = refl;
      done = sym (ap (λ (v : Progress). v.done) c.self.view_is) ∙ c.if-self.true;
      «open» = (sym (ap (λ (v : Progress). v.refused) c.self.view_is) ∙ none_kept c.self.inside.driver.refused c.in_default.not-Some);
      refused = tt;
      kept = tt;
      again = rw (sym (ap (λ (v : Progress). v.refused) c.self.view_is) ∙ none_kept c.self.inside.driver.refused c.in_default.not-Some) tt;
      done_again = λ done none. (refl, refl);
      counted = omega arith;
      nodes = omega arith;
      full = λ none is. absurd (never_err (Unit {0}) tt memory is);
      few = let few = few_of g.M.Mangling.mangled.table (g.M.Linked.Linking.view i.bytes.items) i.bytes.items i.shape.rows i.shape.steps i.linked i.driver.steps i.driver.refused i.driver.next i.driver.frames.items i.driver.parts.items i.done inv in
          subst AreFewInAll c.self.view_is (record { steps = few.0; rows = few.1 });
    }

pub returns-in-Ok : goal.returns-in-Ok
returns-in-Ok g c =
    let i = c.self.inside in
    let inv = c.self.invariant in
    record {
      all_steps = shape_steps g.M.Mangling.mangled.table g.M.Mangling.mangled.lawful i.bytes.items c.args.self.now.bytes inv.shape c.run.new.self.steps inv.is_tree inv.is_shape.spelled
          (ap (λ (v : Progress). v.bytes) c.self.view_is)
          (c.in-Ok.ensures.counted inv.shape (rw (c.deref.ensures.value, c.rows.ensures) inv.is_shape) (rw (c.deref.ensures.value, c.rows.ensures) inv.driving));
      room = let old = λ (b : List ℕ). all_lists (g.M.Linked.Linking.view b) i.linked i.driver.frames i.driver.parts in
          let new = λ (b : List ℕ). all_lists (g.M.Linked.Linking.view b) c.run.new.language c.run.new.self.frames c.run.new.self.parts in
          subst (λ (v : Progress). KeepRoom v.lists (new i.bytes.items)) c.self.view_is
          (subst (λ b. KeepRoom (old b) (new b)) c.deref.ensures.value c.run.ensures.keeps);
      bytes = ap (λ (v : Progress). v.bytes) c.self.view_is;
      rows = ap (λ (v : Progress). v.rows) c.self.view_is;
      read_steps = ap (λ (v : Progress). v.read_steps) c.self.view_is;
      done = refl;
      «open» = c.in-Ok.ensures.open;
      refused = tt;
      kept = tt;
      again = rw (sym (ap (λ (v : Progress). v.refused) c.self.view_is) ∙ none_kept c.self.inside.driver.refused c.in_default.not-Some) tt;
      done_again = λ done none. absurd (never_done c.self.inside.done (ap (λ (v : Progress). v.done) c.self.view_is ∙ done) c.if-self.false);
      counted = omega (arith, c.run.ensures.steps, ap (λ (v : Progress). v.steps) c.self.view_is);
      nodes = let s = c.deref.result.now in
          let added = counted_two (g.M.Linked.Linking.view s) s c.rows.result.now inv.shape i.linked c.run.new.language i.driver.steps c.run.new.self.steps i.driver.refused i.driver.next
          i.driver.frames.items i.driver.parts.items g.M.Mangling.count_of g.M.Mangling.first_nodes (g.met.M.Mangling.counts_nodes s) c.in_default.not-Some
          (rw (c.deref.ensures.value, c.rows.ensures) inv.driving) c.run.ensures.nodes in
          omega (arith, added, ap (λ (v : Progress). v.steps) c.self.view_is, ap (λ (v : Progress). v.nodes) c.self.view_is);
      full = λ none is. absurd (never_err (Unit {0}) tt memory is);
      few = let driven = c.run.ensures.driving inv.shape (rw (c.deref.ensures.value, c.rows.ensures) inv.is_shape) (rw (c.deref.ensures.value, c.rows.ensures) inv.driving) in
          record {
            steps = omega (arith, driving_few (g.M.Linked.Linking.view c.deref.result.now) c.deref.result.now c.rows.result.now inv.shape _ _ _ _ _ _ driven, ap (λ rs. length rs) c.rows.ensures, inv.few.steps_few, inv.few.rows_few);
            rows = inv.few.rows_few;
          };
    }

pub returns-in-Err : goal.returns-in-Err
returns-in-Err g c =
    let i = c.self.inside in
    let old = λ (b : List ℕ). all_lists (g.M.Linked.Linking.view b) i.linked i.driver.frames i.driver.parts in
    let new = λ (b : List ℕ). all_lists (g.M.Linked.Linking.view b) c.run.new.language c.run.new.self.frames c.run.new.self.parts in
    let inv = c.self.invariant in
    record {
      all_steps = tt;
      room = subst (λ (v : Progress). KeepRoom v.lists (new i.bytes.items)) c.self.view_is
          (subst (λ b. KeepRoom (old b) (new b)) c.deref.ensures.value c.run.ensures.keeps);
      bytes = ap (λ (v : Progress). v.bytes) c.self.view_is;
      rows = ap (λ (v : Progress). v.rows) c.self.view_is;
      read_steps = ap (λ (v : Progress). v.read_steps) c.self.view_is;
      done = tt;
      «open» = tt;
      refused = let e = c.in-Err.refusal in
          let driven = c.in-Err.ensures.driving inv.shape (rw (c.deref.ensures.value, c.rows.ensures) inv.is_shape) (rw (c.deref.ensures.value, c.rows.ensures) inv.driving) in
          let fails : Fails e (meaning_of (g.M.Linked.Linking.view (spell inv.shape)) inv.shape) = subst (λ b. Fails e (meaning_of (g.M.Linked.Linking.view b) inv.shape)) (◌∙◌ {c = spell inv.shape} c.deref.ensures.value (sym inv.is_shape.spelled))
          (driving_fails (g.M.Linked.Linking.view c.deref.result.now) c.deref.result.now c.rows.result.now inv.shape _ _ _ _ _ _ e driven c.in-Err.ensures.kept) in
          subst (λ (v : Progress). IsRefused g.M.Mangling.mangled v.bytes e) c.self.view_is
          (refused_of g.M.Mangling.mangled inv.shape i.bytes.items e inv.is_tree inv.is_shape.spelled (g.met.M.Mangling.fails inv.shape e inv.is_tree fails));
      kept = c.in-Err.ensures.kept;
      again = rw (sym (ap (λ (v : Progress). v.refused) c.self.view_is) ∙ none_kept c.self.inside.driver.refused c.in_default.not-Some) tt;
      done_again = λ done none. absurd (never_done c.self.inside.done (ap (λ (v : Progress). v.done) c.self.view_is ∙ done) c.if-self.false);
      counted = omega (arith, c.run.ensures.steps, ap (λ (v : Progress). v.steps) c.self.view_is);
      nodes = let s = c.deref.result.now in
          let added = counted_two (g.M.Linked.Linking.view s) s c.rows.result.now inv.shape i.linked c.run.new.language i.driver.steps c.run.new.self.steps i.driver.refused i.driver.next
          i.driver.frames.items i.driver.parts.items g.M.Mangling.count_of g.M.Mangling.first_nodes (g.met.M.Mangling.counts_nodes s) c.in_default.not-Some
          (rw (c.deref.ensures.value, c.rows.ensures) inv.driving) c.run.ensures.nodes in
          omega (arith, added, ap (λ (v : Progress). v.steps) c.self.view_is, ap (λ (v : Progress). v.nodes) c.self.view_is);
      full = λ none. let token = λ (b : List ℕ). TokenTakesMemory (g.M.Linked.Linking.view b) b in
          subst (λ (v : Progress). OnlyForRoom {A = (Unit {0})} (token v.bytes) v.lists (new i.bytes.items) (Err c.in-Err.refusal)) c.self.view_is
          (subst (λ b. OnlyForRoom {A = (Unit {0})} (token b) (old b) (new b) (Err c.in-Err.refusal)) c.deref.ensures.value
          (λ is. c.run.ensures.full (none_kept i.driver.refused c.in_default.not-Some) (c.in-Err.is ∙ is)));
      few = let driven = c.run.ensures.driving inv.shape (rw (c.deref.ensures.value, c.rows.ensures) inv.is_shape) (rw (c.deref.ensures.value, c.rows.ensures) inv.driving) in
          record {
            steps = omega (arith, driving_few (g.M.Linked.Linking.view c.deref.result.now) c.deref.result.now c.rows.result.now inv.shape _ _ _ _ _ _ driven, ap (λ rs. length rs) c.rows.ensures, inv.few.steps_few, inv.few.rows_few);
            rows = inv.few.rows_few;
          };
    }

pub returns-in-Some : goal.returns-in-Some
returns-in-Some g c =
    let i = c.self.inside in
    let inv = c.self.invariant in
    record {
      all_steps = tt;
      room = subst (λ (v : Progress). KeepRoom v.lists v.lists) c.self.view_is
          (room_same (all_lists (g.M.Linked.Linking.view i.bytes.items) i.linked i.driver.frames i.driver.parts));
      bytes = refl;
      rows = refl;
      read_steps = refl;
      done = tt;
      «open» = tt;
      refused = let e = c.in-Some.refusal in
          let fails : Fails e (meaning_of (g.M.Linked.Linking.view (spell inv.shape)) inv.shape) = subst (λ b. Fails e (meaning_of (g.M.Linked.Linking.view b) inv.shape)) (sym inv.is_shape.spelled)
          (driving_fails (g.M.Linked.Linking.view i.bytes.items) i.bytes.items i.shape.rows inv.shape i.linked i.driver.steps i.driver.refused i.driver.next i.driver.frames.items i.driver.parts.items e inv.driving c.in-Some.is) in
          subst (λ (v : Progress). IsRefused g.M.Mangling.mangled v.bytes e) c.self.view_is
          (refused_of g.M.Mangling.mangled inv.shape i.bytes.items e inv.is_tree inv.is_shape.spelled (g.met.M.Mangling.fails inv.shape e inv.is_tree fails));
      kept = (sym (ap (λ (v : Progress). v.refused) c.self.view_is) ∙ c.in-Some.is);
      again = rw (sym (ap (λ (v : Progress). v.refused) c.self.view_is) ∙ c.in-Some.is) (refl, refl);
      done_again = λ done none. absurd (never_both c.args.self.now.refused c.in-Some.refusal (sym (ap (λ (v : Progress). v.refused) c.self.view_is) ∙ c.in-Some.is) none);
      counted = omega arith;
      nodes = omega arith;
      full = λ none. absurd (never_both c.args.self.now.refused c.in-Some.refusal (sym (ap (λ (v : Progress). v.refused) c.self.view_is) ∙ c.in-Some.is) none);
      few = let few = few_of g.M.Mangling.mangled.table (g.M.Linked.Linking.view i.bytes.items) i.bytes.items i.shape.rows i.shape.steps i.linked i.driver.steps i.driver.refused i.driver.next i.driver.frames.items i.driver.parts.items i.done inv in
          subst AreFewInAll c.self.view_is (record { steps = few.0; rows = few.1 });
    }

pub run-requires-clause-fits : goal.run-requires-clause-fits
run-requires-clause-fits g c = rw (c.deref.ensures.value, c.rows.ensures) c.self.invariant.fits

pub run-requires-clause-driving : goal.run-requires-clause-driving
run-requires-clause-driving g c =
    let i = c.self.inside in
    let inv = c.self.invariant in
    (inv.shape, rw (c.deref.ensures.value, c.rows.ensures) inv.is_shape, rw (c.deref.ensures.value, c.rows.ensures) inv.driving)

pub invariant_of-self-in-Err : goal.invariant_of-self-in-Err
invariant_of-self-in-Err g c =
    let i = c.self.inside in
    let inv = c.self.invariant in
    goes_on g.M.Mangling.mangled.table (λ (b : List ℕ). g.M.Linked.Linking.view b) c.deref.result.now i.bytes.items c.rows.result.now i.shape.rows i.shape.steps i.linked c.run.new.language i.driver.steps c.run.new.self.steps i.driver.refused c.run.new.self.refused i.driver.next c.run.new.self.next
    i.driver.frames.items c.run.new.self.frames.items i.driver.parts.items c.run.new.self.parts.items i.done inv c.if-self.false c.deref.ensures.value c.rows.ensures
    (c.run.ensures.driving inv.shape (rw (c.deref.ensures.value, c.rows.ensures) inv.is_shape) (rw (c.deref.ensures.value, c.rows.ensures) inv.driving))

pub invariant_of-self : goal.invariant_of-self
invariant_of-self g c =
    let i = c.self.inside in
    let inv = c.self.invariant in
    has_run g.M.Mangling.mangled.table (λ (b : List ℕ). g.M.Linked.Linking.view b) c.deref.result.now i.bytes.items c.rows.result.now i.shape.rows i.shape.steps i.linked c.run.new.language i.driver.steps c.run.new.self.steps i.driver.refused c.run.new.self.refused i.driver.next c.run.new.self.next
    i.driver.frames.items c.run.new.self.frames.items i.driver.parts.items c.run.new.self.parts.items i.done inv c.deref.ensures.value c.rows.ensures
    (c.run.ensures.driving inv.shape (rw (c.deref.ensures.value, c.rows.ensures) inv.is_shape) (rw (c.deref.ensures.value, c.rows.ensures) inv.driving))
    (c.in-Ok.ensures.done inv.shape (rw (c.deref.ensures.value, c.rows.ensures) inv.is_shape) (rw (c.deref.ensures.value, c.rows.ensures) inv.driving))
    (c.in-Ok.ensures.counted inv.shape (rw (c.deref.ensures.value, c.rows.ensures) inv.is_shape) (rw (c.deref.ensures.value, c.rows.ensures) inv.driving))
