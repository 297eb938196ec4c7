use Rattle.std.proofs.Common.{◌∙◌, subst, refl, ap, arith, take, drop, ◌-◌, length, length-drop}
use Rattle.rust_v0.proofs.Basics.{err_from_is_err_and, all_push, all_stay, pushed_behind, rest_all, GoesOn, ground, production_of, sort_of, IsPart}
use Rattle.rust_v0.specs.LanguageLaws.{v0_laws}
use Rattle.rust_v0.proofs.Noted.{lists_stay}
use Rattle.rust_v0.proofs.Reading.{v0_next}
use Rattle.rust_v0.proofs.Taking.{own_fits, own_in_code, value_in_code, zero_stays, fails_memory}
use Rattle.rust_v0.proofs.nodes.RustNodes.take_as.Goals as goal

pub returns-clause-takes : goal.returns-clause-takes
returns-clause-takes c around known from left state t rest is left_is row_is after =
    let s = c.args.symbol.now in
    let old = c.args.self.now in
    let new = c.token_part.new.self in
    let ps = drop c.args.frame.base c.args.parts.now.items in
    let o = production_of around.rule.number in
    let grows : GoesOn old new = record { nodes = c.token_part.ensures.grows; places = omega (arith, ap (λ l. length l) c.token_part.ensures.ended) } in
    let fits = own_fits s around (length known) from left t rest c.args.row.from is.stands left_is row_is.from in
    let slice_is = ap (λ l. take (length l - c.args.frame.base) (drop c.args.frame.base l)) c.deref.ensures.value ∙ rest_all c.args.parts.now.items c.args.frame.base in
    let sort_is = c.requires.sort ∙ ap (λ n. sort_of (production_of n)) is.number in
    let own = own_in_code (ground s old.nodes) o _ _ ps known _ t.own _ around.place c.args.row.from slice_is sort_is row_is.own is.place is.parts fits in
    let value_of = value_in_code (ground s old.nodes) o _ _ ps known _ t.own slice_is sort_is row_is.own is.parts in
    let part_is = subst (λ v. IsPart (ground s new.nodes) c.in_ok-part.part v) value_of (c.in_ok-part.ensures.part own) in
    rw (v0_next s around known from left state) (
      _,
      _,
      refl,
      record {
        places = omega (arith, is.holds.places, ap (λ l. length l) c.token_part.ensures.ended);
        table = c.token_part.ensures.stays s is.holds.table;
        lists = lists_stay s old.nodes new.nodes c.token_part.ensures.grows is.holds.lists;
        noted = rw (c.token_part.ensures.nodes, c.token_part.ensures.ended) is.holds.noted;
      },
      _,
      c.in_ok-push_part.ensures.items ∙ pushed_behind c.args.frame.base c.args.parts.now.items _ c.requires.base,
      all_push (IsPart (ground s new.nodes)) ps known _ _
          (all_stay (IsPart (ground s new.nodes)) (IsPart (ground s old.nodes)) ps known (λ p v. (v0_laws s).part_stays old new p v grows) is.parts) part_is,
    )

pub returns-in_err-part-clause-takes : goal.returns-in_err-part-clause-takes
returns-in_err-part-clause-takes c around known from left state t rest is left_is row_is after =
    let s = c.args.symbol.now in
    let old = c.args.self.now in
    let ps = drop c.args.frame.base c.args.parts.now.items in
    let o = production_of around.rule.number in
    let fits = own_fits s around (length known) from left t rest c.args.row.from is.stands left_is row_is.from in
    let slice_is = ap (λ l. take (length l - c.args.frame.base) (drop c.args.frame.base l)) c.deref.ensures.value ∙ rest_all c.args.parts.now.items c.args.frame.base in
    let sort_is = c.requires.sort ∙ ap (λ n. sort_of (production_of n)) is.number in
    let own = own_in_code (ground s old.nodes) o _ _ ps known _ t.own _ around.place c.args.row.from slice_is sort_is row_is.own is.place is.parts fits in
    let p = err_from_is_err_and c.from_residual.result c.from_residual.ensures.1 in
    rw (p.1, p.2) (fails_memory c.in_err-part.field-0.0 _ (c.in_err-part.ensures.memory own))

pub returns-clause-pays : goal.returns-clause-pays
returns-clause-pays c at before first paid =
    let few = rw (c.deref.ensures.value, rest_all c.args.parts.now.items c.args.frame.base) at c.in_ok-part.ensures.few in
    record {
      begun = omega (arith, ap (λ l. length l) c.token_part.ensures.nodes, paid.begun);
      text = few at before (λ none. first (omega (arith, none, length-drop c.args.frame.base c.args.parts.now.items, c.requires.base))) paid.text;
      zero = zero_stays c.args.self.now.nodes c.token_part.new.self.nodes c.token_part.ensures.grows paid.zero;
    }
