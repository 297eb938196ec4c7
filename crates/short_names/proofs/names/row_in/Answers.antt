use Rattle.short_names.proofs.Basics.{nat_eq, sym, ap, ◌∙◌, arith, starts_with, Place}
use Rattle.short_names.proofs.RowLemmas.{rows-past, rows-found, rows-end}
use Rattle.short_names.proofs.names.row_in.Goals as goal

none : Place
none = record { from = 0; to = 0 }

pub returns-then-begins_with : goal.returns-then-begins_with
unfolding none
returns-then-begins_with c =
    let is = ap (starts_with nat_eq c.args.text.now) (sym c.text_at.ensures) ∙ sym c.begins_with.ensures ∙ c.if-begins_with.true in
    sym (c.rows.invariant.same ∙ rows-found c.args.rows.now c.args.text.now c.rows.k none c.rows-test.true is)

pub rows-preserved : goal.rows-preserved
unfolding none
rows-preserved c =
    let other = ap (starts_with nat_eq c.args.text.now) (sym c.text_at.ensures) ∙ sym c.begins_with.ensures ∙ c.if-begins_with.false in
    record {
      within = omega (arith, c.rows-test.true);
      same = c.rows.invariant.same ∙ rows-past c.args.rows.now c.args.text.now c.rows.k none c.rows-test.true other;
    }

pub returns : goal.returns
returns c = sym (c.rows.invariant.same ∙ rows-end c.args.rows.now c.args.text.now c.rows.k c.rows-test.false)
