use Rattle.short_names.proofs.Basics.{sym, ◌∙◌, arith, Alias, ALIASES}
use Rattle.short_names.proofs.NameLemmas.{member-past, member-here, member-end}
use Rattle.short_names.proofs.names.member_row.Goals as goal

abbrev none : Alias
none = record { template = record { from = 0; to = 0 }; arguments = record { from = 0; to = 0 }; name = record { from = 0; to = 0 } }

pub returns-then-not-may_have_member : goal.returns-then-not-may_have_member
returns-then-not-may_have_member c = c.may_have_member.ensures c.if-not-may_have_member.true c.args.text.now c.requires

pub rows-preserved : goal.rows-preserved
rows-preserved c = record {
  within = omega (arith, c.rows-test.true);
  same = c.rows.invariant.same ∙ member-past ALIASES c.args.name.now c.args.text.now c.rows.row none c.rows-test.true (sym c.is_member.ensures ∙ c.if-is_member.false);
}

pub returns-then-is_member : goal.returns-then-is_member
returns-then-is_member c = (
  c.rows-test.true,
  c.rows.invariant.same ∙ member-here c.args.name.now c.args.text.now c.rows.row none c.rows-test.true (sym c.is_member.ensures ∙ c.if-is_member.true),
)

pub returns : goal.returns
returns c = c.rows.invariant.same ∙ member-end ALIASES c.args.name.now c.args.text.now c.rows.row c.rows-test.false
