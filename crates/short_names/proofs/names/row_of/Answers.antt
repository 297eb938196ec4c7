use Rattle.short_names.proofs.Basics.{◌<◌, length, get_or, refl, ◌∙◌, arith, Place, Template, TEMPLATES, FIRST}
use Rattle.short_names.proofs.TemplateLemmas.{from-first, none-behind, none-longer, row-past, named-here, found-here}
use Rattle.short_names.proofs.names.row_of.Goals as goal

abbrev nowhere : Place
nowhere = record { from = 0; to = 0 }

abbrev none : Template
none = record { name = nowhere; count = 0; first_default = 0; polymorphic = nowhere; first_alias = 0; end_alias = 0 }

pub returns-then-name-ge-LONGEST : goal.returns-then-name-ge-LONGEST
returns-then-name-ge-LONGEST c = none-longer c.args.name.now c.if-name-ge-LONGEST.true

pub rows-init : goal.rows-init
rows-init c = record { same = from-first c.args.name.now (get_or FIRST (length c.args.name.now) 0) refl }

pub rows-preserved : goal.rows-preserved
rows-preserved c =
    let within : c.rows.row < 67 = omega (arith, c.rows-test.true, c.min-end.ensures) in
    record {
      same =
          c.rows.invariant.same
          ∙ row-past TEMPLATES c.args.name.now c.rows.row none within
          (named-here c.args.name.now c.rows.row none within c.has_name.result c.has_name.ensures ∙ c.if-has_name.false);
    }

pub returns-then-has_name : goal.returns-then-has_name
returns-then-has_name c =
    let within : c.rows.row < 67 = omega (arith, c.rows-test.true, c.min-end.ensures) in (
      within,
      c.rows.invariant.same
          ∙ found-here c.args.name.now c.rows.row none within (named-here c.args.name.now c.rows.row none within c.has_name.result c.has_name.ensures ∙ c.if-has_name.true),
    )

pub returns : goal.returns
returns c = c.rows.invariant.same ∙ none-behind c.args.name.now c.rows.row (omega (arith, c.rows-test.false, c.min-end.ensures))
