use Rattle.short_names.proofs.Basics.{ap, slice_get-get_or, Place, Template, TEMPLATES, with_template}
use Rattle.short_names.proofs.names.Named.of_row.Goals as goal

abbrev nowhere : Place
nowhere = record { from = 0; to = 0 }

abbrev none : Template
none = record { name = nowhere; count = 0; first_default = 0; polymorphic = nowhere; first_alias = 0; end_alias = 0 }

pub returns : goal.returns
returns c = ap (with_template c.args.whole) (slice_get-get_or TEMPLATES c.args.row none c.requires)
