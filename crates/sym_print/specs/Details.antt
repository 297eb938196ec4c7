-- What a detail shows.
use Rattle.std.specs.Prelude.{Bool, true, false}
use Rattle.sym_print.specs.declared.detail.Detail.{Detail}
use Rattle.sym_print.specs.declared.detail.Detail.TheVariants.{Full, Brief, NoParameters, BriefNoParameters}

-- whether names have their template and generic arguments
abbrev pub has_arguments : Detail → Bool
has_arguments Full = true
has_arguments Brief = false
has_arguments NoParameters = true
has_arguments BriefNoParameters = false

-- whether functions have their parameters, and what surrounds the parameters
abbrev pub has_parameters : Detail → Bool
has_parameters Full = true
has_parameters Brief = true
has_parameters NoParameters = false
has_parameters BriefNoParameters = false
