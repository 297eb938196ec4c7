-- Which names a style reads.
use Rattle.std.specs.Prelude.{◌≡◌, ◌≢◌, ℕ, List, Bool, true, false, not, is_some, Option, Some, None, codes}
use Rattle.rust_legacy.specs.Path.{legacy_of}
use Rattle.sym_filter.specs.declared.kinds.Lang.{Lang}
use Rattle.sym_filter.specs.declared.kinds.Lang.TheVariants as lang
use Rattle.demangle_names.specs.declared.style.Style.{Style}
use Rattle.demangle_names.specs.declared.style.Style.TheVariants as style

-- the style with this name, or none
abbrev pub IsStyle : List ℕ → Option Style → Type 0
IsStyle name (Some style.Auto) = name ≡ codes "auto"
IsStyle name (Some style.GnuV3) = name ≡ codes "gnu-v3"
IsStyle name (Some style.Rust) = name ≡ codes "rust"
IsStyle name (Some style.Nothing) = name ≡ codes "none"
IsStyle name None = (name ≢ codes "auto") × (name ≢ codes "gnu-v3") × (name ≢ codes "rust") × (name ≢ codes "none")

-- whether a symbol of a mangling is left out
abbrev pub leaves_out : Style → Lang → List ℕ → Bool
leaves_out style.Auto mangling symbol = false
leaves_out style.GnuV3 lang.Cpp symbol = false
leaves_out style.GnuV3 lang.Rust symbol = true
leaves_out style.Rust lang.Cpp symbol = not (is_some (legacy_of symbol))
leaves_out style.Rust lang.Rust symbol = false
leaves_out style.Nothing mangling symbol = true

-- whether legacy Rust names, each of which is a C++ symbol, are read as paths
abbrev pub reads_paths : Style → Bool
reads_paths style.Auto = true
reads_paths style.GnuV3 = false
reads_paths style.Rust = true
reads_paths style.Nothing = true
