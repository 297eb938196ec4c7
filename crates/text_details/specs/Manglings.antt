-- How symbols are mangled.
use Rattle.std.specs.Prelude.{ℕ, List, Bool, ◌&&◌, is_some, codes, if◌then◌else◌}
use Rattle.rust_legacy.specs.Path.{legacy_of}
use Rattle.sym_filter.specs.declared.kinds.Lang.{Lang}
use Rattle.sym_filter.specs.declared.kinds.Lang.TheVariants.{Cpp, Rust}
use Rattle.text_details.specs.declared.manglings.Mangling.{Mangling}
use Rattle.text_details.specs.declared.manglings.Mangling.TheVariants.{Itanium, RustV0, RustLegacy}

abbrev pub language_of : Mangling → List ℕ
language_of Itanium = codes "c++"
language_of RustV0 = codes "rust"
language_of RustLegacy = codes "rust"

abbrev pub mangling_name : Mangling → List ℕ
mangling_name Itanium = codes "itanium"
mangling_name RustV0 = codes "rust-v0"
mangling_name RustLegacy = codes "rust-legacy"

-- the mangling of a symbol; a legacy Rust name is a C++ symbol, too, and its mangling is Rust's only where it is read as a path
abbrev pub mangling_of : (reads_paths : Bool) → Lang → List ℕ → Mangling
mangling_of reads_paths Cpp symbol = if reads_paths && is_some (legacy_of symbol) then RustLegacy else Itanium
mangling_of reads_paths Rust symbol = RustV0

-- the mangling's number, which stays from one version to the next
abbrev pub mangling_number : Mangling → ℕ
mangling_number Itanium = 1
mangling_number RustV0 = 2
mangling_number RustLegacy = 3
