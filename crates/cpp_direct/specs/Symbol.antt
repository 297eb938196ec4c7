-- A symbol, the grammar of C++ that reads it, and how much of it is shown.
use Rattle.std.specs.Prelude.{ℕ, List, Bool, true, false}
use Rattle.sym_print.specs.declared.detail.Detail.{Detail}
use Rattle.sym_print.specs.declared.detail.Detail.TheVariants.{Full, Brief, NoParameters, BriefNoParameters}
use Rattle.sym_demangle.specs.Mangled.{Mangled}
use Rattle.cpp_grammar.specs.Term.{Term}
pub use Rattle.cpp_short_reading.specs.Grammars.{mangled_by, table_by}

-- the bytes of a symbol, whether the wide grammar reads it, whether only the names of functions are shown, and whether names
-- are shown without their template arguments
pub record Symbol : Type 0 where
  pub bytes : List ℕ
  pub is_wide : Bool
  pub is_bare : Bool
  pub is_brief : Bool

abbrev pub symbol_by : (is_wide is_bare is_brief : Bool) → (bytes : List ℕ) → Symbol
symbol_by is_wide is_bare is_brief bytes = record { bytes = bytes; is_wide = is_wide; is_bare = is_bare; is_brief = is_brief }

-- how much is shown
abbrev pub detail_by : (is_bare is_brief : Bool) → Detail
detail_by true true = BriefNoParameters
detail_by true false = NoParameters
detail_by false true = Brief
detail_by false false = Full

abbrev pub detail_of : Symbol → Detail
detail_of s = detail_by s.is_bare s.is_brief

-- the symbol with this much of it shown
abbrev pub symbol_as : (is_wide : Bool) → Detail → (bytes : List ℕ) → Symbol
symbol_as is_wide Full bytes = symbol_by is_wide false false bytes
symbol_as is_wide Brief bytes = symbol_by is_wide false true bytes
symbol_as is_wide NoParameters bytes = symbol_by is_wide true false bytes
symbol_as is_wide BriefNoParameters bytes = symbol_by is_wide true true bytes

-- the promise about the symbol
abbrev pub mangled_of : Symbol → Mangled Term
mangled_of s = mangled_by s.is_wide
