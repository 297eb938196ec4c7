-- The grammar keeps the laws of tables: the checker computes this once.
use Rattle.std.proofs.Common.{refl}
use Rattle.sym_core.specs.declared.NameClass.TheVariants.{Rust}
use Rattle.sym_shape.specs.Law.{IsLawful}
use Rattle.sym_shape.specs.SheetLaws.{lawful_sheet}
use Rattle.rust_grammar.specs.Rules.{v0_table, kinds, no_kind}

pub lawful : IsLawful v0_table
lawful = lawful_sheet no_kind kinds Rust refl
