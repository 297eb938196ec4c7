-- The library lemmas and definitions that this crate's proofs use, exported from one place.
pub use Rattle.std.proofs.Common.{Bool, Err, List, Ok, Option, Result, [], ap, append-nil, append_assoc, arith, cond, drop, false, inl, inr, length, length-append, refl, rules, subst, suc, sym, take, true, zero, ℕ, ◌++◌, ◌+◌, ◌-◌, ◌<◌, ◌^◌, ◌∙◌, ◌∷◌, ◌≡◌, ◌≤◌, ◌⊎◌}
pub use Rattle.std.proofs.lemmas.Bool.Decides.{nat_tests}
pub use Rattle.std.proofs.lemmas.List.{drop-drop, length-drop, length-take-le, take_rest}
pub use Rattle.std.proofs.lemmas.Result.{on_ok_weaker}
pub use Rattle.std.specs.Prelude.{None, Some, codes, nat_eq, nat_le, unwrap_or}
unfoldable pub use Rattle.legacy_parts.specs.Kinds.{kind_of_path}
pub use Rattle.legacy_parts.specs.Kinds.{is_closure}
unfoldable pub use Rattle.legacy_parts.specs.Measures.{parts_by, suffix_part}
pub use Rattle.legacy_parts.specs.Measures.{AreFitting, AreMeasured, IsTextOf, first_of, place_of}
unfoldable pub use Rattle.legacy_parts.specs.Roles.{before_last, names_marked, path_marked, root_role}
pub use Rattle.legacy_parts.specs.Roles.{last_of, shown}
unfoldable pub use Rattle.legacy_parts.specs.Spelled.{end_at, last_at, size_at, spelling_by, spelling_of_path}
pub use Rattle.legacy_parts.specs.Spelled.{bytes, spelled}
pub use Rattle.rust_legacy.proofs.Legacy.{path_is, some_names_of}
pub use Rattle.rust_legacy.proofs.Names.{AreNames-low, AreNames-none, after, at_end, ended_within, name_size, some_names}
pub use Rattle.rust_legacy.proofs.Paths.{first_name, names_text-next}
unfoldable pub use Rattle.rust_legacy.specs.Path.{legacy_of}
pub use Rattle.rust_legacy.specs.Path.{AreNames, IsPlaced, Name, Path, StandsAt, before_hash, begins_with, is_hash, name_in, names_in, path_before_hash, path_in, with_name}
pub use Rattle.rust_legacy.specs.Text.{legacy_text, names_parts, shown_path, suffix_parts}
pub use Rattle.rust_legacy.specs.declared.path.PathPlace.{PathPlace}
pub use Rattle.sym_parts.proofs.Marks.{stretches_from-before, text_of-before}
unfoldable pub use Rattle.sym_parts.specs.Marked.{stretches_from}
pub use Rattle.sym_parts.specs.Marked.{Marked, done, marked, stretches_of, text, ◌before◌}
unfoldable pub use Rattle.sym_parts.specs.Plain.{suffixed}
pub use Rattle.sym_parts.specs.Plain.{alone, only, plain}
pub use Rattle.sym_parts.specs.declared.kind.NameKind.{NameKind}
pub use Rattle.sym_parts.specs.declared.role.Role.{Role}
pub use Rattle.sym_parts.specs.declared.spelling.Item.{Item}
pub use Rattle.sym_parts.specs.declared.spelling.Spelled.{Spelled}
pub use Rattle.sym_parts.specs.declared.stretch.Stretch.{Stretch}
pub use Rattle.sym_print.specs.Unshared.{Unshared, cost_of, text_of}
