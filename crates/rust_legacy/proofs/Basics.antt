-- The library lemmas and definitions that this crate's proofs use, exported from one place.
pub use Rattle.std.proofs.Common.{Bool, Err, List, Ok, Result, Vec, [], ap, append_assoc, arith, cond, drop, false, get_or, inl, inr, length, length-append, map, not, refl, subst, suc, sym, take, true, vec_capacity, vec_len, zero, ℕ, ◌&&◌, ◌*◌, ◌++◌, ◌+◌, ◌-◌, ◌<◌, ◌^◌, ◌∙◌, ◌∷◌, ◌≡◌, ◌≢◌, ◌≤◌}
pub use Rattle.std.proofs.lemmas.Bool.Decides.{nat_tests}
pub use Rattle.std.proofs.lemmas.List.{append-nil, drop-drop, drop_all, drop_more, length-drop, length-take, length-take-le, take-append-drop, take-append-le, take_rest}
pub use Rattle.std.proofs.lemmas.List.Sums.{prefix_len-drop_yes, prefix_len-le-length}
pub use Rattle.std.specs.List.{list_all, prefix_len, range_with_len}
pub use Rattle.std.specs.Prelude.{MatchOption, None, Option, Some, codes, encode_utf8_all, nat_eq, nat_le, nat_lt, unwrap_or, ⊤, ◌==◌}
pub use Rattle.std.specs.Result.{IfErr, IfOk, IsErrAnd}
unfoldable pub use Rattle.rust_legacy.specs.Path.{legacy_of}
pub use Rattle.rust_legacy.specs.Path.{AreNames, AreRead, HasLength, IsPlaced, Name, Path, before_hash, begins_with, is_end, is_hash, is_legacy_byte, is_suffix, name_in, names_in, path_before_hash, path_in, with_name, with_suffix}
pub use Rattle.rust_legacy.specs.Text.{front_at, name_parts, names_parts, shown_name, shown_path, suffix_parts}
pub use Rattle.rust_legacy.specs.Tokens.{Token, bare_name, either, escape_of, is_plain, is_shown, numbered, or_all, texts_in, texts_of, token_as, token_of}
pub use Rattle.rust_legacy.specs.Writing.{IsRefused, IsWritten, Keeps}
pub use Rattle.sym_core.specs.Number.{AreDigits, is_decimal_digit, is_digit_of}
pub use Rattle.sym_core.specs.Value.{value_of}
pub use Rattle.sym_core.specs.declared.NumberKind.TheVariants.{Hex, Length}
pub use Rattle.sym_core.specs.declared.refusal.Refusal.{Refusal}
pub use Rattle.sym_print.specs.Answer.{text_within}
pub use Rattle.sym_print.specs.Unshared.{Unshared, cost_of, cost_of_parts, text_of}
