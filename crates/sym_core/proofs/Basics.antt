-- What the proofs use of libraries and definitions, exported from one place.
pub use Rattle.std.proofs.Common.{Bool, Err, List, None, Ok, Option, Result, Some, [], ap, append_assoc, arith, cond, drop, eq-eqb, eqb, false, get_or, inl, inr, le-leb, leb, length, length-append, ltb, map, nat_le, nat_lt, ne_eqb, not, option_and_then, option_map, refl, slice_set, string_bytes, subst, suc, sym, take, true, zero, ℕ, ◌&&◌, ◌*◌, ◌++◌, ◌+◌, ◌-◌, ◌<◌, ◌==◌, ◌^◌, ◌||◌, ◌∙◌, ◌∷◌, ◌≡◌, ◌≢◌, ◌≤◌, ◌⊎◌}
pub use Rattle.std.proofs.Math.Nat.{mul-le-mul_right, mul_assoc, mul_comm, pow-le-pow_right, pow-suc, pow-zero}
pub use Rattle.std.proofs.Math.Seq.{drop-cons, take-append-add}
pub use Rattle.std.proofs.lemmas.Bool.{and_parts, cases_Bool, cases_eq, cases_lt, false≢true, leb-true, or_left}
pub use Rattle.std.proofs.lemmas.Bool.Decides.{nat_tests}
pub use Rattle.std.proofs.lemmas.List.{append-nil, append_cancel_right, drop-drop, drop_at, drop_more, get_or-drop, get_or-take, length-drop, length-take-le, take-append-drop, take_at, take_more, take_rest}
pub use Rattle.std.proofs.lemmas.List.FromFn.{get_or-map-range_with_len}
pub use Rattle.std.proofs.lemmas.Str.{IsUtf8-from_ascii, chars_from_encodes, len_utf8_bounds, length-encode}
pub use Rattle.std.specs.List.{AllByRecursion, list_all, range_with_len, suffix_len}
pub use Rattle.std.specs.Prelude.{chars, encode_utf8_all}
pub use Rattle.std.specs.Str.{IsAscii, IsUtf8}
pub use Rattle.sym_core.specs.Number.{AreDigits, AreDigitsOf, BeginsNumber, HasNoNumber, HasNumber, IsFormOf, IsLengthForm, IsNumber, IsNumberBreak, IsNumberSpan, ending_of, is_decimal_digit, is_digit_of}
unfoldable pub use Rattle.sym_core.specs.Printed.{hyphenated}
pub use Rattle.sym_core.specs.Printed.{decoded_name, has_underscore, identifier_text}
pub use Rattle.sym_core.specs.Scan.{IsLimit, IsNameless, IsOwn, IsRun, IsSeparated, ReachesNameBytes, StopsAt, is_bare_digit, is_marked}
pub use Rattle.sym_core.specs.Token.{AreNameBytes, FindsToken, HasNoToken, HasToken, IsName, IsNumberToken, IsSeparator, Token, begins_number, bytes_of, ends_name, ends_number, is_name_byte}
pub use Rattle.sym_core.specs.Value.{digit_value, radix_of, value_of, value_onto}
pub use Rattle.sym_core.specs.declared.NameClass.{NameClass}
pub use Rattle.sym_core.specs.declared.NameClass.TheVariants.{Cpp, Rust}
pub use Rattle.sym_core.specs.declared.NumberKind.{NumberKind}
pub use Rattle.sym_core.specs.declared.NumberKind.TheVariants.{Base62, Decimal, Digits, Hex, Length, Seq36}
pub use Rattle.sym_core.specs.declared.Span.{Span}
pub use Rattle.sym_core.specs.declared.tokens.TokenPlace.{TokenPlace}
pub use Rattle.idna.specs.Punycode.{decode}
pub use Rattle.unicode_ident.specs.Ident.{is_xid_continue}
