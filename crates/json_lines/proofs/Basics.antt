-- The library lemmas and definitions that this crate's proofs use, exported from one place.
pub use Rattle.std.proofs.Common.{Bool, Bor, Err, Global, List, None, Ok, Option, Result, Some, Vec, [], ap, append-nil, append_assoc, ap₂, arith, codes, cond, drop, false, get_or, inl, inr, is_some, length, map, not, refl, rules, subst, suc, sym, take, true, ℕ, ◌++◌, ◌+◌, ◌<◌, ◌==◌, ◌||◌, ◌∙◌, ◌∷◌, ◌≡◌, ◌≢◌, ◌≤◌}
pub use Rattle.std.proofs.lemmas.Result.{on_ok_weaker}
pub use Rattle.std.specs.Fmt.{decimal}
pub use Rattle.std.specs.List.{All, flat_map, list_all, list_any}
pub use Rattle.std.specs.Prelude.{fold, if◌then◌else◌, nat_lt, option_and_then}
pub use Rattle.std.specs.Str.Lossy.{utf8_lossy}
unfoldable pub use Rattle.json_lines.specs.Meanings.{named_by, symbol_meaning}
pub use Rattle.json_lines.specs.Meanings.{Meaning, answered, has_text, meaning_by, meaning_in, no_symbol, refused, stays}
pub use Rattle.json_lines.specs.Objects.{AreDetails, HasPlace, IsLine, IsMeaning, IsPart, IsPrinted, LinesAreObjects, detail_members, line_members, mangling_members, meaning_members, name_line, name_lines, name_members, name_stays, names_stay, object_of, part_items, part_object, refusal_members, text_of, two_numbers}
pub use Rattle.json_lines.specs.Tokens.{code_escape, front_of, later_part, members_text, parts_text}
pub use Rattle.demangle_names.specs.Escaped.{escaped, escaped_byte}
pub use Rattle.demangle_names.specs.Style.{reads_paths}
pub use Rattle.json.specs.Json.{Members, array, max_depth, member, no_members, number, object, string}
unfoldable pub use Rattle.json.specs.Print.{escape_byte, print_from}
pub use Rattle.json.specs.Print.{ends, escape, escape_letter, print, quoted}
pub use Rattle.json.specs.Token.{Token}
pub use Rattle.json.specs.Tree.{HasNumbers, ItemsHaveNumbers, MembersHaveNumbers, depth, items_depth, items_tokens, json_tokens, members_tokens}
pub use Rattle.sym_core.specs.declared.refusal.Refusal.{Refusal}
pub use Rattle.sym_filter.proofs.TryLemmas.{is_left_out, trimmed-all, trimmed-last}
pub use Rattle.sym_filter.specs.Kinds.{kind_of, symbol_of}
unfoldable pub use Rattle.sym_filter.specs.Runs.{text_for}
pub use Rattle.sym_filter.specs.Runs.{Answering, trimmed}
pub use Rattle.sym_parts.specs.Words.{kind_name, role_name}
pub use Rattle.sym_parts.specs.declared.part.Part.{Part}
pub use Rattle.text_details.specs.Details.{Detailing, Details, details_in}
pub use Rattle.text_details.specs.Manglings.{language_of, mangling_name, mangling_of}
pub use Rattle.text_details.specs.declared.manglings.Mangling.{Mangling}
