-- The library lemmas and definitions that this crate's proofs use, exported from one place.
pub use Rattle.std.proofs.Common.{Bool, List, None, Option, Some, [], ap, append_assoc, ap₂, arith, codes, drop, drop-drop, false, get_or, if◌then◌else◌, inl, inr, length, length-append, length-drop, length-take, lit≤, nat_eq, not, refl, replicate, subst, suc, sym, take, take_all, true, true≢false, zero, ℕ, ◌&&◌, ◌*◌, ◌++◌, ◌+◌, ◌-◌, ◌<◌, ◌==◌, ◌||◌, ◌∙◌, ◌∷◌, ◌≡◌, ◌≤◌, ◌⊎◌}
pub use Rattle.std.proofs.Math.Seq.{drop-append_seam, take-add, take-append-add, take-append_seam}
pub use Rattle.std.proofs.lemmas.Bool.{eq-eqb, eqb-true}
pub use Rattle.std.proofs.lemmas.Bool.Decides.{Decides-eqb}
pub use Rattle.std.proofs.lemmas.List.{append-nil, drop_all, drop_more, get_or_append_left, get_or_past, length-replicate, take-append-drop}
pub use Rattle.std.proofs.lemmas.List.Elements.{filter-append}
pub use Rattle.std.proofs.lemmas.Slice.Eq.{ends_is, starts_is}
pub use Rattle.std.specs.Cmp.Lexicographic.{pointwise}
pub use Rattle.std.specs.List.{ends_with, filter, list_all, starts_with}
unfoldable pub use Rattle.gnu_texts.specs.Clones.{begins_part, is_suffix, parted}
pub use Rattle.gnu_texts.specs.Clones.{clones, letter_bytes, suffix_of}
unfoldable pub use Rattle.gnu_texts.specs.Laws.{are_in, closed_up}
pub use Rattle.gnu_texts.specs.Laws.{AddsBlanks, ComesBack, HasNo, HasNoBlanks, HasNoNames, HasNoPlaces, HasNoWords, IsBounded, IsLessThanDouble, IsNoShorter, KeepsBytes, PartsBrackets, ReachesBound, Stays, dots, without_blanks, without_parentheses}
unfoldable pub use Rattle.gnu_texts.specs.Names.{begins_whole, member_front, name_at, name_of, named, written_of}
pub use Rattle.gnu_texts.specs.Names.{member_bytes, member_size}
unfoldable pub use Rattle.gnu_texts.specs.Pieces.{bytes_of, is_plain, is_spaced, last_of, operator_size, piece_at, sign_size, size_of}
pub use Rattle.gnu_texts.specs.Pieces.{name_piece, plain_piece}
unfoldable pub use Rattle.gnu_texts.specs.Spelling.{spelled}
pub use Rattle.gnu_texts.specs.Spelling.{gnu_text}
pub use Rattle.gnu_texts.specs.declared.names.Name.{Name}
pub use Rattle.gnu_texts.specs.declared.piece.Piece.{Piece}
unfoldable pub use Rattle.short_names.specs.Runs.{is_letter}
