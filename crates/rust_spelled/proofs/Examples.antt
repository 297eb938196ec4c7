-- The definitions, computed on rows of symbols.
use Rattle.std.proofs.Common.{◌≡◌, ℕ, List, [], ◌∷◌, refl}
use Rattle.std.specs.Prelude.{codes}
use Rattle.sym_shape.specs.declared.rule.Row.{Row}
use Rattle.sym_parts.specs.Spelling.{Spelling}
use Rattle.sym_parts.specs.declared.role.Role.{Role}
use Rattle.sym_parts.specs.declared.role.Role.TheVariants as role
use Rattle.sym_parts.specs.declared.spelling.Item.{Item}
use Rattle.sym_parts.specs.declared.spelling.Span.{Span}
use Rattle.sym_parts.specs.declared.spelling.Spelled.{Spelled}
use Rattle.rust_spelled.specs.Rows.{row_at}
use Rattle.rust_spelled.specs.Paths.{parent_by, paths_from, root_of, is_shown, is_named_by, first_named}
use Rattle.rust_spelled.specs.Parts.{name_spelled, impl_path_by, impl_of_type, impl_of_trait, root_spelled, suffix_spelled, rest_spelled}
use Rattle.rust_spelled.specs.Arguments.{arguments_from, arguments_of, list_of, is_generic, generics, items_of}
use Rattle.rust_spelled.specs.Spelling.{others_by, spans_of, spelling_of}

abbrev row : (rule after from to end : ℕ) → Row
row rule after from to end = record { rule = rule; after = after; from = from; to = to; end = end }

abbrev bytes : (from to : ℕ) → Span
bytes from to = record { from = from; to = to }

abbrev part : Role → (from to : ℕ) → Spelled
part r from to = record { role = r; span = bytes from to }

abbrev item : (from to first count : ℕ) → Item
item from to first count = record { span = bytes from to; first = first; count = count }

abbrev spelling : (others : Span) → List Spelled → (lists : List Span) → List Item → (elements : List Span) → Spelling
spelling others parts lists items elements = record {
  others = others;
  spans = parts;
  specials = [];
  tags = [];
  argument_lists = lists;
  arguments = items;
  parameters = [];
  elements = elements;
}

-- <a::B>::baz::<u8> (.x)
abbrev method_rows : List Row
method_rows =
    row 0 0 0 26 21 ∷ row 7 2 2 24 19 ∷ row 6 2 3 22 17 ∷ row 10 2 4 5 4 ∷ row 3 1 5 18 15 ∷ row 2 1 6 11 8
    ∷ row 14 0 7 11 8 ∷ row 65535 0 8 11 8 ∷ row 6 0 11 18 15 ∷ row 10 2 12 13 10 ∷ row 2 1 13 16 13 ∷ row 14 0 14 16 13
    ∷ row 65535 0 15 16 13 ∷ row 14 0 16 18 15 ∷ row 65535 0 17 18 15 ∷ row 14 0 18 22 17 ∷ row 65535 0 19 22 17 ∷ row 17 1 22 23 19
    ∷ row 18 1 22 23 19 ∷ row 8 0 24 26 21 ∷ row 9 1 25 26 21 ∷ []

row-method : spelling_of (codes "_RINvMC3fooNtC1a1B3bazhE.x") method_rows
    ≡ spelling (bytes 2 24)
    (part role.Scope 5 18 ∷ part role.Base 18 22 ∷ part role.Impl 5 18 ∷ part role.SelfType 11 18 ∷ part role.Suffix 24 26 ∷ [])
    (bytes 22 23 ∷ []) (item 22 23 0 1 ∷ []) (bytes 22 23 ∷ [])
unfolding row_at parent_by paths_from root_of is_shown is_named_by first_named name_spelled impl_path_by impl_of_type impl_of_trait root_spelled suffix_spelled rest_spelled arguments_from arguments_of list_of is_generic generics items_of others_by spans_of spelling_of
row-method = refl

-- <a::B as t>, in the crate z, with a last name that isn't shown
abbrev passed_over_rows : List Row
passed_over_rows =
    row 0 0 0 26 24 ∷ row 6 2 2 23 21 ∷ row 10 2 3 4 3 ∷ row 4 1 4 22 19 ∷ row 11 3 5 7 6 ∷ row 65535 0 6 6 6
    ∷ row 2 2 7 12 9 ∷ row 14 0 8 12 9 ∷ row 65535 0 9 12 9 ∷ row 6 1 12 19 16 ∷ row 10 2 13 14 11 ∷ row 2 1 14 17 14
    ∷ row 14 0 15 17 14 ∷ row 65535 0 16 17 14 ∷ row 14 0 17 19 16 ∷ row 65535 0 18 19 16 ∷ row 2 0 19 22 19 ∷ row 14 0 20 22 19
    ∷ row 65535 0 21 22 19 ∷ row 14 0 22 23 21 ∷ row 65535 0 23 23 21 ∷ row 2 1 23 26 24 ∷ row 14 0 24 26 24 ∷ row 65535 0 25 26 24
    ∷ []

row-passed_over : spelling_of (codes "_RNnXs_C3fooNtC1a1BC1t0C1z") passed_over_rows
    ≡ spelling (bytes 2 23)
    (part role.Impl 4 22 ∷ part role.SelfType 12 19 ∷ part role.Trait 19 22 ∷ part role.InstantiatingCrate 23 26 ∷ [])
    [] [] []
unfolding row_at parent_by paths_from root_of is_shown is_named_by first_named name_spelled impl_path_by impl_of_type impl_of_trait root_spelled suffix_spelled rest_spelled arguments_from arguments_of list_of is_generic generics items_of others_by spans_of spelling_of
row-passed_over = refl

-- a::b::<u8>::{closure#0}::<'_, _>
abbrev closure_rows : List Row
closure_rows =
    row 0 0 0 21 21 ∷ row 7 2 2 21 21 ∷ row 6 2 3 16 16 ∷ row 10 2 4 5 4 ∷ row 7 1 5 15 14 ∷ row 6 2 6 13 12
    ∷ row 10 2 7 8 7 ∷ row 2 1 8 11 10 ∷ row 14 0 9 11 10 ∷ row 65535 0 10 11 10 ∷ row 14 0 11 13 12 ∷ row 65535 0 12 13 12
    ∷ row 17 1 13 14 14 ∷ row 18 1 13 14 14 ∷ row 14 0 15 16 16 ∷ row 65535 0 16 16 16 ∷ row 15 1 16 20 21 ∷ row 31 1 16 18 19
    ∷ row 65535 0 17 17 19 ∷ row 16 0 18 20 21 ∷ row 43 1 19 20 21 ∷ []

row-closure : spelling_of (codes "_RINCINvC1a1bhE0L_KpE") closure_rows
    ≡ spelling (bytes 2 21)
    (part role.Scope 5 15 ∷ part role.Base 15 16 ∷ part role.Crate 8 11 ∷ [])
    (bytes 16 20 ∷ bytes 13 14 ∷ []) (item 16 20 0 2 ∷ item 13 14 2 1 ∷ []) (bytes 16 18 ∷ bytes 18 20 ∷ bytes 13 14 ∷ [])
unfolding row_at parent_by paths_from root_of is_shown is_named_by first_named name_spelled impl_path_by impl_of_type impl_of_trait root_spelled suffix_spelled rest_spelled arguments_from arguments_of list_of is_generic generics items_of others_by spans_of spelling_of
row-closure = refl
