-- Where the bytes of all rows are within a symbol's, so are those of all parts.
use Rattle.std.proofs.Common.{◌≡◌, ℕ, zero, suc, ◌+◌, ◌<◌, ◌≤◌, ◌⊎◌, inl, inr, Bool, true, false, List, [], ◌∷◌, ◌++◌, length, map, Option, Some, None, get_or, subst, sym, refl, arith}
use Rattle.std.specs.List.{All, flat_map}
use Rattle.std.specs.Prelude.{nat_le, nat_lt, slice_get, unwrap_or, if◌then◌else◌, ◌==◌}
use Rattle.std.proofs.lemmas.List.Elements.{All-append, All-cons, All-nil, All-map}
use Rattle.std.proofs.lemmas.Option.{slice_get_cases}
use Rattle.sym_shape.specs.declared.rule.Row.{Row}
use Rattle.rust_grammar.specs.declared.production.Production.{Production}
use Rattle.rust_grammar.specs.declared.production.Production.TheVariants as rules
use Rattle.sym_parts.specs.declared.role.Role.{Role}
use Rattle.sym_parts.specs.declared.role.Role.TheVariants as role
use Rattle.sym_parts.specs.declared.spelling.Item.{Item}
use Rattle.sym_parts.specs.declared.spelling.Span.{Span}
use Rattle.sym_parts.specs.declared.spelling.Spelled.{Spelled}
use Rattle.sym_parts.specs.Spelling.{span}
use Rattle.sym_parts.specs.Within.{IsSpanWithin, IsWithin}
use Rattle.rust_spelled.specs.Rows.{no_row, row_at, production_at, behind, span_at}
use Rattle.rust_spelled.specs.Paths.{paths_of, root_of, first_named}
use Rattle.rust_spelled.specs.Parts.{spelled, name_spelled, impl_type, impl_of_type, impl_of_trait, root_spelled, suffix_spelled, rest_spelled}
use Rattle.rust_spelled.specs.Arguments.{arguments_from, arguments_of, list_of, generics, item_of, items_of}
use Rattle.rust_spelled.specs.Spelling.{others_by, spans_of, spelling_of}

-- ## Rows

-- both places of a row are at most n
abbrev pub IsRowWithin : (n : ℕ) → Row → Type 0
IsRowWithin n row = (row.from ≤ n) × (row.to ≤ n)

row_found : (n : ℕ) (rows : List Row) (number : ℕ)
    → ((row : Row) × (number < length rows) × (slice_get rows number ≡ Some row) × (get_or rows number row ≡ row)) ⊎ ((length rows ≤ number) × (slice_get rows number ≡ None))
    → All (IsRowWithin n) rows → IsRowWithin n (row_at rows number)
unfolding row_at
row_found n rows number (inl (row, below, some, own)) all =
    subst (λ found. IsRowWithin n (unwrap_or found no_row)) (sym some) (subst (IsRowWithin n) own (all number row below))
row_found n rows number (inr (past, none)) all = subst (λ found. IsRowWithin n (unwrap_or found no_row)) (sym none) (omega arith, omega arith)

row-within : (n : ℕ) (rows : List Row) (number : ℕ) → All (IsRowWithin n) rows → IsRowWithin n (row_at rows number)
row-within n rows number all = row_found n rows number (slice_get_cases rows number).1 all

-- ## Spans

if-has : {X : Type 0} (P : X → Type 0) (b : Bool) (x y : X) → P x → P y → P (if b then x else y)
if-has P true x y px py = px
if-has P false x y px py = py

cut-within : (b : Bool) (n from to : ℕ) → nat_le from to ≡ b → from ≤ n → to ≤ n → (from ≤ (if b then to else from)) × ((if b then to else from) ≤ n)
cut-within true n from to is from-within to-within = (search (arith, is), to-within)
cut-within false n from to is from-within to-within = (omega arith, from-within)

span-within : (n from to : ℕ) → from ≤ n → to ≤ n → IsSpanWithin n (span from to)
span-within n from to from-within to-within = cut-within (nat_le from to) n from to refl from-within to-within

span_at-within : (n : ℕ) (rows : List Row) (number : ℕ) → All (IsRowWithin n) rows → IsSpanWithin n (span_at rows number)
span_at-within n rows number all =
    let row = row-within n rows number all in
    span-within n (row_at rows number).from (row_at rows number).to row.0 row.1

-- ## Parts that come once

abbrev IsSpelledIn : (n : ℕ) → Spelled → Type 0
IsSpelledIn n part = IsSpanWithin n part.span

one-within : (n : ℕ) (r : Role) (bytes : Span) → IsSpanWithin n bytes → All (IsSpelledIn n) (spelled r bytes ∷ [])
one-within n r bytes is = All-cons (IsSpelledIn n) (spelled r bytes) [] is (All-nil (IsSpelledIn n))

two-within : (n : ℕ) (r q : Role) (bytes others : Span) → IsSpanWithin n bytes → IsSpanWithin n others → All (IsSpelledIn n) (spelled r bytes ∷ spelled q others ∷ [])
two-within n r q bytes others is are = All-cons (IsSpelledIn n) (spelled r bytes) (spelled q others ∷ []) is (one-within n q others are)

name-within : (n : ℕ) (rows : List Row) (named : Option ℕ) → All (IsRowWithin n) rows → All (IsSpelledIn n) (name_spelled rows named)
unfolding name_spelled
name-within n rows None all = All-nil (IsSpelledIn n)
name-within n rows (Some path) all =
    two-within n role.Scope role.Base (span_at rows (path + 2)) (span (row_at rows (path + 2)).to (row_at rows path).to)
    (span_at-within n rows (path + 2) all)
    (span-within n (row_at rows (path + 2)).to (row_at rows path).to (row-within n rows (path + 2) all).1 (row-within n rows path all).1)

impl-within : (n : ℕ) (rows : List Row) (root type : ℕ) → All (IsRowWithin n) rows → All (IsSpelledIn n) (impl_of_type rows root type)
unfolding impl_of_type
impl-within n rows root type all =
    two-within n role.Impl role.SelfType (span_at rows root) (span_at rows type) (span_at-within n rows root all) (span_at-within n rows type all)

trait-within : (n : ℕ) (rows : List Row) (root type : ℕ) → All (IsRowWithin n) rows → All (IsSpelledIn n) (impl_of_trait rows root type)
unfolding impl_of_trait
trait-within n rows root type all =
    All-append (IsSpelledIn n) (impl_of_type rows root type) _ (impl-within n rows root type all) (one-within n role.Trait (span_at rows (behind rows type)) (span_at-within n rows (behind rows type) all))

root-within : (n : ℕ) (rows : List Row) (production : Option Production) (root : ℕ) → All (IsRowWithin n) rows → All (IsSpelledIn n) (root_spelled production rows root)
unfolding root_spelled
root-within n rows (Some rules.Crate) root all = one-within n role.Crate (span_at rows root) (span_at-within n rows root all)
root-within n rows (Some rules.InherentImpl) root all = impl-within n rows root (impl_type rows root) all
root-within n rows (Some rules.TraitImpl) root all = trait-within n rows root (impl_type rows root) all
root-within n rows (Some rules.TraitDefinition) root all = trait-within n rows root (root + 1) all
root-within n rows _ root all = All-nil (IsSpelledIn n)

suffix-within : (n : ℕ) (rows : List Row) (production : Option Production) (number : ℕ) → All (IsRowWithin n) rows → All (IsSpelledIn n) (suffix_spelled production rows number)
unfolding suffix_spelled
suffix-within n rows (Some rules.Suffix) number all = one-within n role.Suffix (span_at rows number) (span_at-within n rows number all)
suffix-within n rows _ number all = All-nil (IsSpelledIn n)

rest-within : (n : ℕ) (rows : List Row) (number : ℕ) → All (IsRowWithin n) rows → All (IsSpelledIn n) (rest_spelled rows number)
unfolding rest_spelled
rest-within n rows number all =
    if-has (All (IsSpelledIn n)) ((row_at rows number).after == 1) _ _
    (All-cons (IsSpelledIn n) (spelled role.InstantiatingCrate (span_at rows number)) _ (span_at-within n rows number all) (suffix-within n rows (production_at rows (behind rows number)) (behind rows number) all))
    (suffix-within n rows (production_at rows number) number all)

spans-within : (n : ℕ) (symbol : List ℕ) (rows : List Row) (paths : List ℕ) → All (IsRowWithin n) rows → All (IsSpelledIn n) (spans_of symbol rows paths)
unfolding spans_of
spans-within n symbol rows paths all =
    let named = first_named symbol rows paths in
    let root = root_of paths in
    All-append (IsSpelledIn n) (name_spelled rows named ++ root_spelled (production_at rows root) rows root) (rest_spelled rows (behind rows 1))
    (All-append (IsSpelledIn n) (name_spelled rows named) (root_spelled (production_at rows root) rows root) (name-within n rows named all)
    (root-within n rows (production_at rows root) root all))
    (rest-within n rows (behind rows 1) all)

others-within : (n : ℕ) (rows : List Row) (production : Option Production) (root : ℕ) → All (IsRowWithin n) rows → IsSpanWithin n (others_by production rows root)
unfolding others_by
others-within n rows (Some rules.PathReference) root all = span_at-within n rows root all
others-within n rows _ root all = span_at-within n rows 1 all

-- ## Arguments

arguments_from-within : (n most : ℕ) (rows : List Row) (argument end : ℕ) → All (IsRowWithin n) rows → All (IsSpanWithin n) (arguments_from most rows argument end)
unfolding arguments_from
arguments_from-within n zero rows argument end all = All-nil (IsSpanWithin n)
arguments_from-within n (suc most) rows argument end all =
    if-has (All (IsSpanWithin n)) (nat_lt argument end) _ []
    (All-cons (IsSpanWithin n) _ (arguments_from most rows (behind rows (argument + 1)) end)
    (span-within n (row_at rows argument).from (row_at rows (argument + 1)).to (row-within n rows argument all).0 (row-within n rows (argument + 1) all).1)
    (arguments_from-within n most rows (behind rows (argument + 1)) end all))
    (All-nil (IsSpanWithin n))

arguments-within : (n : ℕ) (rows : List Row) (path : ℕ) → All (IsRowWithin n) rows → All (IsSpanWithin n) (arguments_of rows path)
unfolding arguments_of
arguments-within n rows path all = arguments_from-within n (length rows) rows (behind rows (path + 1)) (behind rows path) all

list-within : (n : ℕ) (rows : List Row) (path : ℕ) → All (IsRowWithin n) rows → IsSpanWithin n (list_of rows path)
unfolding list_of
list-within n rows path all =
    let end = (row-within n rows path all).1 in
    if-has (IsSpanWithin n) (nat_lt (behind rows (path + 1)) (behind rows path)) _ _ (span_at-within n rows (behind rows (path + 1)) all)
    (span-within n (row_at rows path).to (row_at rows path).to end end)

lists-within : (n : ℕ) (rows : List Row) (paths : List ℕ) → All (IsRowWithin n) rows → All (IsSpanWithin n) (map (list_of rows) paths)
lists-within n rows paths all = All-map (IsSpanWithin n) (list_of rows) paths (λ k d below. list-within n rows (get_or paths k d) all)

all_arguments-within : (n : ℕ) (rows : List Row) (paths : List ℕ) → All (IsRowWithin n) rows → All (IsSpanWithin n) (flat_map (arguments_of rows) paths)
all_arguments-within n rows [] all = All-nil (IsSpanWithin n)
all_arguments-within n rows (path ∷ rest) all =
    All-append (IsSpanWithin n) (arguments_of rows path) (flat_map (arguments_of rows) rest) (arguments-within n rows path all) (all_arguments-within n rows rest all)

abbrev IsItemIn : (n : ℕ) → Item → Type 0
IsItemIn n item = IsSpanWithin n item.span

items-within : (n : ℕ) (rows : List Row) (before : ℕ) (paths : List ℕ) → All (IsRowWithin n) rows → All (IsItemIn n) (items_of rows before paths)
unfolding items_of
items-within n rows before [] all = All-nil (IsItemIn n)
items-within n rows before (path ∷ rest) all =
    All-cons (IsItemIn n) (item_of rows before path) (items_of rows (before + length (arguments_of rows path)) rest) (list-within n rows path all)
    (items-within n rows (before + length (arguments_of rows path)) rest all)

-- ## All parts

pub spelling-within : (n : ℕ) (symbol : List ℕ) (rows : List Row) → All (IsRowWithin n) rows → IsWithin n (spelling_of symbol rows)
unfolding spelling_of
spelling-within n symbol rows all =
    let paths = paths_of rows in
    record {
      others = others-within n rows (production_at rows (root_of paths)) (root_of paths) all;
      spans = spans-within n symbol rows paths all;
      specials = All-nil (IsSpanWithin n);
      tags = All-nil (IsSpanWithin n);
      argument_lists = lists-within n rows (generics rows paths) all;
      arguments = items-within n rows 0 (generics rows paths) all;
      parameters = All-nil (IsItemIn n);
      elements = all_arguments-within n rows (generics rows paths) all;
    }
