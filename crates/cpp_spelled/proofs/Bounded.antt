-- The spelling of a name's parts is within the bytes of the symbol, if the symbol's rows are.
use Rattle.std.proofs.Common.{ℕ, ◌+◌, ◌≤◌, Bool, true, false, arith, List, [], ◌∷◌, map, reverse, nat_lt, if◌then◌else◌}
use Rattle.std.specs.List.{All}
use Rattle.std.proofs.lemmas.List.Elements.{All-nil, All-cons, All-head, All-tail, All-map}
use Rattle.std.proofs.lemmas.List.Sorted.{All-permutation, IsPermutation-reverse}
use Rattle.sym_shape.specs.declared.rule.Row.{Row}
use Rattle.sym_parts.specs.Spelling.{span}
use Rattle.sym_parts.specs.Within.{IsSpanWithin, IsWithin}
use Rattle.sym_parts.specs.declared.spelling.Item.{Item}
use Rattle.sym_parts.specs.declared.spelling.Span.{Span}
use Rattle.sym_parts.specs.declared.spelling.Spelled.{Spelled}
use Rattle.cpp_spelled.specs.Sorts.{is}
use Rattle.cpp_spelled.specs.Outline.{outline_of, from_first, from_last, begin_or, bytes_of_all}
use Rattle.cpp_spelled.specs.Spelled.{object_in, words_in, base_begin, base_in, scope_end, local_end, scope_in, qualifiers_in, elements_ahead, arguments_in, first_or, last_end, parameters_in, alone, without_return, or_base, rest_of, suffix_in, once_in, spelling_in, spelling_of}
use Rattle.cpp_spelled.specs.Within.{IsRowWithin}
use Rattle.cpp_spelled.specs.declared.outline.Reached.{Reached}
use Rattle.cpp_spelled.specs.declared.sought.TheConstants.{SUFFIX, OBJECT, TEMPORARY, SPECIAL, ANY_ENCODING, ENCODING, LOCAL, NESTED, BEGIN, COMPONENT, IN_STD, WHOLE, AFTER_BASE, TAG, ARGUMENT_LIST, ARGUMENT, ELEMENT, PARAMETER}
use Rattle.cpp_spelled.proofs.Rows.{either, span_within, IsReachedWithin, outline_within, first_within, last_within, begin_within, bytes_within}

abbrev AreWithin : (n : ℕ) → List Reached → Type 0
AreWithin n xs = All (IsReachedWithin n) xs

head : (n : ℕ) (x : Reached) (xs : List Reached) → AreWithin n (x ∷ xs) → IsReachedWithin n x
head n x xs all = All-head (IsReachedWithin n) x xs all

object_within : (n : ℕ) (xs : List Reached) → AreWithin n xs → IsSpanWithin n (object_in xs)
unfolding object_in
object_within n [] all = span_within n 0 0 (omega arith) (omega arith)
object_within n (x ∷ xs) all =
    let at : IsReachedWithin n x = head n x xs all in
    span_within n x.first.from (if is TEMPORARY x.sort then x.first.to else x.row.to) at.first.0 (either (λ m. m ≤ n) (is TEMPORARY x.sort) x.first.to x.row.to at.first.1 at.row.1)

words_within : (n object : ℕ) (xs : List Reached) → AreWithin n xs → object ≤ n → All (IsSpanWithin n) (words_in object xs)
unfolding words_in
words_within n object [] all at = All-nil (IsSpanWithin n)
words_within n object (x ∷ xs) all at =
    let more : AreWithin n xs = All-tail (IsReachedWithin n) x xs all in
    let rest : All (IsSpanWithin n) (words_in object xs) = words_within n object xs more at in
    let end : ℕ = begin_or (from_first ANY_ENCODING xs) object in
    either (All (IsSpanWithin n)) (is SPECIAL x.sort) (span x.row.from end ∷ words_in object xs) (words_in object xs)
    (All-cons (IsSpanWithin n) (span x.row.from end) (words_in object xs)
    (span_within n x.row.from end (head n x xs all).row.0 (begin_within n (from_first ANY_ENCODING xs) object (first_within n ANY_ENCODING xs more) at)) rest)
    rest

base_begin_within : (n : ℕ) (x : Reached) (outline : List Reached) → IsReachedWithin n x → AreWithin n outline → base_begin x outline ≤ n
unfolding base_begin
base_begin_within n x outline at all =
    either (λ m. m ≤ n) (is IN_STD x.sort) _ _ at.first.0
    (either (λ m. m ≤ n) (is WHOLE x.sort) _ _ (begin_within n (from_first BEGIN outline) x.row.from (first_within n BEGIN outline all) at.row.0) at.row.0)

base_within : (n : ℕ) (outline name : List Reached) → AreWithin n outline → AreWithin n name → IsSpanWithin n (base_in outline name)
unfolding base_in
base_within n outline [] all some = object_within n (from_first OBJECT outline) (first_within n OBJECT outline all)
base_within n outline (x ∷ xs) all some =
    span_within n (base_begin x outline) (begin_or (from_first AFTER_BASE xs) x.row.to) (base_begin_within n x outline (head n x xs some) all)
    (begin_within n (from_first AFTER_BASE xs) x.row.to (first_within n AFTER_BASE xs (All-tail (IsReachedWithin n) x xs some)) (head n x xs some).row.1)

scope_end_within : (n : ℕ) (name : List Reached) (base : Span) → IsSpanWithin n base → scope_end name base ≤ n
unfolding scope_end
scope_end_within n [] base at = omega (arith, at.0, at.1)
scope_end_within n (x ∷ xs) base at = either (λ m. m ≤ n) (is WHOLE x.sort) base.to base.from at.1 (omega (arith, at.0, at.1))

local_end_within : (n : ℕ) (x : Reached) (begin : List Reached) (base : Span) → IsReachedWithin n x → IsSpanWithin n base → local_end x begin base ≤ n
unfolding local_end
local_end_within n x [] base at within = at.first.1
local_end_within n x (y ∷ ys) base at within = omega (arith, within.0, within.1)

scope_within : (n : ℕ) (local outline name : List Reached) (base : Span) → AreWithin n local → AreWithin n outline → IsSpanWithin n base → IsSpanWithin n (scope_in local outline name base)
unfolding scope_in
scope_within n [] outline name base some all at =
    span_within n (begin_or (from_first BEGIN outline) base.from) (scope_end name base)
    (begin_within n (from_first BEGIN outline) base.from (first_within n BEGIN outline all) (omega (arith, at.0, at.1))) (scope_end_within n name base at)
scope_within n (x ∷ xs) outline name base some all at =
    span_within n x.first.from (local_end x (from_first BEGIN outline) base) (head n x xs some).first.0
    (local_end_within n x (from_first BEGIN outline) base (head n x xs some) at)

qualifiers_within : (n : ℕ) (nested outline : List Reached) (base : Span) → AreWithin n nested → AreWithin n outline → IsSpanWithin n base → IsSpanWithin n (qualifiers_in nested outline base)
unfolding qualifiers_in
qualifiers_within n [] outline base some all at = at
qualifiers_within n (x ∷ xs) outline base some all at =
    span_within n x.first.from (begin_or (from_first BEGIN outline) x.first.from) (head n x xs some).first.0
    (begin_within n (from_first BEGIN outline) x.first.from (first_within n BEGIN outline all) (head n x xs some).first.0)

arguments_within : (n before : ℕ) (xs : List Reached) → AreWithin n xs → All (λ item. IsSpanWithin n item.span) (arguments_in before xs)
unfolding arguments_in
arguments_within n before [] all = All-nil (λ item. IsSpanWithin n item.span)
arguments_within n before (x ∷ xs) all =
    let more : AreWithin n xs = All-tail (IsReachedWithin n) x xs all in
    let item : Item = record { span = x.own; first = before; count = elements_ahead xs } in
    let next : ℕ = if is ELEMENT x.sort then before + 1 else before in
    either (All (λ i. IsSpanWithin n i.span)) (is ARGUMENT x.sort) (item ∷ arguments_in before xs) (arguments_in next xs)
    (All-cons (λ i. IsSpanWithin n i.span) item (arguments_in before xs) (head n x xs all).own (arguments_within n before xs more))
    (arguments_within n next xs more)

first_or_within : (n : ℕ) (ss : List Span) (other : Span) → All (IsSpanWithin n) ss → IsSpanWithin n other → IsSpanWithin n (first_or ss other)
unfolding first_or
first_or_within n [] other all at = at
first_or_within n (s ∷ ss) other all at = All-head (IsSpanWithin n) s ss all

last_end_within : (n end : ℕ) (ss : List Span) → All (IsSpanWithin n) ss → end ≤ n → last_end end ss ≤ n
unfolding last_end
last_end_within n end [] all at = at
last_end_within n end (s ∷ ss) all at = last_end_within n s.to ss (All-tail (IsSpanWithin n) s ss all) (All-head (IsSpanWithin n) s ss all).1

parameters_within : (n : ℕ) (ss : List Span) (function : List Reached) (base : Span) → All (IsSpanWithin n) ss → AreWithin n function → IsSpanWithin n base → IsSpanWithin n (parameters_in ss function base)
unfolding parameters_in
parameters_within n [] [] base all some at = at
parameters_within n [] (x ∷ xs) base all some at = span_within n x.row.to x.row.to (head n x xs some).row.1 (head n x xs some).row.1
parameters_within n (s ∷ ss) function base all some at =
    let here : IsSpanWithin n s = All-head (IsSpanWithin n) s ss all in
    span_within n s.from (last_end s.to ss) (omega (arith, here.0, here.1)) (last_end_within n s.to ss (All-tail (IsSpanWithin n) s ss all) here.1)

without_within : (n : ℕ) (returns : Bool) (ss : List Span) → All (IsSpanWithin n) ss → All (IsSpanWithin n) (without_return returns ss)
unfolding without_return
without_within n true [] all = all
without_within n true (s ∷ ss) all = All-tail (IsSpanWithin n) s ss all
without_within n false [] all = all
without_within n false (s ∷ ss) all = all

alone_within : (n : ℕ) (ss : List Span) → All (IsSpanWithin n) ss → All (λ item. IsSpanWithin n item.span) (map alone ss)
unfolding alone
alone_within n ss all = All-map (λ item. IsSpanWithin n item.span) alone ss all

or_base_within : (n : ℕ) (s base : Span) → IsSpanWithin n s → IsSpanWithin n base → IsSpanWithin n (or_base s base)
unfolding or_base
or_base_within n s base at within = either (IsSpanWithin n) (nat_lt s.from s.to) s base at within

suffix_within : (n : ℕ) (xs : List Reached) (base : Span) → AreWithin n xs → IsSpanWithin n base → IsSpanWithin n (suffix_in xs base)
unfolding suffix_in
suffix_within n [] base all at = at
suffix_within n (x ∷ xs) base all at = span_within n x.row.from x.row.to (head n x xs all).row.0 (head n x xs all).row.1

rest_within : (n : ℕ) (xs : List Reached) → AreWithin n xs → AreWithin n (rest_of xs)
unfolding rest_of
rest_within n [] all = all
rest_within n (x ∷ xs) all = All-tail (IsReachedWithin n) x xs all

six : (P : Spelled → Type 0) (a b c d e f : Spelled) → P a → P b → P c → P d → P e → P f → All P (a ∷ b ∷ c ∷ d ∷ e ∷ f ∷ [])
six P a b c d e f pa pb pc pd pe pf =
    All-cons P a (b ∷ c ∷ d ∷ e ∷ f ∷ []) pa
    (All-cons P b (c ∷ d ∷ e ∷ f ∷ []) pb (All-cons P c (d ∷ e ∷ f ∷ []) pc (All-cons P d (e ∷ f ∷ []) pd (All-cons P e (f ∷ []) pe (All-cons P f [] pf (All-nil P))))))

once_within : (n : ℕ) (outline name : List Reached) (base : Span) (types : List Span) (returns : Bool)
    → AreWithin n outline → IsSpanWithin n base → All (IsSpanWithin n) types → All (λ spelled. IsSpanWithin n spelled.span) (once_in outline name base types returns)
unfolding once_in
once_within n outline name base types returns all at some =
    six (λ spelled. IsSpanWithin n spelled.span) _ _ _ _ _ _
    (first_or_within n types base some at)
    (or_base_within n _ base (scope_within n (from_first LOCAL outline) outline name base (first_within n LOCAL outline all) all at) at)
    (or_base_within n _ base (qualifiers_within n (from_first NESTED outline) outline base (first_within n NESTED outline all) all at) at)
    (parameters_within n (without_return returns types) (from_first ENCODING outline) base (without_within n returns types some) (first_within n ENCODING outline all) at)
    (object_within n (from_first OBJECT outline) (first_within n OBJECT outline all))
    (suffix_within n (from_first SUFFIX outline) base (first_within n SUFFIX outline all) at)

all_within : (n : ℕ) (outline name : List Reached) (returns : Bool) → AreWithin n outline → AreWithin n name → IsWithin n (spelling_in outline name returns)
unfolding spelling_in
all_within n outline name returns all some =
    let base : IsSpanWithin n (base_in outline name) = base_within n outline name all some in
    let rest : AreWithin n (rest_of name) = rest_within n name some in
    let types : All (IsSpanWithin n) (bytes_of_all PARAMETER outline) = bytes_within n PARAMETER outline all in
    let object : IsSpanWithin n (object_in (from_first OBJECT outline)) = object_within n (from_first OBJECT outline) (first_within n OBJECT outline all) in
    record {
      others = base;
      spans = once_within n outline name (base_in outline name) (bytes_of_all PARAMETER outline) returns all base types;
      specials = words_within n (object_in (from_first OBJECT outline)).from outline all (omega (arith, object.0, object.1));
      tags = All-permutation (IsSpanWithin n) (bytes_of_all TAG (rest_of name)) (reverse (bytes_of_all TAG (rest_of name))) (IsPermutation-reverse (bytes_of_all TAG (rest_of name))) (bytes_within n TAG (rest_of name) rest);
      argument_lists = bytes_within n ARGUMENT_LIST (rest_of name) rest;
      arguments = arguments_within n 0 (rest_of name) rest;
      parameters = alone_within n (without_return returns (bytes_of_all PARAMETER outline)) (without_within n returns (bytes_of_all PARAMETER outline) types);
      elements = bytes_within n ELEMENT (rest_of name) rest;
    }

-- the spelling of the parts is within the symbol, if the symbol's rows are
pub spelling_within : (n : ℕ) (rows : List Row) (returns : Bool) → All (IsRowWithin n) rows → IsWithin n (spelling_of rows returns)
spelling_within n rows returns all =
    let outline : AreWithin n (outline_of rows) = outline_within n rows 0 0 rows all all in
    all_within n (outline_of rows) (from_last COMPONENT (outline_of rows)) returns outline (last_within n COMPONENT (outline_of rows) outline)
