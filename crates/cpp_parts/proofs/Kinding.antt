-- What a symbol is, by the productions of its nodes.
use Rattle.cpp_parts.proofs.Basics.{◌≡◌, ℕ, ◌<◌, List, [], ◌∷◌, length, get_or, slice_get, Option, Some, None, Bool, true, false, refl, ap, ◌∙◌, arith, nat_eq, ◌+◌, ◌*◌, ◌==◌, if◌then◌else◌, Fields, fields, fields_of, name_fields, named_fields, thunk_fields, local_fields, qualifiers_number, mark_number, tree_from, offsets_of, FUNCTION, OBJECT, LOCAL, NUMBERED_LOCAL, GUARD, OF_NAME, NESTED_OPERATOR, SYMBOL, own_name, piece_of, is_lambda_piece, is_lambda, is_in_lambda, is_call, piece_kind, named_kind, is_string, object_kind, of_name_kind, thunk_kind, encoding_kind, kind_of_symbol, is_any, is_string_by, is_lambda_by, is_constructor_by, is_operator_by, inner_part_by, called_kind, local_kind, piece_kind_by, other_kind_by}
use Rattle.cpp_grammar.specs.Term.{Term, symbol, function, object, thunk, of_name, alone, in_std, within, instance, local, holder, tagged, of_default, operator, builtin, absent, non_virtual, by_table, Thunk, adjusting, covariant, Qualifiers, RefQualifier}
use Rattle.sym_parts.specs.declared.kind.NameKind.TheVariants as kind

-- the first part of a tree
abbrev pub first : Term → Term
first t = get_or (fields_of t).parts 0 absent

some-same : (a b : Term) → Some a ≡ Some b → a ≡ b
some-same a b same = cc (same)

-- a property that both productions have is also a property of the production that a test chooses
chosen : (b : Bool) (f g : Fields) (P : ℕ → Type 0) → P f.production → P g.production → P (if b then f else g).production
chosen true f g P p q = p
chosen false f g P p q = q

-- ## Own names

-- a name is its own name, or has the own name of the part with this number
abbrev pub IsInside : Term → Option ℕ → Type 0
IsInside t None = own_name t ≡ t
IsInside t (Some k) = (k < length (fields_of t).parts) × ((p : Term) → slice_get (fields_of t).parts k ≡ Some p → own_name t ≡ own_name p)

inner-alone : (p : Term) → IsInside (alone p) (inner_part_by (fields_of (alone p)).production)
unfolding own_name inner_part_by fields_of name_fields
inner-alone absent = refl
inner-alone p = refl

inner-std : (p : Term) → IsInside (in_std p) (inner_part_by (fields_of (in_std p)).production)
unfolding own_name inner_part_by fields_of name_fields
inner-std absent = refl
inner-std p = refl

inner-within : (q p : Term) → IsInside (within q p) (inner_part_by (fields_of (within q p)).production)
unfolding own_name inner_part_by fields_of name_fields
inner-within q absent = refl
inner-within q p = refl

pub inner-name : (t : Term) → IsInside t (inner_part_by (fields_of t).production)
unfolding own_name inner_part_by fields_of name_fields named_fields thunk_fields local_fields
inner-name (instance a b) = (omega arith, λ p same. ap own_name (some-same a p same))
inner-name (tagged s a tag) = (omega arith, λ p same. ap own_name (some-same a p same))
inner-name (local a b None) = (omega arith, λ p same. ap own_name (some-same b p same))
inner-name (local a b (Some digits)) = (omega arith, λ p same. ap own_name (some-same b p same))
inner-name (of_default digits a) = (omega arith, λ p same. ap own_name (some-same a p same))
inner-name (holder a) = (omega arith, λ p same. ap own_name (some-same a p same))
inner-name (alone p) = inner-alone p
inner-name (in_std p) = inner-std p
inner-name (within q p) = inner-within q p
inner-name (of_name letter a q mark) = chosen (letter == 86) _ _ (λ n. IsInside (of_name letter a q mark) (inner_part_by n)) refl refl
inner-name (thunk (adjusting (non_virtual a)) e) = refl
inner-name (thunk (adjusting (by_table a b)) e) = refl
inner-name (thunk (covariant (non_virtual a) (non_virtual b)) e) = refl
inner-name (thunk (covariant (non_virtual a) (by_table b c)) e) = refl
inner-name (thunk (covariant (by_table a b) c) e) = refl
inner-name (builtin []) = refl
inner-name (builtin (l ∷ [])) = refl
inner-name (builtin (d ∷ l ∷ [])) = chosen (d == 68) _ _ (λ n. IsInside (builtin (d ∷ l ∷ [])) (inner_part_by n)) refl refl
inner-name (builtin (d ∷ l ∷ m ∷ more)) = refl
inner-name t = refl

-- ## Pieces

-- what the piece of a name is, by the name's production
abbrev pub IsPieceBy : Term → (production : ℕ) → Type 0
IsPieceBy t n =
    (piece_kind false (piece_of t) ≡ piece_kind_by n) × (is_string (piece_of t) ≡ is_string_by n) × (is_lambda_piece (piece_of t) ≡ is_lambda_by n)

alone-piece : (p : Term) → IsPieceBy (alone p) (fields_of (alone p)).production
unfolding piece_of piece_kind is_string is_lambda_piece fields_of name_fields piece_kind_by is_string_by is_lambda_by is_constructor_by is_operator_by is_any
alone-piece absent = (refl, refl, refl)
alone-piece p = (refl, refl, refl)

std-piece : (p : Term) → IsPieceBy (in_std p) (fields_of (in_std p)).production
unfolding piece_of piece_kind is_string is_lambda_piece fields_of name_fields piece_kind_by is_string_by is_lambda_by is_constructor_by is_operator_by is_any
std-piece absent = (refl, refl, refl)
std-piece p = (refl, refl, refl)

within-piece : (q p : Term) → IsPieceBy (within q p) (fields_of (within q p)).production
unfolding piece_of piece_kind is_string is_lambda_piece fields_of name_fields piece_kind_by is_string_by is_lambda_by is_constructor_by is_operator_by is_any
within-piece q absent = (refl, refl, refl)
within-piece q p = (refl, refl, refl)

pub piece-by : (t : Term) → IsPieceBy t (fields_of t).production
unfolding piece_of piece_kind is_string is_lambda_piece fields_of name_fields named_fields thunk_fields local_fields piece_kind_by is_string_by is_lambda_by is_constructor_by is_operator_by is_any
piece-by (alone p) = alone-piece p
piece-by (in_std p) = std-piece p
piece-by (within q p) = within-piece q p
piece-by (local a b None) = (refl, refl, refl)
piece-by (local a b (Some digits)) = (refl, refl, refl)
piece-by (of_name letter a q mark) = chosen (letter == 86) _ _ (λ n. IsPieceBy (of_name letter a q mark) n) (refl, refl, refl) (refl, refl, refl)
piece-by (thunk (adjusting (non_virtual a)) e) = (refl, refl, refl)
piece-by (thunk (adjusting (by_table a b)) e) = (refl, refl, refl)
piece-by (thunk (covariant (non_virtual a) (non_virtual b)) e) = (refl, refl, refl)
piece-by (thunk (covariant (non_virtual a) (by_table b c)) e) = (refl, refl, refl)
piece-by (thunk (covariant (by_table a b) c) e) = (refl, refl, refl)
piece-by (builtin []) = (refl, refl, refl)
piece-by (builtin (l ∷ [])) = (refl, refl, refl)
piece-by (builtin (d ∷ l ∷ [])) = chosen (d == 68) _ _ (λ n. IsPieceBy (builtin (d ∷ l ∷ [])) n) (refl, refl, refl) (refl, refl, refl)
piece-by (builtin (d ∷ l ∷ m ∷ more)) = (refl, refl, refl)
piece-by t = (refl, refl, refl)

-- only an operator after a prefix may be the call of a lambda
within-same : (q p : Term) → ((fields_of (within q p)).production ≡ NESTED_OPERATOR → ⊥) → (b : Bool) → piece_kind b p ≡ piece_kind false p
unfolding piece_kind fields_of name_fields
within-same q (operator x y) h b = absurd (h refl)
within-same q p h b = refl

same-kind : (t : Term) → ((fields_of t).production ≡ NESTED_OPERATOR → ⊥) → named_kind t ≡ piece_kind false (piece_of t)
unfolding piece_of is_in_lambda
same-kind (within q p) h = within-same q p h (is_lambda q)
same-kind t h = refl

pub named-other : (t : Term) → ((fields_of t).production ≡ NESTED_OPERATOR → ⊥) → named_kind t ≡ piece_kind_by (fields_of t).production
named-other t h = same-kind t h ∙ (piece-by t).0

-- the tree of fields whose production is known
read : (P : ℕ) (f : Fields) (o : Option Thunk) → f.production ≡ P → tree_from f o ≡ tree_from (record f { production = P }) o
read P f o is = ap (λ n. tree_from (record f { production = n }) o) is

pub is-nested-operator : (t : Term) → t ≡ tree_from (fields_of t) (offsets_of t) → (fields_of t).production ≡ NESTED_OPERATOR
    → t ≡ within (first t) (operator (get_or (fields_of t).numbers 0 0) (get_or (fields_of t).numbers 1 0))
is-nested-operator t whole p = whole ∙ read NESTED_OPERATOR (fields_of t) (offsets_of t) p

call-kind : (a : Term) (x y : ℕ) → named_kind (within a (operator x y)) ≡ called_kind (is_lambda a) (is_call x y)
unfolding piece_of is_in_lambda piece_kind called_kind
call-kind a x y = refl

pub named-operator : (t p : Term) → t ≡ tree_from (fields_of t) (offsets_of t) → (fields_of t).production ≡ NESTED_OPERATOR → first t ≡ p
    → named_kind t ≡ called_kind (is_lambda p) (is_call (get_or (fields_of t).numbers 0 0) (get_or (fields_of t).numbers 1 0))
named-operator t p whole n same =
    ap named_kind (is-nested-operator t whole n) ∙ call-kind (first t) (get_or (fields_of t).numbers 0 0) (get_or (fields_of t).numbers 1 0)
    ∙ ap (λ a. called_kind (is_lambda a) (is_call (get_or (fields_of t).numbers 0 0) (get_or (fields_of t).numbers 1 0))) same

-- ## Objects and other symbols

pub object-local : (t a b p : Term) (d : Option (List ℕ)) → t ≡ local a b d → b ≡ p → object_kind t ≡ local_kind (is_string (piece_of (own_name p)))
unfolding object_kind local_kind
object-local t a b p d is same = ap object_kind is ∙ ap (λ e. local_kind (is_string (piece_of (own_name e)))) same

pub object-other : (t : Term) → ((fields_of t).production ≡ LOCAL → ⊥) → ((fields_of t).production ≡ NUMBERED_LOCAL → ⊥) → object_kind t ≡ kind.Variable
unfolding object_kind fields_of local_fields
object-other (local a b None) h i = absurd (h refl)
object-other (local a b (Some digits)) h i = absurd (i refl)
object-other t h i = refl

-- the fields of a special name that belongs to a name, by whether its letter is that of a guard variable
abbrev fields_by : (is_guard : Bool) (letter : ℕ) (a : Term) (q : Qualifiers) (mark : RefQualifier) → Fields
fields_by is_guard letter a q mark =
    if is_guard then fields GUARD (qualifiers_number q) (mark_number mark) [] (a ∷ []) else fields OF_NAME letter (qualifiers_number q + 8 * mark_number mark) [] (a ∷ [])

of-name-kind : (b : Bool) (letter : ℕ) (a : Term) (q : Qualifiers) (mark : RefQualifier) → nat_eq letter 86 ≡ b
    → of_name_kind letter ≡ other_kind_by (fields_by b letter a q mark).production (get_or (fields_by b letter a q mark).numbers 0 0)
unfolding of_name_kind other_kind_by
of-name-kind true letter a q mark is =
    ap (λ b. if b then kind.Guard else if nat_eq letter 72 then kind.TlsInit else if nat_eq letter 87 then kind.TlsWrapper else kind.ReferenceTemporary) is
of-name-kind false letter a q mark is = refl

abbrev pub IsOtherBy : Term → Fields → Type 0
IsOtherBy t f = encoding_kind t ≡ other_kind_by f.production (get_or f.numbers 0 0)

alone-other : (p : Term) → IsOtherBy (alone p) (fields_of (alone p))
unfolding encoding_kind other_kind_by fields_of name_fields
alone-other absent = refl
alone-other p = refl

std-other : (p : Term) → IsOtherBy (in_std p) (fields_of (in_std p))
unfolding encoding_kind other_kind_by fields_of name_fields
std-other absent = refl
std-other p = refl

within-other : (q p : Term) → IsOtherBy (within q p) (fields_of (within q p))
unfolding encoding_kind other_kind_by fields_of name_fields
within-other q absent = refl
within-other q p = refl

builtin-other : (b : Bool) (f g : Fields) (P : Fields → Type 0) → P f → P g → P (if b then f else g)
builtin-other true f g P p q = p
builtin-other false f g P p q = q

pub encoding-other : (t : Term) → ((fields_of t).production ≡ FUNCTION → ⊥) → ((fields_of t).production ≡ OBJECT → ⊥) → IsOtherBy t (fields_of t)
unfolding encoding_kind other_kind_by thunk_kind fields_of name_fields named_fields thunk_fields local_fields
encoding-other (function a q mark r p) h i = absurd (h refl)
encoding-other (object a q mark) h i = absurd (i refl)
encoding-other (alone p) h i = alone-other p
encoding-other (in_std p) h i = std-other p
encoding-other (within q p) h i = within-other q p
encoding-other (local a b None) h i = refl
encoding-other (local a b (Some digits)) h i = refl
encoding-other (of_name letter a q mark) h i = of-name-kind (nat_eq letter 86) letter a q mark refl
encoding-other (thunk (adjusting (non_virtual a)) e) h i = refl
encoding-other (thunk (adjusting (by_table a b)) e) h i = refl
encoding-other (thunk (covariant (non_virtual a) (non_virtual b)) e) h i = refl
encoding-other (thunk (covariant (non_virtual a) (by_table b c)) e) h i = refl
encoding-other (thunk (covariant (by_table a b) c) e) h i = refl
encoding-other (builtin []) h i = refl
encoding-other (builtin (l ∷ [])) h i = refl
encoding-other (builtin (d ∷ l ∷ [])) h i = builtin-other (d == 68) _ _ (λ f. IsOtherBy (builtin (d ∷ l ∷ [])) f) refl refl
encoding-other (builtin (d ∷ l ∷ m ∷ more)) h i = refl
encoding-other t h i = refl

pub encoding-function : (t a r p b : Term) (q : Qualifiers) (mark : RefQualifier) → t ≡ function a q mark r p → a ≡ b → encoding_kind t ≡ named_kind (own_name b)
unfolding encoding_kind
encoding-function t a r p b q mark is same = ap encoding_kind is ∙ ap (λ n. named_kind (own_name n)) same

pub encoding-object : (t a b : Term) (q : Qualifiers) (mark : RefQualifier) → t ≡ object a q mark → a ≡ b → encoding_kind t ≡ object_kind b
unfolding encoding_kind
encoding-object t a b q mark is same = ap encoding_kind is ∙ ap object_kind same

pub symbol-kind : (t a b : Term) (suffix : List ℕ) → t ≡ symbol a suffix → a ≡ b → kind_of_symbol t ≡ encoding_kind b
unfolding kind_of_symbol
symbol-kind t a b suffix is same = ap kind_of_symbol is ∙ ap encoding_kind same

pub symbol-other : (t : Term) → ((fields_of t).production ≡ SYMBOL → ⊥) → kind_of_symbol t ≡ kind.Variable
unfolding kind_of_symbol fields_of
symbol-other (symbol e suffix) h = absurd (h refl)
symbol-other t h = refl
