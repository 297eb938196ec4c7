-- The fields of some trees, computed.
use Rattle.cpp_tree.proofs.Basics.{◌≡◌, [], ◌∷◌, true, false, Some, refl, codes, fields_of, offsets_of, bit, mark_number, name_fields, local_fields, thunk_fields}
use Rattle.cpp_grammar.specs.Term.{any_value, rvalue_only, non_virtual, by_table, adjusting, covariant, Term, Thunk, Signed, function, thunk, alone, within, local, source, operator, lambda, generic_lambda, builtin, function_type, nil, absent}

abbrev foo : Term
foo = alone (source false (codes "foo"))

nested-row : fields_of (within foo (operator 112 108)) ≡ record { production = 55; numbers = 112 ∷ 108 ∷ []; texts = [] ∷ [] ∷ []; parts = foo ∷ [] }
unfolding fields_of name_fields
nested-row = refl

-- the prefix precedes a lambda's parameters
lambda-row : fields_of (within foo (lambda nil 2)) ≡ record { production = 59; numbers = 2 ∷ 0 ∷ []; texts = [] ∷ [] ∷ []; parts = foo ∷ nil ∷ [] }
unfolding fields_of name_fields
lambda-row = refl

generic_lambda-row : fields_of (within foo (generic_lambda nil 2)) ≡ record { production = 76; numbers = 2 ∷ 0 ∷ []; texts = [] ∷ [] ∷ []; parts = foo ∷ nil ∷ [] }
unfolding fields_of name_fields
generic_lambda-row = refl

-- 1 for restrict and 4 for const
function-row : fields_of (function foo (record { restrict = true; volatile = false; const = true }) rvalue_only absent nil)
    ≡ record { production = 4; numbers = 5 ∷ 2 ∷ []; texts = [] ∷ [] ∷ []; parts = foo ∷ absent ∷ nil ∷ [] }
unfolding fields_of bit mark_number
function-row = refl

-- 2 for noexcept
type-row : fields_of (function_type false true any_value (builtin (105 ∷ [])) nil)
    ≡ record { production = 25; numbers = 2 ∷ 0 ∷ []; texts = [] ∷ [] ∷ []; parts = builtin (105 ∷ []) ∷ nil ∷ [] }
unfolding fields_of bit mark_number
type-row = refl

local-row : fields_of (local foo foo (Some (codes "7"))) ≡ record { production = 14; numbers = 0 ∷ 0 ∷ []; texts = codes "7" ∷ [] ∷ []; parts = foo ∷ foo ∷ [] }
unfolding fields_of local_fields
local-row = refl

abbrev eight : Signed
eight = record { negative = true; digits = codes "8" }

table-row : fields_of (thunk (adjusting (by_table (record { negative = false; digits = codes "0" }) eight)) foo)
    ≡ record { production = 9; numbers = 0 ∷ 1 ∷ []; texts = codes "0" ∷ codes "8" ∷ []; parts = foo ∷ [] }
unfolding fields_of thunk_fields bit
table-row = refl

-- the three offsets of a thunk
abbrev wide : Thunk
wide = covariant (non_virtual eight) (by_table eight eight)

wide-row : fields_of (thunk wide foo) ≡ record { production = 11; numbers = 0 ∷ 0 ∷ []; texts = [] ∷ [] ∷ []; parts = foo ∷ [] }
unfolding fields_of thunk_fields
wide-row = refl

wide_offsets-row : offsets_of (thunk wide foo) ≡ Some wide
unfolding offsets_of
wide_offsets-row = refl
