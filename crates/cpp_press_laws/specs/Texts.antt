-- The bytes of what has no parts: numbers, names, qualifiers, offsets.
use Rattle.std.specs.Prelude.{ℕ, zero, suc, List, [], ◌∷◌, ◌++◌, length, cond, codes, Option, Some, None}
use Rattle.sym_spell.specs.Digits.{digits_in, decimal_digit}
use Rattle.cpp_grammar.specs.Texts.{special_front}
use Rattle.cpp_grammar.specs.Term.{Qualifiers, RefQualifier, any_value, lvalue_only, rvalue_only, explicit_object, Signed, Adjustment, non_virtual, by_table, Thunk, adjusting, covariant}

unfoldable pub decimal : ℕ → List ℕ
decimal n = digits_in 10 decimal_digit 40 n

-- a name after its length (ABI 5.1, `<source-name>`)
unfoldable pub counted : (name : List ℕ) → List ℕ
counted name = decimal (length name) ++ name

-- A number that is counted from 0 (ABI 5.1, `<template-param>`): the first one has no digits, and digits of value v
-- denote v + 1.
unfoldable pub ordinal : ℕ → List ℕ
ordinal zero = codes "_"
ordinal (suc n) = decimal n ++ codes "_"

-- a number, with n for a minus
unfoldable pub signed_text : Signed → List ℕ
signed_text n = cond n.negative (codes "n") [] ++ n.digits

unfoldable pub qualifier_letters : Qualifiers → List ℕ
qualifier_letters q = cond q.restrict (codes "r") [] ++ cond q.volatile (codes "V") [] ++ cond q.const (codes "K") []

unfoldable pub mark_letter : RefQualifier → List ℕ
mark_letter any_value = []
mark_letter lvalue_only = codes "R"
mark_letter rvalue_only = codes "O"
mark_letter explicit_object = codes "H"

-- the letters for a function after the N of its name (ABI 5.1, `<nested-name>`)
unfoldable pub name_letters : Qualifiers → RefQualifier → List ℕ
name_letters q ref = qualifier_letters q ++ mark_letter ref

-- the code of a special name that is about a name, by the code's last letter (ABI 5.1, `<special-name>`)
abbrev pub special_code : ℕ → List ℕ
special_code letter = special_front letter ∷ letter ∷ []

-- offsets of thunks (ABI 5.1, `<call-offset>`)
unfoldable pub offset_text : Adjustment → List ℕ
offset_text (non_virtual a) = codes "h" ++ signed_text a ++ codes "_"
offset_text (by_table a b) = codes "v" ++ signed_text a ++ codes "_" ++ signed_text b ++ codes "_"

unfoldable pub thunk_text : Thunk → List ℕ
thunk_text (adjusting a) = codes "T" ++ offset_text a
thunk_text (covariant a b) = codes "Tc" ++ offset_text a ++ offset_text b

-- one digit comes after one underscore; more digits come after two underscores and before a third (ABI 5.1, `<discriminator>`)
unfoldable pub discriminator_text : Option (List ℕ) → List ℕ
discriminator_text None = []
discriminator_text (Some (d ∷ [])) = codes "_" ++ (d ∷ [])
discriminator_text (Some digits) = codes "__" ++ digits ++ codes "_"
