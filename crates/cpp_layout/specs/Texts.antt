-- The fixed texts by their numbers.
use Rattle.std.specs.Prelude.{ℕ, List, [], ◌∷◌, ◌++◌, codes, drop, get_or, slice_get, Some, None}
use Rattle.std.specs.Prelude.{Bool, ◌+◌, ◌*◌, cond}
use Rattle.cpp_grammar.specs.Term.{Qualifiers, RefQualifier, any_value, explicit_object}
use Rattle.cpp_grammar.specs.Texts.{Naming, builtin_texts, operator_texts, abbreviation_texts, special_texts, named_special_texts, literal_endings}
use Rattle.cpp_grammar.specs.Parts.{encoding_text}
use Rattle.cpp_layout.specs.TextLists.{plain_texts, suffix_texts, blanked_texts, operation_texts}

-- the texts of a table, each changed by f, before other texts
abbrev pub named_texts : (List ℕ → List ℕ) → List Naming → List (List ℕ) → List (List ℕ)
named_texts f [] others = others
named_texts f (n ∷ ns) others = f n.text ∷ named_texts f ns others

-- the word before an operator's name
abbrev pub word_texts : List (List ℕ)
word_texts = codes "operator" ∷ []

abbrev pub texts : List (List ℕ)
texts = plain_texts ++ (suffix_texts ++ named_texts (λ t. t) builtin_texts (named_texts (λ t. t) abbreviation_texts
    (named_texts (λ t. drop 5 t) abbreviation_texts (named_texts (λ t. t) special_texts (named_texts (λ t. t) named_special_texts
    (named_texts (λ t. t) literal_endings (blanked_texts ++ (word_texts ++ (operation_texts ++ named_texts (λ t. codes "operator" ++ t) operator_texts [])))))))))

abbrev pub fixed_text : ℕ → List ℕ
fixed_text number = elim (slice_get texts number) [ Some text ↦ text | None ↦ [] ]

-- ## What follows a function's parameters

-- the mark that is shown after the parameters: none for an explicit object
unfoldable pub shown_mark : RefQualifier → RefQualifier
shown_mark explicit_object = any_value
shown_mark m = m

unfoldable pub suffix_of : Qualifiers → RefQualifier → (noexcept : Bool) → List ℕ
suffix_of q m noexcept = encoding_text q m ++ cond noexcept (codes " noexcept") []

-- one letter of an operator's code, by its place, and the code's two letters as one number
abbrev pub operator_letter : (place number : ℕ) → ℕ
operator_letter place number = elim (slice_get operator_texts number) [ Some n ↦ get_or n.code place 0 | None ↦ 0 ]

unfoldable pub operator_code : ℕ → ℕ
operator_code number = 256 * operator_letter 0 number + operator_letter 1 number
