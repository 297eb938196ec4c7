-- Lambdas and unnamed types are read as what was pressed. Their numbers are tested before their parts are read.
use Rattle.cpp_press_laws.proofs.Basics.{◌≡◌, ℕ, ◌+◌, ◌-◌, ◌<◌, length, List, [], ◌∷◌, ◌++◌, Option, true, false, Ok, refl, ap, arith, ◌∙◌, nat_lt, ◌^◌, Result, Err, Refusal, BadValue, Decimal, bytes_of, Token, found, Kind, Production, ANONYMOUS, ITEM, ITEMS, FIRST_OF_LAMBDA, Term, lambda, unnamed, list, State, Around, Value, nothing_there, tree, piece, local_number, in_signature, no_items, parameters, signature_with, last_token, number_tested, opening, Component, ordinal, greatest, Written, written, ReadsAt, Is}
use Rattle.sym_shape.specs.declared.rule.Sym.TheVariants.{Kind as OfKind, Number, Byte}
use Rattle.cpp_grammar.specs.Values as value
use Rattle.cpp_press_laws.proofs.ReadBack.Tokens.{ordinal_digits, ordinal_token, ordinal-spelled, ordinal-is-token, ordinal-value}
use Rattle.cpp_press_laws.proofs.ReadBack.Arguments.{item-as-first}
use Rattle.cpp_press_laws.proofs.ReadBack.Reading.{takes-byte, closes-same, production-opened, fixed-reads, number-reads, grammar, row-of, token-reads, same-written, shape-reads, ◌before◌}
use Rattle.cpp_press_laws.proofs.ByKind.LeafKinds.{digits-behind}
use Rattle.sym_shape.specs.Tree.{Tree as Shape, Forest, grown, fixed, token, nothing}

-- the digits of a lambda or an unnamed type denote its number, if the number has 64 bits
number-kept : (j : ℕ) → j < greatest → local_number (ordinal_digits j) ≡ j + 1
unfolding local_number
number-kept j small = ap (λ n. n + 1) (ordinal-value j (omega (arith, small)))

tested : (j place : ℕ) (s : State) → j < greatest → nat_lt (j + 1) (2 ^ 64) ≡ true → number_tested place (ordinal_digits j) s ≡ Ok s
unfolding number_tested
tested j place s small below =
    ap (λ n. elim (nat_lt n (2 ^ 64)) as (λ _. Result State Refusal) [ true ↦ Ok s | false ↦ Err (BadValue place) ]) (number-kept j small)
    ∙ ap (λ b. elim b as (λ _. Result State Refusal) [ true ↦ Ok s | false ↦ Err (BadValue place) ]) below

-- the digits of a token after two parts and a byte
last-digits : (a b : Shape) (byte : ℕ) (t : Token) (digits : List ℕ)
    → last_token (grown a (grown b (grown (fixed byte) (grown (token t) nothing)))) digits ≡ t.own
unfolding last_token
last-digits a b byte t =
    let rest : Forest = grown (fixed byte) (grown (token t) nothing) in
    digits-behind a (grown b rest) t.own (digits-behind b rest t.own (λ digits. refl))

pub unnamed-reads : (around : Around) (allowed : Option ℕ) (j place : ℕ) (cs : List Component) → j < greatest → nat_lt (j + 1) (2 ^ 64) ≡ true
    → ReadsAt around allowed (OfKind ANONYMOUS) (Is (piece (unnamed (j + 1)))) place cs (written (116 ∷ ordinal j) cs)
unfolding grammar opening last_token row-of number-reads token-reads shape-reads
unnamed-reads around allowed j place cs small below =
    let own : Value = value.text (ordinal_digits j) in
    same-written (ap (λ l. 116 ∷ l) (ordinal-spelled j))
    (production-opened Production.Unnamed ANONYMOUS (116 ∷ []) around allowed allowed place (λ values. values ≡ own ∷ [])
    (Is (piece (unnamed (j + 1)))) cs cs (Number Decimal ∷ []) (written (bytes_of (ordinal_token j)) cs)
    (takes-byte ANONYMOUS Kind.Anonymous Production.Unnamed 116 refl refl (omega arith) refl) refl
    (row-of Production.Unnamed (116 ∷ []) around allowed place _ (Number Decimal ∷ []) (own ∷ []) (written (bytes_of (ordinal_token j)) cs ∷ []) []
    (place + 1) cs (λ s c q. number-reads Decimal (ordinal_token j) (ordinal-is-token j) s c q before refl))
    (λ s same packs. tested j (place - 1) s small below)
    (closes-same Production.Unnamed 116 around allowed place _ cs (piece (unnamed (j + 1)))
    (λ values good began s. rw good (ap (λ n. Ok (found (piece (unnamed n)) s)) (number-kept j small)))))

pub lambda-reads : (around : Around) (allowed : Option ℕ) (t items : Term) (last : Value) (j place : ℕ) (cs : List Component)
    (first rest : Written) → no_items last ≡ items → j < greatest → nat_lt (j + 1) (2 ^ 64) ≡ true
    → ReadsAt (in_signature around) allowed (OfKind ITEM) (Is (tree t true)) (place + 1) cs first
    → ReadsAt (in_signature around) allowed (OfKind ITEMS) (Is last) (place + 1 + length first.bytes) first.components rest
    → ReadsAt around allowed (OfKind ANONYMOUS) (Is (piece (lambda (parameters (list t items)) (j + 1)))) place cs
    (written (108 ∷ (first.bytes ++ (rest.bytes ++ (69 ∷ ordinal j)))) rest.components)
unfolding grammar opening last_token row-of fixed-reads number-reads token-reads shape-reads signature_with
lambda-reads around allowed t items last j place cs first rest are small below item two =
    let one : ReadsAt (in_signature around) allowed (OfKind FIRST_OF_LAMBDA) (Is (tree t true)) (place + 1) cs first = item-as-first item in
    let number : Written = written (bytes_of (ordinal_token j)) rest.components in
    let all : List Value = tree t true ∷ last ∷ nothing_there ∷ value.text (ordinal_digits j) ∷ [] in
    same-written (ap (λ l. 108 ∷ (first.bytes ++ (rest.bytes ++ (69 ∷ l)))) (ordinal-spelled j))
    (production-opened Production.Lambda ANONYMOUS (108 ∷ []) around allowed allowed place (λ values. values ≡ all)
    (Is (piece (lambda (parameters (list t items)) (j + 1)))) cs rest.components (OfKind FIRST_OF_LAMBDA ∷ OfKind ITEMS ∷ Byte 69 ∷ Number Decimal ∷ [])
    (written (first.bytes ++ (rest.bytes ++ (69 ∷ number.bytes))) rest.components)
    (takes-byte ANONYMOUS Kind.Anonymous Production.Lambda 108 refl refl (omega arith) refl) refl
    (row-of Production.Lambda (108 ∷ []) around allowed place _ (OfKind FIRST_OF_LAMBDA ∷ OfKind ITEMS ∷ Byte 69 ∷ Number Decimal ∷ []) all
    (first ∷ rest ∷ written (69 ∷ []) rest.components ∷ number ∷ []) [] (place + 1) cs
    (λ s c q. one s c q before λ s c q. two s c q before λ s c q. fixed-reads s c q before λ s c q. number-reads Decimal
    (ordinal_token j) (ordinal-is-token j) s c q before refl))
    (λ s same packs.
    let a = one s same packs in
    let b = two a.state a.candidates a.packs in
    ap (λ ds. number_tested (place - 1) ds s) (last-digits a.shape b.shape 69 (ordinal_token j) []) ∙ tested j (place - 1) s small below)
    (closes-same Production.Lambda 108 around allowed place _ rest.components (piece (lambda (parameters (list t items)) (j + 1)))
    (λ values good began s. rw good (ap (λ l. Ok (found (piece (lambda (parameters (list t l)) (local_number (ordinal_digits j)))) s)) are ∙ ap
    (λ n. Ok (found (piece (lambda (parameters (list t items)) n)) s)) (number-kept j small)))))
