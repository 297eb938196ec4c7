-- Literals, addresses and packs are read as what was pressed, from their parts.
use Rattle.cpp_press_laws.proofs.Basics.{◌≡◌, ℕ, ◌+◌, ◌<◌, length, List, [], ◌∷◌, ◌++◌, Option, Some, Bool, true, false, Ok, refl, ap, arith, ◌∙◌, cond, TakesRule, found, Kind, Production, ENCODING, INTEGER, ARGUMENT, ARGUMENT_LIST, PACK_LIST, LITERAL, LITERAL_AFTER_D, LITERAL_TYPE, ADDRESSED_EXPRESSION, ADDRESSED_LITERAL, EXPRESSION, EXPRESSION_AFTER_A, number_of_kind, choose, kinds, parts_of, is_chain, abi, rule_of, Signed, Term, builtin, integer, boolean, null_pointer, encoding_literal, address_of, pack, list, absent, Around, Value, nothing_there, letter, signed, tree, pair, signed_of, is_listed, part, appended, with_type, between, no_items, operation_by, operation_or_address, is_code, enclosed_argument, ends_arguments, meaning, close, byte_of, Component, IsSpellableNumber, Written, written, ReadsAt, Is}
use Rattle.std.proofs.lemmas.List.{append_assoc}
use Rattle.sym_shape.specs.declared.rule.Sym.TheVariants.{Kind as OfKind}
use Rattle.cpp_grammar.specs.Unfolding as unfolding_
use Rattle.cpp_press_laws.proofs.ReadBack.Reading.{appended-same, takes-byte, takes-none, fixed-reads, empty-reads, grammar, read-by-parts, ◌before◌}
use Rattle.cpp_press_laws.proofs.ReadBack.Functions.{mark-reads}
use Rattle.cpp_press_laws.proofs.ReadBack.Arguments.{listed_now, list_kind}

-- ## Literals

pub boolean-literal : (around : Around) (allowed : Option ℕ) (truth : Bool) (place : ℕ) (cs : List Component)
    → ReadsAt around allowed (OfKind LITERAL) (Is (tree (boolean truth) true)) place cs (written (98 ∷ cond truth 49 48 ∷ []) cs)
unfolding grammar
boolean-literal around allowed true place cs =
    read-by-parts Production.BoolLiteral LITERAL (98 ∷ []) (letter 49 ∷ []) (written (49 ∷ []) cs ∷ [])
    (takes-byte LITERAL Kind.Literal Production.BoolLiteral 98 refl refl (omega arith) refl) tt refl
    (λ s c q. mark-reads Kind.Bit refl refl (omega arith) s c q before λ began s. refl)
boolean-literal around allowed false place cs =
    read-by-parts Production.BoolLiteral LITERAL (98 ∷ []) (letter 48 ∷ []) (written (48 ∷ []) cs ∷ [])
    (takes-byte LITERAL Kind.Literal Production.BoolLiteral 98 refl refl (omega arith) refl) tt refl
    (λ s c q. mark-reads Kind.Bit refl refl (omega arith) s c q before λ began s. refl)

-- a literal after a D
with-d : (around : Around) (allowed : Option ℕ) (v : Value) (place : ℕ) (cs : List Component) (w : Written)
    → ReadsAt around allowed (OfKind LITERAL_AFTER_D) (Is v) (place + 1) cs w
    → ReadsAt around allowed (OfKind LITERAL) (Is v) place cs (written (68 ∷ w.bytes) w.components)
unfolding grammar
with-d around allowed v place cs w one =
    read-by-parts Production.LiteralWithD LITERAL (68 ∷ []) (v ∷ []) (w ∷ [])
    (takes-byte LITERAL Kind.Literal Production.LiteralWithD 68 refl refl (omega arith) refl) tt refl
    (λ s c q. one s c q before λ began s. refl)

pub null-literal : (around : Around) (allowed : Option ℕ) (place : ℕ) (cs : List Component)
    → ReadsAt around allowed (OfKind LITERAL) (Is (tree null_pointer true)) place cs (written (68 ∷ 110 ∷ []) cs)
unfolding grammar
null-literal around allowed place cs =
    with-d around allowed (tree null_pointer true) place cs (written (110 ∷ []) cs)
    (read-by-parts Production.NullLiteral LITERAL_AFTER_D (110 ∷ []) (nothing_there ∷ []) (written [] cs ∷ [])
    (takes-byte LITERAL_AFTER_D Kind.LiteralAfterD Production.NullLiteral 110 refl refl (omega arith) refl) tt refl
    (λ s c q. empty-reads Kind.MaybeZero refl refl s c q before λ began s. refl))

-- a literal of a builtin type of two letters
pub char-literal : (around : Around) (allowed : Option ℕ) (byte : ℕ) (n : Signed) (place : ℕ) (cs : List Component) → byte < 256
    → choose Kind.LiteralAfterD byte ≡ Some Production.CharLiteral → IsSpellableNumber n
    → (w : Written) → ReadsAt around allowed (OfKind INTEGER) (Is (signed n)) (place + 1 + 1) cs w
    → ReadsAt around allowed (OfKind LITERAL) (Is (tree (integer (builtin (68 ∷ byte ∷ [])) n) true)) place cs (written (68 ∷ byte ∷ w.bytes) w.components)
unfolding kinds is_chain parts_of number_of_kind between close unfolding_.behind meaning signed_of part byte_of
char-literal around allowed byte n place cs small chosen good w one =
    with-d around allowed (tree (integer (builtin (68 ∷ byte ∷ [])) n) true) place cs (written (byte ∷ w.bytes) w.components)
    (read-by-parts Production.CharLiteral LITERAL_AFTER_D (byte ∷ []) (signed n ∷ []) (w ∷ [])
    (takes-byte LITERAL_AFTER_D Kind.LiteralAfterD Production.CharLiteral byte refl chosen small refl) tt refl
    (λ s c q. one s c q before λ began s. refl))

-- an integer; before its number, its type becomes a component, or is a component already, or never is one
pub integer-literal : (listed : Bool) (around : Around) (allowed : Option ℕ) (t : Term) (n : Signed) (place : ℕ) (cs : List Component)
    (first rest : Written) → ReadsAt around allowed (OfKind LITERAL_TYPE) (Is (tree t listed)) (place + 0) cs first
    → ReadsAt around allowed (OfKind INTEGER) (Is (signed n)) (place + 0 + length first.bytes) (listed_now around listed first.components t) rest
    → ReadsAt around allowed (OfKind LITERAL) (Is (tree (integer t n) true)) place cs (written (first.bytes ++ rest.bytes) rest.components)
unfolding grammar with_type is_listed appended
integer-literal false around allowed t n place cs first rest one two =
    read-by-parts Production.IntegerLiteral LITERAL [] (tree t false ∷ signed n ∷ []) (first ∷ rest ∷ [])
    (takes-none LITERAL Kind.Literal Production.IntegerLiteral 80 refl refl (omega arith) refl) tt refl
    (λ s c q. one s c q before λ s c q. two (appended around t s) (appended-same around t s c) q before λ began s. refl)
integer-literal true around allowed t n place cs first rest one two =
    read-by-parts Production.IntegerLiteral LITERAL [] (tree t true ∷ signed n ∷ []) (first ∷ rest ∷ [])
    (takes-none LITERAL Kind.Literal Production.IntegerLiteral 80 refl refl (omega arith) refl) tt refl
    (λ s c q. one s c q before λ s c q. two s c q before λ began s. refl)

encoding-as : (k : ℕ) (around : Around) (allowed : Option ℕ) (e : Term) (place : ℕ) (cs : List Component) (w : Written)
    → TakesRule abi k (rule_of Production.EncodingLiteral) (95 ∷ [])
    → ReadsAt around allowed (OfKind ENCODING) (Is (tree e true)) (place + 1 + 1) cs w
    → ReadsAt around allowed (OfKind k) (Is (tree (encoding_literal e) true)) place cs (written (95 ∷ 90 ∷ w.bytes) w.components)
unfolding grammar
encoding-as k around allowed e place cs w takes one =
    read-by-parts Production.EncodingLiteral k (95 ∷ []) (nothing_there ∷ tree e true ∷ []) (written (90 ∷ []) cs ∷ w ∷ []) takes tt refl
    (λ s c q. fixed-reads s c q before λ s c q. one s c q before λ began s. refl)

pub encoding-literal : (around : Around) (allowed : Option ℕ) (e : Term) (place : ℕ) (cs : List Component) (w : Written)
    → ReadsAt around allowed (OfKind ENCODING) (Is (tree e true)) (place + 1 + 1) cs w
    → ReadsAt around allowed (OfKind LITERAL) (Is (tree (encoding_literal e) true)) place cs (written (95 ∷ 90 ∷ w.bytes) w.components)
unfolding grammar
encoding-literal around allowed e place cs w one =
    encoding-as LITERAL around allowed e place cs w (takes-byte LITERAL Kind.Literal Production.EncodingLiteral 95 refl refl (omega arith) refl) one

-- ## Literals in a list

-- a literal between L and E, and the arguments or elements after it
pub literal-argument : (in_pack : Bool) (around : Around) (allowed : Option ℕ) (t items : Term) (last : Value) (place : ℕ)
    (cs : List Component) (first rest : Written) → no_items last ≡ items
    → ReadsAt around allowed (OfKind LITERAL) (Is (tree t true)) (place + 1) cs first
    → ReadsAt around allowed (OfKind (list_kind in_pack)) (Is last) (place + 1 + length first.bytes + 1) first.components rest
    → ReadsAt around allowed (OfKind (list_kind in_pack)) (Is (tree (list t items) true)) place cs
    (written (76 ∷ (first.bytes ++ (69 ∷ rest.bytes))) rest.components)
unfolding grammar
literal-argument false around allowed t items last place cs first rest are one two =
    read-by-parts Production.LiteralArgument ARGUMENT_LIST (76 ∷ []) (tree t true ∷ nothing_there ∷ last ∷ [])
    (first ∷ written (69 ∷ []) first.components ∷ rest ∷ [])
    (takes-byte ARGUMENT_LIST Kind.ArgumentList Production.LiteralArgument 76 refl refl (omega arith) refl) tt refl
    (λ s c q. one s c q before λ s c q. fixed-reads s c q before λ s c q. two s c q
    before λ began s. ap (λ l. Ok (found (tree (list t l) true) s)) are)
literal-argument true around allowed t items last place cs first rest are one two =
    read-by-parts Production.LiteralElement PACK_LIST (76 ∷ []) (tree t true ∷ nothing_there ∷ last ∷ [])
    (first ∷ written (69 ∷ []) first.components ∷ rest ∷ [])
    (takes-byte PACK_LIST Kind.PackList Production.LiteralElement 76 refl refl (omega arith) refl) tt refl
    (λ s c q. one s c q before λ s c q. fixed-reads s c q before λ s c q. two s c q
    before λ began s. ap (λ l. Ok (found (tree (list t l) true) s)) are)

-- a pack between J and E, and the arguments after it
pub pack-argument : (around : Around) (allowed : Option ℕ) (elements items : Term) (inside_ last : Value) (place : ℕ) (cs : List Component)
    (first rest : Written) → no_items inside_ ≡ elements → no_items last ≡ items
    → ReadsAt around allowed (OfKind PACK_LIST) (Is inside_) (place + 1) cs first
    → ReadsAt around allowed (OfKind ARGUMENT_LIST) (Is last) (place + 1 + length first.bytes + 1) first.components rest
    → ReadsAt around allowed (OfKind ARGUMENT_LIST) (Is (tree (list (pack elements) items) true)) place cs
    (written (74 ∷ (first.bytes ++ (69 ∷ rest.bytes))) rest.components)
unfolding grammar
pack-argument around allowed elements items inside_ last place cs first rest are_in are one two =
    read-by-parts Production.PackArgument ARGUMENT_LIST (74 ∷ []) (inside_ ∷ nothing_there ∷ last ∷ [])
    (first ∷ written (69 ∷ []) first.components ∷ rest ∷ [])
    (takes-byte ARGUMENT_LIST Kind.ArgumentList Production.PackArgument 74 refl refl (omega arith) refl) tt refl
    (λ s c q. one s c q before λ s c q. fixed-reads s c q before λ s c q. two s c q before λ began s. ap
    (λ l. Ok (found (tree (list (pack l) (no_items last)) true) s)) are_in ∙ ap
    (λ l. Ok (found (tree (list (pack elements) l) true) s)) are)

-- ## Addresses

-- the address of an encoding: the encoding is between L and E, and the whole is between X and E
pub address-reads : (around : Around) (allowed : Option ℕ) (e : Term) (place : ℕ) (cs : List Component) (w : Written)
    → ReadsAt around allowed (OfKind ENCODING) (Is (tree e true)) (place + 1 + 1 + 1 + 1 + 1 + 1) cs w
    → ReadsAt around allowed (OfKind ARGUMENT) (Is (tree (address_of e) true)) place cs
    (written (88 ∷ 97 ∷ 100 ∷ 76 ∷ 95 ∷ 90 ∷ (w.bytes ++ (69 ∷ 69 ∷ []))) w.components)
unfolding grammar operation_by operation_or_address is_code enclosed_argument ends_arguments
address-reads around allowed e place cs w one =
    let operand : List ℕ = 76 ∷ 95 ∷ 90 ∷ (w.bytes ++ (69 ∷ [])) in
    let end : Written = written (69 ∷ []) w.components in
    let literal : Value = tree (encoding_literal e) true in
    read-by-parts Production.Expression ARGUMENT (88 ∷ []) (tree (address_of e) true ∷ nothing_there ∷ [])
    (written (97 ∷ 100 ∷ operand) w.components ∷ end ∷ [])
    (takes-byte ARGUMENT Kind.Argument Production.Expression 88 refl refl (omega arith) refl) tt
    (ap (λ l. 88 ∷ 97 ∷ 100 ∷ 76 ∷ 95 ∷ 90 ∷ l) (append_assoc w.bytes (69 ∷ []) (69 ∷ [])))
    (λ s c q. read-by-parts Production.ExpressionA EXPRESSION (97 ∷ []) (pair 100 (encoding_literal e) absent ∷ [])
    (written (100 ∷ operand) w.components ∷ [])
    (takes-byte EXPRESSION Kind.Expression Production.ExpressionA 97 refl refl (omega arith) refl) tt refl
    (λ s c q. read-by-parts Production.AddressExpression EXPRESSION_AFTER_A (100 ∷ []) (literal ∷ []) (written operand w.components ∷ [])
    (takes-byte EXPRESSION_AFTER_A Kind.ExpressionAfterA Production.AddressExpression 100 refl refl (omega arith) refl) tt refl
    (λ s c q. read-by-parts Production.AddressedLiteral ADDRESSED_EXPRESSION (76 ∷ []) (literal ∷ nothing_there ∷ [])
    (written (95 ∷ 90 ∷ w.bytes) w.components ∷ end ∷ [])
    (takes-byte ADDRESSED_EXPRESSION Kind.AddressedExpression Production.AddressedLiteral 76 refl refl (omega arith) refl) tt refl
    (λ s c q. encoding-as ADDRESSED_LITERAL around allowed e (place + 1 + 1 + 1 + 1) cs w
    (takes-byte ADDRESSED_LITERAL Kind.AddressedLiteral Production.EncodingLiteral 95 refl refl (omega arith) refl) one s c q
    before λ s c q. fixed-reads s c q before λ began s. refl) s c q
    before λ began s. refl) s c q
    before λ began s. refl) s c q
    before λ s c q. fixed-reads s c q before λ began s. refl)
