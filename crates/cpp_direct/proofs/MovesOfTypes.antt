-- Moves within types, arrays and function types: a byte or a name is read, and a type opens, or is accepted.
use Rattle.cpp_direct.proofs.Basics.{named_by, close_by, ◌≡◌, ℕ, ◌+◌, ◌-◌, List, [], ◌∷◌, slice_get, Bool, true, false, Some, Ok, refl, ap, subst, ◌∙◌, arith, length, abbreviation, after, alone, any_value, appended, applied, array, between, builtin, byte_of, close, Continuation, counted_value, extended, found, in_std, instance, is_function_type, Kind, list, listed_value, may_be_empty, meaning, named_so_far, nil, number_of_kind, parts_of, pointer, Production, reference_to, rule_of, signature_or, source, standing, Term, with_item, with_type, with_unqualified, State, outermost, Around, Value, nothing_there, tree, tree_of, is_listed, part, is_there, letter_of, piece_of, ref_of, signature, abbreviation_letters, builtin_letters, builtin_letters_with_d, is_abbreviated, is_builtin, is_builtin_with_d, Symbol, Awaits, ArrayOpened, Comes, Expects, FunctionOpened, IsNameAt, IsNamedKind, IsQualifiable, IsReferable, IsSeqAt, IsSizeAt, IsTyped, NameOpens, Opened, ParameterOpened, ReferenceOpened, SignatureGoesOn, StandsAt, TreeOpens, TreePasses, TypeNamed, TypeOpens, access_letters, as_const, opened, plain_function, reference, reference_letter, unless_listed, with_candidate, Access, NumberKind, Sym, unfolding_behind}
use Rattle.std.proofs.Math.Bool.{and-false, and-true}
use Rattle.cpp_grammar.specs.Values.{Candidate, text, text_of}
use Rattle.cpp_direct.proofs.Moves.{alone-arguments, awaited, comes-alike, hole-of, stands-split, Hole, Filled, hole, open_at, fill, filled-at, eats, leaves, is_eaten, is_left, byte-opens, chain-opens, byte-fills, next-part, closes, none-fills, name-fills, first-named, came, digits-fill}
use Rattle.cpp_direct.proofs.LettersTested.{each_passes, tested}
use Rattle.cpp_grammar.specs.Values as values

-- ## Solid types

plain-closes : (around : Around) (at : ℕ) (before : State) (t : Term) (listed : Bool) (st : State)
    → close Production.PlainType 0 around at before (tree t listed ∷ []) st
    ≡ Ok (found (tree t true) (unless_listed listed around t st))
unfolding close unfolding_behind meaning listed_value with_type tree_of is_listed part appended
plain-closes around at before t true st = refl
plain-closes around at before t false st = refl

qualified-closes : (around : Around) (at : ℕ) (before : State) (t : Term) (listed : Bool) (st : State) → is_function_type t ≡ false
    → close Production.QualifiedPlain 0 around at before (tree t listed ∷ []) st
    ≡ Ok (found (tree t true) (unless_listed listed around t st))
unfolding close unfolding_behind meaning listed_value with_type with_unqualified tree_of is_listed part appended is_function_type
qualified-closes around at before t true st other = rw other refl
qualified-closes around at before t false st other = rw other refl

-- a type that may have a qualifier is read as a plain type or, at a K, as a const type
whole-taken : (kind : Kind) → IsQualifiable kind → (is_left kind Production.PlainType 80 ≡ true) × (is_eaten kind Production.ConstType 75 ≡ true)
unfolding is_eaten is_left
whole-taken Kind.Type whole = (refl, refl)
whole-taken Kind.Item whole = (refl, refl)
whole-taken Kind.ItemButRef whole = (refl, refl)
whole-taken _ whole = absurd whole

-- a kind that may have a qualifier is a kind of type
pub typed : (k : Kind) → IsQualifiable k → IsTyped k
typed Kind.Type is = tt
typed Kind.Item is = tt
typed Kind.ItemButRef is = tt
typed _ is = absurd is

-- A solid type is expected where a whole type is; it may be a function type or not.
abbrev pub WholeOpens : (s : Symbol) (outer : List Opened) (around : Around) (at : ℕ) (st : State) → Type 0
WholeOpens s outer around at st = Awaits s Kind.Solid around at st (λ inner.
    (t : Term) (listed : Bool) (end : ℕ) (now : State) → Comes s inner (tree t listed) end now
    → Comes s outer (tree t true) end (unless_listed listed around t now))

pub whole-opens : (s : Symbol) (kind : Kind) (around : Around) (os : List Opened) (at : ℕ) (st : State) → IsQualifiable kind
    → Expects s kind around os at st → WholeOpens s os around at st
unfolding is_eaten is_left number_of_kind parts_of between close unfolding_behind meaning part byte_of tree_of text_of piece_of letter_of is_there
whole-opens s kind around os at st whole expects =
    let p = Production.PlainType in
    let solid = chain-opens (leaves s kind p 80 (whole-taken kind whole).0) (hole s kind around os at st expects) refl refl in
    awaited solid (λ t listed end now comes. (closes p (fill solid (tree t listed) end now comes) (plain-closes around at st t listed now)).comes)

any-tree : (s : Symbol) (os : List Opened) (around : Around) (at : ℕ) (st : State) → WholeOpens s os around at st → TreeOpens s Kind.Solid os around at st
any-tree s os around at st w = awaited {os = w.inner} (hole-of w) (λ t listed end now other comes. w.onward t listed end now comes)

-- a solid type is expected where a type is
pub solid-opens : (s : Symbol) (kind : Kind) (around : Around) (os : List Opened) (at : ℕ) (st : State) → IsTyped kind
    → Expects s kind around os at st → TreeOpens s Kind.Solid os around at st
unfolding is_eaten is_left number_of_kind parts_of between close unfolding_behind meaning part byte_of tree_of text_of piece_of letter_of is_there
solid-opens s Kind.Plain around os at st typed expects =
    let p = Production.QualifiedPlain in
    let solid = chain-opens (leaves s Kind.Plain p 80 refl) (hole s Kind.Plain around os at st expects) refl refl in
    awaited solid (λ t listed end now other comes.
    (closes p (fill solid (tree t listed) end now comes) (qualified-closes around at st t listed now other)).comes)
solid-opens s Kind.Type around os at st typed expects = any-tree s os around at st (whole-opens s Kind.Type around os at st tt expects)
solid-opens s Kind.Item around os at st typed expects = any-tree s os around at st (whole-opens s Kind.Item around os at st tt expects)
solid-opens s Kind.ItemButRef around os at st typed expects = any-tree s os around at st (whole-opens s Kind.ItemButRef around os at st tt expects)
solid-opens s _ around os at st typed expects = absurd typed

-- ## Builtin types

-- a builtin type, which is no candidate, is accepted
pub builtin-comes : (s : Symbol) (kind : Kind) (around : Around) (os : List Opened) (at : ℕ) (st : State) (b : ℕ) → IsTyped kind
    → is_builtin b ≡ true → Expects s kind around os at st → StandsAt s.bytes at (b ∷ []) → Comes s os (tree (builtin (b ∷ [])) true) (at + 1) st
unfolding is_eaten number_of_kind parts_of between close unfolding_behind meaning part byte_of tree_of text_of piece_of letter_of is_there is_function_type is_builtin each_passes
builtin-comes s kind around os at st b typed is expects stands =
    let solid = solid-opens s kind around os at st typed expects in
    solid.onward (builtin (b ∷ [])) true (at + 1) st refl
    (byte-fills (eats s Kind.Solid Production.Builtin b (tested builtin_letters (λ c. is_eaten Kind.Solid Production.Builtin c) refl b is)) (hole-of solid) stands refl refl).comes

builtin-with-d-taken : (byte : ℕ) → is_builtin_with_d byte ≡ true
    → (is_eaten Kind.AfterD Production.BuiltinWithD byte ≡ true) × (is_left Kind.ItemAfterD Production.ItemIsType byte ≡ true)
unfolding is_eaten is_left is_builtin_with_d each_passes
builtin-with-d-taken byte is = (
  tested builtin_letters_with_d (λ b. is_eaten Kind.AfterD Production.BuiltinWithD b) refl byte is,
  tested builtin_letters_with_d (λ b. is_left Kind.ItemAfterD Production.ItemIsType b) refl byte is,
)

-- a builtin type with a code of two letters is accepted after its D
after-d-comes : {s : Symbol} {around : Around} {os : List Opened} {at : ℕ} {st : State} (b : ℕ) → is_builtin_with_d b ≡ true
    → Hole s (Sym.Kind (number_of_kind Kind.AfterD)) around os at st → StandsAt s.bytes at (b ∷ [])
    → Filled s os (tree (builtin (68 ∷ b ∷ [])) true) (at + 1) st
unfolding is_eaten number_of_kind parts_of between close unfolding_behind meaning part byte_of tree_of text_of piece_of letter_of is_there
after-d-comes {s = s} b is h stands = byte-fills (eats s Kind.AfterD Production.BuiltinWithD b (builtin-with-d-taken b is).0) h stands refl refl

-- likewise where an item is expected
item-after-d-comes : {s : Symbol} {around : Around} {os : List Opened} {at : ℕ} {st : State} (b : ℕ) → is_builtin_with_d b ≡ true
    → Hole s (Sym.Kind (number_of_kind Kind.ItemAfterD)) around os at st → StandsAt s.bytes at (b ∷ [])
    → Filled s os (tree (builtin (68 ∷ b ∷ [])) true) (at + 1) st
unfolding is_eaten is_left number_of_kind parts_of between close unfolding_behind meaning part byte_of tree_of text_of piece_of letter_of is_there
item-after-d-comes {s = s} b is h stands =
    let p = Production.ItemIsType in
    closes p (after-d-comes b is (chain-opens (leaves s Kind.ItemAfterD p b (builtin-with-d-taken b is).1) h refl refl) stands) refl

-- a builtin type with a code of two letters is accepted
pub builtin-with-d-comes : (s : Symbol) (kind : Kind) (around : Around) (os : List Opened) (at : ℕ) (st : State) (b : ℕ) → IsTyped kind
    → is_builtin_with_d b ≡ true → Expects s kind around os at st → StandsAt s.bytes at (68 ∷ b ∷ [])
    → Comes s os (tree (builtin (68 ∷ b ∷ [])) true) (at + 2) st
unfolding is_eaten number_of_kind parts_of between close unfolding_behind meaning part byte_of tree_of text_of piece_of letter_of is_there listed_value with_type with_unqualified is_listed is_function_type
builtin-with-d-comes s kind around os at st b typed is expects stands = go kind typed (hole s kind around os at st expects)
  where
    both : StandsAt s.bytes at (68 ∷ []) × StandsAt s.bytes (at + 1) (b ∷ [])
    both = stands-split s.bytes at (68 ∷ []) (b ∷ []) stands

    go : (k : Kind) → IsTyped k → Hole s (Sym.Kind (number_of_kind k)) around os at st → Comes s os (tree (builtin (68 ∷ b ∷ [])) true) (at + 2) st
    go Kind.Type is_typed h =
        let p = Production.TypeWithD in
        (filled-at (at + 2) (closes p (after-d-comes b is (byte-opens (eats s Kind.Type p 68 refl) h both.0 refl refl) both.1) refl) (omega arith)).comes
    go Kind.Plain is_typed h =
        let p = Production.PlainWithD in
        (filled-at (at + 2) (closes p (after-d-comes b is (byte-opens (eats s Kind.Plain p 68 refl) h both.0 refl refl) both.1) refl) (omega arith)).comes
    go Kind.Item is_typed h =
        let p = Production.ItemWithD in
        (filled-at (at + 2) (closes p (item-after-d-comes b is (byte-opens (eats s Kind.Item p 68 refl) h both.0 refl refl) both.1) refl) (omega arith)).comes
    go Kind.ItemButRef is_typed h =
        let p = Production.ItemWithD in
        (filled-at (at + 2) (closes p (item-after-d-comes b is (byte-opens (eats s Kind.ItemButRef p 68 refl) h both.0 refl refl) both.1) refl) (omega arith)).comes
    go _ is_typed h = absurd is_typed

-- ## Types of types

-- a type is expected after a P
pub pointer-opens : (s : Symbol) (kind : Kind) (around : Around) (os : List Opened) (at : ℕ) (st : State) → IsTyped kind
    → Expects s kind around os at st → StandsAt s.bytes at (80 ∷ []) → TypeOpens s Kind.Type os around pointer (at + 1) st
unfolding is_eaten number_of_kind parts_of between close unfolding_behind meaning part byte_of tree_of text_of piece_of letter_of is_there is_function_type
pointer-opens s kind around os at st typed expects stands =
    let p = Production.Pointer in
    let solid = solid-opens s kind around os at st typed expects in
    let type = byte-opens (eats s Kind.Solid p 80 refl) (hole-of solid) stands refl refl in
    awaited type (λ t end now comes. solid.onward (pointer t) false end now refl (closes p (fill type (tree t true) end now comes) refl).comes)

reference-taken : (k : Kind) → IsReferable k → (is_eaten k Production.ReferenceType 82 ≡ true) × (is_eaten k Production.ReferenceType 79 ≡ true)
unfolding is_eaten
reference-taken Kind.Type typed = (refl, refl)
reference-taken Kind.Item typed = (refl, refl)
reference-taken Kind.Plain typed = (refl, refl)
reference-taken _ typed = absurd typed

-- a type is expected after an R, and after an O
pub reference-type-opens : (s : Symbol) (kind : Kind) (is_lvalue : Bool) (around : Around) (os : List Opened) (at : ℕ) (st : State) → IsReferable kind
    → Expects s kind around os at st → StandsAt s.bytes at (reference_letter is_lvalue ∷ []) → TypeOpens s Kind.Type os around (reference is_lvalue) (at + 1) st
unfolding is_eaten number_of_kind parts_of between close unfolding_behind meaning part byte_of tree_of text_of piece_of letter_of is_there listed_value appended reference_to
reference-type-opens s kind true around os at st typed expects stands =
    let p = Production.ReferenceType in
    let type = byte-opens (eats s kind p 82 (reference-taken kind typed).0) (hole s kind around os at st expects) stands refl refl in
    awaited type (λ t end now comes. (closes p (fill type (tree t true) end now comes) refl).comes)
reference-type-opens s kind false around os at st typed expects stands =
    let p = Production.ReferenceType in
    let type = byte-opens (eats s kind p 79 (reference-taken kind typed).1) (hole s kind around os at st expects) stands refl refl in
    awaited type (λ t end now comes. (closes p (fill type (tree t true) end now comes) refl).comes)

-- a plain type is expected after a K
pub const-opens : (s : Symbol) (kind : Kind) (around : Around) (os : List Opened) (at : ℕ) (st : State) → IsQualifiable kind
    → Expects s kind around os at st → StandsAt s.bytes at (75 ∷ []) → TypeOpens s Kind.Plain os around as_const (at + 1) st
unfolding is_eaten number_of_kind parts_of between close unfolding_behind meaning part byte_of tree_of text_of piece_of letter_of is_there listed_value appended
const-opens s kind around os at st typed expects stands =
    let p = Production.ConstType in
    let type = byte-opens (eats s kind p 75 (whole-taken kind typed).1) (hole s kind around os at st expects) stands refl refl in
    awaited type (λ t end now comes. (closes p (fill type (tree t true) end now comes) refl).comes)

-- ## Names of types

-- a name of a type was read, by a production whose last part is the name's arguments
named-so : (s : Symbol) (around : Around) (os inner : List Opened) (t : Term) (listed : Bool) (at : ℕ) (st : State) (solid : List Opened)
    → TreePasses s solid os around → Expects s Kind.ArgumentsAlone (after t listed around) inner at st
    → ((end : ℕ) (now : State) → Comes s inner nothing_there end now → Comes s solid (tree t listed) end now)
    → ((a : Term) (end : ℕ) (now : State) → Comes s inner (tree a true) end now → Comes s solid (tree (instance t a) false) end now)
    → TypeNamed s os around t listed at st
unfolding is_function_type
named-so s around os inner t listed at st solid passes awaits bare argued = record {
  inner = inner;
  awaits = awaits;
  bare = λ end now other comes. passes t listed end now other (bare end now comes);
  argued = λ a end now comes. passes (instance t a) false end now refl (argued a end now comes);
}

-- a name of a type is chosen where one is expected: after an N, an S or a Z, or with its length
pub named-taken : (kind : Kind) → IsNamedKind kind → (is_left kind Production.SourceName 48 ≡ true) × (is_eaten kind Production.TypeWithS 83 ≡ true)
    × (is_eaten kind Production.NestedType 78 ≡ true) × (is_eaten kind Production.LocalType 90 ≡ true)
unfolding is_eaten is_left
named-taken Kind.Solid is_named = (refl, refl, refl, refl)
named-taken Kind.LiteralType is_named = (refl, refl, refl, refl)
named-taken _ is_named = absurd is_named

-- a name with its length
pub source-opens : (s : Symbol) (kind : Kind) (around : Around) (os : List Opened) (at : ℕ) (st : State) (name : List ℕ) (end : ℕ) → IsNamedKind kind
    → around.prefix ≡ outermost → TreeOpens s kind os around at st → IsNameAt s.bytes at name end
    → TypeNamed s os around (alone (source false name)) false end st
unfolding is_eaten is_left number_of_kind parts_of between close unfolding_behind meaning part byte_of tree_of text_of piece_of letter_of is_there applied named_so_far after extended
source-opens s kind around os at st name end is_named first solid is =
    let p = Production.SourceName in
    let t = alone (source false name) in
    let own = chain-opens (leaves s kind p 48 (named-taken kind is_named).0) (hole s kind around solid.inner at st solid.awaits) refl refl in
    let rest = next-part p (name-fills name end own is) (first-named around (source false name) st first) in
    named-so s around os (open_at rest) t false end st solid.inner solid.onward (alone-arguments s (after t false around) (open_at rest) end st rest.expects)
    (λ later now comes. (closes p (fill rest nothing_there later now comes) refl).comes)
    (λ a later now comes. (closes p (fill rest (tree a true) later now comes) refl).comes)

-- a name after an S
pub name-with-s-opens : (s : Symbol) (kind : Kind) (around : Around) (os : List Opened) (at : ℕ) (st : State) → IsNamedKind kind
    → TreeOpens s kind os around at st → StandsAt s.bytes at (83 ∷ []) → NameOpens s Kind.TypeAfterS os around (at + 1) st
unfolding is_eaten number_of_kind parts_of between close unfolding_behind meaning part byte_of tree_of text_of piece_of letter_of is_there is_listed applied
name-with-s-opens s kind around os at st is_named solid stands =
    let p = Production.TypeWithS in
    let name = byte-opens (eats s kind p 83 (named-taken kind is_named).1) (hole s kind around solid.inner at st solid.awaits) stands refl refl in
    awaited name (λ t listed end now comes.
    let rest = next-part p (fill name (tree t listed) end now comes) refl in
    named-so s around os (open_at rest) t listed end now solid.inner solid.onward rest.expects
    (λ later onward had. (closes p (fill rest nothing_there later onward had) (rw (and-true listed) refl)).comes)
    (λ a later onward had. (closes p (fill rest (tree a true) later onward had) (rw (and-false listed) refl)).comes))

-- a name of std
pub std-opens : (s : Symbol) (kind : Kind) (around : Around) (os : List Opened) (at : ℕ) (st : State) (name : List ℕ) (end : ℕ) → IsNamedKind kind
    → TreeOpens s kind os around at st → StandsAt s.bytes at (83 ∷ 116 ∷ []) → IsNameAt s.bytes (at + 2) name end
    → TypeNamed s os around (in_std (source false name)) false end st
unfolding is_eaten is_left number_of_kind parts_of may_be_empty between close unfolding_behind meaning part byte_of tree_of text_of piece_of letter_of is_there named_so_far after applied
std-opens s kind around os at st name end is_named solid stands is =
    let p = Production.TaggedStdType in
    let both = stands-split s.bytes at (83 ∷ []) (116 ∷ []) stands in
    let w = name-with-s-opens s kind around os at st is_named solid both.0 in
    let in_kind = chain-opens (leaves s Kind.TypeAfterS Production.TypeInStd 116 refl) (hole s Kind.TypeAfterS around w.inner (at + 1) st w.awaits) refl refl in
    let entity = byte-opens (eats s Kind.TypeInStd p 116 refl) in_kind both.1 refl refl in
    let own = chain-opens (leaves s Kind.SourceOrLocal Production.SourcePiece 48 refl) entity refl refl in
    let named = closes Production.SourcePiece (name-fills name end own (subst (λ k. IsNameAt s.bytes k name end) (omega arith) is)) refl in
    let tagless = none-fills Kind.MaybeTags (next-part p named refl) refl in
    w.onward (in_std (source false name)) false end st (closes Production.TypeInStd (closes p tagless refl) refl).comes

-- one of the letters after an S that denote a name of std
pub abbreviation-fills : {s : Symbol} {around : Around} {os : List Opened} {at : ℕ} {st : State} (letter : ℕ) → is_abbreviated letter ≡ true
    → Hole s (Sym.Kind (number_of_kind Kind.Abbreviation)) around os at st → StandsAt s.bytes at (letter ∷ [])
    → Filled s os (tree (abbreviation letter) true) (at + 1) st
unfolding is_eaten number_of_kind parts_of between close unfolding_behind meaning part byte_of tree_of text_of piece_of letter_of is_there is_abbreviated each_passes
abbreviation-fills {s = s} letter is h stands =
    let p = Production.Abbreviation in
    byte-fills (eats s Kind.Abbreviation p letter (tested abbreviation_letters (λ c. is_eaten Kind.Abbreviation p c) refl letter is)) h stands refl refl

-- an abbreviation or a substitution is the name of a type, after its S
behind-s-named : (s : Symbol) (kind : Kind) (around : Around) (os : List Opened) (at : ℕ) (st : State) (t : Term) (end : ℕ) → IsNamedKind kind
    → ((inner : List Opened) → Hole s (Sym.Kind (number_of_kind Kind.Abbreviation)) around inner (at + 1) st → Filled s inner (tree t true) end st)
    → TreeOpens s kind os around at st → StandsAt s.bytes at (83 ∷ []) → TypeNamed s os around t true end st
unfolding is_eaten is_left number_of_kind parts_of between close unfolding_behind meaning part byte_of tree_of text_of piece_of letter_of is_there
behind-s-named s kind around os at st t end is_named fills solid stands =
    let p = Production.AbbreviatedType in
    let w = name-with-s-opens s kind around os at st is_named solid stands in
    let short = chain-opens (leaves s Kind.TypeAfterS p 95 refl) (hole s Kind.TypeAfterS around w.inner (at + 1) st w.awaits) refl refl in
    w.onward t true end st (closes p (fills (open_at short) short) refl).comes

-- an abbreviation
pub abbreviation-opens : (s : Symbol) (kind : Kind) (around : Around) (os : List Opened) (at : ℕ) (st : State) (letter : ℕ) → IsNamedKind kind
    → is_abbreviated letter ≡ true → TreeOpens s kind os around at st → StandsAt s.bytes at (83 ∷ letter ∷ [])
    → TypeNamed s os around (abbreviation letter) true (at + 2) st
abbreviation-opens s kind around os at st letter is_named is solid stands =
    let both = stands-split s.bytes at (83 ∷ []) (letter ∷ []) stands in
    behind-s-named s kind around os at st (abbreviation letter) (at + 2) is_named
    (λ inner h. filled-at (at + 2) (abbreviation-fills letter is h both.1) (omega arith)) solid both.0

substitution-closes : (is_wide : Bool) (around : Around) (place : ℕ) (before : State) (digits : List ℕ) (c : Candidate) (st : State)
    → slice_get st.candidates (counted_value NumberKind.Seq36 digits) ≡ Some c
    → ((at : ℕ) → named_by is_wide around at (Some c) st ≡ Ok (found (tree c.tree true) st))
    → close_by Production.Substitution is_wide 0 around place before (text digits ∷ []) st ≡ Ok (found (tree c.tree true) st)
unfolding close part text_of
substitution-closes is_wide around place before digits c st at so = ap (λ o. named_by is_wide around (place - 1) o st) at ∙ so (place - 1)

-- the number of a substitution that names a candidate
pub substitution-fills : {s : Symbol} {around : Around} {os : List Opened} {at : ℕ} {st : State} (digits : List ℕ) (end : ℕ) (c : Candidate)
    → slice_get st.candidates (counted_value NumberKind.Seq36 digits) ≡ Some c
    → ((place : ℕ) → named_by s.is_wide around place (Some c) st ≡ Ok (found (tree c.tree true) st))
    → Hole s (Sym.Kind (number_of_kind Kind.Abbreviation)) around os at st → IsSeqAt s.bytes at digits end → Filled s os (tree c.tree true) end st
unfolding is_eaten is_left number_of_kind parts_of between close unfolding_behind meaning part byte_of tree_of text_of piece_of letter_of is_there
substitution-fills {s = s} {around = around} {at = at} {st = st} digits end c names_it so h is =
    let p = Production.Substitution in
    closes p (digits-fill digits end (chain-opens (leaves s Kind.Abbreviation p 48 refl) h refl refl) is) (substitution-closes s.is_wide around at st digits c st names_it so)

-- a substitution
pub substitution-opens : (s : Symbol) (kind : Kind) (around : Around) (os : List Opened) (at : ℕ) (st : State) (digits : List ℕ) (end : ℕ)
    (c : Candidate) → IsNamedKind kind → slice_get st.candidates (counted_value NumberKind.Seq36 digits) ≡ Some c
    → ((place : ℕ) → named_by s.is_wide around place (Some c) st ≡ Ok (found (tree c.tree true) st))
    → TreeOpens s kind os around at st → StandsAt s.bytes at (83 ∷ []) → IsSeqAt s.bytes (at + 1) digits end → TypeNamed s os around c.tree true end st
substitution-opens s kind around os at st digits end c is_named names_it so solid stands is =
    behind-s-named s kind around os at st c.tree end is_named (λ inner h. substitution-fills digits end c names_it so h is) solid stands

-- a nested name is expected after an N
pub nested-type-opens : (s : Symbol) (kind : Kind) (around : Around) (os : List Opened) (at : ℕ) (st : State) → IsNamedKind kind
    → TreeOpens s kind os around at st → StandsAt s.bytes at (78 ∷ []) → TreeOpens s Kind.Nest os around (at + 1) st
unfolding is_eaten number_of_kind parts_of between close unfolding_behind meaning part byte_of tree_of text_of piece_of letter_of is_there
nested-type-opens s kind around os at st is_named solid stands =
    let p = Production.NestedType in
    let nest = byte-opens (eats s kind p 78 (named-taken kind is_named).2) (hole s kind around solid.inner at st solid.awaits) stands refl refl in
    awaited nest (λ t listed end now other comes. solid.onward t listed end now other (closes p (fill nest (tree t listed) end now comes) refl).comes)

-- ## Arrays

-- the type of an array's elements is expected after its size
plain-array-opens : (s : Symbol) (kind : Kind) (os : List Opened) (around : Around) (at : ℕ) (st : State) (digits : List ℕ) (end : ℕ) → IsQualifiable kind
    → Expects s kind around os at st → StandsAt s.bytes at (65 ∷ []) → IsSizeAt s.bytes (at + 1) digits end → ArrayOpened s os around Access.Plain digits end st
unfolding is_eaten is_left number_of_kind parts_of between close unfolding_behind meaning part byte_of tree_of text_of piece_of letter_of is_there
plain-array-opens s kind os around at st digits end whole expects stands is =
    let p = Production.LengthArray in
    let w = whole-opens s kind around os at st whole expects in
    let any = chain-opens (leaves s Kind.Solid Production.ArrayType 65 refl) (hole-of w) refl refl in
    let rest = byte-opens (eats s Kind.AnyArray Production.AnyArray 65 refl) any stands refl refl in
    let type = next-part p (digits-fill digits end (chain-opens (leaves s Kind.ArrayRest p 48 refl) rest refl refl) is) refl in
    awaited type (λ u here now comes. w.onward (array (values.normal digits) u) false here now
    (closes Production.ArrayType (closes Production.AnyArray (closes p (fill type (tree u true) here now comes) refl) refl) refl).comes)

-- likewise for a pointer or a reference to an array
pub array-opens : (s : Symbol) (access : Access) (kind : Kind) (os : List Opened) (around : Around) (at : ℕ) (st : State) (digits : List ℕ) (end : ℕ)
    → IsQualifiable kind → (access ≡ Access.Lvalue → IsReferable kind) → Expects s kind around os at st → StandsAt s.bytes at (access_letters access)
    → IsSizeAt s.bytes (at + length (access_letters access)) digits end → ArrayOpened s os around access digits end st
array-opens s Access.Plain kind os around at st digits end whole referable expects stands is = plain-array-opens s kind os around at st digits end whole expects stands is
array-opens s Access.Pointer kind os around at st digits end whole referable expects stands is =
    let both = stands-split s.bytes at (80 ∷ []) (65 ∷ []) stands in
    let o = pointer-opens s kind around os at st (typed kind whole) expects both.0 in
    let f = plain-array-opens s Kind.Type o.inner around (at + 1) st digits end tt o.awaits both.1
    (subst (λ k. IsSizeAt s.bytes k digits end) (omega arith) is) in
    awaited {os = f.inner} (hole-of f)
    (λ u here now comes. o.onward (array (values.normal digits) u) here (with_candidate around (array (values.normal digits) u) now)
    (f.onward u here now comes))
array-opens s Access.Lvalue kind os around at st digits end whole referable expects stands is =
    let both = stands-split s.bytes at (82 ∷ []) (65 ∷ []) stands in
    let o = reference-type-opens s kind true around os at st (referable refl) expects both.0 in
    let f = plain-array-opens s Kind.Type o.inner around (at + 1) st digits end tt o.awaits both.1
    (subst (λ k. IsSizeAt s.bytes k digits end) (omega arith) is) in
    awaited {os = f.inner} (hole-of f)
    (λ u here now comes. o.onward (array (values.normal digits) u) here (with_candidate around (array (values.normal digits) u) now)
    (f.onward u here now comes))

-- ## Function types

-- the return type of a function type is expected after its F
pub function-opens : (s : Symbol) (kind : Kind) (os : List Opened) (around : Around) (at : ℕ) (st : State) → IsQualifiable kind
    → around.prefix ≡ outermost → Expects s kind around os at st → StandsAt s.bytes at (70 ∷ []) → FunctionOpened s os around false (at + 1) st
unfolding is_eaten number_of_kind parts_of may_be_empty between close unfolding_behind meaning part byte_of tree_of text_of piece_of letter_of is_there ref_of
function-opens s kind os around at st whole outside expects stands =
    let p = Production.Function in
    let w = whole-opens s kind around os at st whole expects in
    let linkage = byte-opens (eats s Kind.Solid p 70 refl) (hole-of w) stands refl refl in
    let type = next-part p (none-fills Kind.MaybeCLinkage linkage refl) refl in
    awaited type (λ r here now comes.
    let rest = next-part p (fill type (tree r true) here now comes) refl in
    record {
      around = around;
      outside = outside;
      inner = open_at rest;
      awaits = rest.expects;
      passes = λ l there then_ last. w.onward (plain_function r l) false there then_ (closes p (fill rest (signature l any_value) there then_ last) refl).comes;
    })

-- the return type of a function type that is pointed to is expected after its PF
pub pointed-function-opens : (s : Symbol) (kind : Kind) (os : List Opened) (around : Around) (at : ℕ) (st : State) → IsQualifiable kind
    → around.prefix ≡ outermost → Expects s kind around os at st → StandsAt s.bytes at (80 ∷ 70 ∷ []) → FunctionOpened s os around true (at + 2) st
pointed-function-opens s kind os around at st whole outside expects stands =
    let both = stands-split s.bytes at (80 ∷ []) (70 ∷ []) stands in
    let o = pointer-opens s kind around os at st (typed kind whole) expects both.0 in
    let f = function-opens s Kind.Type o.inner around (at + 1) st tt outside o.awaits both.1 in
    record {
      inner = f.inner;
      awaits = subst (λ k. Expects s Kind.Type around f.inner k st) (omega arith) f.awaits;
      onward = λ r here now comes. let g = f.onward r here now comes in record {
        around = g.around;
        outside = g.outside;
        inner = g.inner;
        awaits = g.awaits;
        passes = λ l there then_ last. o.onward (plain_function r l) there (with_candidate around (plain_function r l) then_)
            (g.passes l there then_ last);
      };
    }

-- parameters continue after one of them is read
parameters-go-on : {s : Symbol} {outer : List Opened} {made_in : Around} {is_pointer : Bool} {made : Term → Term} {at : ℕ} {st : State} {t : Term}
    (g : SignatureGoesOn s outer made_in is_pointer made at st) {inner : List Opened} {here : ℕ} {now : State}
    → Hole s (Sym.Kind (number_of_kind Kind.FunctionRest)) g.around inner here now
    → ((l : Term) (there : ℕ) (then_ : State) → Filled s inner (signature l any_value) there then_ → Filled s g.inner (signature (list t l) any_value) there then_)
    → SignatureGoesOn s outer made_in is_pointer (λ l. made (list t l)) here now
parameters-go-on {t = t} g {inner = inner} h passes = record {
  around = g.around;
  outside = g.outside;
  inner = inner;
  awaits = h.expects;
  passes = λ l there then_ last. g.passes (list t l) there then_ (passes l there then_ (fill h (signature l any_value) there then_ last)).comes;
}

-- a parameter is expected
pub parameter-opens : (s : Symbol) (outer : List Opened) (made_in : Around) (is_pointer : Bool) (made : Term → Term) (at : ℕ) (st : State)
    → SignatureGoesOn s outer made_in is_pointer made at st → ParameterOpened s outer made_in is_pointer made at st
unfolding is_eaten is_left number_of_kind parts_of between close unfolding_behind meaning part byte_of tree_of text_of piece_of letter_of is_there with_item ref_of
parameter-opens s outer made_in is_pointer made at st g =
    let p = Production.RestItem in
    let item = chain-opens (leaves s Kind.FunctionRest p 80 refl) (hole s Kind.FunctionRest g.around g.inner at st g.awaits) refl refl in
    record {
      around = g.around;
      outside = g.outside;
      inner = open_at item;
      awaits = item.expects;
      onward = λ t here now comes.
          parameters-go-on g (next-part p (fill item (tree t true) here now comes) refl) (λ l there then_ last. closes p last refl);
    }

-- an E ends a function type
pub signature-ends : (s : Symbol) (outer : List Opened) (made_in : Around) (is_pointer : Bool) (made : Term → Term) (at : ℕ) (st : State)
    → (g : SignatureGoesOn s outer made_in is_pointer made at st) → StandsAt s.bytes at (69 ∷ []) → Comes s g.inner (signature nil any_value) (at + 1) st
unfolding is_eaten number_of_kind parts_of between close unfolding_behind meaning part byte_of tree_of text_of piece_of letter_of is_there
signature-ends s outer made_in is_pointer made at st g stands =
    (byte-fills (eats s Kind.FunctionRest Production.RestEnd 69 refl) (hole s Kind.FunctionRest g.around g.inner at st g.awaits) stands refl refl).comes

-- ## References as parameters

-- Expects the referenced type after the letter of a reference; the parameters continue after that type.
referred : {s : Symbol} {outer : List Opened} {made_in : Around} {is_pointer : Bool} {made : Term → Term} {at : ℕ} {st : State}
    (g : SignatureGoesOn s outer made_in is_pointer made at st) (is_lvalue : Bool) (item : Production) {os : List Opened}
    → Hole s (Sym.Kind (number_of_kind Kind.Type)) g.around
    (opened (standing (rule_of item) [] (at + 1) g.around st) [] (Sym.Kind (number_of_kind Kind.FunctionRest) ∷ []) ∷ os) (at + 1) st
    → ((t : Term) (now : State) → ◌≡◌ {A = Continuation} (between item g.around (at + 1) (tree t true ∷ []) now)
    (Ok (record { values = tree (reference is_lvalue t) true ∷ []; context = g.around; state = with_candidate g.around (reference is_lvalue t) now })))
    → ((vs : List Value) (inner : State) → close_by item s.is_wide 0 g.around (at + 1) st vs inner ≡ close Production.RestItem 0 g.around (at + 1) st vs inner)
    → ((l : Term) (there : ℕ) (then_ : State) → Filled s os (signature l any_value) there then_ → Filled s g.inner (signature l any_value) there then_)
    → ReferenceOpened s outer made_in is_pointer is_lvalue made at st
unfolding is_eaten number_of_kind parts_of between close unfolding_behind meaning part byte_of tree_of text_of piece_of letter_of is_there with_item ref_of
referred {s = s} {at = at} {st = st} g is_lvalue item {os = os} type goes same ended =
    let p = Production.RestItem in
    let rest = Sym.Kind (number_of_kind Kind.FunctionRest) in
    let whole = opened (standing (rule_of p) [] (at + 1) g.around st) [] (rest ∷ []) ∷ os in
    record {
      around = g.around;
      outside = g.outside;
      whole = whole;
      inner = open_at type;
      awaits = type.expects;
      passes = λ t here now comes.
          let u = reference is_lvalue t in
          let then_ = with_candidate g.around u now in
          comes-alike s os item p [] (at + 1) g.around st rest (tree t true) (tree u true) here now then_ g.around (tree u true ∷ []) (tree u true ∷ [])
          then_ (goes t now) refl (λ more end. same (tree u true ∷ more) end) comes;
      onward = λ u here now comes. parameters-go-on g (next-part p (came s whole (tree u true) here now comes) refl)
          (λ l there then_ last. ended (list u l) there then_ (closes p last refl));
    }

-- a parameter that is a reference begins with its letter, and expects the referenced type
pub reference-opens : (s : Symbol) (outer : List Opened) (made_in : Around) (is_pointer is_lvalue : Bool) (made : Term → Term) (at : ℕ) (st : State)
    → SignatureGoesOn s outer made_in is_pointer made at st → StandsAt s.bytes at (reference_letter is_lvalue ∷ [])
    → ReferenceOpened s outer made_in is_pointer is_lvalue made at st
unfolding is_eaten is_left number_of_kind parts_of between close unfolding_behind meaning part byte_of tree_of text_of piece_of letter_of is_there with_item ref_of signature_or appended
reference-opens s outer made_in is_pointer true made at st g stands =
    let mark = byte-opens (eats s Kind.FunctionRest Production.RestLvalue 82 refl) (hole s Kind.FunctionRest g.around g.inner at st g.awaits) stands refl refl in
    let type = chain-opens (leaves s Kind.AfterR Production.LvalueItem 80 refl) mark refl refl in
    referred g true Production.LvalueItem type (λ t now. refl) (λ vs inner. refl) (λ l there then_ last. closes Production.RestLvalue last refl)
reference-opens s outer made_in is_pointer false made at st g stands =
    let mark = byte-opens (eats s Kind.FunctionRest Production.RestRvalue 79 refl) (hole s Kind.FunctionRest g.around g.inner at st g.awaits) stands refl refl in
    let type = chain-opens (leaves s Kind.AfterO Production.RvalueItem 80 refl) mark refl refl in
    referred g false Production.RvalueItem type (λ t now. refl) (λ vs inner. refl) (λ l there then_ last. closes Production.RestRvalue last refl)
