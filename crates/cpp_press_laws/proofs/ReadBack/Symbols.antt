-- Local names, encodings and symbols are read as what was pressed, from their parts.
use Rattle.cpp_press_laws.proofs.Basics.{◌≡◌, ℕ, ◌+◌, ◌<◌, length, List, [], ◌∷◌, ◌++◌, Option, Some, None, Bool, true, false, Ok, refl, ap, arith, append_assoc, sym, ◌∙◌, length-append, Digits, TakesRule, found, Kind, Production, SYMBOL, MAYBE_SUFFIX, SUFFIX_FIRST, SUFFIX_MORE, ENCODING, SPECIAL, SPECIAL_AFTER_G, CALL_OFFSET, COMPLETE_NAME, ENTITY, TYPE_ENTITY, MAYBE_DISCRIMINATOR, DISCRIMINATOR_REST, TYPE, ITEMS, number_of_kind, choose, kinds, parts_of, is_chain, may_be_empty, abi, rule_of, Adjustment, non_virtual, by_table, adjusting, covariant, Term, symbol, special, thunk, of_name, local, string_literal, Thunk, Around, Value, nothing_there, letter, signed, adjusted, tree, named, tree_of, text_of, qualifiers_of, ref_of, part, between, in_name, in_types, after, extended, no_items, meaning, encoding_of, discriminator_of, close, byte_of, Component, AreSpellableDigits, AreSuffixBytes, Written, written, ReadsAt, Is, IsSpellableDiscriminator, IsSpellableOffset, IsSpellableThunk, discriminator_text, offset_text, signed_text, thunk_text}
use Rattle.sym_shape.specs.declared.rule.Sym.TheVariants.{Kind as OfKind}
use Rattle.cpp_grammar.specs.Values as value
use Rattle.cpp_grammar.specs.Unfolding as unfolding_
use Rattle.cpp_press_laws.proofs.ReadBack.Reading.{takes-byte, takes-none, fixed-reads, empty-reads, digits-read, elsewhere, grammar, more, read-by-parts, same-written, ◌before◌}
use Rattle.cpp_press_laws.proofs.ReadBack.Functions.{mark-reads}
use Rattle.cpp_press_laws.proofs.ReadBack.Arguments.{integer-reads}

-- ## Local names

pub string-literal-reads : (around : Around) (allowed : Option ℕ) (place : ℕ) (cs : List Component)
    → ReadsAt around allowed (OfKind ENTITY) (Is (tree (extended around.prefix string_literal) true)) place cs (written (115 ∷ []) cs)
unfolding grammar
string-literal-reads around allowed place cs =
    read-by-parts Production.StringLiteral ENTITY (115 ∷ []) [] []
    (takes-byte ENTITY Kind.Entity Production.StringLiteral 115 refl refl (omega arith) refl) tt refl (λ began s. refl)

-- what a discriminator is read as; if there is no discriminator, an absent value
abbrev pub discriminator_value : Option (List ℕ) → Value
discriminator_value None = nothing_there
discriminator_value (Some digits) = value.text digits

discriminator-kept : (d : Option (List ℕ)) → discriminator_of (discriminator_value d) ≡ d
unfolding discriminator_of
discriminator-kept None = refl
discriminator-kept (Some digits) = refl

-- a discriminator, after its mark
discriminator-behind-mark : (around : Around) (allowed : Option ℕ) (digits : List ℕ) (place : ℕ) (cs : List Component) (w : Written)
    → ReadsAt around allowed (OfKind DISCRIMINATOR_REST) (Is (value.text digits)) (place + 1) cs w
    → ReadsAt around allowed (OfKind MAYBE_DISCRIMINATOR) (Is (value.text digits)) place cs (written (95 ∷ w.bytes) w.components)
unfolding grammar
discriminator-behind-mark around allowed digits place cs w one =
    read-by-parts Production.Discriminator MAYBE_DISCRIMINATOR (95 ∷ []) (value.text digits ∷ []) (w ∷ [])
    (takes-byte MAYBE_DISCRIMINATOR Kind.MaybeDiscriminator Production.Discriminator 95 refl refl (omega arith) refl) tt refl
    (λ s c q. one s c q before λ began s. refl)

many-digits : (around : Around) (allowed : Option ℕ) (digits : List ℕ) (place : ℕ) (cs : List Component) → AreSpellableDigits Digits digits
    → ReadsAt around allowed (OfKind MAYBE_DISCRIMINATOR) (Is (value.text digits)) place cs (written (95 ∷ 95 ∷ (digits ++ (95 ∷ []))) cs)
unfolding grammar
many-digits around allowed digits place cs good =
    discriminator-behind-mark around allowed digits place cs (written (95 ∷ (digits ++ (95 ∷ []))) cs)
    (read-by-parts Production.ManyDigits DISCRIMINATOR_REST (95 ∷ []) (value.text digits ∷ nothing_there ∷ []) (written digits cs ∷ written (95 ∷ []) cs ∷ [])
    (takes-byte DISCRIMINATOR_REST Kind.DiscriminatorRest Production.ManyDigits 95 refl refl (omega arith) refl) tt refl
    (λ s c q. digits-read digits good.are s c q before λ s c q. fixed-reads s c q before λ began s. ap
    (λ l. Ok (found (value.text l) s)) good.normal_are))

pub discriminator-reads : (around : Around) (allowed : Option ℕ) (d : Option (List ℕ)) (place : ℕ) (cs : List Component)
    → IsSpellableDiscriminator d
    → ReadsAt around allowed (OfKind MAYBE_DISCRIMINATOR) (Is (discriminator_value d)) place cs (written (discriminator_text d) cs)
unfolding discriminator_text kinds may_be_empty is_chain parts_of close unfolding_.behind meaning byte_of
discriminator-reads around allowed None place cs h = empty-reads Kind.MaybeDiscriminator refl refl
discriminator-reads around allowed (Some []) place cs h = many-digits around allowed [] place cs h
discriminator-reads around allowed (Some (d ∷ [])) place cs h =
    discriminator-behind-mark around allowed (d ∷ []) place cs (written (d ∷ []) cs)
    (read-by-parts Production.OneDigit DISCRIMINATOR_REST (d ∷ []) [] []
    (takes-byte DISCRIMINATOR_REST Kind.DiscriminatorRest Production.OneDigit d refl h.1 h.0 refl) tt refl (λ began s. refl))
discriminator-reads around allowed (Some (d ∷ e ∷ ds)) place cs h = many-digits around allowed (d ∷ e ∷ ds) place cs h

-- an entity in the scope of an encoding, as a type
pub local-type : (k : ℕ) (around : Around) (allowed : Option ℕ) (e entity : Term) (listed : Bool) (d : Option (List ℕ)) (place : ℕ)
    (cs : List Component) (first second third : Written) → TakesRule abi k (rule_of Production.LocalType) (90 ∷ [])
    → ReadsAt around allowed (OfKind ENCODING) (Is (tree e true)) (place + 1) cs first
    → ReadsAt (after e true around) allowed (OfKind TYPE_ENTITY) (Is (tree entity listed)) (place + 1 + length first.bytes + 1) first.components second
    → ReadsAt (after e true around) allowed (OfKind MAYBE_DISCRIMINATOR) (Is (discriminator_value d)) (place + 1 + length first.bytes + 1 + length second.bytes)
    second.components third
    → ReadsAt around allowed (OfKind k) (Is (tree (local e entity d) false)) place cs
    (written (90 ∷ (first.bytes ++ (69 ∷ (second.bytes ++ third.bytes)))) third.components)
unfolding grammar
local-type k around allowed e entity listed d place cs first second third takes one two three =
    read-by-parts Production.LocalType k (90 ∷ []) (tree e true ∷ nothing_there ∷ tree entity listed ∷ discriminator_value d ∷ [])
    (first ∷ written (69 ∷ []) first.components ∷ second ∷ third ∷ []) takes tt refl
    (λ s c q. one s c q before λ s c q. fixed-reads s c q before λ s c q. two s c q before λ s c q. three s c q
    before λ began s. ap (λ x. Ok (found (tree (local e entity x) false) s)) (discriminator-kept d))

-- an entity in the scope of an encoding, as an encoding's own name with the entity's qualifiers
pub local-name : (around : Around) (allowed : Option ℕ) (e : Term) (entity : Value) (d : Option (List ℕ)) (place : ℕ) (cs : List Component)
    (first second third : Written)
    → ReadsAt around allowed (OfKind ENCODING) (Is (tree e true)) (place + 1) cs first
    → ReadsAt (after e true around) allowed (OfKind ENTITY) (Is entity) (place + 1 + length first.bytes + 1) first.components second
    → ReadsAt (after e true around) allowed (OfKind MAYBE_DISCRIMINATOR) (Is (discriminator_value d)) (place + 1 + length first.bytes + 1 + length second.bytes)
    second.components third
    → ReadsAt around allowed (OfKind COMPLETE_NAME) (Is (named (local e (tree_of entity) d) (qualifiers_of entity) (ref_of entity))) place cs
    (written (90 ∷ (first.bytes ++ (69 ∷ (second.bytes ++ third.bytes)))) third.components)
unfolding grammar
local-name around allowed e entity d place cs first second third one two three =
    read-by-parts Production.LocalName COMPLETE_NAME (90 ∷ []) (tree e true ∷ nothing_there ∷ entity ∷ discriminator_value d ∷ [])
    (first ∷ written (69 ∷ []) first.components ∷ second ∷ third ∷ [])
    (takes-byte COMPLETE_NAME Kind.CompleteName Production.LocalName 90 refl refl (omega arith) refl) tt refl
    (λ s c q. one s c q before λ s c q. fixed-reads s c q before λ s c q. two s c q before λ s c q. three s c q
    before λ began s. ap (λ x. Ok (found (named (local e (tree_of entity) x) (qualifiers_of entity) (ref_of entity)) s))
    (discriminator-kept d))

-- ## Encodings

-- a name and its items
pub encoding-reads : (around : Around) (allowed : Option ℕ) (name last : Value) (place : ℕ) (cs : List Component) (first rest : Written)
    → ReadsAt (in_name place) allowed (OfKind COMPLETE_NAME) (Is name) (place + 0) cs first
    → ReadsAt (in_types place (tree_of name)) allowed (OfKind ITEMS) (Is last) (place + 0 + length first.bytes) first.components rest
    → ReadsAt around allowed (OfKind ENCODING) (Is (tree (encoding_of name (no_items last)) true)) place cs
    (written (first.bytes ++ rest.bytes) rest.components)
unfolding grammar
encoding-reads around allowed name last place cs first rest one two =
    read-by-parts Production.Encoding ENCODING [] (name ∷ last ∷ []) (first ∷ rest ∷ [])
    (takes-none ENCODING Kind.Encoding Production.Encoding 78 refl refl (omega arith) refl) tt refl
    (λ s c q. one s c q before λ s c q. two s c q before λ began s. refl)

pub guard-reads : (around : Around) (allowed : Option ℕ) (name : Value) (place : ℕ) (cs : List Component) (w : Written)
    → ReadsAt (in_name place) allowed (OfKind COMPLETE_NAME) (Is name) (place + 1 + 1) cs w
    → ReadsAt around allowed (OfKind ENCODING) (Is (tree (of_name 86 (tree_of name) (qualifiers_of name) (ref_of name)) true)) place cs
    (written (71 ∷ 86 ∷ w.bytes) w.components)
unfolding grammar
guard-reads around allowed name place cs w one =
    let guard : Value = tree (of_name 86 (tree_of name) (qualifiers_of name) (ref_of name)) true in
    read-by-parts Production.OtherSpecial ENCODING [] (letter 71 ∷ guard ∷ []) (written (71 ∷ []) cs ∷ written (86 ∷ w.bytes) w.components ∷ [])
    (takes-none ENCODING Kind.Encoding Production.OtherSpecial 71 refl refl (omega arith) refl) tt refl
    (λ s c q. mark-reads Kind.SpecialMark refl refl (omega arith) s c q before λ s c q. read-by-parts
    Production.SpecialName SPECIAL_AFTER_G (86 ∷ []) (name ∷ []) (w ∷ []) (takes-byte SPECIAL_AFTER_G Kind.SpecialAfterG
    Production.SpecialName 86 refl refl (omega arith) refl) tt refl
    (λ s c q. elsewhere (omega arith) one s c q before λ began s. refl) s c q before λ began s. refl)

-- an encoding that begins with a T
pub special-reads : (around : Around) (allowed : Option ℕ) (v : Value) (place : ℕ) (cs : List Component) (w : Written)
    → ReadsAt (in_name place) allowed (OfKind SPECIAL) (Is v) (place + 1) cs w
    → ReadsAt around allowed (OfKind ENCODING) (Is v) place cs (written (84 ∷ w.bytes) w.components)
unfolding grammar
special-reads around allowed v place cs w one =
    read-by-parts Production.Special ENCODING (84 ∷ []) (v ∷ []) (w ∷ [])
    (takes-byte ENCODING Kind.Encoding Production.Special 84 refl refl (omega arith) refl) tt refl
    (λ s c q. one s c q before λ began s. refl)

pub special-type : (around : Around) (allowed : Option ℕ) (byte : ℕ) (t : Term) (place : ℕ) (cs : List Component) (w : Written) → byte < 256
    → choose Kind.Special byte ≡ Some Production.SpecialType
    → ReadsAt around allowed (OfKind TYPE) (Is (tree t true)) (place + 1) cs w
    → ReadsAt around allowed (OfKind SPECIAL) (Is (tree (special byte t) true)) place cs (written (byte ∷ w.bytes) w.components)
unfolding kinds is_chain parts_of number_of_kind between close unfolding_.behind meaning tree_of part byte_of
special-type around allowed byte t place cs w small chosen one =
    read-by-parts Production.SpecialType SPECIAL (byte ∷ []) (tree t true ∷ []) (w ∷ [])
    (takes-byte SPECIAL Kind.Special Production.SpecialType byte refl chosen small refl) tt refl
    (λ s c q. one s c q before λ began s. refl)

-- ## Thunks

two-offsets : (a b x : List ℕ) → a ++ (95 ∷ (b ++ (95 ∷ x))) ≡ ((a ++ (95 ∷ [])) ++ b) ++ (95 ∷ x)
two-offsets a b x = sym (append_assoc a (95 ∷ []) (b ++ (95 ∷ x))) ∙ sym (append_assoc (a ++ (95 ∷ [])) b (95 ∷ x))

offset-reads : (around : Around) (allowed : Option ℕ) (a : Adjustment) (place : ℕ) (cs : List Component) → IsSpellableOffset a
    → ReadsAt around allowed (OfKind CALL_OFFSET) (Is (adjusted a)) place cs (written (offset_text a) cs)
unfolding offset_text grammar
offset-reads around allowed (non_virtual n) place cs h =
    read-by-parts Production.NonVirtualOffset CALL_OFFSET (104 ∷ []) (signed n ∷ nothing_there ∷ []) (written (signed_text n) cs ∷ written (95 ∷ []) cs ∷ [])
    (takes-byte CALL_OFFSET Kind.CallOffset Production.NonVirtualOffset 104 refl refl (omega arith) refl) tt refl
    (λ s c q. integer-reads around allowed n (place + 1) cs h s c q before λ s c q. fixed-reads s c q before λ began s.
    refl)
offset-reads around allowed (by_table n m) place cs h =
    read-by-parts Production.VirtualOffset CALL_OFFSET (118 ∷ []) (signed n ∷ nothing_there ∷ signed m ∷ nothing_there ∷ [])
    (written (signed_text n) cs ∷ written (95 ∷ []) cs ∷ written (signed_text m) cs ∷ written (95 ∷ []) cs ∷ [])
    (takes-byte CALL_OFFSET Kind.CallOffset Production.VirtualOffset 118 refl refl (omega arith) refl) tt
    (ap (λ l. 118 ∷ l) (two-offsets (signed_text n) (signed_text m) []))
    (λ s c q. integer-reads around allowed n _ cs h.0 s c q before λ s c q. fixed-reads s c q before λ s c q.
    integer-reads around allowed m _ cs h.1 s c q before λ s c q. fixed-reads s c q before λ began s. refl)

-- an encoding after offsets
pub thunk-reads : (kind : Thunk) (around : Around) (allowed : Option ℕ) (e : Term) (place : ℕ) (cs : List Component) (w : Written)
    → IsSpellableThunk kind
    → ReadsAt (in_name place) allowed (OfKind ENCODING) (Is (tree e true)) (place + length (thunk_text kind)) cs w
    → ReadsAt around allowed (OfKind ENCODING) (Is (tree (thunk kind e) true)) place cs (written (thunk_text kind ++ w.bytes) w.components)
unfolding thunk_text offset_text grammar
thunk-reads (adjusting (non_virtual n)) around allowed e place cs w h one =
    let a : List ℕ = signed_text n in
    same-written (ap (λ l. 84 ∷ 104 ∷ l) (sym (append_assoc a (95 ∷ []) w.bytes)))
    (special-reads around allowed (tree (thunk (adjusting (non_virtual n)) e) true) place cs (written (104 ∷ (a ++ (95 ∷ w.bytes))) w.components)
    (read-by-parts Production.NonVirtualThunk SPECIAL (104 ∷ []) (signed n ∷ nothing_there ∷ tree e true ∷ [])
    (written a cs ∷ written (95 ∷ []) cs ∷ w ∷ []) (takes-byte SPECIAL Kind.Special Production.NonVirtualThunk 104 refl refl (omega arith) refl) tt refl
    (λ s c q. integer-reads (in_name place) allowed n _ cs h s c q before λ s c q. fixed-reads s c q before λ s c q.
    elsewhere (omega (arith, length-append a (95 ∷ []))) one s c q before λ began s. refl)))
thunk-reads (adjusting (by_table n m)) around allowed e place cs w h one =
    let a : List ℕ = signed_text n in
    let b : List ℕ = signed_text m in
    same-written (ap (λ l. 84 ∷ 118 ∷ l) (two-offsets a b w.bytes ∙ sym (append_assoc ((a ++ (95 ∷ [])) ++ b) (95 ∷ []) w.bytes)))
    (special-reads around allowed (tree (thunk (adjusting (by_table n m)) e) true) place cs
    (written (118 ∷ (a ++ (95 ∷ (b ++ (95 ∷ w.bytes))))) w.components)
    (read-by-parts Production.VirtualThunk SPECIAL (118 ∷ []) (signed n ∷ nothing_there ∷ signed m ∷ nothing_there ∷ tree e true ∷ [])
    (written a cs ∷ written (95 ∷ []) cs ∷ written b cs ∷ written (95 ∷ []) cs ∷ w ∷ [])
    (takes-byte SPECIAL Kind.Special Production.VirtualThunk 118 refl refl (omega arith) refl) tt refl
    (λ s c q. integer-reads (in_name place) allowed n _ cs h.0 s c q before λ s c q. fixed-reads s c q before λ s c q.
    integer-reads (in_name place) allowed m _ cs h.1 s c q before λ s c q. fixed-reads s c q before λ s c q. elsewhere
    (omega (
      arith,
      length-append ((a ++ (95 ∷ [])) ++ b) (95 ∷ []),
      length-append (a ++ (95 ∷ [])) b,
      length-append a
          (95 ∷ []),
    )) one s c q before λ began s. refl)))
thunk-reads (covariant a b) around allowed e place cs w h one =
    same-written (ap (λ l. 84 ∷ 99 ∷ l) (sym (append_assoc (offset_text a) (offset_text b) w.bytes)))
    (special-reads around allowed (tree (thunk (covariant a b) e) true) place cs
    (written (99 ∷ (offset_text a ++ (offset_text b ++ w.bytes))) w.components)
    (read-by-parts Production.CovariantThunk SPECIAL (99 ∷ []) (adjusted a ∷ adjusted b ∷ tree e true ∷ [])
    (written (offset_text a) cs ∷ written (offset_text b) cs ∷ w ∷ [])
    (takes-byte SPECIAL Kind.Special Production.CovariantThunk 99 refl refl (omega arith) refl) tt refl
    (λ s c q. offset-reads (in_name place) allowed a _ cs h.0 s c q before λ s c q. offset-reads (in_name place) allowed
    b _ cs h.1 s c q before λ s c q. elsewhere (omega (arith, length-append (offset_text a) (offset_text b))) one s c q
    before λ began s. refl)))

-- ## Symbols

pub symbol-reads : (e : Term) (suffix : Value) (place : ℕ) (around : Around) (allowed : Option ℕ) (cs : List Component) (w rest : Written)
    → ReadsAt around allowed (OfKind ENCODING) (Is (tree e true)) (place + 1 + 1) cs w
    → ReadsAt around allowed (OfKind MAYBE_SUFFIX) (Is suffix) (place + 1 + 1 + length w.bytes) w.components rest
    → ReadsAt around allowed (OfKind SYMBOL) (Is (tree (symbol e (text_of suffix)) true)) place cs
    (written (95 ∷ 90 ∷ (w.bytes ++ rest.bytes)) rest.components)
unfolding grammar
symbol-reads e suffix place around allowed cs w rest one two =
    read-by-parts Production.Symbol SYMBOL (95 ∷ []) (nothing_there ∷ tree e true ∷ suffix ∷ []) (written (90 ∷ []) cs ∷ w ∷ rest ∷ [])
    (takes-byte SYMBOL Kind.Symbol Production.Symbol 95 refl refl (omega arith) refl) tt refl
    (λ s c q. fixed-reads s c q before λ s c q. one s c q before λ s c q. two s c q before λ began s. refl)

-- ## Suffixes

abbrev suffix_value : List ℕ → Value
suffix_value [] = nothing_there
suffix_value (b ∷ bs) = value.text (b ∷ bs)

suffix-kept : (bs : List ℕ) → text_of (suffix_value bs) ≡ bs
unfolding text_of
suffix-kept [] = refl
suffix-kept (b ∷ bs) = refl

-- a byte of a suffix and those after it
suffix-bytes : (k : ℕ) (around : Around) (allowed : Option ℕ) (b : ℕ) (bs : List ℕ) (place : ℕ) (cs : List Component)
    → TakesRule abi k (rule_of Production.SuffixByte) (b ∷ [])
    → ReadsAt around allowed (OfKind SUFFIX_MORE) (Is (suffix_value bs)) (place + 1) cs (written bs cs)
    → ReadsAt around allowed (OfKind k) (Is (value.text (b ∷ bs))) place cs (written (b ∷ bs) cs)
unfolding parts_of number_of_kind between close unfolding_.behind meaning part byte_of
suffix-bytes k around allowed b bs place cs takes more =
    read-by-parts Production.SuffixByte k (b ∷ []) (suffix_value bs ∷ []) (written bs cs ∷ []) takes tt refl
    (λ s c q. more s c q before λ began s. ap (λ l. Ok (found (value.text (b ∷ l)) s)) (suffix-kept bs))

suffix-more : (around : Around) (allowed : Option ℕ) (bs : List ℕ) (place : ℕ) (cs : List Component) → AreSuffixBytes bs
    → ReadsAt around allowed (OfKind SUFFIX_MORE) (Is (suffix_value bs)) place cs (written bs cs)
unfolding kinds may_be_empty is_chain
suffix-more around allowed [] place cs good = empty-reads Kind.SuffixMore refl refl
suffix-more around allowed (b ∷ bs) place cs good =
    suffix-bytes SUFFIX_MORE around allowed b bs place cs
    (takes-byte SUFFIX_MORE Kind.SuffixMore Production.SuffixByte b refl good.1 good.0 refl) (suffix-more around allowed bs (place + 1) cs good.2)

pub no-suffix : (around : Around) (allowed : Option ℕ) (place : ℕ) (cs : List Component)
    → ReadsAt around allowed (OfKind MAYBE_SUFFIX) (Is nothing_there) place cs (written [] cs)
unfolding kinds may_be_empty
no-suffix around allowed place cs = empty-reads Kind.MaybeSuffix refl refl

pub suffix-reads : (around : Around) (allowed : Option ℕ) (b : ℕ) (bs : List ℕ) (place : ℕ) (cs : List Component) → b < 256
    → choose Kind.SuffixFirst b ≡ Some Production.SuffixByte → AreSuffixBytes bs
    → ReadsAt around allowed (OfKind MAYBE_SUFFIX) (Is (value.text (46 ∷ b ∷ bs))) place cs (written (46 ∷ b ∷ bs) cs)
unfolding grammar
suffix-reads around allowed b bs place cs small chosen good =
    read-by-parts Production.Suffix MAYBE_SUFFIX (46 ∷ []) (value.text (b ∷ bs) ∷ []) (written (b ∷ bs) cs ∷ [])
    (takes-byte MAYBE_SUFFIX Kind.MaybeSuffix Production.Suffix 46 refl refl (omega arith) refl) tt refl
    (λ s c q. suffix-bytes SUFFIX_FIRST around allowed b bs (place + 1) cs (takes-byte SUFFIX_FIRST Kind.SuffixFirst
    Production.SuffixByte b refl chosen small refl) (suffix-more around allowed bs (place + 1 + 1) cs good) s c q
    before λ began s. refl)
