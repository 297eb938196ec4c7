-- The moves in the names of local entities and in guard variables.
use Rattle.cpp_direct.proofs.AllGround.{cpp_by, alone-closes, ◌≡◌, ℕ, ◌+◌, ◌-◌, ◌<◌, ◌≤◌, Ok, List, [], ◌∷◌, ◌++◌, length, Bool, true, false, cond, Option, None, Some, refl, ap, sym, subst, arith, append-nil, le-leb, after, alternatives, among, applied, AreDigitsOf, between, builtin, byte_of, choose, close, empty, extended, fixed, in_ranges, in_signature, is_chain, is_in, is_nil, is_void, Kind, lambda, last_token, list, listed_value, may_be_empty, meaning, named_so_far, nil, no_items, number_of_kind, number_tested, opening, padded, parameters, parts_of, pick, Production, rule_of, signature_with, source, standing, Term, token, with_type, within, Token, State, Around, outermost, named, nothing_there, tree, piece, tree_of, is_listed, qualifiers_of, ref_of, local_number, part, is_there, letter_of, piece_of, HasScope, ItemsGoOn, nowhere, short_numbers, Symbol, Comes, Discriminator, Expects, IsDiscriminatorAt, IsLambdaDigit, IsNameAt, IsNamedKind, IsPieceAt, LambdaEnds, LocalOpened, LocalTypeOpened, NestGoesOn, Opened, StandsAt, by_digit, by_digits, cpp_language, discriminator_value, lambda_digits, lambda_with, opened, unnumbered, NumberKind, none-known, goes-on, named-taken, empty-by, names-by, rests-by, unfolding_behind}
use Rattle.cpp_grammar.specs.Values.{text, text_of}
use Rattle.cpp_direct.proofs.ShortNumbers.{lambda-begins, tested}
use Rattle.cpp_direct.proofs.MovesOfEncodings.{entity-nested}
use Rattle.cpp_direct.proofs.Moves.{awaited, fewer, Filled, Hole, stands-split, kind-at, reads-rule, joins, none-left, opens-where, needs-next, hole, open_at, fill, filled-at, hole-at, eats, leaves, chosen-byte, is_left, byte-opens, chain-opens, byte-fills, next-part, closes, none-fills, fixed-fills, name-fills, number-fills, is_eaten, digits-fill, any-first}
use Rattle.sym_shape.specs.declared.rule.Sym.TheVariants.{Kind as OfKind, Number, Byte}
use Rattle.sym_direct.specs.Holes as direct
use Rattle.sym_direct.proofs.Moves as moves

-- ## Discriminators

-- a discriminator is read, or none
pub discriminator-comes : (s : Symbol) (os : List Opened) (around : Around) (at : ℕ) (digit : Discriminator) (end : ℕ) (st : State)
    → Expects s Kind.MaybeDiscriminator around os at st → IsDiscriminatorAt s.bytes at digit end → Comes s os (discriminator_value digit) end st
unfolding is_eaten number_of_kind parts_of may_be_empty between opening close unfolding_behind meaning part byte_of tree_of text_of piece_of letter_of is_there is_chain choose alternatives pick is_in in_ranges among
discriminator-comes s os around at unnumbered end st expects is =
    (filled-at end (none-fills Kind.MaybeDiscriminator (hole s Kind.MaybeDiscriminator around os at st expects) refl) (sym is)).comes
discriminator-comes s os around at (by_digit digit) end st expects is =
    let p = Production.Discriminator in
    let q = Production.OneDigit in
    let places = stands-split s.bytes at (95 ∷ []) (digit ∷ []) is.2 in
    let rest = byte-opens (eats s Kind.MaybeDiscriminator p 95 refl) (hole s Kind.MaybeDiscriminator around os at st expects) places.0 refl refl in
    let chosen : choose Kind.DiscriminatorRest digit ≡ Some q = rw (le-leb 48 digit is.0, le-leb digit 57 is.1) refl in
    let taken = chosen-byte s Kind.DiscriminatorRest q digit chosen (omega (arith, is.1)) refl (λ f a z. refl) in
    (filled-at end (closes p (byte-fills taken rest places.1 refl refl) refl) (omega (arith, is.3))).comes
discriminator-comes s os around at (by_digits digits) end st expects is =
    let p = Production.Discriminator in
    let q = Production.ManyDigits in
    let places = stands-split s.bytes at (95 ∷ []) (95 ∷ []) is.1 in
    let rest = byte-opens (eats s Kind.MaybeDiscriminator p 95 refl) (hole s Kind.MaybeDiscriminator around os at st expects) places.0 refl refl in
    let number = byte-opens (eats s Kind.DiscriminatorRest q 95 refl) rest places.1 refl refl in
    let line = next-part q (digits-fill digits is.0 (hole-at (at + 2) number (omega arith)) is.2) refl in
    (filled-at end (closes p (closes q (fixed-fills line is.3) refl) refl) (sym is.4)).comes

-- ## Entities

-- the name of an entity is read
source-comes : (s : Symbol) (kind : Kind) (os : List Opened) (around : Around) (e : Term) (at : ℕ) (name : List ℕ) (end : ℕ) (st : State)
    → is_left kind Production.SourceName 48 ≡ true → Expects s kind (after e true around) os at st → IsNameAt s.bytes at name end
    → Comes s os (tree (within e (source false name)) false) end st
unfolding is_eaten is_left number_of_kind parts_of may_be_empty between close unfolding_behind meaning part byte_of tree_of text_of piece_of letter_of is_there named_so_far extended applied after
source-comes s kind os around e at name end st taken expects is =
    let p = Production.SourceName in
    let own = chain-opens (leaves s kind p 48 taken) (hole s kind (after e true around) os at st expects) refl refl in
    (closes p (none-fills Kind.MaybeArguments (next-part p (name-fills name end own is) refl) refl) refl).comes

-- an entity with internal linkage
internal-comes : (s : Symbol) (os : List Opened) (around : Around) (e : Term) (at : ℕ) (name : List ℕ) (end : ℕ) (st : State)
    → Expects s Kind.Entity (after e true around) os at st → StandsAt s.bytes at (76 ∷ []) → IsNameAt s.bytes (at + 1) name end
    → Comes s os (tree (within e (source true name)) false) end st
unfolding is_eaten number_of_kind parts_of may_be_empty between close unfolding_behind meaning part byte_of tree_of text_of piece_of letter_of is_there named_so_far extended applied after
internal-comes s os around e at name end st expects stands is =
    let p = Production.InternalName in
    let own = byte-opens (eats s Kind.Entity p 76 refl) (hole s Kind.Entity (after e true around) os at st expects) stands refl refl in
    (closes p (none-fills Kind.MaybeArguments (next-part p (name-fills name end own is) refl) refl) refl).comes

-- an entity with internal linkage or without it
name-comes : (s : Symbol) (os : List Opened) (around : Around) (e : Term) (at : ℕ) (internal : Bool) (name : List ℕ) (end : ℕ) (st : State)
    → Expects s Kind.Entity (after e true around) os at st → (internal ≡ true → StandsAt s.bytes at (76 ∷ []))
    → IsNameAt s.bytes (at + cond internal 1 0) name end → Comes s os (tree (within e (source internal name)) false) end st
unfolding is_left
name-comes s os around e at true name end st expects marked is = internal-comes s os around e at name end st expects (marked refl) is
name-comes s os around e at false name end st expects marked is =
    let same : at + 0 ≡ at = omega arith in
    source-comes s Kind.Entity os around e at name end st refl expects (subst (λ n. IsNameAt s.bytes n name end) same is)

-- ## Local names

-- a local name begins with a Z and the encoding that contains its entity
pub local-opens : (s : Symbol) (os : List Opened) (around : Around) (at : ℕ) (st : State)
    → Expects s Kind.CompleteName around os at st → StandsAt s.bytes at (90 ∷ []) → LocalOpened s os around (at + 1) st
unfolding is_eaten number_of_kind parts_of between close unfolding_behind meaning part byte_of tree_of text_of piece_of letter_of is_there qualifiers_of ref_of may_be_empty
local-opens s os around at st expects stands =
    let p = Production.LocalName in
    let encoding = byte-opens (eats s Kind.CompleteName p 90 refl) (hole s Kind.CompleteName around os at st expects) stands refl refl in
    awaited encoding (λ e here now comes. (
      (λ internal name digit end is.
          let entity = next-part p (fixed-fills (next-part p (fill encoding (tree e true) here now comes) refl) is.first) refl in
          let named_ = name-comes s (open_at entity) around e (here + 1) internal name is.middle now entity.expects is.letter is.is_name in
          let last = next-part p (fill entity (tree (within e (source internal name)) false) is.middle now named_) refl in
          let told = discriminator-comes s (open_at last) (after e true around) is.middle digit end now last.expects is.discriminator in
          (closes p (fill last (discriminator_value digit) end now told) refl).comes),
      (λ const on other closed letters.
          let entity = next-part p (fixed-fills (next-part p (fill encoding (tree e true) here now comes) refl) closed) refl in
          let nest = entity-nested s (open_at entity) (after e true around) const on (here + 1) now other entity.expects letters in
          record {
            around = around;
            inner = nest.inner;
            awaits = nest.awaits;
            onward = λ t listed there later came.
                let v = named t (record { restrict = false; volatile = false; const = const }) on in
                let last = next-part p (fill entity v there later (nest.onward t listed there later came)) refl in
                (closes p (none-fills Kind.MaybeDiscriminator last refl) refl).comes;
          }),
    ))

-- ## Types in functions

-- a source name is the first piece of a nested name in an encoding
source-first : (s : Symbol) (os : List Opened) (around : Around) (e : Term) (at : ℕ) (name : List ℕ) (end : ℕ) (st : State)
    → Expects s Kind.Nest (after e true around) os at st → IsNameAt s.bytes at name end
    → NestGoesOn s Kind.NestRestAlone os around (within e (source false name)) false end st
unfolding is_eaten is_left number_of_kind parts_of between close unfolding_behind meaning part byte_of tree_of text_of piece_of letter_of is_there named_so_far extended after
source-first s os around e at name end st expects is =
    let p = Production.NestSource in
    let own = chain-opens (leaves s Kind.Nest p 48 refl) (hole s Kind.Nest (after e true around) os at st expects) refl refl in
    goes-on (fewer (rests-by s.is_wide) (next-part p (name-fills name end own is) refl)) (λ v to later f. closes p f refl)

-- expects a lambda as the first piece of a nested name in an encoding
lambda-first : (s : Symbol) (os : List Opened) (around : Around) (e : Term) (at : ℕ) (st : State) → Expects s Kind.Nest (after e true around) os at st
    → StandsAt s.bytes at (85 ∷ []) → Hole s (OfKind (number_of_kind Kind.Anonymous)) (after e true around)
    (opened (standing (rule_of Production.NestLocalType) (85 ∷ []) at (after e true around) st) [] (OfKind (number_of_kind Kind.NestRest) ∷ []) ∷ os) (at + 1) st
unfolding is_eaten number_of_kind parts_of between close unfolding_behind meaning part byte_of tree_of text_of piece_of letter_of is_there after
lambda-first s os around e at st expects stands =
    byte-opens (eats s Kind.Nest Production.NestLocalType 85 refl) (hole s Kind.Nest (after e true around) os at st expects) stands refl refl

lambda-goes : (s : Symbol) (os : List Opened) (around : Around) (e p : Term) (at0 : ℕ) (before : State) (at : ℕ) (st : State)
    → Filled s (opened (standing (rule_of Production.NestLocalType) (85 ∷ []) at0 (after e true around) before) [] (OfKind (number_of_kind Kind.NestRest) ∷ []) ∷ os) (piece p) at st
    → NestGoesOn s Kind.NestRestAlone os around (within e p) false at st
unfolding is_eaten number_of_kind parts_of between close unfolding_behind meaning part byte_of tree_of text_of piece_of letter_of is_there named_so_far extended after
lambda-goes s os around e p at0 before at st f =
    let q = Production.NestLocalType in
    goes-on (fewer (rests-by s.is_wide) (next-part q f refl)) (λ v to later g. closes q g refl)

-- a source name is the name of a type in a function
pub source-name-piece : (s : Symbol) (at : ℕ) (name : List ℕ) (end : ℕ) → IsNameAt s.bytes at name end → IsPieceAt s at (source false name) end
unfolding is_left
source-name-piece s at name end is = record {
  as_type = λ os around e st expects. source-comes s Kind.TypeEntity os around e at name end st refl expects is;
  as_first = λ os around e st expects. source-first s os around e at name end st expects is;
}

-- void is read as the first type of a lambda
void-read : (s : Symbol) (around : Around) (at : ℕ) (st : State)
    → direct.Reads (cpp_language s) s.bytes (OfKind (number_of_kind Kind.FirstOfLambda)) around at (118 ∷ []) st (tree (builtin (118 ∷ [])) true ∷ []) st
unfolding choose alternatives pick is_in in_ranges among is_chain parts_of rule_of padded number_of_kind between opening close unfolding_behind meaning
    with_type listed_value tree_of is_listed part byte_of
void-read s around at st =
    let p = Production.PlainArgument in
    let q = Production.Builtin in
    let v = tree (builtin (118 ∷ [])) true in
    reads-rule s Kind.FirstOfLambda p 118 [] around at st st st (118 ∷ []) (v ∷ []) v refl (omega arith) refl
    (joins s p [] at around st [] (OfKind (number_of_kind Kind.SolidButT)) [] (at + 0) st around [] st st st (v ∷ []) (118 ∷ []) [] (v ∷ []) refl
    (reads-rule s Kind.SolidButT q 118 (118 ∷ []) around (at + 0) st st st [] [] v refl (omega arith) refl
    (none-left s q (118 ∷ []) (at + 0) around st [] (at + 0 + 1) st) refl refl) (none-left s p [] at around st (v ∷ []) (at + 0 + 1) st)) refl refl

-- the bytes of a lambda without parameters
abbrev pub lambda_bytes : (digits : List ℕ) → List ℕ
lambda_bytes digits = 108 ∷ 118 ∷ 69 ∷ (digits ++ 95 ∷ [])

-- a lambda without parameters is read
lambda-read : (s : Symbol) (around : Around) (at : ℕ) (digits : List ℕ) (st : State) → AreDigitsOf NumberKind.Decimal digits
    → number_tested (at - 1) digits st ≡ Ok st
    → direct.Reads (cpp_language s) s.bytes (OfKind (number_of_kind Kind.Anonymous)) around at (lambda_bytes digits ++ []) st
    (piece (lambda nil (local_number digits)) ∷ []) st
unfolding choose alternatives pick is_in in_ranges among is_chain parts_of rule_of padded number_of_kind between opening close unfolding_behind meaning
    last_token void-read reads-rule joins none-left moves.reads-rule moves.joins moves.none-left may_be_empty parameters is_void is_nil
    signature_with no_items tree_of text_of part byte_of cpp_by
lambda-read s around at digits st are small =
    let p = Production.Lambda in
    let c = in_signature around in
    let v = tree (builtin (118 ∷ [])) true in
    let t : Token = record { before = []; own = digits; behind = 95 ∷ [] } in
    let items = OfKind (number_of_kind Kind.Items) in
    let one = v ∷ [] in
    let two = v ∷ nothing_there ∷ [] in
    let three = v ∷ nothing_there ∷ nothing_there ∷ [] in
    let four = v ∷ nothing_there ∷ nothing_there ∷ text digits ∷ [] in
    reads-rule s Kind.Anonymous p 108 (108 ∷ []) around at st st st (118 ∷ 69 ∷ ((digits ++ 95 ∷ []) ++ [])) four (piece (lambda nil (local_number digits)))
    refl (omega arith) refl
    (joins s p (108 ∷ []) at around st [] (OfKind (number_of_kind Kind.FirstOfLambda)) (items ∷ Byte 69 ∷ Number NumberKind.Decimal ∷ []) (at + 1) st c [] st st st one
    (118 ∷ []) (69 ∷ ((digits ++ 95 ∷ []) ++ [])) four refl (void-read s c (at + 1) st)
    (joins s p (108 ∷ []) at around st one items (Byte 69 ∷ Number NumberKind.Decimal ∷ []) (at + 1 + 1) st c one st st st (nothing_there ∷ [])
    [] (69 ∷ ((digits ++ 95 ∷ []) ++ [])) four refl
    (record { shape = empty; shaped = empty-by s.is_wide (number_of_kind Kind.Items) Kind.Items (kind-at Kind.Items); spelled = refl; unfolds = refl })
    (joins s p (108 ∷ []) at around st two (Byte 69) (Number NumberKind.Decimal ∷ []) (at + 1 + 1 + 0) st c two st st st (nothing_there ∷ [])
    (69 ∷ []) ((digits ++ 95 ∷ []) ++ []) four refl
    (record { shape = fixed 69; shaped = refl; spelled = refl; unfolds = refl })
    (joins s p (108 ∷ []) at around st three (Number NumberKind.Decimal) [] (at + 1 + 1 + 0 + 1) st c three st st st (text digits ∷ [])
    (digits ++ 95 ∷ []) [] four refl
    (record { shape = token t; shaped = names-by s.is_wide (Number NumberKind.Decimal) t (record { bare = refl; digits = are; ends = refl }); spelled = refl; unfolds = refl })
    (none-left s p (108 ∷ []) at around st four (at + 1 + 1 + 0 + 1 + length (digits ++ 95 ∷ [])) st))))) small (alone-closes s.is_wide (local_number digits) st)

digits-of : (digit : Option ℕ) → IsLambdaDigit digit → AreDigitsOf NumberKind.Decimal (lambda_digits digit)
digits-of None is = (tt, tt)
digits-of (Some d) is =
    let low : d ≤ 57 = omega (arith, is.1) in
    ((rw (le-leb 48 d is.0, le-leb d 57 low) refl, tt), tt)

-- a lambda's number with at most one digit is less than ten
pub number-is : (digit : Option ℕ) → IsLambdaDigit digit → local_number (lambda_digits digit) < 10
unfolding local_number
number-is None is = omega arith
number-is (Some d) is = omega (arith, is.0, is.1)

-- a lambda without parameters is the name of a type
pub lambda-piece : (s : Symbol) (at : ℕ) (digit : Option ℕ) (end : ℕ) → IsLambdaDigit digit → StandsAt s.bytes at (85 ∷ lambda_bytes (lambda_digits digit))
    → end ≡ at + length (85 ∷ lambda_bytes (lambda_digits digit)) → IsPieceAt s at (lambda nil (local_number (lambda_digits digit))) end
unfolding is_eaten number_of_kind parts_of may_be_empty between close unfolding_behind meaning part byte_of tree_of text_of piece_of letter_of is_there named_so_far extended applied after
lambda-piece s at digit end is stands ends_ =
    let digits = lambda_digits digit in
    let bytes = lambda_bytes digits in
    let places = stands-split s.bytes at (85 ∷ []) bytes stands in
    let read : (here : Around) (above : List Opened) (st : State) → Hole s (OfKind (number_of_kind Kind.Anonymous)) here above (at + 1) st
    → Filled s above (piece (lambda nil (local_number digits))) end st = λ here above st anonymous.
    filled-at end (fill anonymous (piece (lambda nil (local_number digits))) (at + 1 + length (bytes ++ [])) st
    (anonymous.expects (bytes ++ []) (piece (lambda nil (local_number digits)) ∷ []) st
    (lambda-read s here (at + 1) digits st (digits-of digit is) (tested (at + 1 - 1) digits st (omega (arith, number-is digit is))))
    (subst (λ l. StandsAt s.bytes (at + 1) l) (sym (append-nil bytes)) places.1))) (omega (arith, ends_, ap length (append-nil bytes))) in
    record {
      as_type = λ os around e st expects.
          let p = Production.LocalTypeName in
          let here : Around = after e true around in
          let anonymous = byte-opens (eats s Kind.TypeEntity p 85 refl) (hole s Kind.TypeEntity here os at st expects) places.0 refl refl in
          let arguments = next-part p (read here (open_at anonymous) st anonymous) refl in
          (closes p (none-fills Kind.MaybeArguments arguments refl) refl).comes;
      as_first = λ os around e st expects.
          let anonymous = lambda-first s os around e at st expects places.0 in
          lambda-goes s os around e (lambda nil (local_number digits)) at st end st (read (after e true around) (open_at anonymous) st anonymous);
    }

-- a type in a function begins with a Z and the encoding that contains it
pub local-type-opens : (s : Symbol) (kind : Kind) (os : List Opened) (around : Around) (at : ℕ) (st : State) → IsNamedKind kind
    → Expects s kind around os at st → StandsAt s.bytes at (90 ∷ []) → LocalTypeOpened s os around (at + 1) st
unfolding is_eaten number_of_kind parts_of between close unfolding_behind meaning part byte_of tree_of text_of piece_of letter_of is_there
local-type-opens s kind os around at st named_ expects stands =
    let p = Production.LocalType in
    let encoding = byte-opens (eats s kind p 90 (named-taken kind named_).3) (hole s kind around os at st expects) stands refl refl in
    awaited encoding (λ e here now comes closed.
    let entity = next-part p (fixed-fills (next-part p (fill encoding (tree e true) here now comes) refl) closed) refl in
    record {
      around = around;
      inner = open_at entity;
      awaits = entity.expects;
      onward = λ n middle then_ named digit end told.
          let last = next-part p (fill entity (tree (within e n) false) middle then_ named) refl in
          let came_ = discriminator-comes s (open_at last) (after e true around) middle digit end then_ last.expects told in
          (closes p (fill last (discriminator_value digit) end then_ came_) refl).comes;
    })

-- ## Lambdas

-- Expects the first parameter of a lambda; `becomes` says what the lambda becomes.
pub record LambdaOpened (s : Symbol) (becomes : Term → (at : ℕ) → State → Type 0) (at : ℕ) (st : State) : Type 0 where
  pub around : Around
  pub outside : around.prefix ≡ outermost
  pub inner : List Opened
  pub awaits : Expects s Kind.Item around inner at st
  pub onward : (t : Term) (at : ℕ) (st : State) → Comes s inner (tree t true) at st → ItemsGoOn s nowhere (LambdaEnds s becomes) (λ l. l) (t ∷ []) at st

-- where no argument is known, parameters name no arguments
pub nowhere-scoped : (around : Around) → HasScope nowhere around
nowhere-scoped around = (λ placed. absurd (placed refl), λ k single. absurd (none-known k single.0), λ e. cc e)

-- a lambda may be expected as one of these kinds: as a type in a function, or as a component of a name
abbrev pub IsPieceKind : Kind → Type 0
IsPieceKind Kind.TypeEntity = Unit {0}
IsPieceKind Kind.Component = Unit {0}
IsPieceKind _ = ⊥

piece-taken : (kind : Kind) → IsPieceKind kind → is_eaten kind Production.LocalTypeName 85 ≡ true
unfolding is_eaten
piece-taken Kind.TypeEntity is = refl
piece-taken Kind.Component is = refl
piece-taken _ is = absurd is

-- a lambda begins in a symbol without long numbers
anonymous-opens : (s : Symbol) (here : Around) (above : List Opened) (at : ℕ) (st : State) (becomes : Term → (at : ℕ) → State → Type 0)
    → short_numbers 0 s.bytes ≡ true → Hole s (OfKind (number_of_kind Kind.Anonymous)) here above at st → StandsAt s.bytes at (108 ∷ [])
    → ((p : Term) (end : ℕ) (now : State) → Filled s above (piece p) end now → becomes p end now) → LambdaOpened s becomes (at + 1) st
unfolding is_eaten number_of_kind parts_of may_be_empty between opening close unfolding_behind meaning part byte_of tree_of text_of piece_of letter_of is_there in_signature signature_with
anonymous-opens s here above at st becomes short anonymous stands then_ =
    let q = Production.Lambda in
    let c = in_signature here in
    let todo = OfKind (number_of_kind Kind.Items) ∷ Byte 69 ∷ Number NumberKind.Decimal ∷ [] in
    let needs = opens-where s Kind.Anonymous q 108 (108 ∷ []) here above at st refl (omega arith) refl
    (λ f shaped there. lambda-begins s.is_wide s.bytes (at + 1) at st short f shaped there) anonymous.expects stands in
    let first = hole s Kind.FirstOfLambda c (opened (standing (rule_of q) (108 ∷ []) at here st) [] todo ∷ above) (at + 1) st
    (needs-next s q (108 ∷ []) at here st [] (OfKind (number_of_kind Kind.FirstOfLambda)) todo above (at + 1) st c [] st refl needs) in
    record {
      around = c;
      outside = refl;
      inner = open_at first;
      awaits = any-first s c (open_at first) (at + 1) st first.expects;
      onward = λ t there now comes.
          let more = next-part q (fill first (tree t true) there now comes) refl in
          record {
            around = c;
            inner = open_at more;
            outside = refl;
            scoped = nowhere-scoped c;
            awaits = more.expects;
            onward = λ l to later last number end is ending ends_.
                let digits = lambda_digits number in
                let token_ : Token = record { before = []; own = digits; behind = 95 ∷ [] } in
                let split = stands-split s.bytes to (69 ∷ []) (digits ++ 95 ∷ []) ending in
                let numeral = next-part q (fixed-fills (next-part q (fill more l to later last) refl) split.0) refl in
                let numbered = number-fills token_ numeral (record { bare = refl; digits = digits-of number is; ends = refl }) split.1 in
                then_ (lambda_with s.is_wide (list t (no_items l)) number) end later (filled-at end (closes q numbered refl) (omega (arith, ends_)));
          };
    }

-- a lambda begins as a type in a function, or as a component of a name
pub lambda-opens : (s : Symbol) (kind : Kind) (os : List Opened) (around : Around) (e : Term) (listed : Bool) (at : ℕ) (st : State) → IsPieceKind kind
    → short_numbers 0 s.bytes ≡ true → Expects s kind (after e listed around) os at st → StandsAt s.bytes at (85 ∷ 108 ∷ [])
    → LambdaOpened s (λ p end now. Comes s os (tree (within e p) false) end now) (at + 1 + 1) st
unfolding is_eaten number_of_kind parts_of may_be_empty between opening close unfolding_behind meaning part byte_of tree_of text_of piece_of letter_of is_there named_so_far extended applied after
lambda-opens s kind os around e listed at st is_piece short expects stands =
    let p = Production.LocalTypeName in
    let here : Around = after e listed around in
    let places = stands-split s.bytes at (85 ∷ []) (108 ∷ []) stands in
    let anonymous = byte-opens (eats s kind p 85 (piece-taken kind is_piece)) (hole s kind here os at st expects) places.0 refl refl in
    anonymous-opens s here (open_at anonymous) (at + 1) st (λ u end now. Comes s os (tree (within e u) false) end now) short anonymous places.1
    (λ u end now f. (closes p (none-fills Kind.MaybeArguments (next-part p f refl) refl) refl).comes)

-- a lambda begins as the first piece of a nested name in an encoding
pub first-lambda-opens : (s : Symbol) (os : List Opened) (around : Around) (e : Term) (at : ℕ) (st : State)
    → short_numbers 0 s.bytes ≡ true → Expects s Kind.Nest (after e true around) os at st → StandsAt s.bytes at (85 ∷ 108 ∷ [])
    → LambdaOpened s (λ p end now. NestGoesOn s Kind.NestRestAlone os around (within e p) false end now) (at + 1 + 1) st
first-lambda-opens s os around e at st short expects stands =
    let places = stands-split s.bytes at (85 ∷ []) (108 ∷ []) stands in
    let anonymous = lambda-first s os around e at st expects places.0 in
    anonymous-opens s (after e true around) (open_at anonymous) (at + 1) st (λ p end now. NestGoesOn s Kind.NestRestAlone os around (within e p) false end now)
    short anonymous places.1 (λ p end now f. lambda-goes s os around e p at st end now f)
