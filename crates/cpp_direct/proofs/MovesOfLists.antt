-- The moves in lists of arguments and of items: arguments are opened and closed. A list continues after each of its
-- elements, also after a member of a template's instance.
use Rattle.cpp_direct.proofs.Basics.{◌≡◌, ℕ, ◌+◌, ◌⊎◌, inl, inr, length, List, [], ◌∷◌, Bool, true, false, nat_eq, Ok, refl, ap, subst, arith, after, appended, applied, between, boolean, builtin, byte_of, close, Continuation, enclosed_argument, ends_arguments, extended, inside, integer, is_code, Kind, list, may_be_empty, meaning, no_items, number_of_kind, Operation, operation_by, operation_or_address, pack, parts_of, Production, rule_of, standing, Term, with_prefix, with_type, State, Around, signed, tree, tree_of, is_listed, signed_of, signed_digits, prefix_tree, prefix_listed, part, Value, is_there, letter_of, piece_of, outermost, integer_letters, is_integer_letter, Symbol, Awaits, AddressOpened, ArgumentsOpened, AwaitsElement, AwaitsElementAs, Comes, EnumeratorOpened, Expects, IsArgumentKind, IsDigitsAt, IsListKind, ListGoesOn, LiteralOpened, Opened, PackOpened, StandsAt, minus_sign, opened, unless_listed, with_candidate, IsNameAt, LevelOpened, template_named, Sym, unfolding_behind}
use Rattle.cpp_grammar.specs.Values.{text_of, text}
use Rattle.cpp_direct.proofs.LettersTested.{each_passes, tested}
use Rattle.cpp_short_reading.proofs.Tables.{lists-by}
use Rattle.cpp_direct.proofs.Moves.{any-argument, awaited, comes-alike, fewer, hole-of, Hole, Filled, hole, open_at, fill, eats, leaves, is_eaten, byte-opens, chain-opens, byte-fills, next-part, closes, fixed-fills, is_left, stands-split, digits-fill, filled-at, hole-at, came, eats-widely, is_eaten_widely, name-fills, none-fills}

-- ## Arguments

prefix-listed : (t : Term) (listed : Bool) (around : Around) (at : ℕ) (st : State)
    → ◌≡◌ {A = Continuation} (between Production.Arguments (after t listed around) at [] st)
    (Ok (record { context = inside around; values = []; state = unless_listed listed around t st }))
unfolding between after inside with_prefix appended prefix_tree prefix_listed
prefix-listed t true around at st = refl
prefix-listed t false around at st = refl

-- arguments after a name begin with an I, and end with an E
pub arguments-open : (s : Symbol) (os : List Opened) (around : Around) (t : Term) (listed : Bool) (at : ℕ) (st : State)
    → Expects s Kind.ArgumentsAlone (after t listed around) os at st → StandsAt s.bytes at (73 ∷ [])
    → ArgumentsOpened s os around (at + 1) (unless_listed listed around t st)
unfolding is_eaten number_of_kind parts_of between close unfolding_behind meaning part byte_of tree_of text_of piece_of letter_of is_there
arguments-open s os around t listed at st expects stands =
    let p = Production.Arguments in
    let first = byte-opens (eats s Kind.ArgumentsAlone p 73 refl) (hole s Kind.ArgumentsAlone (after t listed around) os at st expects) stands refl
    (prefix-listed t listed around at st) in
    awaited (fewer (lists-by s.is_wide) first)
    (λ l here now comes ended. (closes p (fixed-fills (next-part p (fill first l here now comes) refl) ended) refl).comes)

-- ## Elements

-- a list continues where its rest is expected
goes-on : {s : Symbol} {kind : Kind} {around : Around} {inner outer : List Opened} {at : ℕ} {st : State} (t : Term)
    → Hole s (Sym.Kind (number_of_kind kind)) around inner at st
    → ((l : Value) (to : ℕ) (now : State) → Filled s inner l to now → Filled s outer (tree (list t (no_items l)) true) to now)
    → ListGoesOn s kind outer around t at st
goes-on t h closed = awaited h (λ l to now comes. (closed l to now (fill h l to now comes)).comes)

-- expects an element of a list of arguments; the element is a candidate already, never becomes one, or isn't one yet
pub argument-awaits : (s : Symbol) (kind : Kind) (os : List Opened) (around : Around) (at : ℕ) (st : State) (listed : Bool)
    → IsArgumentKind kind → Expects s kind around os at st
    → Awaits s Kind.Argument around at st (λ inner. (t : Term) (at : ℕ) (st : State) → Comes s inner (tree t listed) at st → ListGoesOn s kind os around t at st)
unfolding is_eaten is_left number_of_kind parts_of between close unfolding_behind meaning part byte_of tree_of text_of piece_of letter_of is_there
argument-awaits s Kind.ArgumentList os around at st listed is expects =
    let p = Production.AnyArgument in
    let one = chain-opens (leaves s Kind.ArgumentList p 80 refl) (hole s Kind.ArgumentList around os at st expects) refl refl in
    awaited one (λ t here now comes. goes-on t (next-part p (fill one (tree t listed) here now comes) refl) (λ l to later last. closes p last refl))
argument-awaits s Kind.PackList os around at st listed is expects =
    let p = Production.AnyElement in
    let one = chain-opens (leaves s Kind.PackList p 80 refl) (hole s Kind.PackList around os at st expects) refl refl in
    awaited one (λ t here now comes. goes-on t (next-part p (fill one (tree t listed) here now comes) refl) (λ l to later last. closes p last refl))
argument-awaits s _ os around at st listed is expects = absurd is

pub listed-awaits : (s : Symbol) (kind : Kind) (os : List Opened) (around : Around) (at : ℕ) (st : State)
    → IsArgumentKind kind → Expects s kind around os at st → AwaitsElementAs s Kind.Argument kind os around at st
listed-awaits s kind os around at st is expects = argument-awaits s kind os around at st true is expects

-- an element that is a type
type-awaits : (s : Symbol) (kind : Kind) (os : List Opened) (around : Around) (at : ℕ) (st : State) → AwaitsElementAs s Kind.Argument kind os around at st
    → AwaitsElement s kind os around at st
type-awaits s kind os around at st e = record { inner = e.inner; awaits = any-argument s around e.inner at st e.awaits; onward = e.onward }

-- expects an element that is a type, in a list of arguments or of items
pub element-awaits : (s : Symbol) (kind : Kind) (os : List Opened) (around : Around) (at : ℕ) (st : State)
    → IsListKind kind → Expects s kind around os at st → AwaitsElement s kind os around at st
unfolding is_eaten is_left number_of_kind parts_of between close unfolding_behind meaning part byte_of tree_of text_of piece_of letter_of is_there
element-awaits s Kind.ArgumentList os around at st list_kind expects =
    type-awaits s Kind.ArgumentList os around at st (listed-awaits s Kind.ArgumentList os around at st tt expects)
element-awaits s Kind.PackList os around at st list_kind expects = type-awaits s Kind.PackList os around at st (listed-awaits s Kind.PackList os around at st tt expects)
element-awaits s Kind.Items os around at st list_kind expects =
    let p = Production.Items in
    let one = chain-opens (leaves s Kind.Items p 80 refl) (hole s Kind.Items around os at st expects) refl refl in
    awaited one (λ t here now comes. goes-on t (next-part p (fill one (tree t true) here now comes) refl) (λ l to later last. closes p last refl))
element-awaits s _ os around at st list_kind expects = absurd list_kind

-- an argument that is a literal begins with an L, and ends with an E
pub literal-opens : (s : Symbol) (kind : Kind) (os : List Opened) (around : Around) (at : ℕ) (st : State) → IsArgumentKind kind
    → Expects s kind around os at st → StandsAt s.bytes at (76 ∷ []) → LiteralOpened s kind os around (at + 1) st
unfolding is_eaten number_of_kind parts_of between close unfolding_behind meaning part byte_of tree_of text_of piece_of letter_of is_there
literal-opens s Kind.ArgumentList os around at st is expects stands =
    let p = Production.LiteralArgument in
    let one = byte-opens (eats s Kind.ArgumentList p 76 refl) (hole s Kind.ArgumentList around os at st expects) stands refl refl in
    awaited one (λ t here now comes ended.
    goes-on t (next-part p (fixed-fills (next-part p (fill one (tree t true) here now comes) refl) ended) refl) (λ l to later last. closes p last refl))
literal-opens s Kind.PackList os around at st is expects stands =
    let p = Production.LiteralElement in
    let one = byte-opens (eats s Kind.PackList p 76 refl) (hole s Kind.PackList around os at st expects) stands refl refl in
    awaited one (λ t here now comes ended.
    goes-on t (next-part p (fixed-fills (next-part p (fill one (tree t true) here now comes) refl) ended) refl) (λ l to later last. closes p last refl))
literal-opens s _ os around at st is expects stands = absurd is

-- an argument that is a pack begins with a J, and ends with an E
pub pack-opens : (s : Symbol) (os : List Opened) (around : Around) (at : ℕ) (st : State)
    → Expects s Kind.ArgumentList around os at st → StandsAt s.bytes at (74 ∷ []) → PackOpened s os around (at + 1) st
unfolding is_eaten number_of_kind parts_of between close unfolding_behind meaning part byte_of tree_of text_of piece_of letter_of is_there
pack-opens s os around at st expects stands =
    let p = Production.PackArgument in
    let one = byte-opens (eats s Kind.ArgumentList p 74 refl) (hole s Kind.ArgumentList around os at st expects) stands refl refl in
    awaited one (λ l here now comes ended.
    goes-on (pack (no_items l)) (next-part p (fixed-fills (next-part p (fill one l here now comes) refl) ended) refl) (λ x to later last. closes p last refl))

-- ## Literals

-- an argument that is a boolean
pub bool-element : (s : Symbol) (kind : Kind) (os : List Opened) (around : Around) (d at : ℕ) (st : State) → IsArgumentKind kind → (d ≡ 48) ⊎ (d ≡ 49)
    → Expects s kind around os at st → StandsAt s.bytes at (76 ∷ 98 ∷ d ∷ 69 ∷ []) → ListGoesOn s kind os around (boolean (nat_eq d 49)) (at + 4) st
unfolding is_eaten number_of_kind parts_of between close unfolding_behind meaning part byte_of tree_of text_of piece_of letter_of is_there
bool-element s kind os around d at st is bit expects stands =
    let p = Production.BoolLiteral in
    let first = stands-split s.bytes at (76 ∷ []) (98 ∷ d ∷ 69 ∷ []) stands in
    let second = stands-split s.bytes (at + 1) (98 ∷ []) (d ∷ 69 ∷ []) first.1 in
    let third = stands-split s.bytes (at + 1 + 1) (d ∷ []) (69 ∷ []) second.1 in
    let literal = literal-opens s kind os around at st is expects first.0 in
    let taken : is_eaten Kind.Bit Production.Mark d ≡ true = elim bit [ inl e ↦ ap (is_eaten Kind.Bit Production.Mark) e | inr e ↦ ap (is_eaten Kind.Bit Production.Mark) e ] in
    let digit = byte-opens (eats s Kind.Literal p 98 refl) (hole s Kind.Literal around literal.inner (at + 1) st literal.awaits) second.0 refl refl in
    subst (λ n. ListGoesOn s kind os around (boolean (nat_eq d 49)) n st) (omega arith)
    (literal.onward (boolean (nat_eq d 49)) (at + 1 + 1 + 1) st
    (closes p (byte-fills (eats s Kind.Bit Production.Mark d taken) digit third.0 refl refl) refl).comes third.1)

-- ## Integers

-- an integer
pub integer-fills : {s : Symbol} {around : Around} {os : List Opened} {at : ℕ} {st : State} (negative : Bool) (digits : List ℕ) (end : ℕ)
    → Hole s (Sym.Kind (number_of_kind Kind.Integer)) around os at st → StandsAt s.bytes at (minus_sign negative)
    → IsDigitsAt s.bytes (at + length (minus_sign negative)) digits end → Filled s os (signed (signed_digits negative digits)) end st
unfolding is_eaten is_left number_of_kind parts_of between close unfolding_behind meaning part byte_of tree_of text_of piece_of letter_of is_there
integer-fills {s = s} true digits end h stands is =
    let p = Production.Negative in
    closes p (digits-fill digits end (byte-opens (eats s Kind.Integer p 110 refl) h stands refl refl) is) refl
integer-fills {s = s} {at = at} false digits end h stands is =
    let p = Production.Positive in
    let here : at + 0 ≡ at = omega arith in
    closes p (digits-fill digits end (chain-opens (leaves s Kind.Integer p 48 refl) h refl refl) (subst (λ n. IsDigitsAt s.bytes n digits end) here is)) refl

-- an argument that is an integer
pub integer-element : (s : Symbol) (kind : Kind) (os : List Opened) (around : Around) (b : ℕ) (negative : Bool) (digits : List ℕ) (at end : ℕ) (st : State)
    → IsArgumentKind kind → is_integer_letter b ≡ true → Expects s kind around os at st → StandsAt s.bytes at (76 ∷ b ∷ minus_sign negative)
    → IsDigitsAt s.bytes (at + length (76 ∷ b ∷ minus_sign negative)) digits end → StandsAt s.bytes end (69 ∷ [])
    → ListGoesOn s kind os around (integer (builtin (b ∷ [])) (signed_digits negative digits)) (end + 1) st
unfolding is_eaten is_left number_of_kind parts_of between close unfolding_behind meaning part byte_of tree_of text_of piece_of letter_of is_there with_type is_listed signed_of is_integer_letter each_passes
integer-element s kind os around b negative digits at end st kind_is letter_is expects stands is ended =
    let p = Production.IntegerLiteral in
    let first = stands-split s.bytes at (76 ∷ []) (b ∷ minus_sign negative) stands in
    let second = stands-split s.bytes (at + 1) (b ∷ []) (minus_sign negative) first.1 in
    let literal = literal-opens s kind os around at st kind_is expects first.0 in
    let behind_type : at + length (76 ∷ b ∷ minus_sign negative) ≡ at + 1 + 1 + length (minus_sign negative) = omega arith in
    let type = chain-opens (leaves s Kind.Literal p 80 refl) (hole s Kind.Literal around literal.inner (at + 1) st literal.awaits) refl refl in
    let number = next-part p (byte-fills (eats s Kind.LiteralType Production.Builtin b (tested integer_letters (λ c. is_eaten Kind.LiteralType Production.Builtin c) refl b letter_is)) type second.0 refl refl) refl in
    literal.onward (integer (builtin (b ∷ [])) (signed_digits negative digits)) end st
    (closes p (integer-fills negative digits end number second.1 (subst (λ n. IsDigitsAt s.bytes n digits end) behind_type is)) refl).comes ended

-- ## Enumerators

-- the type of an enumerator is accepted, and becomes a candidate unless it is one
enumeration-passes : (s : Symbol) (os : List Opened) (around : Around) (place : ℕ) (before : State) (t : Term) (listed : Bool) (at : ℕ) (st : State)
    → Comes s (opened (standing (rule_of Production.IntegerLiteral) [] place around before) [] (Sym.Kind (number_of_kind Kind.Integer) ∷ []) ∷ os)
    (tree t listed) at st
    → Comes s (opened (standing (rule_of Production.IntegerLiteral) [] place around before) [] (Sym.Kind (number_of_kind Kind.Integer) ∷ []) ∷ os)
    (tree t true) at (unless_listed listed around t st)
unfolding between close unfolding_behind meaning part tree_of signed_of with_type is_listed appended byte_of
enumeration-passes s os around place before t true at st comes = comes
enumeration-passes s os around place before t false at st comes =
    let p = Production.IntegerLiteral in
    comes-alike s os p p [] place around before (Sym.Kind (number_of_kind Kind.Integer)) (tree t false) (tree t true) at st (with_candidate around t st) around
    (tree t false ∷ []) (tree t true ∷ []) (with_candidate around t st) refl refl (λ more end. refl) comes

-- an argument that is an enumerator begins
pub enumerator-opens : (s : Symbol) (kind : Kind) (os : List Opened) (around : Around) (at : ℕ) (st : State) → IsArgumentKind kind
    → Expects s kind around os at st → StandsAt s.bytes at (76 ∷ []) → EnumeratorOpened s kind os around (at + 1) st
unfolding is_eaten is_left number_of_kind parts_of between close unfolding_behind meaning part byte_of tree_of text_of piece_of letter_of is_there signed_of with_type is_listed
enumerator-opens s kind os around at st is expects stands =
    let p = Production.IntegerLiteral in
    let literal = literal-opens s kind os around at st is expects stands in
    let type = chain-opens (leaves s Kind.Literal p 80 refl) (hole s Kind.Literal around literal.inner (at + 1) st literal.awaits) refl refl in
    record {
      inner = open_at type;
      opens = awaited type (λ t listed here now other comes. enumeration-passes s literal.inner around (at + 1) st t listed here now comes);
      onward = λ t here now comes negative digits end minus digits_there ended.
          let number = next-part p (fill type (tree t true) here now comes) refl in
          literal.onward (integer t (signed_digits negative digits)) end now (closes p (integer-fills negative digits end number minus digits_there) refl).comes ended;
    }

-- ## Addresses

-- an argument begins that is the address of what an encoding names
pub address-opens : (s : Symbol) (os : List Opened) (around : Around) (at : ℕ) (st : State) → Expects s Kind.Argument around os at st
    → StandsAt s.bytes at (88 ∷ 97 ∷ 100 ∷ 76 ∷ 95 ∷ 90 ∷ []) → AddressOpened s os around (at + 6) st
unfolding is_eaten number_of_kind parts_of between close unfolding_behind meaning part byte_of tree_of text_of piece_of letter_of is_there operation_by operation_or_address is_code
    enclosed_argument ends_arguments
address-opens s os around at st expects stands =
    let x = Production.Expression in
    let a = Production.ExpressionA in
    let d = Production.AddressExpression in
    let l = Production.AddressedLiteral in
    let e = Production.EncodingLiteral in
    let first = stands-split s.bytes at (88 ∷ []) (97 ∷ 100 ∷ 76 ∷ 95 ∷ 90 ∷ []) stands in
    let second = stands-split s.bytes (at + 1) (97 ∷ []) (100 ∷ 76 ∷ 95 ∷ 90 ∷ []) first.1 in
    let third = stands-split s.bytes (at + 1 + 1) (100 ∷ []) (76 ∷ 95 ∷ 90 ∷ []) second.1 in
    let fourth = stands-split s.bytes (at + 1 + 1 + 1) (76 ∷ []) (95 ∷ 90 ∷ []) third.1 in
    let fifth = stands-split s.bytes (at + 1 + 1 + 1 + 1) (95 ∷ []) (90 ∷ []) fourth.1 in
    let one = byte-opens (eats s Kind.Argument x 88 refl) (hole s Kind.Argument around os at st expects) first.0 refl refl in
    let two = byte-opens (eats s Kind.Expression a 97 refl) one second.0 refl refl in
    let three = byte-opens (eats s Kind.ExpressionAfterA d 100 refl) two third.0 refl refl in
    let four = byte-opens (eats s Kind.AddressedExpression l 76 refl) three fourth.0 refl refl in
    let five = byte-opens (eats s Kind.AddressedLiteral e 95 refl) four fifth.0 refl refl in
    let six = hole-at (at + 6) (next-part e (fixed-fills five fifth.1) refl) (omega arith) in
    awaited six (λ t here now comes ends.
    let both = stands-split s.bytes here (69 ∷ []) (69 ∷ []) ends in
    let literal = next-part l (closes e (fill six (tree t true) here now comes) refl) refl in
    let expression = closes a (closes d (closes l (fixed-fills literal both.0) refl) refl) refl in
    (filled-at (here + 2) (closes x (fixed-fills (next-part x expression refl) both.1) refl) (omega arith)).comes)

-- ## Members of instances of templates

-- a name that isn't looked up becomes the name so far
named-so : (around : Around) (name : List ℕ) (at : ℕ) (st : State) → around.prefix ≡ outermost
    → ◌≡◌ {A = Continuation} (between Production.SimpleId around at (text name ∷ []) st)
    (Ok (record { context = after (template_named name) true around; values = tree (template_named name) true ∷ []; state = st }))
unfolding between extended after text_of part
named-so around name at st first = ap (λ x. between Production.SimpleId (record around { prefix = x }) at (text name ∷ []) st) first

-- an argument begins with Xsr and the name of a template, before the template's own arguments
pub level-opens : (s : Symbol) (os : List Opened) (around : Around) (at : ℕ) (st : State) (name : List ℕ) (end : ℕ) → s.is_wide ≡ true → around.prefix ≡ outermost
    → Expects s Kind.Argument around os at st → StandsAt s.bytes at (88 ∷ []) → StandsAt s.bytes (at + 1) (115 ∷ [])
    → StandsAt s.bytes (at + 1 + 1) (114 ∷ []) → IsNameAt s.bytes (at + 1 + 1 + 1) name end
    → StandsAt s.bytes end (73 ∷ []) → LevelOpened s os around name (end + 1) st
unfolding is_eaten is_eaten_widely is_left may_be_empty number_of_kind parts_of between close unfolding_behind meaning part byte_of tree_of text_of piece_of letter_of is_there applied operation_by enclosed_argument ends_arguments is_code
level-opens s os around at st name end wide first expects x e r is opening =
    let level = Production.Levels in
    let id = Production.SimpleId in
    let argument = byte-opens (eats s Kind.Argument Production.Expression 88 refl) (hole s Kind.Argument around os at st expects) x refl refl in
    let expression = byte-opens (eats-widely s Kind.Expression (Production.Operation Operation.ExpressionS) 115 wide refl) argument e refl refl in
    let unresolved = byte-opens (eats s Kind.ExpressionAfterS Production.Unresolved 114 refl) expression r refl refl in
    let levels = chain-opens (leaves s Kind.Unresolved level 48 refl) unresolved refl refl in
    let template = chain-opens (leaves s Kind.Level id 48 refl) levels refl refl in
    let arguments = next-part id (name-fills name end template is) (named-so around name (at + 1 + 1 + 1) st first) in
    let o = arguments-open s (open_at arguments) around (template_named name) true end st arguments.expects opening in
    awaited {os = o.inner} (hole-of o) (λ l here now comes ended member behind begins named ends.
    let own = closes id (came s (open_at arguments) (tree (no_items l) true) (here + 1) now (o.onward l here now comes ended)) refl in
    let rest = byte-opens (eats s Kind.MoreLevels Production.LevelsEnd 69 refl) (next-part level own refl) begins refl refl in
    let last = chain-opens (leaves s Kind.UnresolvedName id 48 refl) rest refl refl in
    let none = none-fills Kind.ArgumentsAlone (next-part id (name-fills member behind last named) (named-so around member (here + 1 + 1) now first)) refl in
    let whole = closes level (closes Production.LevelsEnd (closes id none refl) refl) refl in
    let value = closes (Production.Operation Operation.ExpressionS) (closes Production.Unresolved whole refl) refl in
    (closes Production.Expression (fixed-fills (next-part Production.Expression value refl) ends) refl).comes)
