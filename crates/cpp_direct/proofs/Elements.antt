-- Numbers and literals that were read, and arguments that are literals.
use Rattle.cpp_direct.proofs.AllGround.{among, boolean, builtin, builtin_texts, Detail, integer, is_plain_integer, is_zero, Kind, literal_endings, look_up, normal, Signed, signed_digits, Term, ◌≡◌, ◌≢◌, ℕ, ◌+◌, ◌⊎◌, List, [], ◌∷◌, ◌++◌, length, reverse, nat_eq, Bool, true, false, cond, refl, ap, sym, subst, ◌∙◌, arith, codes, append_assoc, append-nil, drop, inl, inr, ◌<◌, ◌≤◌, get_or, not, ◌&&◌, false≢true, ne_eqb, AwaitsNamedType, AwaitsNextArgument, AwaitsNumber, below, Closes, detail_of, Direct, element_kind, EndsAsInteger, EndsOtherwise, extra_of, GoesOn, in_front_of_next, integer_text, is_integer_letter, IsElement, IsListing, IsLiteralRead, IsUnmarked, IsWriting, Kept, led_by, may_name, number_text, Open, PrintAllAs, Prints, Reads, scoped_in, sign_text, Symbol, truth_text, Writes, IsDigitsAt, IsOffsetAt, ListGoesOn, StandsAt, TreeOpens, minus_sign, length-drop, drop_more, Step, none-scoped, kept-grown, kept-read, reverse-last, awaited-in, stands-join, bool-element, integer-element, enumerator-opens, integer-there, element-as, next-prints-as, type-element, digits-unmarked, boolean-prints, plain-integer-prints, cast-integer-prints, normal-filled, enumerator-prints, not-integer, normal-unmarked, reads-then}
use Rattle.cpp_direct.proofs.AllRead.{ends-so, element-kind, element-goes-on, enumerator-stands, some-elements, listing-stays}

-- ## Digits

-- a zero before more digits is left out
pub normal-step : (xs : List ℕ) (at : ℕ) → at + 1 < length xs → get_or xs at 0 ≡ 48 → normal (drop (at + 1) xs) ≡ normal (drop at xs)
unfolding normal
normal-step xs at inside zero_there =
    let more : drop at xs ≡ get_or xs at 0 ∷ drop (at + 1) xs = drop_more xs at 0 (omega (arith, inside)) in
    sym (ap normal more ∙ front (get_or xs at 0) (drop (at + 1) xs) (omega (arith, inside, length-drop (at + 1) xs)) zero_there)
  where
    front : (d : ℕ) (ds : List ℕ) → 0 < length ds → d ≡ 48 → normal (d ∷ ds) ≡ normal ds
    front d [] some is = absurd (omega (arith, some))
    front d (e ∷ ds) some is = rw is refl

-- a digit other than zero stays
pub normal-other : (xs : List ℕ) (at : ℕ) → at + 1 < length xs → get_or xs at 0 ≢ 48 → normal (drop at xs) ≡ drop at xs
unfolding normal
normal-other xs at inside other =
    let more : drop at xs ≡ get_or xs at 0 ∷ drop (at + 1) xs = drop_more xs at 0 (omega (arith, inside)) in
    ap normal more ∙ front (get_or xs at 0) (drop (at + 1) xs) other ∙ sym more
  where
    front : (d : ℕ) (ds : List ℕ) → d ≢ 48 → normal (d ∷ ds) ≡ d ∷ ds
    front d [] not_zero = refl
    front d (e ∷ ds) not_zero = rw (ne_eqb d 48 not_zero, normal) refl

-- digits stay as they are if there is at most one
pub normal-short : (ds : List ℕ) → length ds ≤ 1 → normal ds ≡ ds
unfolding normal
normal-short [] few = refl
normal-short (d ∷ []) few = refl
normal-short (d ∷ e ∷ ds) few = absurd (omega (arith, few))

-- ## Numbers

-- digits without a sign are a number that isn't negative
pub plain-digits : (ns ds : List ℕ) (n : Bool) → ns ≡ normal ds → n ≡ false → ns ≡ number_text (signed_digits n ds)
unfolding signed_digits
plain-digits ns ds n is e = is ∙ sym (ap (λ b. number_text (signed_digits b ds)) e)

-- zero has no sign
pub zero-digits : (ns ds : List ℕ) (n : Bool) → ns ≡ normal ds → n ≡ true → true ≡ is_zero ns → ns ≡ number_text (signed_digits n ds)
unfolding signed_digits
zero-digits ns ds n is e zero_there =
    is ∙ sym (ap (λ b. number_text (signed_digits b ds)) e
    ∙ ap (λ (b : Bool). cond (true && not b) (codes "-") [] ++ normal ds) (ap is_zero (sym is) ∙ sym zero_there))

-- a negative number other than zero has a sign
pub minus-digits : (ns ds : List ℕ) (n : Bool) → ns ≡ normal ds → n ≡ true → false ≡ is_zero ns → codes "-" ++ ns ≡ number_text (signed_digits n ds)
unfolding signed_digits
minus-digits ns ds n is e other =
    ap (λ l. codes "-" ++ l) is ∙ sym (ap (λ b. number_text (signed_digits b ds)) e
    ∙ ap (λ (b : Bool). cond (true && not b) (codes "-") [] ++ normal ds) (ap is_zero (sym is) ∙ sym other))

-- the digits of an offset and its _ were read after its sign
pub offset-read : (s : List ℕ) (old middle new : Direct) (n : Bool) → StandsAt s old.at (minus_sign n) → middle.at ≡ old.at + length (minus_sign n)
    → Reads old middle []
    → (digits : List ℕ) × (end : ℕ) × IsDigitsAt s middle.at digits end × StandsAt s end (95 ∷ []) × (new.at ≡ end + 1) × Reads middle new []
    → IsOffsetAt s old.at new.at × Reads old new []
offset-read s old middle new n minus next begun read = (
  record {
    negative = n;
    digits = read.0;
    behind = read.1;
    minus = minus;
    number = subst (λ k. IsDigitsAt s k read.0 read.1) next read.2;
    line = read.3;
    ends = read.4;
  },
  reads-then old middle new [] [] begun read.5,
)

-- ## Booleans

-- a boolean was read
pub boolean-read : (s : List ℕ) (old new : Direct) (byte at d : ℕ) → StandsAt s old.at (98 ∷ []) → (byte ≢ 0 → StandsAt s at (byte ∷ []))
    → at ≡ old.at + 1 → byte ≡ d → (d ≡ 48) ⊎ (d ≡ 49) → new.at ≡ at + 1 → Reads old new (truth_text (nat_eq d 49))
    → (digit : ℕ) × ((digit ≡ 48) ⊎ (digit ≡ 49)) × StandsAt s old.at (98 ∷ digit ∷ [])
    × (new.at ≡ old.at + 2) × Reads old new (truth_text (nat_eq digit 49))
boolean-read s old new byte at d first second next is bit there reads = (
  d,
  bit,
  stands-join s old.at (98 ∷ []) (d ∷ []) first
      (subst (λ n. StandsAt s n (d ∷ [])) next (subst (λ b. StandsAt s at (b ∷ [])) is (second (filled bit)))),
  omega (arith, next, there),
  reads,
)
  where
    filled : (d ≡ 48) ⊎ (d ≡ 49) → byte ≢ 0
    filled (inl e) = λ none. absurd (omega (arith, e, is, none))
    filled (inr e) = λ none. absurd (omega (arith, e, is, none))

-- ## Integers

-- a number that begins at a place was read and written
abbrev pub IsNumberRead : (s : List ℕ) (old new : Direct) → Type 0
IsNumberRead s old new =
    (n : Bool) × (ds : List ℕ) × StandsAt s old.at (minus_sign n) × IsDigitsAt s (old.at + length (minus_sign n)) ds new.at
    × Reads old new (number_text (signed_digits n ds))

-- what was read of an integer
abbrev pub IsIntegerRead : (s : List ℕ) (old new : Direct) → Type 0
IsIntegerRead s old new =
    (letter : ℕ) × (n : Bool) × (ds : List ℕ) × (is_integer_letter letter ≡ true) × StandsAt s old.at (letter ∷ minus_sign n)
    × IsDigitsAt s (old.at + 1 + length (minus_sign n)) ds new.at × Reads old new (integer_text letter (signed_digits n ds))

letter-there : (s : List ℕ) (from at letter : ℕ) (n : Bool) → (letter ≢ 0 → StandsAt s from (letter ∷ [])) → is_integer_letter letter ≡ true → at
    ≡ from + 1
    → StandsAt s at (minus_sign n) → StandsAt s from (letter ∷ minus_sign n)
unfolding is_integer_letter among
letter-there s from at letter n first is next second =
    stands-join s from (letter ∷ []) (minus_sign n) (first (λ none. false≢true (ap is_integer_letter (sym none) ∙ is)))
    (subst (λ k. StandsAt s k (minus_sign n)) next second)

plain-text : (letter : ℕ) (n : Signed) → is_plain_integer (builtin (letter ∷ [])) ≡ true
    → number_text n ++ look_up (letter ∷ []) literal_endings ≡ integer_text letter n
plain-text letter n e = rw (e, integer_text) refl

cast-text : (letter : ℕ) (n : Signed) → is_plain_integer (builtin (letter ∷ [])) ≡ false
    → codes "(" ++ look_up (letter ∷ []) builtin_texts ++ codes ")" ++ number_text n ≡ integer_text letter n
cast-text letter n e = rw (e, integer_text) refl

-- an integer that is written without its type was read
pub plain-integer-read : (s : List ℕ) (old middle there new : Direct) (letter : ℕ) (ending : List ℕ) → (letter ≢ 0 → StandsAt s old.at (letter ∷ []))
    → true ≡ is_integer_letter letter → true ≡ is_plain_integer (builtin (letter ∷ [])) → middle.at ≡ old.at + 1 → Reads old middle []
    → IsNumberRead s middle there → ending ≡ look_up (letter ∷ []) literal_endings → Reads there new ending → there.at ≡ new.at → IsIntegerRead s old new
plain-integer-read s old middle there new letter ending first is plain next begun read ends written same =
    let n = signed_digits read.0 read.1 in (
      letter,
      read.0,
      read.1,
      sym is,
      letter-there s old.at middle.at letter read.0 first (sym is) next read.2,
      subst (λ e. IsDigitsAt s (old.at + 1 + length (minus_sign read.0)) read.1 e) same
          (subst (λ k. IsDigitsAt s (k + length (minus_sign read.0)) read.1 there.at) next read.3),
      subst (λ l. Reads old new l) (ap (λ l. number_text n ++ l) ends ∙ plain-text letter n (sym plain))
          (reads-then old there new (number_text n) ending (reads-then old middle there [] (number_text n) begun read.4) written),
    )

-- an integer that is written after its type was read
pub cast-integer-read : (s : List ℕ) (old middle new : Direct) (letter : ℕ) → (letter ≢ 0 → StandsAt s old.at (letter ∷ []))
    → true ≡ is_integer_letter letter → false ≡ is_plain_integer (builtin (letter ∷ [])) → middle.at ≡ old.at + 1
    → Reads old middle (codes "(" ++ look_up (letter ∷ []) builtin_texts ++ codes ")") → IsNumberRead s middle new → IsIntegerRead s old new
cast-integer-read s old middle new letter first is cast next begun read =
    let n = signed_digits read.0 read.1 in
    let front = codes "(" ++ look_up (letter ∷ []) builtin_texts ++ codes ")" in (
      letter,
      read.0,
      read.1,
      sym is,
      letter-there s old.at middle.at letter read.0 first (sym is) next read.2,
      subst (λ k. IsDigitsAt s (k + length (minus_sign read.0)) read.1 new.at) next read.3,
      subst (λ l. Reads old new l) (cast-text letter n (sym cast)) (reads-then old middle new front (number_text n) begun read.4),
    )

-- ## Elements

-- one more element was read and written
pub element-added : (s : Symbol) (w : Direct) (kept : Kept s w) {opened : List Open} {text : List ℕ} (p : IsListing (detail_of s) kept.scope.names opened text)
    (more : List ℕ) (ts : List Term) (texts : List ℕ) (t : Term) (bytes : List ℕ)
    → PrintAllAs (detail_of s) kept.scope.names (may_name p.listing p.owner) (extra_of p.listing) ts texts → IsElement (detail_of s) (extra_of p.listing) t bytes
    → reverse w.waiting.list.items ≡ opened → w.text.list.items ≡ text ++ more
    → text ++ more ≡ led_by (detail_of s) p.listing p.front p.name ++ (in_front_of_next ts texts ++ bytes)
    → GoesOn s p.listing p.owner (below s kept.scope p.rest) p.front p.template (ts ++ t ∷ []) w.at kept.state → IsWriting s w (Step.List false)
element-added s w kept p more ts texts t bytes elements element open_is is written goes =
    let extra = extra_of p.listing in
    let noted = may_name p.listing p.owner in
    record {
      kept = kept;
      is_before = (
        listing-stays (reverse w.waiting.list.items) more w.text.list.items p open_is is,
        ts ++ t ∷ [],
        in_front_of_next ts texts ++ bytes,
        next-prints-as (detail_of s) kept.scope.names noted extra ts texts t bytes elements (element-as (detail_of s) kept.scope.names noted extra t bytes element),
        is ∙ written,
        λ first. absurd (false≢true first),
        λ further. some-elements ts t,
        goes,
      );
    }

-- an element that is a literal
pub literal-added : (s : Symbol) (old new : Direct) → AwaitsNextArgument s old → IsLiteralRead s old new → IsWriting s new (Step.List false)
literal-added s old new a l =
    let p = a.place in
    element-added s new (kept-read s old new l.bytes l.reads a.kept) p l.bytes a.ts a.texts l.own l.bytes a.elements
    (type-element (extra_of p.listing) l.own l.bytes false l.prints) (ap (λ v. reverse v.list.items) l.reads.waiting) l.reads.text
    (ap (λ t. t ++ l.bytes) a.written ∙ append_assoc (led_by (detail_of s) p.listing p.front p.name) (in_front_of_next a.ts a.texts) l.bytes)
    (element-goes-on s (element_kind p.listing) (scoped_in p.owner (below s a.scope p.rest))
    (λ u now then. Closes s p.listing p.owner (below s a.scope p.rest) p.front p.template u now then) a.ts l.own old.at new.at a.state a.state a.goes
    (l.goes_on (element_kind p.listing) a.goes.0 a.goes.1 a.state (element-kind p.listing) a.goes.4))

-- ## Literals

truth-is : (b : Bool) → cond b (codes "true") (codes "false") ≡ truth_text b
truth-is true = refl
truth-is false = refl

-- a truth value was read, and an E
pub boolean-literal-read : (s : Symbol) (old begun middle new : Direct) → StandsAt s.bytes old.at (76 ∷ []) → begun.at ≡ old.at + 1 → Reads old begun []
    → (read : (digit : ℕ) × ((digit ≡ 48) ⊎ (digit ≡ 49)) × StandsAt s.bytes begun.at (98 ∷ digit ∷ []) × (middle.at ≡ begun.at + 2)
    × Reads begun middle (truth_text (nat_eq digit 49)))
    → StandsAt s.bytes middle.at (69 ∷ []) × (new.at ≡ middle.at + 1) × Reads middle new [] → IsLiteralRead s old new
boolean-literal-read s old begun middle new first next nothing read ended =
    let d = read.0 in
    let written = truth_text (nat_eq d 49) in
    let second = subst (λ n. StandsAt s.bytes n (98 ∷ d ∷ [])) next read.2 in
    let third : middle.at ≡ old.at + 3 = omega (arith, next, read.3) in
    let last = subst (λ n. StandsAt s.bytes n (69 ∷ [])) third ended.0 in
    let whole = stands-join s.bytes old.at (76 ∷ 98 ∷ d ∷ []) (69 ∷ []) (stands-join s.bytes old.at (76 ∷ []) (98 ∷ d ∷ []) first second) last in
    let behind : old.at + 4 ≡ new.at = omega (arith, next, read.3, ended.1) in
    record {
      own = boolean (nat_eq d 49);
      bytes = written ++ [];
      prints = subst (λ l. Prints (detail_of s) (boolean (nat_eq d 49)) l false) (truth-is (nat_eq d 49) ∙ sym (append-nil written)) (boolean-prints (nat_eq d 49));
      reads = reads-then old middle new written [] (reads-then old begun middle [] written nothing read.4) ended.2;
      goes_on = λ kind around os st is expects. subst (λ n. ListGoesOn s kind os around (boolean (nat_eq d 49)) n st) behind
          (bool-element s kind os around d old.at st is read.1 expects whole);
    }

pub number-unmarked : (s : List ℕ) (at : ℕ) (digits : List ℕ) (end : ℕ) → IsDigitsAt s at digits end → IsUnmarked digits
number-unmarked s at digits end is = subst IsUnmarked is.own (digits-unmarked is.token.own is.is_number.digits.0)

integer-prints : {detail : Detail} (letter : ℕ) (n : Bool) (ds : List ℕ) → is_integer_letter letter ≡ true → ds ≢ [] → IsUnmarked ds
    → Prints detail (integer (builtin (letter ∷ [])) (signed_digits n ds)) (integer_text letter (signed_digits n ds)) false
unfolding is_integer_letter among signed_digits
integer-prints {detail} letter n ds is filled plain = go (is_plain_integer (builtin (letter ∷ []))) refl
  where
    go : (b : Bool) → is_plain_integer (builtin (letter ∷ [])) ≡ b → Prints detail (integer (builtin (letter ∷ [])) (signed_digits n ds)) (elim b [
      | true ↦ number_text (signed_digits n ds) ++ look_up (letter ∷ []) literal_endings
      | false ↦ codes "(" ++ look_up (letter ∷ []) builtin_texts ++ codes ")" ++ number_text (signed_digits n ds)
    ]) false
    go true e = plain-integer-prints letter e (signed_digits n ds) (normal-filled ds filled) (normal-unmarked ds plain)
    go false e = subst (λ l. Prints detail (integer (builtin (letter ∷ [])) (signed_digits n ds)) l false)
        (append_assoc (codes "(" ++ look_up (letter ∷ []) builtin_texts ++ codes ")") (sign_text (signed_digits n ds)) (normal ds))
        (cast-integer-prints letter e (integer-there letter is) (signed_digits n ds) (normal-filled ds filled) (normal-unmarked ds plain))

-- an integer was read, and an E
pub integer-literal-read : (s : Symbol) (old begun middle new : Direct) → StandsAt s.bytes old.at (76 ∷ []) → begun.at ≡ old.at + 1 → Reads old begun []
    → (read : IsIntegerRead s.bytes begun middle) → StandsAt s.bytes middle.at (69 ∷ []) × (new.at ≡ middle.at + 1) × Reads middle new []
    → IsLiteralRead s old new
integer-literal-read s old begun middle new first next nothing read ended =
    let letter = read.0 in
    let negative = read.1 in
    let ds = read.2 in
    let t = integer (builtin (letter ∷ [])) (signed_digits negative ds) in
    let written = integer_text letter (signed_digits negative ds) in
    let second = subst (λ n. StandsAt s.bytes n (letter ∷ minus_sign negative)) next read.4 in
    let whole = stands-join s.bytes old.at (76 ∷ []) (letter ∷ minus_sign negative) first second in
    let there : begun.at + 1 + length (minus_sign negative) ≡ old.at + length (76 ∷ letter ∷ minus_sign negative) = omega (arith, next) in
    let filled : ds ≢ [] = λ none. absurd (omega (arith, read.5.is_number.digits.1, ap length read.5.own, ap (λ (l : List ℕ). length l) none)) in
    record {
      own = t;
      bytes = written ++ [];
      prints = subst (λ l. Prints (detail_of s) t l false) (sym (append-nil written)) (integer-prints letter negative ds read.3 filled (number-unmarked s.bytes _ ds _ read.5));
      reads = reads-then old middle new written [] (reads-then old begun middle [] written nothing read.6) ended.2;
      goes_on = λ kind around os st is expects. subst (λ n. ListGoesOn s kind os around t n st) (sym ended.1)
          (integer-element s kind os around letter negative ds old.at middle.at st is read.3 expects whole
          (subst (λ n. IsDigitsAt s.bytes n ds middle.at) there read.5) ended.0);
    }

-- ## Enumerators

-- an argument that is an enumerator was begun
pub enumerator-expected : (s : Symbol) (old begun pushed new : Direct) (a : AwaitsNextArgument s old) → StandsAt s.bytes old.at (76 ∷ [])
    → begun.at ≡ old.at + 1 → Reads old begun [] → Writes begun pushed (codes "(")
    → new.text.list.items ≡ pushed.text.list.items → new.candidates ≡ pushed.candidates → new.has_scope ≡ pushed.has_scope
    → new.waiting.list.items ≡ pushed.waiting.list.items ++ Open.Enumerator ∷ [] → new.at ≡ pushed.at → AwaitsNamedType s new
enumerator-expected s old begun pushed new a stands next nothing writes text candidates scope_same waits at =
    let p = a.place in
    let e = enumerator-opens s (element_kind p.listing) a.goes.1 a.goes.0 old.at a.state (element-kind p.listing) a.goes.4 stands in
    let same : begun.text.list.items ≡ old.text.list.items = nothing.text ∙ append-nil old.text.list.items in
    let written : new.text.list.items ≡ old.text.list.items ++ codes "(" = text ∙ writes.text ∙ ap (λ l. l ++ codes "(") same in
    let waiting : new.waiting.list.items ≡ old.waiting.list.items ++ Open.Enumerator ∷ [] =
    waits ∙ ap (λ v. v.list.items ++ Open.Enumerator ∷ []) (writes.waiting ∙ nothing.waiting) in
    record {
      kept = kept-grown s old new (codes "(") written (candidates ∙ writes.candidates ∙ nothing.candidates)
          (scope_same ∙ writes.scope ∙ nothing.scope) a.kept;
      awaited = awaited-in s a.scope new new a.goes.0 e.inner refl (ap reverse waiting ∙ reverse-last old.waiting.list.items Open.Enumerator) a.goes.2
          (enumerator-stands s a.scope (reverse old.waiting.list.items) new.text.list.items e.inner
          (listing-stays (reverse old.waiting.list.items) (codes "(") new.text.list.items p refl written)
          a.ts a.texts a.elements (written ∙ ap (λ l. l ++ codes "(") a.written)
          (λ t here now comes negative digits end minus digits_there ended.
          element-goes-on s (element_kind p.listing) (scoped_in p.owner (below s a.scope p.rest))
          (λ l now then. Closes s p.listing p.owner (below s a.scope p.rest) p.front p.template l now then) a.ts (integer t (signed_digits negative digits)) old.at (end + 1) a.state now a.goes
          (e.onward t here now comes negative digits end minus digits_there ended)))
          (none-scoped a.scope a.goes.0 (Open.Enumerator ∷ reverse old.waiting.list.items) refl);
      kind = Kind.LiteralType;
      is_named = tt;
      begins = subst (λ k. TreeOpens s Kind.LiteralType e.inner a.goes.0 k a.state) (sym (at ∙ writes.at ∙ next)) e.opens;
    }

-- if a text doesn't end in the name of a type whose integers omit the type, neither do the bytes after a bracket in
-- that text
pub no-integer-type : (text front bytes : List ℕ) → text ≡ front ++ codes "(" ++ bytes → EndsOtherwise text → EndsAsInteger bytes → ⊥
no-integer-type text front bytes e other ending = go ending.1
  where
    whole : (last : List ℕ) → bytes ≡ last → text ≡ front ++ (codes "(" ++ last)
    whole last is = e ∙ ap (λ l. front ++ codes "(" ++ l) is ∙ append_assoc front (codes "(") last

    behind : (last : List ℕ) → bytes ≡ ending.0 ++ last → text ≡ (front ++ codes "(" ++ ending.0) ++ last
    behind last is = e ∙ ap (λ l. front ++ codes "(" ++ l) is ∙ sym (append_assoc (front ++ codes "(") ending.0 last)

    go : (bytes ≡ codes "int") ⊎ (bytes ≡ ending.0 ++ codes " int") ⊎ (bytes ≡ codes "long") ⊎ (bytes ≡ ending.0 ++ codes " long") → ⊥
    go (inl is) = false≢true (sym other.int ∙ ends-so text front (codes "(int") (whole (codes "int") is))
    go (inr (inl is)) = false≢true (sym other.blank_int ∙ ends-so text (front ++ codes "(" ++ ending.0) (codes " int") (behind (codes " int") is))
    go (inr (inr (inl is))) = false≢true (sym other.long ∙ ends-so text front (codes "(long") (whole (codes "long") is))
    go (inr (inr (inr is))) = false≢true (sym other.blank_long ∙ ends-so text (front ++ codes "(" ++ ending.0) (codes " long") (behind (codes " long") is))

-- the number of an enumerator and its E were read after the type
pub enumerator-read : (s : Symbol) (old begun pushed middle new : Direct) (a : AwaitsNumber s old)
    → EndsOtherwise old.text.list.items → begun.text ≡ old.text → begun.candidates ≡ old.candidates → begun.has_scope ≡ old.has_scope → begun.at ≡ old.at
    → reverse begun.waiting.list.items ≡ a.opened → Writes begun pushed (codes ")") → (read : IsNumberRead s.bytes pushed middle)
    → StandsAt s.bytes middle.at (69 ∷ []) × (new.at ≡ middle.at + 1) × Reads middle new [] → IsWriting s new (Step.List false)
unfolding signed_digits
enumerator-read s old begun pushed middle new a other text candidates scope_same at waits writes read ended =
    let negative = read.0 in
    let ds = read.1 in
    let n = signed_digits negative ds in
    let t = integer a.type n in
    let here : pushed.at ≡ old.at = writes.at ∙ at in
    let p = a.place in
    let front = led_by (detail_of s) p.listing p.front p.name in
    let before = in_front_of_next a.ts a.texts in
    let more = codes ")" ++ number_text n in
    let own = codes "(" ++ a.bytes ++ codes ")" ++ sign_text n ++ n.digits in
    let wrote : new.text.list.items ≡ old.text.list.items ++ more =
    ended.2.text ∙ append-nil middle.text.list.items ∙ read.4.text ∙ ap (λ l. l ++ number_text n) (writes.text ∙ ap (λ v. v.list.items ++ codes ")") text)
    ∙ append_assoc old.text.list.items (codes ")") (number_text n) in
    let filled : ds ≢ [] = λ none. absurd (omega (arith, read.3.is_number.digits.1, ap length read.3.own, ap (λ (l : List ℕ). length l) none)) in
    let prints = enumerator-prints a.type a.bytes a.is_reference a.prints (not-integer a.type a.bytes a.is_reference a.prints
    (no-integer-type old.text.list.items (front ++ before) a.bytes a.written other)) n (normal-filled ds filled) (normal-unmarked ds (number-unmarked s.bytes _ ds _ read.3)) in
    element-added s new
    (kept-grown s old new more wrote (ended.2.candidates ∙ read.4.candidates ∙ writes.candidates ∙ candidates)
    (ended.2.scope ∙ read.4.scope ∙ writes.scope ∙ scope_same) a.kept) p more a.ts a.texts t own a.elements (type-element (extra_of p.listing) t own false prints)
    (ap (λ v. reverse v.list.items) (ended.2.waiting ∙ read.4.waiting ∙ writes.waiting) ∙ waits) wrote (ap (λ l. l ++ more) a.written ∙ simp append_assoc)
    (subst (λ k. GoesOn s p.listing p.owner (below s a.scope p.rest) p.front p.template (a.ts ++ t ∷ []) k a.state) (sym ended.1)
    (a.goes negative ds middle.at (subst (λ k. StandsAt s.bytes k (minus_sign negative)) here read.2)
    (subst (λ k. IsDigitsAt s.bytes (k + length (minus_sign negative)) ds middle.at) here read.3) ended.0))
