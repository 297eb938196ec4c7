-- Names and numbers that were found, the bytes at a place, and where names are.
use Rattle.cpp_direct.proofs.Basics.{counted_value, ◌≡◌, ◌≢◌, ℕ, ◌+◌, ◌-◌, ◌*◌, ◌≤◌, ◌<◌, suc, List, [], ◌∷◌, ◌++◌, length, take, drop, get_or, codes, Bool, true, false, ◌&&◌, not, nat_eq, nat_lt, refl, ap, sym, subst, ◌∙◌, arith, append_assoc, append-nil, slice_get, Option, Some, None, Result, Ok, Err, get_or-drop, get_or-take, length-append, length-drop, length-take-le, take-append-drop, drop-drop, and_parts, le-leb, ltb-false, ltb-true, nat_tests, drop-append_seam, is_decimal_digit, NumberKind, ReachesNameBytes, signed_digits, source_text, TokenPlace, AreNameBytes, IsSeparator, IsName, HasToken, is_name_byte, Token, IsNumberToken, FindsToken, Direct, AreDigits, IsDigitsAt, IsNameAt, IsNumberAt, IsSeqAt, IsTagAt, StandsAt, IsLengthRead, IsNamePlace, number_text, Reads, tag_text, Writes, slice_get_read, OnSome, NameClass}
use Rattle.cpp_direct.specs.declared.names.NamePlace.{NamePlace}
use Rattle.sym_direct.proofs.Moves.{stands-join}
use Rattle.cpp_direct.proofs.Kept.{piece-found}
use Rattle.std.specs.Result.{result_ok}

-- ## Tokens

-- the bytes between two places, counted from an earlier place
pub piece-at : (s before own behind rest : List ℕ) (at from to : ℕ) → at ≤ length s → drop at s ≡ (before ++ own ++ behind) ++ rest
    → from ≡ at + length before → to ≡ at + length before + length own → (from ≤ to) × (to ≤ length s) × (take (to - from) (drop from s) ≡ own)
piece-at s before own behind rest at from to le e from_is to_is =
    let front = take at s ++ before in
    let size : length front ≡ at + length before = length-append (take at s) before ∙ ap (λ n. n + length before) (length-take-le at s le) in
    let whole : s ≡ front ++ own ++ (behind ++ rest) =
    sym (take-append-drop at s) ∙ ap (λ l. take at s ++ l) (e ∙ append_assoc (before ++ own) behind rest ∙ append_assoc before own (behind ++ rest))
    ∙ sym (append_assoc (take at s) before (own ++ (behind ++ rest))) ∙ sym (append_assoc front own (behind ++ rest)) in
    piece-found s own from to (record {
      front = front;
      back = behind ++ rest;
      written = whole;
      from_is = from_is ∙ sym size;
      to_is = to_is ∙ ap (λ n. n + length own) (sym size);
    })

-- a place that was found is a token's place
pub place-found : (Is : Token → Type 0) (s : List ℕ) (at : ℕ) (r : Result TokenPlace ℕ) (o : Option TokenPlace) (place : TokenPlace)
    → FindsToken Is s at r → o ≡ result_ok r → o ≡ Some place → HasToken Is (drop at s) at place
place-found Is s at (Ok p) o place finds ok some = subst (λ x. HasToken Is (drop at s) at x) (cc (ok, some)) finds
place-found Is s at (Err bad) o place finds ok some = absurd (cc (ok, some))

-- where a token's own bytes are
pub own-found : (Is : Token → Type 0) (s : List ℕ) (at : ℕ) (place : TokenPlace) (h : HasToken Is (drop at s) at place) → at ≤ length s
    → (place.from ≤ place.to) × (place.to ≤ length s) × (take (place.to - place.from) (drop place.from s) ≡ h.token.own)
own-found Is s at place h le = piece-at s h.token.before h.token.own h.token.behind h.rest at place.from place.to le h.split h.from h.to

own-there : (separator own : List ℕ) → IsSeparator NameClass.Cpp separator own → own ≢ []
own-there [] [] is = absurd is
own-there [] (b ∷ bs) is = λ e. cc e
own-there (c ∷ cs) own is = absurd is

-- a name that was found is a name at the place
pub name-found : (s : List ℕ) (at : ℕ) (place : TokenPlace) → HasToken (IsName NameClass.Cpp) (drop at s) at place → at ≤ length s
    → (name : List ℕ) × IsNameAt s at name place.end × (name ≢ []) × (take (place.to - place.from) (drop place.from s) ≡ name)
name-found s at place h le = (
  h.token.own,
  record { token = h.token; is_name = h.is; own = refl; stands = (h.rest, h.split); ends = h.end },
  own-there h.is.separator h.token.own h.is.separated,
  (own-found (IsName NameClass.Cpp) s at place h le).2,
)

-- a number that was found
pub number-found : (kind : NumberKind) (s : List ℕ) (at : ℕ) (place : TokenPlace) → HasToken (IsNumberToken kind) (drop at s) at place → at ≤ length s
    → (digits : List ℕ) × IsNumberAt kind s at digits place.end × (place.from ≤ place.to) × (place.to ≤ length s)
    × (take (place.to - place.from) (drop place.from s) ≡ digits)
number-found kind s at place h le =
    let own = own-found (IsNumberToken kind) s at place h le in (
      h.token.own,
      record { token = h.token; is_number = h.is; own = refl; stands = (h.rest, h.split); ends = h.end },
      own.0,
      own.1,
      own.2,
    )

-- the number of a substitution, by its digits
pub seq-there : (s : List ℕ) (at : ℕ) (ds : List ℕ) (end n : ℕ) → AreDigits NumberKind.Seq36 ds → StandsAt s at (ds ++ 95 ∷ []) → end ≡ at + length (ds ++ 95 ∷ [])
    → n ≡ counted_value NumberKind.Seq36 ds → (digits : List ℕ) × IsSeqAt s at digits end × (n ≡ counted_value NumberKind.Seq36 digits)
seq-there s at ds end n digits stands ends is =
    let token : Token = record { before = []; own = ds; behind = 95 ∷ [] } in
    (ds, record { token = token; is_number = record { bare = refl; digits = (digits, tt); ends = refl }; own = refl; stands = stands; ends = ends }, is)

-- ## What is written

-- if P holds where there is a value, and Q follows from P, Q holds where there is a value
pub some-by : {T P Q : Type 0} (r : Option T) → OnSome r P → (P → Q) → OnSome r Q
some-by None h f = tt
some-by (Some x) h f = f h

-- if only the place changed before a text was written, the text was read
pub reads-written : (old middle new : Direct) (bytes text : List ℕ) → Writes middle new bytes → middle.text ≡ old.text → middle.candidates ≡ old.candidates
    → middle.waiting ≡ old.waiting → middle.nest ≡ old.nest → middle.has_scope ≡ old.has_scope → bytes ≡ text → Reads old new text
reads-written old middle new bytes text w same_text same_candidates same_waiting same_nest same_scope is = record {
  text = w.text ∙ ap (λ v. v.list.items ++ bytes) same_text ∙ ap (λ l. old.text.list.items ++ l) is;
  candidates = w.candidates ∙ same_candidates;
  waiting = w.waiting ∙ same_waiting;
  nest = w.nest ∙ same_nest;
  scope = w.scope ∙ same_scope;
}

-- ## Substitutions

-- an entry of a list, by its number
pub there-at : {X : Type 0} (ks slice : List X) (index counted : ℕ) (k : X) → slice ≡ ks → index ≡ counted → true ≡ nat_lt index (length slice)
    → k ≡ get_or slice index k → slice_get ks counted ≡ Some k
there-at ks slice index counted k same number inside is =
    ap (λ l. slice_get l counted) (sym same) ∙ ap (λ n. slice_get slice n) (sym number)
    ∙ slice_get_read slice (length slice) index k refl (ltb-true index (length slice) (sym inside)) is

-- two steps that read one text each are one step that reads both texts
pub reads-then : (a b c : Direct) (x y : List ℕ) → Reads a b x → Reads b c y → Reads a c (x ++ y)
reads-then a b c x y first second = record {
  text = second.text ∙ ap (λ l. l ++ y) first.text ∙ append_assoc a.text.list.items x y;
  candidates = second.candidates ∙ first.candidates;
  waiting = second.waiting ∙ first.waiting;
  nest = second.nest ∙ first.nest;
  scope = second.scope ∙ first.scope;
}

-- what was written was read
pub reads-of : (a b : Direct) (x : List ℕ) → Writes a b x → Reads a b x
reads-of a b x w = record { text = w.text; candidates = w.candidates; waiting = w.waiting; nest = w.nest; scope = w.scope }

-- the digits of a number were read, and written after a sign
pub digits-read : (s : List ℕ) (old new : Direct) (place : TokenPlace) (is_negative : Bool) (written : List ℕ)
    → HasToken (IsNumberToken NumberKind.Digits) (drop old.at s) old.at place → old.at ≤ length s → new.at ≡ place.end → Reads old new written
    → written ≡ number_text (signed_digits is_negative (take (place.to - place.from) (drop place.from s)))
    → (digits : List ℕ) × IsDigitsAt s old.at digits new.at × Reads old new (number_text (signed_digits is_negative digits))
digits-read s old new place is_negative written h le there reads is =
    let n = number-found NumberKind.Digits s old.at place h le in (
      n.0,
      subst (λ e. IsDigitsAt s old.at n.0 e) (sym there) n.1,
      subst (λ l. Reads old new l) (is ∙ ap (λ d. number_text (signed_digits is_negative d)) n.4) reads,
    )

-- if only the place changed, bytes without a text were read
pub reads-begun : (a b : Direct) → b.text ≡ a.text → b.candidates ≡ a.candidates → b.waiting ≡ a.waiting → b.nest ≡ a.nest → b.has_scope ≡ a.has_scope
    → Reads a b []
reads-begun a b same_text same_candidates same_waiting same_nest same_scope = record {
  text = ap (λ v. v.list.items) same_text ∙ sym (append-nil a.text.list.items);
  candidates = same_candidates;
  waiting = same_waiting;
  nest = same_nest;
  scope = same_scope;
}

digit-is : (b : ℕ) → 48 ≤ b → b ≤ 57 → is_decimal_digit b ≡ true
digit-is b low high = cc (le-leb 48 b low, le-leb b 57 high)

-- a digit isn't the zero byte
pub digit-byte : (b : ℕ) → is_decimal_digit b ≡ true → b ≢ 0
digit-byte b digit none = cc (digit, ap (λ n. is_decimal_digit n) none)

-- the bytes between two places, as they are cut out
pub own-is : (s : List ℕ) (from size : ℕ) → take (from + size - from) (drop from s) ≡ take size (drop from s)
own-is s from size = ap (λ n. take n (drop from s)) (difference from size)
  where
    difference : (from size : ℕ) → from + size - from ≡ size
    difference from size = omega arith

-- a length of one digit
pub one-digit : (s : List ℕ) (at next b : ℕ) → 49 ≤ b → b ≤ 57 → StandsAt s at (b ∷ []) → next ≡ at + 1 → IsLengthRead s at next (b - 48)
one-digit s at next b low high stands next_is = record {
  digits = b ∷ [];
  are_digits = ((digit-is b (omega (arith, low)) high, tt), tt);
  stands = stands;
  from_is = next_is;
  size_is = omega arith;
  some = omega (arith, low);
}

-- a length of two digits
pub two-digits : (s : List ℕ) (at middle next a b : ℕ) → 49 ≤ a → a ≤ 57 → is_decimal_digit b ≡ true → StandsAt s at (a ∷ []) → middle ≡ at + 1
    → StandsAt s middle (b ∷ []) → next ≡ middle + 1 → IsLengthRead s at next (10 * (a - 48) + (b - 48))
two-digits s at middle next a b low high digit first middle_is second next_is = record {
  digits = a ∷ b ∷ [];
  are_digits = ((digit-is a (omega (arith, low)) high, (digit, tt)), (λ e. absurd (omega (arith, low, e)), omega arith));
  stands = stands-join s at (a ∷ []) (b ∷ []) first (subst (λ n. StandsAt s n (b ∷ [])) middle_is second);
  from_is = omega (arith, middle_is, next_is);
  size_is = omega arith;
  some = omega (arith, low);
}

pub all-reached : (own : List ℕ) → ReachesNameBytes NameClass.Cpp own (length own) → AreNameBytes NameClass.Cpp own
all-reached [] h = tt
all-reached (b ∷ bs) h = (h 0 (omega arith), all-reached bs (λ k less. h (suc k) (omega (arith, less))))

begins-no-number : (own : List ℕ) → 0 < length own → is_decimal_digit (get_or own 0 0) ≡ false → IsSeparator NameClass.Cpp [] own
begins-no-number [] some bare = absurd (omega (arith, some))
begins-no-number (b ∷ bs) some bare = bare

byte-may : (b : ℕ) → b < 256 → nat_lt 32 b ≡ true → not (nat_eq b 127) ≡ true → is_name_byte NameClass.Cpp b ≡ true
byte-may b small low other = grind (arith, nat_tests)

-- one more byte may be in a name
pub reached-more : (bytes : List ℕ) (at : ℕ) (are : Bool) → (are ≡ true → ReachesNameBytes NameClass.Cpp bytes at) → get_or bytes at 0 < 256
    → (are && nat_lt 32 (get_or bytes at 0) && not (nat_eq (get_or bytes at 0) 127)) ≡ true → ReachesNameBytes NameClass.Cpp bytes (at + 1)
reached-more bytes at are before small e k less = go (nat_lt k at) refl
  where
    b : ℕ
    b = get_or bytes at 0

    both : ((are && nat_lt 32 b) ≡ true) × (not (nat_eq b 127) ≡ true)
    both = and_parts (are && nat_lt 32 b) (not (nat_eq b 127)) e

    parts : (are ≡ true) × (nat_lt 32 b ≡ true)
    parts = and_parts are (nat_lt 32 b) both.0

    go : (d : Bool) → nat_lt k at ≡ d → is_name_byte NameClass.Cpp (get_or bytes k 0) ≡ true
    go true d = before parts.0 k (ltb-true k at d)
    go false d = subst (λ n. is_name_byte NameClass.Cpp (get_or bytes n 0) ≡ true) (omega (arith, less, ltb-false k at d)) (byte-may b small parts.1 both.1)

-- a piece of bytes that may be in a name consists of bytes that may be in a name
pub own-each : (s : List ℕ) (from size : ℕ) (own : List ℕ) → from ≤ length s → size ≤ length s - from → own ≡ take size (drop from s)
    → ReachesNameBytes NameClass.Cpp s (length s) → ReachesNameBytes NameClass.Cpp own (length own)
own-each s from size own within few own_is each k less =
    let counted : length own ≡ size = ap length own_is ∙ length-take-le size (drop from s) (omega (arith, few, length-drop from s)) in
    subst (λ b. is_name_byte NameClass.Cpp b ≡ true)
    (sym (ap (λ l. get_or l k 0) own_is ∙ get_or-take size (drop from s) k 0 (omega (arith, less, counted)) ∙ get_or-drop from s k 0))
    (each (from + k) (omega (arith, less, counted, within, few)))

-- a name's own bytes follow its length
pub own-placed : (s : List ℕ) (at from size : ℕ) (own : List ℕ) → IsLengthRead s at from size → from ≤ length s → size ≤ length s - from
    → own ≡ take size (drop from s) → is_decimal_digit (get_or own 0 0) ≡ false → ReachesNameBytes NameClass.Cpp own (length own)
    → IsNamePlace s at (record { from = from; to = from + size })
own-placed s at from size own r within few own_is bare each = record {
  name = own;
  is = record {
    token = record { before = r.digits; own = own; behind = [] };
    is_name = record {
      digits = r.digits;
      separator = [];
      split = sym (append-nil r.digits);
      length_is = r.are_digits;
      separated = begins-no-number own (omega (arith, counted, r.some)) bare;
      each = all-reached own each;
      counted = counted ∙ r.size_is;
      ends = refl;
    };
    own = refl;
    stands = (drop size (drop from s), whole);
    ends = omega (arith, counted, r.from_is, length-append (r.digits ++ own) [], length-append r.digits own);
  };
  some = λ e. absurd (omega (arith, counted, r.some, ap length e));
  ordered = omega arith;
  within = omega (arith, within, few);
  own = own-is s from size ∙ sym own_is;
}
  where
    counted : length own ≡ size
    counted = ap length own_is ∙ length-take-le size (drop from s) (omega (arith, few, length-drop from s))

    behind : drop from s ≡ r.stands.0
    behind = ap (λ n. drop n s) r.from_is ∙ sym (drop-drop (length r.digits) at s) ∙ ap (λ l. drop (length r.digits) l) r.stands.1 ∙ drop-append_seam r.digits r.stands.0

    parts : r.stands.0 ≡ own ++ drop size (drop from s)
    parts = sym behind ∙ sym (take-append-drop size (drop from s)) ∙ ap (λ l. l ++ drop size (drop from s)) (sym own_is)

    whole : drop at s ≡ ((r.digits ++ own) ++ []) ++ drop size (drop from s)
    whole = r.stands.1 ∙ ap (λ l. r.digits ++ l) parts ∙ sym (append_assoc r.digits own (drop size (drop from s)))
        ∙ ap (λ l. l ++ drop size (drop from s)) (sym (append-nil (r.digits ++ own)))

-- the place of a name that was found
pub name-placed : (s : List ℕ) (at : ℕ) (place : TokenPlace) → HasToken (IsName NameClass.Cpp) (drop at s) at place → at ≤ length s
    → IsNamePlace s at (record { from = place.from; to = place.to })
name-placed s at place h le = record {
  name = found.0;
  is = subst (λ n. IsNameAt s at found.0 n) same found.1;
  some = found.2;
  ordered = own.0;
  within = own.1;
  own = found.3;
}
  where
    found : (name : List ℕ) × IsNameAt s at name place.end × (name ≢ []) × (take (place.to - place.from) (drop place.from s) ≡ name)
    found = name-found s at place h le

    own : (place.from ≤ place.to) × (place.to ≤ length s) × (take (place.to - place.from) (drop place.from s) ≡ h.token.own)
    own = own-found (IsName NameClass.Cpp) s at place h le

    same : place.end ≡ place.to
    same = omega (arith, h.end, h.to, length-append {A = ℕ}, ap length h.is.ends)

-- a name was read and written
pub name-read : (s : List ℕ) (old middle new : Direct) (place : NamePlace) (bytes : List ℕ) → IsNamePlace s old.at place
    → bytes ≡ source_text (take (place.to - place.from) (drop place.from s)) → middle.at ≡ place.to
    → middle.text ≡ old.text → middle.candidates ≡ old.candidates → middle.waiting ≡ old.waiting → middle.nest ≡ old.nest
    → middle.has_scope ≡ old.has_scope → Writes middle new bytes
    → (name : List ℕ) × IsNameAt s old.at name new.at × (name ≢ []) × Reads old new (source_text name)
name-read s old middle new place bytes n is there same_text same_candidates same_waiting same_nest same_scope w = (
  n.name,
  subst (λ e. IsNameAt s old.at n.name e) (sym (w.at ∙ there)) n.is,
  n.some,
  reads-written old middle new bytes (source_text n.name) w same_text same_candidates same_waiting same_nest same_scope (is ∙ ap source_text n.own),
)

-- a tag was read, and its text written
pub tag-read : (s : List ℕ) (old first second third : Direct) (place : NamePlace) (at : ℕ) → StandsAt s old.at (66 ∷ []) → at ≡ old.at + 1
    → IsNamePlace s at place → Writes (record old { at = at }) first (codes "[abi:") → Writes first second (take (place.to - place.from) (drop place.from s))
    → Writes second third (codes "]") → (tag : List ℕ) × IsTagAt s old.at tag place.to × Reads old (record third { at = place.to }) (tag_text tag)
tag-read s old first second third place at letter here n a b c =
    let named = reads-then old first second (codes "[abi:") n.name
    (reads-written old (record old { at = at }) first (codes "[abi:") (codes "[abi:") a refl refl refl refl refl refl)
    (reads-written first first second (take (place.to - place.from) (drop place.from s)) n.name b refl refl refl refl refl n.own) in
    let r = reads-then old second third (codes "[abi:" ++ n.name) (codes "]") named (reads-of second third (codes "]") c) in (
      n.name,
      (letter, subst (λ k. IsNameAt s k n.name place.to) here n.is),
      record { text = r.text; candidates = r.candidates; waiting = r.waiting; nest = r.nest; scope = r.scope },
    )
