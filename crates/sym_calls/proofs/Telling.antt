-- How each of many names gets its outcome, one after the other.
use Rattle.sym_calls.proofs.Basics.{◌≡◌, ◌≤◌, ◌<◌, inl, inr, ℕ, ◌+◌, ◌-◌, Bool, true, false, cond, List, [], ◌∷◌, ◌++◌, length, take, drop, get_or, set, Option, Some, Result, Ok, Err, refl, sym, ap, ap₂, subst, ◌∙◌, arith, nat_eq, nat_le, ◌==◌, ◌&&◌, if◌then◌else◌, le-leb, leb-true, Refusal, Malformed, BadReference, BadValue, TooLong, Memory, Answering, Kind, symbol_of, is_type_word, type_answer, Ending, EndsAs, answered, answers_at, name_or_type_told, named, refused, status_alone, told_of, type_or_told, written, AreTold, IsTold, TextsEndAs, TextsEndBy, are_ends, placed, Outcome, Asked}
use Rattle.std.proofs.lemmas.List.{append_assoc, append-nil, drop_all, drop_more, length-append, length-drop, length-take-le, take-append-drop, take_all, take_more_set}
use borrow.Rule.Slice.PartMut.{put_mid}
use Rattle.std.proofs.Math.Seq.{take-append-add, drop-append-add}

both : (a b : Bool) → a && b ≡ true → (a ≡ true) × (b ≡ true)
both true b holds = (refl, holds)
both false b holds = cc

-- after an end that doesn't decrease, the ends that follow it decide
pub ends-on : (from most : ℕ) (ends : List ℕ) (i : ℕ) → i < length ends → from ≤ get_or ends i 0 → are_ends from most (drop i ends) ≡ are_ends (get_or ends i 0) most (drop (i + 1) ends)
unfolding are_ends
ends-on from most ends i within up = ap (λ l. are_ends from most l) (drop_more ends i 0 within) ∙ ap (λ b. b && are_ends (get_or ends i 0) most (drop (i + 1) ends)) (le-leb from (get_or ends i 0) up)

-- an end that decreases
pub ends-down : (from most : ℕ) (ends : List ℕ) (i : ℕ) → i < length ends → nat_le from (get_or ends i 0) ≡ false → are_ends from most (drop i ends) ≡ false
unfolding are_ends
ends-down from most ends i within down = ap (λ l. are_ends from most l) (drop_more ends i 0 within) ∙ ap (λ b. b && are_ends (get_or ends i 0) most (drop (i + 1) ends)) down

ends-within : (from most : ℕ) (ends : List ℕ) → are_ends from most ends ≡ true → from ≤ most
unfolding are_ends
ends-within from most [] is = leb-true from most is
ends-within from most (end ∷ ends) is =
    let first : from ≤ end = leb-true from end (both _ _ is).0 in let rest : end ≤ most = ends-within end most ends (both (nat_le from end) (are_ends end most ends) is).1 in omega (arith, first, rest)

-- a name ends at or after its beginning and within all names, and the ends that follow are right
pub ends-at : (from most : ℕ) (ends : List ℕ) (i : ℕ) → i < length ends → are_ends from most (drop i ends) ≡ true
    → (from ≤ get_or ends i 0) × (get_or ends i 0 ≤ most) × (are_ends (get_or ends i 0) most (drop (i + 1) ends) ≡ true)
unfolding are_ends
ends-at from most ends i within is =
    let here = both _ _ (sym (ap (λ l. are_ends from most l) (drop_more ends i 0 within)) ∙ is) in
    (leb-true from (get_or ends i 0) here.0, ends-within (get_or ends i 0) most (drop (i + 1) ends) here.1, here.1)

-- how many bytes an ending took of its buffer
abbrev took : Ending → ℕ
took ending = if ending.status == 0 then ending.length else 0

abbrev IsWithin : Ending → Type 0
IsWithin ending = took ending ≤ length ending.buffer

cond-within : (test : Bool) (a b : Ending) → (test ≡ true → IsWithin a) → IsWithin b → IsWithin (cond test a b)
cond-within true a b first second = first refl
cond-within false a b first second = second

answered-within : (answer : Result (List ℕ) Refusal) (skip : ℕ) (buffer : List ℕ) → IsWithin (answered answer skip buffer)
unfolding answered refused written
answered-within (Ok bytes) skip buffer = cond-within (nat_le (length bytes) (length buffer)) _ _ (λ fits. omega (arith, length-append bytes (drop (length bytes) buffer))) (omega arith)
answered-within (Err (Malformed at)) skip buffer = omega arith
answered-within (Err (BadReference at)) skip buffer = omega arith
answered-within (Err (BadValue at)) skip buffer = omega arith
answered-within (Err TooLong) skip buffer = omega arith
answered-within (Err Memory) skip buffer = omega arith

none-took : (is_ok : Bool) (most : ℕ) → cond is_ok 0 0 ≤ most
none-took true most = omega arith
none-took false most = omega arith

alone-within : (status : ℕ) (buffer : List ℕ) → IsWithin (status_alone status buffer)
alone-within status buffer = none-took (status == 0) (length buffer)

told-of-within : (answers : Answering) (kind : Result Kind ℕ) (name buffer : List ℕ) → IsWithin (told_of answers kind name buffer)
unfolding told_of
told-of-within answers (Ok kind) name buffer = answered-within (answers kind (symbol_of kind name)) kind.skip buffer
told-of-within answers (Err status) name buffer = alone-within status buffer

type-or-told-within : (types : Bool) (answers : Answering) (kind : Result Kind ℕ) (name buffer : List ℕ) → IsWithin (type_or_told types answers kind name buffer)
unfolding type_or_told
type-or-told-within types answers (Ok kind) name buffer = told-of-within answers (Ok kind) name buffer
type-or-told-within types answers (Err status) name buffer =
    cond-within (types && (status == 11 && is_type_word name)) _ _ (λ is. answered-within (type_answer answers name) 0 buffer) (alone-within status buffer)

-- a text is within the buffer
pub told-within : (answers : Answering) (asked : Asked) (name buffer : List ℕ) (found : Ending) → EndsAs (name_or_type_told answers asked name buffer) buffer found → took found ≤ length found.buffer
told-within answers asked name buffer found (inl is) = subst (λ e. IsWithin e) (sym is) (type-or-told-within asked.types answers (named asked.underscore name) name buffer)
told-within answers asked name buffer found (inr is) = subst (λ e. IsWithin e) (sym is.1) (alone-within 5 buffer)

take-after : (xs ys : List ℕ) (at n : ℕ) → length xs ≡ at → take (at + n) (xs ++ ys) ≡ xs ++ take n ys
take-after xs ys at n is = subst (λ m. take (m + n) (xs ++ ys) ≡ xs ++ take n ys) is (take-append-add xs ys n)

drop-after : (xs ys : List ℕ) (at n : ℕ) → length xs ≡ at → drop (at + n) (xs ++ ys) ≡ drop n ys
drop-after xs ys at n is = subst (λ m. drop (m + n) (xs ++ ys) ≡ drop n ys) is (drop-append-add xs ys n)

-- the buffer after a write to its rest from a place on
pub buffer-after : (at : ℕ) (buffer after : List ℕ) → at ≤ length buffer → put_mid at (length buffer - at) buffer after ≡ take at buffer ++ after
buffer-after at buffer after within = ap (λ l. take at buffer ++ (after ++ l)) (drop_all (length buffer - at) (drop at buffer) (omega (arith, length-drop at buffer))) ∙ ap (λ l. take at buffer ++ l) (append-nil after)

pub buffer-within : (at n : ℕ) (buffer after whole : List ℕ) → at ≤ length buffer → whole ≡ take at buffer ++ after → n ≤ length after → at + n ≤ length whole
buffer-within at n buffer after whole within is_whole fits =
    let front : length (take at buffer) ≡ at = length-take-le at buffer within in
    let all : length whole ≡ length (take at buffer) + length after = ap (λ l. length l) is_whole ∙ length-append (take at buffer) after in
    omega (arith, front, all, fits)

-- one more name gets its outcome
pub told-more : (answers : Answering) (asked : Asked) (names ends first buffer front after whole : List ℕ) (from at i : ℕ) (told : Outcome) (others : List Outcome)
    → i < length ends → i < length others → length front ≡ at → whole ≡ front ++ after
    → IsTold answers asked (take (get_or ends i 0 - from) (drop from names)) buffer told after
    → ((new : List ℕ) (rest : List Outcome) → AreTold answers asked names from (drop i ends) buffer new rest → AreTold answers asked names 0 ends first (front ++ new) (take i others ++ rest))
    → (new : List ℕ) (rest : List Outcome) → AreTold answers asked names (get_or ends i 0) (drop (i + 1) ends) (drop (at + placed told) whole) new rest
    → AreTold answers asked names 0 ends first (take (at + placed told) whole ++ new) (take (i + 1) (set others i told) ++ rest)
unfolding AreTold
told-more answers asked names ends first buffer front after whole from at i told others in_ends in_others is_at is_whole is sofar new rest given =
    let n : ℕ = placed told in
    let left : drop (at + n) whole ≡ drop n after = ap (λ l. drop (at + n) l) is_whole ∙ drop-after front after at n is_at in
    let kept : take (at + n) whole ++ new ≡ front ++ (take n after ++ new) = ap (λ l. take (at + n) l ++ new) is_whole ∙ ap (λ l. l ++ new) (take-after front after at n is_at) ∙ append_assoc front (take n after) new in
    let told_of : take (i + 1) (set others i told) ++ rest ≡ take i others ++ (told ∷ rest) = ap (λ l. l ++ rest) (take_more_set others i told in_others) ∙ append_assoc (take i others) (told ∷ []) rest in
    let here : AreTold answers asked names from (get_or ends i 0 ∷ drop (i + 1) ends) buffer (take n after ++ new) (told ∷ rest) =
    (after, new, is, refl, subst (λ l. AreTold answers asked names (get_or ends i 0) (drop (i + 1) ends) l new rest) left given) in
    subst (λ l. AreTold answers asked names 0 ends first l (take (i + 1) (set others i told) ++ rest)) (sym kept)
    (subst (λ l. AreTold answers asked names 0 ends first (front ++ (take n after ++ new)) l) (sym told_of)
    (sofar (take n after ++ new) (told ∷ rest) (subst (λ l. AreTold answers asked names from l buffer (take n after ++ new) (told ∷ rest)) (sym (drop_more ends i 0 in_ends)) here)))

-- all names get their outcomes
pub told-all : (answers : Answering) (asked : Asked) (names ends first buffer : List ℕ) (from at i : ℕ) (others : List Outcome)
    → length ends ≤ i → length others ≡ length ends
    → ((new : List ℕ) (rest : List Outcome) → AreTold answers asked names from (drop i ends) (drop at buffer) new rest → AreTold answers asked names 0 ends first (take at buffer ++ new) (take i others ++ rest))
    → AreTold answers asked names 0 ends first buffer others
unfolding AreTold
told-all answers asked names ends first buffer from at i others ended as_many sofar =
    let none : drop i ends ≡ [] = drop_all i ends ended in
    let all : take i others ++ [] ≡ others = append-nil (take i others) ∙ take_all i others (omega (arith, as_many)) in
    subst (λ l. AreTold answers asked names 0 ends first l others) (take-append-drop at buffer)
    (subst (λ l. AreTold answers asked names 0 ends first (take at buffer ++ drop at buffer) l) all
    (sofar (drop at buffer) [] (subst (λ l. AreTold answers asked names from l (drop at buffer) (drop at buffer) []) (sym none) refl)))

-- the call over many names answers 10 if the ends are wrong, or are fewer or more than the outcomes
pub texts-refused : (named : Option Asked) (asked : Asked) (limit : ℕ) (names ends buffer : List ℕ) (untold : List Outcome) → named ≡ Some asked
    → nat_eq (length untold) (length ends) && are_ends 0 (length names) ends ≡ false → TextsEndAs named limit names ends buffer buffer untold untold 10
unfolding TextsEndAs TextsEndBy
texts-refused named asked limit names ends buffer untold is wrong =
    subst (λ n. TextsEndAs n limit names ends buffer buffer untold untold 10) (sym is) (subst (λ b. TextsEndBy b (answers_at asked limit) asked names ends buffer buffer untold untold 10) (sym wrong) (refl, refl, refl))

pub texts-told : (named : Option Asked) (asked : Asked) (limit : ℕ) (names ends buffer new : List ℕ) (untold told : List Outcome) (status : ℕ) → named ≡ Some asked
    → nat_eq (length untold) (length ends) ≡ true → are_ends 0 (length names) ends ≡ true → status ≡ 0 → AreTold (answers_at asked limit) asked names 0 ends buffer new told
    → TextsEndAs named limit names ends buffer new untold told status
unfolding TextsEndAs TextsEndBy
texts-told named asked limit names ends buffer new untold told status is as_many right ok all =
    subst (λ n. TextsEndAs n limit names ends buffer new untold told status) (sym is)
    (subst (λ b. TextsEndBy b (answers_at asked limit) asked names ends buffer new untold told status) (sym (ap₂ (λ (a b : Bool). a && b) as_many right)) (ok, all))

pub not-as-many : (a b : Bool) → a ≡ false → a && b ≡ false
not-as-many a b is = ap (λ t. t && b) is

pub not-ends : (a b : Bool) → b ≡ false → a && b ≡ false
not-ends true b is = is
not-ends false b is = refl
