-- What holds of a text that begins with a piece.
use Rattle.gnu_texts.proofs.Basics.{◌≡◌, ◌≤◌, ◌<◌, ◌+◌, ◌*◌, ◌-◌, ◌==◌, ◌⊎◌, ℕ, zero, suc, Bool, true, false, not, ◌&&◌, ◌||◌, if◌then◌else◌, Option, None, Some, List, [], ◌∷◌, ◌++◌, length, take, drop, get_or, nat_eq, codes, refl, sym, ap, ◌∙◌, arith, length-drop, length-append, length-take, inl, inr, lit≤, true≢false, starts_with, ends_with, is_letter, Name, Piece, begins_part, clones, is_suffix, letter_bytes, parted, suffix_of, HasNoNames, HasNoWords, begins_whole, member_bytes, member_front, member_size, name_at, name_of, named, written_of, bytes_of, is_spaced, name_piece, operator_size, piece_at, plain_piece, sign_size, size_of}
use Rattle.gnu_texts.specs.declared.names.Name.TheVariants as names
use Rattle.gnu_texts.specs.declared.piece.Piece.TheVariants as pieces
use Rattle.gnu_texts.proofs.FrontLemmas.{front-both, front-is, front-length}

-- ## Choices

pub choose : {A : Type 0} (P : A → Type 0) (b : Bool) (x y : A) → (b ≡ true → P x) → (b ≡ false → P y) → P (if b then x else y)
choose P true x y f g = f refl
choose P false x y f g = g refl

pub and-left : (a b : Bool) → (a && b) ≡ true → a ≡ true
and-left true b h = refl
and-left false b h = absurd (cc)

pub and-right : (a b : Bool) → (a && b) ≡ true → b ≡ true
and-right true b h = h
and-right false b h = absurd (cc)

-- ## Operators

sign-within : (text : List ℕ) → sign_size text ≤ length text
unfolding sign_size
sign-within text =
    choose (λ n. n ≤ length text) (starts_with nat_eq text (codes "<=>")) _ _ (front-length text (codes "<=>"))
    (λ _. choose (λ n. n ≤ length text) (starts_with nat_eq text (codes "->") || starts_with nat_eq text (codes ">>") || starts_with nat_eq text (codes "()")) _ _
    (three (starts_with nat_eq text (codes "->")) (starts_with nat_eq text (codes ">>")) (starts_with nat_eq text (codes "()")) (front-length text (codes "->")) (front-length text (codes ">>")) (front-length text (codes "()")))
    (λ _. choose (λ n. n ≤ length text) (starts_with nat_eq text (codes ">")) _ _ (front-length text (codes ">")) (λ _. omega arith)))
  where
    three : (a b c : Bool) → (a ≡ true → 2 ≤ length text) → (b ≡ true → 2 ≤ length text) → (c ≡ true → 2 ≤ length text) → (a || b || c) ≡ true → 2 ≤ length text
    three true b c f g h e = f refl
    three false true c f g h e = g refl
    three false false c f g h e = h e

pub operator-within : (last : ℕ) (text : List ℕ) → operator_size last text ≤ length text
unfolding operator_size
operator-within last text = by (is_letter last) (starts_with nat_eq text (codes "operator")) (sign_size (drop 8 text) == 0) refl
  where
    by : (letter begins none : Bool) → starts_with nat_eq text (codes "operator") ≡ begins → (if letter || not begins || none then 0 else 8 + sign_size (drop 8 text)) ≤ length text
    by true begins none e = omega arith
    by false false none e = omega arith
    by false true true e = omega arith
    by false true false e = omega (arith, front-length text (codes "operator") e, sign-within (drop 8 text), length-drop 8 text)

-- ## Names of std

by-named : (P : Option Name → Type 0) (text : List ℕ) → ((name : Name) → starts_with nat_eq text (name_of name) ≡ true → P (Some name)) → P None → P (named text)
unfolding named name_of begins_whole
by-named P text some none =
    choose P (begins_whole text (codes "string")) _ _ (λ h. some names.String (and-left _ _ h))
    (λ _. choose P (begins_whole text (codes "ostream")) _ _ (λ h. some names.Ostream (and-left _ _ h))
    (λ _. choose P (begins_whole text (codes "istream")) _ _ (λ h. some names.Istream (and-left _ _ h))
    (λ _. choose P (begins_whole text (codes "iostream")) _ _ (λ h. some names.Iostream (and-left _ _ h))
    (λ _. choose P (begins_whole text (codes "nullptr_t")) _ _ (λ h. some names.NullPointer (and-left _ _ h)) (λ _. none)))))

by-name : (P : Option Name → Type 0) (last : ℕ) (text : List ℕ) → ((name : Name) → starts_with nat_eq text (codes "std::" ++ name_of name) ≡ true → P (Some name)) → P None → P (name_at last text)
unfolding name_at
by-name P last text some none =
    choose P (starts_with nat_eq text (codes "std::") && not (is_letter last || last == 58)) _ _
    (λ h. by-named P (drop 5 text) (λ name starts. some name (front-both text (codes "std::") (name_of name) (and-left _ _ h) starts)) none)
    (λ _. none)

-- ## Pieces

some-from : (n : ℕ) → (n == 0) ≡ false → 0 < n
some-from zero h = absurd (true≢false h)
some-from (suc n) h = omega arith

pub by-piece : (P : Piece → Type 0) (last : ℕ) (text : List ℕ) → (0 < operator_size last text → P (pieces.Operator (operator_size last text)))
    → ((name : Name) → starts_with nat_eq text (codes "std::" ++ name_of name) ≡ true → P (pieces.Named name (member_front name (drop (5 + length (name_of name)) text))))
    → (is_suffix text ≡ true → P pieces.Suffix) → (is_spaced last text ≡ true → P pieces.Spaced) → (is_spaced last text ≡ false → P pieces.Byte) → P (piece_at last text)
unfolding piece_at
by-piece P last text operator name suffix spaced byte =
    choose P (operator_size last text == 0) _ _ (λ _. by-name (λ o. P (name_piece last text o)) last text name plain) (λ h. operator (some-from (operator_size last text) h))
  where
    plain : P (plain_piece last text)
    plain = choose P (is_suffix text) _ _ suffix (λ _. choose P (is_spaced last text) _ _ spaced byte)

-- ## Texts without names that are written otherwise, and without a suffix

names-tail : (byte : ℕ) (text : List ℕ) → HasNoNames (byte ∷ text) → HasNoNames text
names-tail byte text none = record {
  istream = λ k. none.istream (suc k);
  iostream = λ k. none.iostream (suc k);
  ostream = λ k. none.ostream (suc k);
  string = λ k. none.string (suc k);
  null_pointer = λ k. none.null_pointer (suc k);
}

pub words-tail : (byte : ℕ) (text : List ℕ) → HasNoWords (byte ∷ text) → HasNoWords text
words-tail byte text none = record { names = names-tail byte text none.names; suffix = λ k. none.suffix (suc k) }

no-names : (text : List ℕ) → HasNoNames text → (name : Name) → starts_with nat_eq text (codes "std::" ++ name_of name) ≡ false
unfolding name_of
no-names text none names.Istream = none.istream 0
no-names text none names.Iostream = none.iostream 0
no-names text none names.Ostream = none.ostream 0
no-names text none names.String = none.string 0
no-names text none names.NullPointer = none.null_pointer 0

suffix-starts : (text : List ℕ) → is_suffix text ≡ true → starts_with nat_eq text (codes " (.") ≡ true
unfolding is_suffix
suffix-starts text h = and-left _ _ (and-left _ _ h)

-- in a text for which `HasNoWords` holds, a piece is one of three: an operator's name, a bracket with a blank before
-- it, or a byte
pub by-few : (P : Piece → Type 0) (last : ℕ) (text : List ℕ) → HasNoWords text → (0 < operator_size last text → P (pieces.Operator (operator_size last text)))
    → (is_spaced last text ≡ true → P pieces.Spaced) → (is_spaced last text ≡ false → P pieces.Byte) → P (piece_at last text)
by-few P last text none operator spaced byte =
    by-piece P last text operator (λ name starts. absurd (true≢false (sym starts ∙ no-names text none.names name)))
    (λ suffix. absurd (true≢false (sym (suffix-starts text suffix) ∙ none.suffix 0))) spaced byte

-- ## How long what is written is

-- a piece is a part of its text, and what is written for it is no shorter; the written length is at most twice the piece's,
-- or at most thirty less than ten times the piece's
pub record IsSized (piece : Piece) (text : List ℕ) : Type 0 where
  pub some : 0 < size_of piece text
  pub within : size_of piece text ≤ length text
  pub longer : size_of piece text ≤ length (bytes_of piece text)
  pub bounded : (length (bytes_of piece text) ≤ 2 * size_of piece text) ⊎ (length (bytes_of piece text) + 30 ≤ 10 * size_of piece text)

take-some : (text : List ℕ) → 0 < length text → length (take 1 text) ≡ 1
take-some text some = omega (arith, length-take 1 text, some)

sized-operator : (last : ℕ) (text : List ℕ) → 0 < operator_size last text → IsSized (pieces.Operator (operator_size last text)) text
unfolding size_of bytes_of
sized-operator last text some =
    let within = operator-within last text in
    let same : length (take (operator_size last text) text) ≡ operator_size last text = omega (arith, length-take (operator_size last text) text, within) in
    record { some = some; within = within; longer = omega (arith, same); bounded = inl (omega (arith, same)) }

sized-byte : (text : List ℕ) → 0 < length text → IsSized pieces.Byte text
unfolding size_of bytes_of
sized-byte text some = record {
  some = omega arith;
  within = some;
  longer = omega (arith, take-some text some);
  bounded = inl (omega (arith, take-some text some));
}

sized-spaced : (text : List ℕ) → 0 < length text → IsSized pieces.Spaced text
unfolding size_of bytes_of
sized-spaced text some = record {
  some = omega arith;
  within = some;
  longer = omega (arith, take-some text some);
  bounded = inl (omega (arith, take-some text some));
}

-- what is written for a name is no shorter than the name with `std::`, and at most thirty less than ten times as long
written-long : (name : Name) → (5 + length (name_of name) ≤ length (written_of name)) × (length (written_of name) + 30 ≤ 10 * (5 + length (name_of name)))
unfolding name_of written_of
written-long names.Istream = (lit≤ tt, lit≤ tt)
written-long names.Iostream = (lit≤ tt, lit≤ tt)
written-long names.Ostream = (lit≤ tt, lit≤ tt)
written-long names.String = (lit≤ tt, lit≤ tt)
written-long names.NullPointer = (lit≤ tt, lit≤ tt)

-- the name of a constructor or destructor, and what comes before it, are within the text
front-within : (name : Name) (text : List ℕ) → (member_size name (member_front name text) ≤ length text) × (member_front name text ≤ length text)
unfolding member_front begins_whole
front-within name text =
    let Fits : ℕ → Type 0 = λ n. (member_size name n ≤ length text) × (n ≤ length text) in
    choose Fits (starts_with nat_eq text (codes "::~") && begins_whole (drop 3 text) (name_of name)) _ _
    (λ h. let front = front-length text (codes "::~") (and-left _ _ h) in
    (omega (arith, front, length-drop 3 text, front-length (drop 3 text) (name_of name) (and-left _ _ (and-right (starts_with nat_eq text (codes "::~")) _ h))), front))
    (λ _. choose Fits (starts_with nat_eq text (codes "::") && begins_whole (drop 2 text) (name_of name)) _ _
    (λ h. let front = front-length text (codes "::") (and-left _ _ h) in
    (omega (arith, front, length-drop 2 text, front-length (drop 2 text) (name_of name) (and-left _ _ (and-right (starts_with nat_eq text (codes "::")) _ h))), front))
    (λ _. (omega arith, omega arith)))

name-some : (name : Name) → 0 < length (name_of name)
unfolding name_of
name-some names.Istream = lit≤ tt
name-some names.Iostream = lit≤ tt
name-some names.Ostream = lit≤ tt
name-some names.String = lit≤ tt
name-some names.NullPointer = lit≤ tt

member-long : (name : Name) (text : List ℕ) (front : ℕ) → front ≤ length text
    → (member_size name front ≤ length (member_bytes name front text)) × (length (member_bytes name front text) ≤ 10 * member_size name front)
member-long name text front within = by (front == 0)
  where
    by : (b : Bool) → let bytes : List ℕ = (if b then [] else take front text ++ codes "basic_" ++ name_of name) in let size : ℕ = (if b then 0 else front + length (name_of name)) in (size ≤ length bytes) × (length bytes ≤ 10 * size)
    by true = (omega arith, omega arith)
    by false =
        let long : length (take front text ++ codes "basic_" ++ name_of name) ≡ front + length (name_of name) + 6 =
        omega (arith, within, length-append (take front text ++ codes "basic_") (name_of name), length-append (take front text) (codes "basic_"), length-take front text) in
        (omega (arith, long), omega (arith, long, name-some name))

sized-name : (name : Name) (text : List ℕ) → starts_with nat_eq text (codes "std::" ++ name_of name) ≡ true
    → IsSized (pieces.Named name (member_front name (drop (5 + length (name_of name)) text))) text
unfolding size_of bytes_of
sized-name name text starts =
    let behind = drop (5 + length (name_of name)) text in
    let front = member_front name behind in
    let here = front-length text (codes "std::" ++ name_of name) starts in
    let there = front-within name behind in
    let written = written-long name in
    let member = member-long name behind front there.1 in
    let both = length-append (written_of name) (member_bytes name front behind) in
    record {
      some = omega arith;
      within = omega (arith, here, there.0, length-append (codes "std::") (name_of name), length-drop (5 + length (name_of name)) text);
      longer = omega (arith, written.0, member.0, both);
      bounded = inr (omega (arith, written.1, member.1, both));
    }

-- at least one byte and at most ten are written for a byte of a suffix
letter-long : (byte : ℕ) (text : List ℕ) → (1 ≤ length (letter_bytes (byte ∷ text))) × (length (letter_bytes (byte ∷ text)) ≤ 10)
letter-long byte text =
    choose (λ bytes. (1 ≤ length bytes) × (length bytes ≤ 10)) (begins_part (byte ∷ text)) (codes "] [clone .") (take 1 (byte ∷ text)) (λ _. (lit≤ tt, lit≤ tt)) (λ _. (omega arith, omega arith))

parted-long : (text : List ℕ) → (length text ≤ length (parted text)) × (length (parted text) ≤ 10 * length text)
unfolding parted
parted-long [] = (omega arith, omega arith)
parted-long (byte ∷ text) =
    let here = letter-long byte text in
    let rest = parted-long text in
    let both = length-append (letter_bytes (byte ∷ text)) (parted text) in
    (omega (arith, here.0, rest.0, both), omega (arith, here.1, rest.1, both))

-- a suffix has four bytes or more
pub suffix-some : (text : List ℕ) → is_suffix text ≡ true → 4 ≤ length text
unfolding is_suffix
suffix-some text h =
    let both = and-left _ _ h in
    let front = and-left _ _ both in
    by text (front-length text (codes " (.") front) front (and-right (starts_with nat_eq text (codes " (.")) _ both)
  where
    by : (text : List ℕ) → 3 ≤ length text → starts_with nat_eq text (codes " (.") ≡ true → ends_with nat_eq text (codes ")") ≡ true → 4 ≤ length text
    by [] some front end = absurd (omega (arith, some))
    by (a ∷ []) some front end = absurd (omega (arith, some))
    by (a ∷ b ∷ []) some front end = absurd (omega (arith, some))
    by (a ∷ b ∷ c ∷ []) some front end =
        let text : List ℕ = a ∷ b ∷ c ∷ [] in
        let is_dot : c ≡ 46 = ap (λ t. get_or t 2 0) (front-is text (codes " (.") front) in
        absurd (true≢false (sym end ∙ ap (λ byte. ends_with nat_eq (a ∷ b ∷ byte ∷ []) (codes ")")) is_dot))
    by (a ∷ b ∷ c ∷ d ∷ text) some front end = omega arith

sized-suffix : (text : List ℕ) → is_suffix text ≡ true → IsSized pieces.Suffix text
unfolding size_of bytes_of
sized-suffix text h =
    let some = suffix-some text h in
    let own = suffix_of text in
    let rest = parted-long (drop 1 own) in
    let own_long : length own ≡ length text - 3 = omega (arith, some, length-take (length text - 3) (drop 2 text), length-drop 2 text) in
    let long : length (clones own) ≡ 10 + length (parted (drop 1 own)) = omega (arith, length-append (codes " [clone ." ++ parted (drop 1 own)) (codes "]"), length-append (codes " [clone .") (parted (drop 1 own))) in
    record {
      some = omega (arith, some);
      within = omega arith;
      longer = omega (arith, some, long, own_long, rest.0, length-drop 1 own);
      bounded = inr (omega (arith, some, long, own_long, rest.1, length-drop 1 own));
    }

pub sized : (last : ℕ) (text : List ℕ) → 0 < length text → IsSized (piece_at last text) text
sized last text some =
    by-piece (λ piece. IsSized piece text) last text (sized-operator last text) (λ name. sized-name name text) (sized-suffix text) (λ _. sized-spaced text some) (λ _. sized-byte text some)
