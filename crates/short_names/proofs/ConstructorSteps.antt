-- Usual names, or their lists, before a constructor or destructor.
use Rattle.short_names.proofs.Basics.{◌≡◌, ◌==◌, ◌≤◌, ◌<◌, ◌+◌, ◌-◌, ◌&&◌, ◌||◌, not, refl, sym, ap, ap₂, ◌∙◌, leb-true, ℕ, arith, Bool, true, false, List, [], ◌∷◌, ◌++◌, length, take, drop, get_or, nat_eq, nat_le, codes, get_or-drop, Option, None, Some, is_some, if◌then◌else◌, append_assoc, length-append, length-drop, and_parts, true≢false, drop-append-le, list_all, starts_with, Alias, ALIASES, joined, listed, left, left_of, is_polymorphic, full_to, full_rules, usual, usual_in, instance, pmr_in, named_in, last_part, class_of, front_size, is_constructor, ends_name, member_in, each_written, as_it_is, has_some, each_apart, is_simple_list, short_bytes, is_letter, is_name_byte, short_rules, short_list, if_read_back, is_read_back, member, text_of, IsUsual, IsConstructed, is_listed, front_of, run_with, beyond, are_clear, Answer, written_for}
use Rattle.short_names.specs.Full as of_full
use Rattle.short_names.specs.Short as of_short
use Rattle.short_names.proofs.FrontLemmas.{begins, false-from, front-is}
use Rattle.short_names.proofs.PartForms.{and-both}
use Rattle.short_names.proofs.PartRules.{short-leaves, full-leaves, letter-name, short-obeys}
use Rattle.short_names.proofs.PartSteps.{IsBehind, at, behind-all, byte-outside, name-answers-over, name-opens, name-stays}
use Rattle.short_names.proofs.PartWalks.{each-goes, other-parts}
use Rattle.short_names.proofs.MemberSteps.{front-behind, get-behind}
use Rattle.short_names.proofs.UsualSteps.{listed-calls, name-parts, list-text, run_parts, full-list}

-- ## Three bytes and what comes after them

-- whether a text that is long enough begins with a front doesn't depend on what comes after it
starts-more : (x rest p : List ℕ) → length p ≤ length x → starts_with nat_eq (x ++ rest) p ≡ starts_with nat_eq x p
starts-more x rest p long = by (starts_with nat_eq x p) refl
  where
    by : (b : Bool) → starts_with nat_eq x p ≡ b → starts_with nat_eq (x ++ rest) p ≡ b
    by true e = begins (x ++ rest) p (drop (length p) x ++ rest) (ap (λ t. t ++ rest) (front-is x p e) ∙ append_assoc p (drop (length p) x) rest)
    by false e =
        false-from (starts_with nat_eq (x ++ rest) p) (λ h.
        true≢false (sym (begins x p (drop (length p) x) (cut p x (sym (front-is (x ++ rest) p h)) long)) ∙ e))
      where
        cut : (p x : List ℕ) → p ++ drop (length p) (x ++ rest) ≡ x ++ rest → length p ≤ length x → x ≡ p ++ drop (length p) x
        cut [] x is h = refl
        cut (b ∷ p) [] is h = absurd (omega (arith, h))
        cut (b ∷ p) (c ∷ x) is h =
            ap₂ (λ y t. y ∷ t) (sym (ap (λ t. get_or t 0 0) is)) (cut p x (ap (drop 1) is) (omega (arith, h)))

pub ends-stays : (x rest : List ℕ) → 2 < length x → ends_name (x ++ rest) ≡ ends_name x
unfolding ends_name
ends-stays [] rest long = absurd (omega (arith, long))
ends-stays (byte ∷ x) rest long = ap (λ b. b || not (is_name_byte byte || byte == 60)) (starts-more (byte ∷ x) rest (codes "::") (omega (arith, long)))

front-stays : (x rest : List ℕ) → 2 < length x → front_size (x ++ rest) ≡ front_size x
front-stays x rest long = ap (λ (b : Bool). if b then 3 else 2) (starts-more x rest (codes "::~") (omega (arith, long)))

front-few : (x : List ℕ) → front_size x ≤ 3
front-few x = by (starts_with nat_eq x (codes "::~"))
  where
    by : (b : Bool) → (if b then 3 else 2) ≤ 3
    by true = omega arith
    by false = omega arith

module _ (rest class : List ℕ) (behind : IsBehind rest) (all : list_all is_name_byte class ≡ true) where
  same-start : (y : List ℕ) → starts_with nat_eq (y ++ rest) class ≡ starts_with nat_eq y class
  same-start y = by (starts_with nat_eq y class) refl
    where
      by : (b : Bool) → starts_with nat_eq y class ≡ b → starts_with nat_eq (y ++ rest) class ≡ b
      by true e = begins (y ++ rest) class (drop (length class) y ++ rest) (ap (λ t. t ++ rest) (front-is y class e) ∙ append_assoc class (drop (length class) y) rest)
      by false e = front-behind y class rest behind all e

  no-letter : is_letter (get_or rest 0 0) ≡ false
  no-letter = false-from (is_letter (get_or rest 0 0)) (λ h. true≢false (sym (letter-name (get_or rest 0 0) h) ∙ behind))

  -- whether a letter follows the class's name at the front of a text doesn't depend on the bytes after the text
  same-next : (y : List ℕ) → starts_with nat_eq y class ≡ true → is_letter (get_or (y ++ rest) (length class) 0) ≡ is_letter (get_or y (length class) 0)
  unfolding is_letter
  same-next y is =
      let d : List ℕ = drop (length class) y in
      let whole : y ≡ class ++ d = front-is y class is in
      ap (λ t. is_letter (get_or (t ++ rest) (length class) 0)) whole
      ∙ ap (λ t. is_letter (get_or t (length class) 0)) (append_assoc class d rest)
      ∙ ap is_letter (get-behind class (d ++ rest)) ∙ by d
      ∙ sym (ap (λ t. is_letter (get_or t (length class) 0)) whole ∙ ap is_letter (get-behind class d))
    where
      by : (d : List ℕ) → is_letter (get_or (d ++ rest) 0 0) ≡ is_letter (get_or d 0 0)
      by [] = no-letter
      by (b ∷ d) = refl

  pub constructor-stays : (x : List ℕ) → 2 < length x → is_constructor (x ++ rest) class ≡ is_constructor x class
  unfolding is_constructor
  constructor-stays x long =
      ap (λ b. b && starts_with nat_eq (drop (front_size (x ++ rest)) (x ++ rest)) class && not (is_letter (get_or (x ++ rest) (front_size (x ++ rest) + length class) 0))) (starts-more x rest (codes "::") (omega (arith, long)))
      ∙ ap (λ k. starts_with nat_eq x (codes "::") && starts_with nat_eq (drop k (x ++ rest)) class && not (is_letter (get_or (x ++ rest) (k + length class) 0))) (front-stays x rest long)
      ∙ by (starts_with nat_eq x (codes "::")) (front_size x) (omega (arith, front-few x, long))
    where
      next : (k : ℕ) (t : List ℕ) → is_letter (get_or t (k + length class) 0) ≡ is_letter (get_or (drop k t) (length class) 0)
      next k t = ap is_letter (sym (get_or-drop k t (length class) 0))

      inner : (y : List ℕ) (b : Bool) → starts_with nat_eq y class ≡ b → (b && not (is_letter (get_or (y ++ rest) (length class) 0))) ≡ (b && not (is_letter (get_or y (length class) 0)))
      inner y true e = ap not (same-next y e)
      inner y false e = refl

      both : (k : ℕ) → k ≤ length x → (starts_with nat_eq (drop k (x ++ rest)) class && not (is_letter (get_or (x ++ rest) (k + length class) 0))) ≡ (starts_with nat_eq (drop k x) class && not (is_letter (get_or x (k + length class) 0)))
      both k within =
          let y : List ℕ = drop k x in
          let is : drop k (x ++ rest) ≡ y ++ rest = drop-append-le k x rest within in
          ap₂ (λ a b. a && not b) (ap (λ t. starts_with nat_eq t class) is ∙ same-start y) (next k (x ++ rest) ∙ ap (λ t. is_letter (get_or t (length class) 0)) is)
          ∙ inner y (starts_with nat_eq y class) refl
          ∙ ap (λ b. starts_with nat_eq y class && not b) (sym (next k x))

      by : (b : Bool) (k : ℕ) → k ≤ length x
          → (b && starts_with nat_eq (drop k (x ++ rest)) class && not (is_letter (get_or (x ++ rest) (k + length class) 0))) ≡ (b && starts_with nat_eq (drop k x) class && not (is_letter (get_or x (k + length class) 0)))
      by true k within = both k within
      by false k within = refl

-- ## Names with a constructor

-- the usual names with which a name begins don't depend on what comes after three more bytes
pub same-clear : (rows : List Alias) (name more rest : List ℕ) → IsBehind rest → are_clear rows name more ≡ true
    → (usual_in rows name ((name ++ more) ++ rest) ≡ usual_in rows name (name ++ more)) × (member_in rows name ((name ++ more) ++ rest) ≡ member_in rows name (name ++ more))
unfolding are_clear usual_in member_in
same-clear [] name more rest behind clear = (refl, refl)
same-clear (row ∷ rows) name more rest behind clear =
    let a = and_parts _ (are_clear rows name more) clear in
    let again = same-clear rows name more rest behind a.1 in
    by (starts_with nat_eq name (text_of row.name)) a.0 again.0 again.1
  where
    text : List ℕ
    text = name ++ more

    by : (b : Bool) → (not b || (nat_le (length (text_of row.name) + 3) (length (name ++ more)) && list_all is_name_byte (last_part (text_of row.template)))) ≡ true
        → usual_in rows name ((name ++ more) ++ rest) ≡ usual_in rows name (name ++ more) → member_in rows name ((name ++ more) ++ rest) ≡ member_in rows name (name ++ more)
        → ((if b && ends_name (drop (length (text_of row.name)) ((name ++ more) ++ rest)) then Some row else usual_in rows name ((name ++ more) ++ rest))
        ≡ (if b && ends_name (drop (length (text_of row.name)) (name ++ more)) then Some row else usual_in rows name (name ++ more)))
        × ((if b && is_constructor (drop (length (text_of row.name)) ((name ++ more) ++ rest)) (last_part (text_of row.template)) then Some row else member_in rows name ((name ++ more) ++ rest))
        ≡ (if b && is_constructor (drop (length (text_of row.name)) (name ++ more)) (last_part (text_of row.template)) then Some row else member_in rows name (name ++ more)))
    by false h one two = (one, two)
    by true h one two =
        let c = and_parts (nat_le (length (text_of row.name) + 3) (length (name ++ more))) _ h in
        let k : ℕ = length (text_of row.name) in
        let long : k + 3 ≤ length (name ++ more) = leb-true (k + 3) (length (name ++ more)) c.0 in
        let x : List ℕ = drop k (name ++ more) in
        let is : drop k ((name ++ more) ++ rest) ≡ x ++ rest = drop-append-le k (name ++ more) rest (omega (arith, long)) in
        let three : 2 < length x = omega (arith, long, length-drop k (name ++ more)) in (
          ap₂ (λ (b : Bool) o. if b then Some row else o) (ap ends_name is ∙ ends-stays x rest three) one,
          ap₂ (λ (b : Bool) o. if b then Some row else o) (ap (λ t. is_constructor t (last_part (text_of row.template))) is ∙ constructor-stays rest (last_part (text_of row.template)) behind c.1 x three) two,
        )

front-taken : (destructor : Bool) (t : List ℕ) → take (length (front_of destructor)) (front_of destructor ++ t) ≡ front_of destructor
front-taken true t = refl
front-taken false t = refl

front-begins : (destructor : Bool) (t : List ℕ) → starts_with nat_eq (front_of destructor ++ t) (codes "::") ≡ true
front-begins true t = begins (codes "::~" ++ t) (codes "::") (126 ∷ t) refl
front-begins false t = begins (codes "::" ++ t) (codes "::") t refl

front-long : (destructor : Bool) (t : List ℕ) → 0 < length t → 2 < length (front_of destructor ++ t)
front-long true t some = omega arith
front-long false t some = omega (arith, some)

front-ends : (destructor : Bool) (t : List ℕ) → ends_name (front_of destructor ++ t) ≡ true
unfolding ends_name
front-ends true t = ap (λ b. b || not (is_name_byte 58 || 58 == 60)) (front-begins true t)
front-ends false t = ap (λ b. b || not (is_name_byte 58 || 58 == 60)) (front-begins false t)

-- the run and what comes after it
run-text : (destructor : Bool) (name class rest : List ℕ) → run_with destructor name class ++ (beyond destructor class ++ rest) ≡ name ++ (front_of destructor ++ (class ++ rest))
run-text true name class rest = append_assoc name (codes "::") (126 ∷ class ++ rest)
run-text false name class rest = append_assoc name (codes "::" ++ class) rest

run-whole : (destructor : Bool) (name class : List ℕ) → length (run_with destructor name class ++ beyond destructor class) ≡ length name + (length (front_of destructor) + length class)
run-whole true name class = omega (arith, length-append (name ++ codes "::") (126 ∷ class), length-append name (codes "::"))
run-whole false name class = omega (arith, length-append (name ++ (codes "::" ++ class)) [], length-append name (codes "::" ++ class))

all-both : (x y : List ℕ) → list_all is_name_byte x ≡ true → list_all is_name_byte y ≡ true → list_all is_name_byte (x ++ y) ≡ true
all-both [] y one two = two
all-both (b ∷ x) y one two =
    let a = and_parts (is_name_byte b) (list_all is_name_byte x) one in
    and-both _ _ a.0 (all-both x y a.1 two)

run-bytes : (destructor : Bool) (name class : List ℕ) → 0 < length name → list_all is_name_byte name ≡ true → list_all is_name_byte class ≡ true
    → (0 < length (run_with destructor name class)) × (list_all is_name_byte (run_with destructor name class) ≡ true)
unfolding is_name_byte
run-bytes true name class some all class_all = (omega (arith, some, length-append name (codes "::")), all-both name (codes "::") all refl)
run-bytes false name class some all class_all = (omega (arith, some, length-append name (codes "::" ++ class)), all-both name (codes "::" ++ class) all (all-both (codes "::") class refl class_all))

behind-run : (destructor : Bool) (class rest : List ℕ) → IsBehind rest → IsBehind (beyond destructor class ++ rest)
unfolding is_name_byte is_letter
behind-run true class rest behind = refl
behind-run false class rest behind = behind

-- an answer after some bytes
abbrev some_answer : List ℕ → ℕ → Option Answer
some_answer bytes size = Some (record { bytes = bytes; size = size })

answered : (text list bytes : List ℕ) (from to more : ℕ) (answer : Answer) → answer ≡ record { bytes = bytes; size = more } → text ≡ list → from ≡ to
    → some_answer (text ++ answer.bytes) (from + answer.size) ≡ some_answer (list ++ bytes) (to + more)
answered text list bytes from to more answer is list_is size_is =
    ap (λ (a : Answer). some_answer (text ++ a.bytes) (from + a.size)) is ∙ ap₂ (λ t k. some_answer (t ++ bytes) (k + more)) list_is size_is

-- what is written for a constructor
module _ (alias : Alias) (tail front class own : List ℕ) (class_is : class_of alias ≡ class) (own_is : last_part (text_of alias.template) ≡ own)
    (sized : front_size tail ≡ length front) (taken : take (length front) tail ≡ front) where
  front_bytes : take (front_size tail) tail ≡ front
  front_bytes = ap (λ k. take k tail) sized ∙ taken

  short-built : is_constructor tail (last_part (text_of alias.template)) ≡ true → of_short.constructor alias tail ≡ record { bytes = front ++ class; size = length (front ++ own) }
  short-built test =
      ap (λ (b : Bool). if b then record {
        bytes = take (front_size tail) tail ++ class_of alias;
        size = front_size tail + length (last_part (text_of alias.template));
      } else record { bytes = []; size = 0 }) test
      ∙ ap₂ (λ t k. record { bytes = t; size = k }) (ap₂ (λ t s. t ++ s) front_bytes class_is) (ap₂ (λ j k. j + k) sized (ap length own_is) ∙ sym (length-append front own))

  full-built : is_constructor tail (class_of alias) ≡ true → of_full.constructor alias tail ≡ record { bytes = front ++ own; size = length front + length class }
  full-built test =
      ap (λ (b : Bool). if b then record {
        bytes = take (front_size tail) tail ++ last_part (text_of alias.template);
        size = front_size tail + length (class_of alias);
      } else record { bytes = []; size = 0 }) test
      ∙ ap₂ (λ t k. record { bytes = t; size = k }) (ap₂ (λ t s. t ++ s) front_bytes own_is) (ap₂ (λ j k. j + k) sized (ap length class_is))

module _ (destructor : Bool) (name list class own : List ℕ) (is : IsUsual name list) (on : IsConstructed destructor name list class own is.alias) (rest : List ℕ) (behind : IsBehind rest) (last : List ℕ) where
  front : List ℕ
  front = front_of destructor

  run : List ℕ
  run = run_with destructor name class

  more : List ℕ
  more = beyond destructor class

  class_parts : (0 < length class) × (list_all is_name_byte class ≡ true)
  class_parts = other-parts class on.class_other

  own_parts : (0 < length own) × (list_all is_name_byte own ≡ true)
  own_parts = other-parts own on.own_other

  bytes : (0 < length run) × (list_all is_name_byte run ≡ true)
  unfolding run
  bytes = let n = name-parts name is.bytes in run-bytes destructor name class n.0 n.1 class_parts.1

  nowhere : (is_some (named_in run) ≡ false) × (is_some (pmr_in run) ≡ false)
  unfolding run
  nowhere = by (is_some (named_in (run_with destructor name class))) (is_some (pmr_in (run_with destructor name class))) on.none_named
    where
      by : (a b : Bool) → (a || b) ≡ false → (a ≡ false) × (b ≡ false)
      by true b h = absurd (true≢false h)
      by false b h = (refl, h)

  found : (usual_in ALIASES on.std.name (on.std.name ++ (more ++ rest)) ≡ Some is.alias) × (member_in ALIASES on.std.name (on.std.name ++ (more ++ rest)) ≡ None)
  unfolding more
  found =
      let text = sym (append_assoc on.std.name (beyond destructor class) rest) in
      let both = same-clear ALIASES on.std.name (beyond destructor class) rest behind on.clear in (
        ap (usual_in ALIASES on.std.name) text ∙ both.0 ∙ on.alias_is,
        ap (member_in ALIASES on.std.name) text ∙ both.1 ∙ on.member_is,
      )

  -- short texts leave the name with its constructor
  pub short-by-name : written_for short_rules 0 (name ++ (front_of destructor ++ (class ++ rest))) (at [] last) ≡ written_for short_rules 0 rest (at [] (last ++ (name ++ (front_of destructor ++ class))))
  unfolding run more is_name_byte is_letter
  short-by-name =
      ap (λ t. written_for short_rules 0 t (at [] last)) (sym (run-text destructor name class rest))
      ∙ name-stays short_rules run (more ++ rest) [] last bytes.0 bytes.1 (behind-run destructor class rest behind) nowhere.0
      (ap (of_short.for_name run (more ++ rest)) on.std_is ∙ ap (member run (more ++ rest) on.std.name) found.1) refl
      ∙ by destructor
    where
      left : (short_rules.opens class ≡ false) × (short_rules.for_name class rest ≡ None)
      left = short-leaves class rest on.class_other

      by : (d : Bool) → written_for short_rules 0 (beyond d class ++ rest) (at [] (last ++ run_with d name class)) ≡ written_for short_rules 0 rest (at [] (last ++ (name ++ (front_of d ++ class))))
      by true =
          byte-outside short_rules 126 (class ++ rest) (last ++ (name ++ codes "::")) refl
          ∙ name-stays short_rules class rest [] ((last ++ (name ++ codes "::")) ++ 126 ∷ []) class_parts.0 class_parts.1 behind left.0 left.1 refl
          ∙ ap (λ t. written_for short_rules 0 rest (at [] t)) (
          append_assoc (last ++ (name ++ codes "::")) (126 ∷ []) class ∙ append_assoc last (name ++ codes "::") (126 ∷ class) ∙ ap (λ t. last ++ t) (append_assoc name (codes "::") (126 ∷ class)))
      by false = refl

  -- full texts have the list with the template's constructor
  pub full-by-name : written_for (full_rules (full_to 3)) 0 (name ++ (front_of destructor ++ (class ++ rest))) (at [] last) ≡ written_for (full_rules (full_to 3)) 0 rest (at [] (last ++ (list ++ (front_of destructor ++ own))))
  unfolding run more
  full-by-name =
      let inner : List ℕ → List ℕ = full_to 3 in
      let from : ℕ = length run - length on.std.name in
      let size : ℕ = from + length (text_of is.alias.name) in
      let x : List ℕ = front_of destructor ++ class in
      let tail : List ℕ = x ++ rest in
      let long : 2 < length x = front-long destructor class class_parts.0 in
      let sized : front_size tail ≡ length (front_of destructor) = front-stays x rest long ∙ on.class_front in
      let text : drop size (run ++ (more ++ rest)) ≡ tail =
      ap₂ drop on.size_is (run-text destructor name class rest ∙ ap (λ t. name ++ t) (sym (append_assoc (front_of destructor) class rest))) ∙ behind-all name tail in
      let test : is_constructor tail (class_of is.alias) ≡ true =
      ap (is_constructor tail) on.class_is ∙ constructor-stays rest class behind class_parts.1 x long ∙ on.class_after in
      let answer : of_full.constructor is.alias (drop size (run ++ (more ++ rest))) ≡ record { bytes = front_of destructor ++ own; size = length (front_of destructor) + length class } =
      ap (of_full.constructor is.alias) text
      ∙ full-built is.alias tail (front_of destructor) class own on.class_is on.own_is sized
      (ap (take (length (front_of destructor))) (append_assoc (front_of destructor) class rest) ∙ front-taken destructor (class ++ rest)) test in
      ap (λ t. written_for (full_rules inner) 0 t (at [] last)) (sym (run-text destructor name class rest))
      ∙ name-answers-over (full_rules inner) run more rest last (list ++ (front_of destructor ++ own)) bytes.0 bytes.1 (behind-run destructor class rest behind) on.none_named (
      ap (of_full.for_name inner run (more ++ rest)) on.std_is
      ∙ ap (usual inner on.std run (more ++ rest)) found.0
      ∙ answered (inner (take from run ++ instance on.std is.alias)) list (front_of destructor ++ own) size (length name) (length (front_of destructor) + length class)
      (of_full.constructor is.alias (drop size (run ++ (more ++ rest)))) answer on.list_is on.size_is
      ∙ ap (some_answer (list ++ (front_of destructor ++ own))) (sym (run-whole destructor name class)))

  -- for the list with the template's constructor, short texts have the usual name with the class's constructor
  pub short-by-list : written_for short_rules 0 (list ++ (front_of destructor ++ (own ++ rest))) (at [] last) ≡ written_for short_rules 0 rest (at [] (last ++ (name ++ (front_of destructor ++ class))))
  unfolding short_list
  short-by-list =
      let xs : List (List ℕ) = each_written short_bytes is.elements in
      let a = and_parts (has_some is.elements) (each_apart is_simple_list is.elements) is.apart in
      let alias : Alias = is.alias in
      let x : List ℕ = front_of destructor ++ own in
      let tail : List ℕ = x ++ rest in
      let long : 2 < length x = front-long destructor own own_parts.0 in
      let sized : front_size tail ≡ length (front_of destructor) = front-stays x rest long ∙ on.own_front in
      let apart : tail ≡ front_of destructor ++ (own ++ rest) = append_assoc (front_of destructor) own rest in
      let before : List ℕ = of_short.before_name is.named is.run ++ text_of alias.name in
      let write : Option Alias → Answer = λ o. elim o [
        | Some alias ↦ of_short.behind (of_short.before_name is.named is.run ++ text_of alias.name) (of_short.constructor alias tail)
        | None ↦ if is_polymorphic is.named xs then record {
          bytes = of_short.before_name is.named is.run ++ codes "pmr::" ++ text_of is.named.template.name ++ listed (take (left_of is.named xs (length xs - 1)) xs);
          size = 0;
        } else record { bytes = is.run ++ listed (take (left is.named xs) xs); size = 0 }
      ] in
      let test : is_constructor tail (last_part (text_of alias.template)) ≡ true =
      ap (is_constructor tail) on.own_is ∙ constructor-stays rest own behind own_parts.1 x long ∙ on.own_after in
      let read : is_read_back tail alias ≡ true =
      ap (λ e. e && (is_constructor tail (last_part (text_of alias.template)) || not (is_constructor tail (class_of alias)))) (ap ends_name apart ∙ front-ends destructor (own ++ rest))
      ∙ ap (λ b. b || not (is_constructor tail (class_of alias))) test in
      let built : of_short.constructor alias tail ≡ record { bytes = front_of destructor ++ class; size = length x } =
      short-built alias tail (front_of destructor) class own on.class_is on.own_is sized (ap (take (length (front_of destructor))) apart ∙ front-taken destructor (own ++ rest)) test in
      let answer : short_list is.named is.run xs tail ≡ record { bytes = name ++ (front_of destructor ++ class); size = length x } =
      ap (λ (o : Option Alias). write (if_read_back tail o)) is.found
      ∙ ap (λ (b : Bool). write (if b then Some alias else None)) read
      ∙ ap (of_short.behind before) built
      ∙ ap (λ t. record { bytes = t ++ (front_of destructor ++ class); size = length x }) is.short in
      let run_is = run_parts tail name list is last in
      ap (λ t. written_for short_rules 0 (list ++ t) (at [] last)) (sym apart)
      ∙ ap (λ t. written_for short_rules 0 t (at [] last)) (list-text tail name list is last)
      ∙ name-opens short_rules is.run (joined (each_written as_it_is is.elements) ++ 62 ∷ tail) [] last run_is.0 run_is.1 (ap is_some is.named_is)
      ∙ each-goes short_rules short_bytes is_simple_list short-obeys is_listed (listed-calls short_rules short_bytes) is.elements a.1 is.plain a.0 is.run last [] [] x rest (name ++ (front_of destructor ++ class)) (ap (λ o. of_short.for_list o is.run xs tail) is.named_is ∙ answer)

  -- full texts leave the list with the template's constructor
  pub full-by-list : written_for (full_rules (full_to 3)) 0 (list ++ (front_of destructor ++ (own ++ rest))) (at [] last) ≡ written_for (full_rules (full_to 3)) 0 rest (at [] (last ++ (list ++ (front_of destructor ++ own))))
  unfolding is_name_byte is_letter
  full-by-list = full-list (front_of destructor ++ (own ++ rest)) name list is last ∙ by destructor
    where
      leaves : (text follow : List ℕ) → IsBehind follow → (before : List ℕ)
          → (is_other_text : (0 < length text) × (list_all is_name_byte text ≡ true)) → (((full_rules (full_to 3)).opens text ≡ false) × ((full_rules (full_to 3)).for_name text follow ≡ None))
          → written_for (full_rules (full_to 3)) 0 (text ++ follow) (at [] before) ≡ written_for (full_rules (full_to 3)) 0 follow (at [] (before ++ text))
      leaves text follow free before other left = name-stays (full_rules (full_to 3)) text follow [] before other.0 other.1 free left.0 left.1 refl

      by : (d : Bool) → written_for (full_rules (full_to 3)) 0 (front_of d ++ (own ++ rest)) (at [] (last ++ list)) ≡ written_for (full_rules (full_to 3)) 0 rest (at [] (last ++ (list ++ (front_of d ++ own))))
      by true =
          leaves (codes "::") (126 ∷ (own ++ rest)) refl (last ++ list) (other-parts (codes "::") on.colons_other) (full-leaves (codes "::") (126 ∷ (own ++ rest)) on.colons_other (full_to 3))
          ∙ byte-outside (full_rules (full_to 3)) 126 (own ++ rest) ((last ++ list) ++ codes "::") refl
          ∙ leaves own rest behind (((last ++ list) ++ codes "::") ++ 126 ∷ []) own_parts (full-leaves own rest on.own_other (full_to 3))
          ∙ ap (λ t. written_for (full_rules (full_to 3)) 0 rest (at [] t)) (
          append_assoc ((last ++ list) ++ codes "::") (126 ∷ []) own ∙ append_assoc (last ++ list) (codes "::") (126 ∷ own) ∙ append_assoc last list (codes "::~" ++ own))
      by false =
          leaves (codes "::" ++ own) rest behind (last ++ list) (other-parts (codes "::" ++ own) on.both_other) (full-leaves (codes "::" ++ own) rest on.both_other (full_to 3))
          ∙ ap (λ t. written_for (full_rules (full_to 3)) 0 rest (at [] t)) (append_assoc last list (codes "::" ++ own))
