-- A shortened text isn't longer than the text that it was made from.
use Rattle.short_names.proofs.Basics.{◌≡◌, ◌≤◌, ◌+◌, ◌-◌, ◌==◌, ◌&&◌, refl, ap, ℕ, zero, suc, arith, Bool, true, false, List, [], ◌∷◌, ◌++◌, length, take, drop, Option, None, Some, is_some, nat_eq, codes, length-append, length-drop, length-take, if◌then◌else◌, starts_with, front, inner, std_front, std_size, without_inlines, IsNoLonger, named_in, std_name, is_name_byte, begins_std, run_of, operator_size, short, short_rules, shortened, taken, for_list, for_name, Answer, Opened, Written, Stepped, by_rules, text_or, closed_text, written_for, stepped, start, at_name, at_plain, at_byte, at_sign, sign_of, keeps, opens, closes_list, closes_group, ends_element, is_list, is_opening, is_closing, before_last, all_of, ended}
use Rattle.short_names.proofs.ListLemmas.{ended-push, joined-push}
use Rattle.short_names.proofs.NameSteps.{run-within, starts-within}
use Rattle.short_names.proofs.ShorterLemmas.{IsShort, list-shorter, name-short}

-- ## A step

-- a step takes bytes of the text, and writes no more than it takes
abbrev Steps : (room : ℕ) → Written → Option Stepped → Type 0
Steps room written None = Unit {0}
Steps room written (Some next) = (length (all_of next.written) ≤ length (all_of written) + next.size) × (next.size ≤ room)

choose : (room : ℕ) (written : Written) (b : Bool) (x y : Option Stepped) → (b ≡ true → Steps room written x) → (b ≡ false → Steps room written y) → Steps room written (if b then x else y)
choose room written true x y f g = f refl
choose room written false x y f g = g refl

length-all : (opened : List Opened) (last : List ℕ) → length (all_of (record { opened = opened; last = last })) ≡ length (before_last opened) + length last
length-all opened last = length-append (before_last opened) last

length-before : (top : Opened) (around : List Opened)
    → length (before_last (top ∷ around)) ≡ length (before_last around) + length top.before + length top.name + 1 + length (ended top.elements)
unfolding before_last
length-before top around =
    omega (
      arith,
      length-append (before_last around ++ top.before ++ top.name) (top.bracket ∷ ended top.elements),
      length-append (before_last around ++ top.before) top.name,
      length-append (before_last around) top.before,
    )

step-keeps : (room : ℕ) (bytes : List ℕ) (written : Written) → length bytes ≤ room → Steps room written (keeps bytes written)
step-keeps room bytes written within =
    (omega (arith, length-all written.opened (written.last ++ bytes), length-all written.opened written.last, length-append written.last bytes), within)

step-opens : (room bracket : ℕ) (name : List ℕ) (written : Written) → length name + 1 ≤ room → Steps room written (opens bracket name written)
unfolding ended
step-opens room bracket name written within =
    let top : Opened = record { bracket = bracket; name = name; before = written.last; elements = [] } in
    (omega (arith, length-all (top ∷ written.opened) [], length-before top written.opened, length-all written.opened written.last), within)

step-list : (room : ℕ) (list : Opened) (around : List Opened) (last rest : List ℕ) → 1 + length rest ≤ room
    → Steps room (record { opened = list ∷ around; last = last }) (closes_list short_rules list around last rest)
step-list room list around last rest within =
    let elements : List (List ℕ) = list.elements ++ last ∷ [] in
    let answer : Answer = for_list (named_in list.name) list.name elements rest in
    let shorter = list-shorter list.name rest elements (omega (arith, length-append list.elements (last ∷ []))) in (
      omega (
        arith,
        shorter.short,
        ap length (joined-push list.elements last),
        length-append (ended list.elements) last,
        length-all (list ∷ around) last,
        length-before list around,
        length-all around (list.before ++ answer.bytes),
        length-append list.before answer.bytes,
      ),
      omega (arith, shorter.within, within),
    )

step-group : (room : ℕ) (group : Opened) (around : List Opened) (byte : ℕ) (last : List ℕ) → 1 ≤ room
    → Steps room (record { opened = group ∷ around; last = last }) (closes_group group around byte last)
step-group room group around byte last within = (
  omega (
    arith,
    length-all (group ∷ around) last,
    length-before group around,
    length-all around (group.before ++ group.bracket ∷ last ++ byte ∷ []),
    length-append (group.before ++ group.bracket ∷ last) (byte ∷ []),
    length-append group.before (group.bracket ∷ last),
  ),
  within,
)

step-element : (room : ℕ) (list : Opened) (around : List Opened) (last : List ℕ) → 2 ≤ room
    → Steps room (record { opened = list ∷ around; last = last }) (ends_element list around last)
step-element room list around last within =
    let longer : Opened = record list { elements = list.elements ++ last ∷ [] } in (
      omega (
        arith,
        length-all (list ∷ around) last,
        length-before list around,
        length-all (longer ∷ around) [],
        length-before longer around,
        ap length (ended-push list.elements last),
        length-append (ended list.elements ++ last) (codes ", "),
        length-append (ended list.elements) last,
      ),
      within,
    )

step-plain : (room : ℕ) (run rest : List ℕ) (written : Written) (o : Option Answer) → length run + length rest ≤ room → IsShort run rest o → Steps room written (at_plain run rest written o)
step-plain room run rest written None within is = step-keeps room (run ++ sign_of written.opened run rest) written (omega (arith, within, length-append run (sign_of written.opened run rest), sign written.opened))
  where
    sign : (opened : List Opened) → length (sign_of opened run rest) ≤ length rest
    sign [] = omega arith
    sign (top ∷ around) = omega (arith, length-take (operator_size run rest) rest)
step-plain room run rest written (Some answer) within is =
    (omega (arith, is.0, length-all written.opened (written.last ++ answer.bytes), length-all written.opened written.last, length-append written.last answer.bytes), omega (arith, is.1, within))

step-name : (room : ℕ) (run rest : List ℕ) (written : Written) → length run + length rest ≤ room → Steps room written (at_name short_rules run rest written)
step-name room run rest written within =
    choose room written (starts_with nat_eq rest (codes "<") && is_some (named_in run)) (opens 60 run written) (at_plain run rest written (for_name run rest (std_name run)))
    (λ list. step-opens room 60 run written (omega (arith, within, opening (starts_with nat_eq rest (codes "<")) (is_some (named_in run)) refl list)))
    (λ _. step-plain room run rest written (for_name run rest (std_name run)) within (name-short run rest))
  where
    opening : (a b : Bool) → starts_with nat_eq rest (codes "<") ≡ a → (a && b) ≡ true → 1 ≤ length rest
    opening true b e h = starts-within rest (codes "<") e
    opening false b e h = absurd (cc)

step-sign : (top : Opened) (around : List Opened) (byte : ℕ) (rest last : List ℕ)
    → Steps (length (byte ∷ rest)) (record { opened = top ∷ around; last = last }) (at_sign short_rules top around byte rest (record { opened = top ∷ around; last = last }))
unfolding at_sign
step-sign top around byte rest last =
    let room : ℕ = length (byte ∷ rest) in
    let written : Written = record { opened = top ∷ around; last = last } in
    choose room written (is_opening byte) _ _ (λ _. step-opens room byte [] written (omega arith))
    (λ _. choose room written (byte == 62) _ _
    (λ _. choose room written (is_list top) _ _ (λ _. step-list room top around last rest (omega arith)) (λ _. tt))
    (λ _. choose room written (is_closing byte) _ _
    (λ _. choose room written (is_list top) _ _ (λ _. tt) (λ _. step-group room top around byte last (omega arith)))
    (λ _. choose room written (is_list top && starts_with nat_eq (byte ∷ rest) (codes ", ")) _ _
    (λ comma. step-element room top around last (blank (is_list top) (starts_with nat_eq (byte ∷ rest) (codes ", ")) refl comma))
    (λ _. choose room written (starts_with nat_eq (byte ∷ rest) (codes "->")) _ _ (λ arrow. step-keeps room (codes "->") written (starts-within (byte ∷ rest) (codes "->") arrow)) (λ _. step-keeps room (byte ∷ []) written (omega arith))))))
  where
    blank : (a b : Bool) → starts_with nat_eq (byte ∷ rest) (codes ", ") ≡ b → (a && b) ≡ true → 2 ≤ length (byte ∷ rest)
    blank true true e h = starts-within (byte ∷ rest) (codes ", ") e
    blank true false e h = absurd (cc)
    blank false b e h = absurd (cc)

step-byte : (byte : ℕ) (rest : List ℕ) (opened : List Opened) (last : List ℕ)
    → Steps (length (byte ∷ rest)) (record { opened = opened; last = last }) (at_byte short_rules opened byte rest (record { opened = opened; last = last }))
step-byte byte rest [] last = step-keeps (length (byte ∷ rest)) (byte ∷ []) (record { opened = []; last = last }) (omega arith)
step-byte byte rest (top ∷ around) last = step-sign top around byte rest last

step : (byte : ℕ) (rest : List ℕ) (written : Written) → Steps (length (byte ∷ rest)) written (stepped short_rules byte rest written)
unfolding stepped
step byte rest written =
    let text : List ℕ = byte ∷ rest in
    let run : List ℕ = run_of text in
    choose (length text) written (is_name_byte byte) (at_name short_rules run (drop (length run) text) written) (at_byte short_rules written.opened byte rest written)
    (λ _. step-name (length text) run (drop (length run) text) written (omega (arith, run-within text, length-drop (length run) text)))
    (λ _. step-byte byte rest written.opened written.last)

-- ## A text

abbrev Ends : (room : ℕ) → Written → Option Written → Type 0
Ends room written None = Unit {0}
Ends room written (Some last) = length (all_of last) ≤ length (all_of written) + room

ends : (skipped : ℕ) (text : List ℕ) (written : Written) → skipped ≤ length text → Ends (length text - skipped) written (written_for short_rules skipped text written)
unfolding written_for
ends skipped [] written within = omega arith
ends (suc skipped) (byte ∷ text) written within = fewer (length text - skipped) (length (byte ∷ text) - suc skipped) written _ (omega arith) (ends skipped text written (omega (arith, within)))
  where
    fewer : (n m : ℕ) (written : Written) (o : Option Written) → n ≤ m → Ends n written o → Ends m written o
    fewer n m written None le is = tt
    fewer n m written (Some last) le is = omega (arith, le, is)
ends zero (byte ∷ text) written within = by (λ n next h. ends n text next h) (stepped short_rules byte text written) (step byte text written)
  where
    more : (next : Stepped) (o : Option Written) → (length (all_of next.written) ≤ length (all_of written) + next.size) → next.size ≤ length (byte ∷ text)
        → Ends (length text - (next.size - 1)) next.written o → Ends (length (byte ∷ text) - 0) written o
    more next None less room is = tt
    more next (Some last) less room is = omega (arith, less, room, is)

    by : ((n : ℕ) (next : Written) → n ≤ length text → Ends (length text - n) next (written_for short_rules n text next)) → (o : Option Stepped) → Steps (length (byte ∷ text)) written o
        → Ends (length (byte ∷ text) - 0) written (elim o [ None ↦ None | Some next ↦ written_for short_rules (next.size - 1) text next.written ])
    by again None is = tt
    by again (Some next) is = more next _ is.0 is.1 (again (next.size - 1) next.written (omega (arith, is.1)))

short-length : (text : List ℕ) → length (short text) ≤ length text
unfolding short by_rules before_last
short-length text = by (written_for short_rules 0 text start) (ends 0 text start (omega arith))
  where
    closed : (opened : List Opened) (last : List ℕ) → length (all_of (record { opened = opened; last = last })) ≤ length (all_of start) + (length text - 0) → length (closed_text text opened last) ≤ length text
    closed [] last is = omega (arith, is)
    closed (top ∷ around) last is = omega arith

    by : (o : Option Written) → Ends (length text - 0) start o → length (text_or text o) ≤ length text
    by None is = omega arith
    by (Some written) is = closed written.opened written.last is

-- ## Inline namespaces

without-length : (in_run : Bool) (skipped : ℕ) (text : List ℕ) → length (without_inlines in_run skipped text) ≤ length text - skipped
unfolding without_inlines
without-length in_run skipped [] = omega arith
without-length in_run (suc skipped) (byte ∷ text) = omega (arith, without-length (is_name_byte byte) skipped text)
without-length true zero (byte ∷ text) = omega (arith, without-length (is_name_byte byte) zero text)
without-length false zero (byte ∷ text) = by (λ b k. without-length b k text) (begins_std (byte ∷ text)) refl
  where
    by : ((b : Bool) (k : ℕ) → length (without_inlines b k text) ≤ length text - k) → (b : Bool) → begins_std (byte ∷ text) ≡ b
        → length {A = ℕ} (elim b [ true ↦ std_front (byte ∷ text) ++ without_inlines true (std_size (byte ∷ text) - 1) text | false ↦ byte ∷ without_inlines (is_name_byte byte) zero text ]) ≤ length (byte ∷ text) - 0
    by again true begins =
        let all : List ℕ = byte ∷ text in
        let name : List ℕ = drop 5 all in
        omega (
          arith,
          starts-within all (codes "std::") begins,
          again true (std_size all - 1),
          length-append (std_front all) (without_inlines true (std_size all - 1) text),
          length-append (codes "std::") (take (inner name) (drop (front name) name)),
          length-take (inner name) (drop (front name) name),
          length-drop (front name) name,
          length-drop 5 all,
        )
    by again false other = omega (arith, again (is_name_byte byte) zero)

taken-length : (keeps_inline : Bool) (text : List ℕ) → length (taken keeps_inline text) ≤ length text
unfolding taken
taken-length true text = omega arith
taken-length false text = omega (arith, without-length false 0 text)

pub no-longer : (keeps_inline : Bool) (text : List ℕ) → IsNoLonger keeps_inline text
unfolding shortened
no-longer keeps_inline text = omega (arith, short-length (taken keeps_inline text), taken-length keeps_inline text)
