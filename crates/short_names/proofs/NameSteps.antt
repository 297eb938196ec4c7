-- Steps of what is written: runs of bytes of names.
use Rattle.short_names.proofs.Basics.{◌≡◌, ◌<◌, ◌≤◌, ◌+◌, ◌-◌, ◌||◌, ◌&&◌, refl, sym, ap, ◌∙◌, subst, ℕ, arith, Bool, true, false, List, [], ◌∷◌, ◌++◌, length, take, drop, get_or, None, Some, is_some, append_assoc, append-nil, length-drop, length-append, nat_eq, codes, slice_get, if◌then◌else◌, true≢false, slice_get-get_or, take-add, starts_with, Listed, Writing, Alias, Place, Template, WHOLES, ALIASES, TEMPLATES, Change, has_list, IsChange, IsMember, IsMemberOf, class_of, named_in, std_name, row_in, table_name, with_template, behind_whole, front_size, is_constructor, last_part, behind_run, is_name_byte, is_letter, run_of, begins_std, ends_operator, sign_size, operator_size, short_rules, for_name, constructor, text_of, Answer, Written, stepped, written_for, at_name, at_plain, sign_of, keeps, opens, IsAt, Goes, IsListed, AreOpen, before_last, all_of}
use Rattle.std.proofs.lemmas.List.{drop-drop, length-take, take-append-drop, take-take}
use lib.Pointwise.{bytes_decides}
use Rattle.short_names.proofs.WalkLemmas.{goes}
use Rattle.short_names.proofs.SignLemmas.{kept, opened, begun, more-bytes, top_of}
use Rattle.short_names.proofs.BracketLemmas.{here_is, and_false}

-- ## Runs

pub run-take : (text : List ℕ) → take (length (run_of text)) text ≡ run_of text
unfolding run_of
run-take [] = refl
run-take (byte ∷ text) = by (is_name_byte byte) (run-take text)
  where
    by : (b : Bool) → take (length (run_of text)) text ≡ run_of text → take (length (if b then byte ∷ run_of text else [])) (byte ∷ text) ≡ (if b then byte ∷ run_of text else [])
    by true ih = ap (λ t. byte ∷ t) ih
    by false ih = refl

pub run-within : (text : List ℕ) → length (run_of text) ≤ length text
run-within text = omega (arith, ap length (run-take text), length-take (length (run_of text)) text)

pub run-splits : (text : List ℕ) → run_of text ++ behind_run text ≡ text
run-splits text = ap (λ t. t ++ behind_run text) (sym (run-take text)) ∙ take-append-drop (length (run_of text)) text

-- a run that begins with a byte of a name isn't empty
pub run-some : (text : List ℕ) → is_name_byte (get_or text 0 0) ≡ true → 0 < length (run_of text)
unfolding run_of is_name_byte is_letter
run-some [] h = absurd (true≢false (sym h))
run-some (byte ∷ text) h = ap-some (is_name_byte byte) h
  where
    ap-some : (b : Bool) → b ≡ true → 0 < length (if b then byte ∷ run_of text else [])
    ap-some true e = omega arith
    ap-some false e = absurd (true≢false (sym e))

pub starts-within : (text needle : List ℕ) → starts_with nat_eq text needle ≡ true → length needle ≤ length text
starts-within text needle h = omega (arith, ap length (begun text needle h), length-take (length needle) text)

pick : (b : Bool) (n m l : ℕ) → (b ≡ true → n ≤ l) → m ≤ l → (if b then n else m) ≤ l
pick true n m l f g = f refl
pick false n m l f g = g

either : (a b : Bool) (n l : ℕ) → (a ≡ true → n ≤ l) → (b ≡ true → n ≤ l) → (a || b) ≡ true → n ≤ l
either true b n l f g h = f refl
either false b n l f g h = g h

sign-within : (text : List ℕ) → sign_size text ≤ length text
unfolding sign_size
sign-within text =
    let n = length text in
    pick _ 3 _ n (starts-within text (codes "<=>"))
    (pick _ 2 _ n
    (either (starts_with nat_eq text (codes "<<") || starts_with nat_eq text (codes ">>")) (starts_with nat_eq text (codes "->")) 2 n
    (either (starts_with nat_eq text (codes "<<")) (starts_with nat_eq text (codes ">>")) 2 n (starts-within text (codes "<<")) (starts-within text (codes ">>"))) (starts-within text (codes "->")))
    (pick _ 1 0 n
    (either (starts_with nat_eq text (codes "<")) (starts_with nat_eq text (codes ">")) 1 n (starts-within text (codes "<")) (starts-within text (codes ">")))
    (omega arith)))

pub operator-within : (run rest : List ℕ) → operator_size run rest ≤ length rest
operator-within run rest = pick (ends_operator run) (sign_size rest) 0 (length rest) (λ _. sign-within rest) (omega arith)

-- ## Steps

pub at_run : (text : List ℕ) (at byte : ℕ) (rest : List ℕ) (written : Written) → drop at text ≡ byte ∷ rest → is_name_byte byte ≡ true
    → stepped short_rules byte rest written ≡ at_name short_rules (run_of (drop at text)) (behind_run (drop at text)) written
unfolding stepped
at_run text at byte rest written here letter = rw letter (ap (λ t. at_name short_rules (run_of t) (behind_run t) written) (sym here))

-- a run in which nothing becomes shorter, within brackets
pub plain_run : (text : List ℕ) (now : Writing) (written : Written) (to : ℕ) → IsAt text now written → now.at < length text
    → is_name_byte (get_or text now.at 0) ≡ true → has_list (run_of (drop now.at text)) (behind_run (drop now.at text)) ≡ false
    → for_name (run_of (drop now.at text)) (behind_run (drop now.at text)) (std_name (run_of (drop now.at text))) ≡ None
    → 0 < length now.brackets.items → to ≡ now.at + (length (run_of (drop now.at text)) + operator_size (run_of (drop now.at text)) (behind_run (drop now.at text)))
    → Goes text now.at (record now { at = to })
plain_run text now written to is less letter no_list none some to_is =
    let t = top_of written now.brackets.items now.starts.items is.opened some in
    let u : List ℕ = drop now.at text in
    let run : List ℕ = run_of u in
    let rest : List ℕ = behind_run u in
    let size : ℕ = operator_size run rest in
    let byte : ℕ = get_or text now.at 0 in
    let here : drop now.at text ≡ byte ∷ drop (now.at + 1) text = here_is text now.at byte less refl in
    let bytes : List ℕ = run ++ take size rest in
    let sign_size_is : length (take size rest) ≡ size = omega (arith, length-take size rest, operator-within run rest) in
    let long : length bytes ≡ length run + size = omega (arith, length-append run (take size rest), sign_size_is) in
    let takes : take (length bytes) u ≡ bytes =
    ap (λ n. take n u) long ∙ take-add (length run) size u ∙ ap (λ r. r ++ take size rest) (run-take u) in
    let some_run : 0 < length run = run-some u (ap is_name_byte (ap (λ v. get_or v 0 0) here) ∙ letter) in
    let step : stepped short_rules byte (drop (now.at + 1) text) written ≡ keeps bytes written =
    at_run text now.at byte (drop (now.at + 1) text) written here letter
    ∙ ap (λ b. if b then opens 60 run written else at_plain run rest written (for_name run rest (std_name run))) no_list
    ∙ ap (at_plain run rest written) none
    ∙ ap (λ o. keeps (run ++ sign_of o run rest) written) t.opened_is in
    kept text now written byte (drop (now.at + 1) text) bytes to is here step takes (omega (arith, long, some_run))
    (omega (arith, long, operator-within run rest, less, length-drop now.at text, run-within u, length-drop (length run) u)) (to_is ∙ ap (λ n. now.at + n) (sym long))

-- a list after a name of the table
pub list_opens : (text : List ℕ) (now : Writing) (written : Written) (listed : Listed) (size : ℕ) (after : Writing) → size ≡ length (run_of (drop now.at text)) → IsAt text now written → now.at < length text
    → is_name_byte (get_or text now.at 0) ≡ true → starts_with nat_eq (behind_run (drop now.at text)) (codes "<") ≡ true → is_some (named_in (run_of (drop now.at text))) ≡ true
    → IsListed (run_of (drop now.at text)) (Some listed)
    → after.at ≡ now.at + size + 1 → after.copied ≡ now.copied → after.out.items ≡ now.out.items
    → after.brackets.items ≡ now.brackets.items ++ record { is_list = true; named = Some listed; place = length now.out.items + (now.at + size - now.copied); first = length now.starts.items } ∷ []
    → after.starts.items ≡ now.starts.items ++ (length now.out.items + (now.at + size - now.copied) + 1) ∷ []
    → Goes text now.at after
list_opens text now written listed size after size_is is less letter less_sign named is_listed at_is copied_is out_is brackets_are starts_are =
    let u : List ℕ = drop now.at text in
    let run : List ℕ = run_of u in
    let rest : List ℕ = behind_run u in
    let byte : ℕ = get_or text now.at 0 in
    let here : drop now.at text ≡ byte ∷ drop (now.at + 1) text = here_is text now.at byte less refl in
    let list : has_list run rest ≡ true = ap (λ b. b && is_some (named_in run)) less_sign ∙ named in
    let step : stepped short_rules byte (drop (now.at + 1) text) written ≡ opens 60 run written =
    at_run text now.at byte (drop (now.at + 1) text) written here letter
    ∙ ap (λ b. if b then opens 60 run written else at_plain run rest written (for_name run rest (std_name run))) list in
    opened text now written byte (drop (now.at + 1) text) 60 run (Some listed) after is here step
    (take-add (length run) 1 u ∙ ap (λ r. r ++ take 1 rest) (run-take u) ∙ ap (λ r. run ++ r) (begun rest (codes "<") less_sign))
    (omega (arith, starts-within rest (codes "<") less_sign, less, length-drop now.at text, run-within u, length-drop (length run) u))
    is_listed (λ e. absurd (true≢false e)) (omega (arith, at_is, size_is)) copied_is out_is
    (brackets_are ∙ ap (λ n. now.brackets.items ++ record { is_list = true; named = Some listed; place = length now.out.items + (now.at + n - now.copied); first = length now.starts.items } ∷ []) size_is)
    (starts_are ∙ ap (λ n. now.starts.items ++ (length now.out.items + (now.at + n - now.copied) + 1) ∷ []) size_is)

-- a constructor or destructor that follows a usual name has bytes
constructor-some : (alias : Alias) (rest : List ℕ) → is_constructor rest (last_part (text_of alias.template)) ≡ true → 0 < (constructor alias rest).size
constructor-some alias rest h =
    let made : Bool → Answer = λ b. if b then record {
      bytes = take (front_size rest) rest ++ class_of alias;
      size = front_size rest + length (last_part (text_of alias.template));
    } else record { bytes = []; size = 0 } in
    let size_is : (constructor alias rest).size ≡ front_size rest + length (last_part (text_of alias.template)) = ap (λ b. (made b).size) h in
    omega (arith, size_is, front-some (starts_with nat_eq rest (codes "::~")))
  where
    front-some : (b : Bool) → 2 ≤ (if b then 3 else 2)
    front-some true = omega arith
    front-some false = omega arith

pub member_goes : (text : List ℕ) (now : Writing) (written : Written) (alias : Alias) (size more : ℕ) (after : Writing) → IsAt text now written → now.at < length text
    → is_name_byte (get_or text now.at 0) ≡ true → has_list (run_of (drop now.at text)) (behind_run (drop now.at text)) ≡ false
    → IsMember (run_of (drop now.at text)) (behind_run (drop now.at text)) size alias
    → more ≡ (constructor alias (drop (now.at + size) text)).size → now.at + size + more ≤ length text
    → after.at ≡ now.at + size + more → after.copied ≡ after.at
    → after.out.items ≡ (now.out.items ++ take (now.at + size - now.copied) (drop now.copied text)) ++ (constructor alias (drop (now.at + size) text)).bytes
    → after.brackets.items ≡ now.brackets.items → after.starts.items ≡ now.starts.items → Goes text now.at after
member_goes text now written alias size more after is less letter no_list member more_is fits at_is copied_is out_is brackets_are starts_are =
    let u : List ℕ = drop now.at text in
    let run : List ℕ = run_of u in
    let rest : List ℕ = behind_run u in
    let byte : ℕ = get_or text now.at 0 in
    let here : drop now.at text ≡ byte ∷ drop (now.at + 1) text = here_is text now.at byte less refl in
    let behind : drop size (run ++ rest) ≡ drop (now.at + size) text = ap (drop size) (run-splits u) ∙ drop-drop size now.at text in
    let made : Answer = constructor alias (drop (now.at + size) text) in
    let made_is : constructor alias (drop size (run ++ rest)) ≡ made = ap (constructor alias) behind in
    let answer : Answer = record { bytes = take size run ++ made.bytes; size = size + made.size } in
    let next : Written = record written { last = written.last ++ answer.bytes } in
    let answered : for_name run rest (std_name run) ≡ Some answer =
    member.answer ∙ ap (λ (a : Answer). Some (record { bytes = take size run ++ a.bytes; size = size + a.size })) made_is in
    let step : stepped short_rules byte (drop (now.at + 1) text) written ≡ Some (record { size = answer.size; written = next }) =
    at_run text now.at byte (drop (now.at + 1) text) written here letter
    ∙ ap (λ b. if b then opens 60 run written else at_plain run rest written (for_name run rest (std_name run))) no_list
    ∙ ap (at_plain run rest written) answered ∙ ap (λ n. Some (record { size = n; written = next })) (omega arith) in
    let some : 0 < made.size = constructor-some alias (drop (now.at + size) text) (ap (λ r. is_constructor r (last_part (text_of alias.template))) (sym behind) ∙ member.constructs) in
    let nothing_left : after.at - after.copied ≡ 0 = omega (arith, copied_is) in
    let taken : take size u ≡ take size run = sym (take-take size (length run) u member.within) ∙ ap (take size) (run-take u) in
    record {
      written = next;
      is = record {
        goes_on =
            ap (λ k. written_for short_rules 0 (drop k text) next) (at_is ∙ omega (arith, more_is))
            ∙ sym (goes short_rules text now.at byte (drop (now.at + 1) text) written next answer.size here step (omega (arith, some))) ∙ is.goes_on;
        copied = omega (arith, copied_is);
        within = omega (arith, at_is, fits);
        bytes =
            ap (λ n. after.out.items ++ take n (drop after.copied text)) nothing_left ∙ append-nil _ ∙ out_is
            ∙ ap (λ t. t ++ made.bytes) (more-bytes text now.out.items now.copied now.at size (take size run) _ is.copied is.bytes taken)
            ∙ append_assoc (all_of written) (take size run) made.bytes ∙ append_assoc (before_last written.opened) written.last (take size run ++ made.bytes);
        opened = subst (λ bs. AreOpen written.opened bs after.starts.items) (sym brackets_are) (subst (λ s. AreOpen written.opened now.brackets.items s) (sym starts_are) is.opened);
      };
      further = omega (arith, at_is, more_is, some);
    }

-- ## Runs that don't begin with `std::`

pub begins-by : (text row : List ℕ) → starts_with nat_eq text row ≡ true → begins_std row ≡ true → begins_std text ≡ true
begins-by text row starts begins =
    let front : take 5 text ≡ codes "std::" =
    sym (take-take 5 (length row) text (starts-within row (codes "std::") begins)) ∙ ap (take 5) (begun text row starts) ∙ begun row (codes "std::") begins in
    (bytes_decides (codes "std::") (take 5 text)).1 (sym front)

all_std : List Place → Bool
all_std [] = true
all_std (row ∷ rows) = begins_std (text_of row) && all_std rows

and-true : (a b : Bool) → (a && b) ≡ true → (a ≡ true) × (b ≡ true)
and-true true b h = (refl, h)
and-true false b h = absurd (true≢false (sym h))

no_row : (rows : List Place) (text : List ℕ) → all_std rows ≡ true → begins_std text ≡ false → row_in rows text ≡ None
unfolding row_in all_std
no_row [] text all no_std = refl
no_row (row ∷ rows) text all no_std = by (starts_with nat_eq text (text_of row)) refl (no_row rows text (and-true (begins_std (text_of row)) (all_std rows) all).1 no_std)
  where
    by : (b : Bool) → starts_with nat_eq text (text_of row) ≡ b → row_in rows text ≡ None → (if b then Some row else row_in rows text) ≡ None
    by true e ih = absurd (true≢false (sym (begins-by text (text_of row) e (and-true (begins_std (text_of row)) (all_std rows) all).0) ∙ no_std))
    by false e ih = ih

wholes_are : all_std WHOLES ≡ true
unfolding all_std text_of
wholes_are = refl

pub no_std_name : (run : List ℕ) → begins_std run ≡ false → std_name run ≡ None
unfolding std_name
no_std_name run no_std = ap (behind_whole run) (no_row WHOLES run wholes_are no_std)

pub no_named : (run : List ℕ) → begins_std run ≡ false → named_in run ≡ None
unfolding named_in
no_named run no_std = ap table_name (no_std_name run no_std)

pub other_run : (text : List ℕ) (now : Writing) (written : Written) (to : ℕ) → IsAt text now written → now.at < length text
    → is_name_byte (get_or text now.at 0) ≡ true → begins_std (run_of (drop now.at text)) ≡ false
    → 0 < length now.brackets.items → to ≡ now.at + (length (run_of (drop now.at text)) + operator_size (run_of (drop now.at text)) (behind_run (drop now.at text)))
    → Goes text now.at (record now { at = to })
other_run text now written to is less letter no_std some to_is =
    let run : List ℕ = run_of (drop now.at text) in
    let rest : List ℕ = behind_run (drop now.at text) in
    plain_run text now written to is less letter
    (ap (λ o. starts_with nat_eq rest (codes "<") && is_some o) (no_named run no_std) ∙ and_false (starts_with nat_eq rest (codes "<")))
    (ap (for_name run rest) (no_std_name run no_std)) some to_is

-- a run at the front of a text that doesn't begin with `std::` becomes no shorter
pub nothing_shorter : (text : List ℕ) → begins_std text ≡ false
    → (has_list (run_of text) (behind_run text) ≡ false) × (for_name (run_of text) (behind_run text) (std_name (run_of text)) ≡ None)
nothing_shorter text no_std =
    let run : List ℕ = run_of text in
    let rest : List ℕ = behind_run text in
    let none : begins_std run ≡ false = by (begins_std run) refl in
    (ap (λ o. starts_with nat_eq rest (codes "<") && is_some o) (no_named run none) ∙ and_false (starts_with nat_eq rest (codes "<")), ap (for_name run rest) (no_std_name run none))
  where
    by : (b : Bool) → begins_std (run_of text) ≡ b → begins_std (run_of text) ≡ false
    by true e = absurd (true≢false (sym (begins-by text (run_of text) ((bytes_decides (run_of text) (take (length (run_of text)) text)).1 (sym (run-take text))) e) ∙ no_std))
    by false e = e

-- ## At a place of a text

-- what becomes shorter at a text is the same at an equal text
pub change_here : (u v run : List ℕ) (change : Change) → u ≡ v → run ≡ run_of u → IsChange run (drop (length run) u) change → IsChange (run_of v) (behind_run v) change
change_here u v run change same run_is h = subst (λ t. IsChange (run_of t) (behind_run t) change) same (subst (λ r. IsChange r (drop (length r) u) change) run_is h)

pub operator_here : (u v run back : List ℕ) (size more : ℕ) → u ≡ v → run ≡ run_of u → size ≡ length run → back ≡ drop size u → more ≡ operator_size run back
    → size + more ≡ length (run_of v) + operator_size (run_of v) (behind_run v)
operator_here u v run back size more same run_is size_is back_is more_is =
    let sum : List ℕ → ℕ = λ t. length (run_of t) + operator_size (run_of t) (behind_run t) in
    let by_run : List ℕ → ℕ = λ r. length r + operator_size r (drop (length r) u) in
    omega (arith, size_is, more_is ∙ ap (operator_size run) (back_is ∙ ap (λ n. drop n u) size_is), ap by_run run_is, ap sum same)

-- a row of the table
pub row_named : (run : List ℕ) (whole : Place) (row : ℕ) (d : Template) → row < length TEMPLATES → named_in run ≡ with_template whole (slice_get TEMPLATES row) → is_some (named_in run) ≡ true
row_named run whole row d within named = ap is_some (named ∙ ap (with_template whole) (slice_get-get_or TEMPLATES row d within))

pub row_member : (run rest : List ℕ) (row size : ℕ) (d : Alias) → row < length ALIASES → IsMemberOf run rest size (slice_get ALIASES row) → IsMember run rest size (get_or ALIASES row d)
row_member run rest row size d within member = subst (λ o. IsMemberOf run rest size o) (slice_get-get_or ALIASES row d within) member
