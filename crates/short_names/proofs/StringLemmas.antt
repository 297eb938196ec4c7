-- The list of `std::string`, which becomes `std::string` without a walk through the list.
use Rattle.short_names.proofs.Basics.{◌≡◌, ◌≤◌, ◌<◌, ◌+◌, ◌-◌, ◌&&◌, refl, sym, ap, ◌∙◌, subst, ℕ, arith, true, false, List, [], ◌∷◌, ◌++◌, length, take, drop, get_or, slice_get, Option, None, Some, is_some, append_assoc, append-nil, length-drop, length-take, nat_eq, codes, if◌then◌else◌, drop-drop, drop_at, take-append-drop, take-take, starts_with, Named, Alias, Place, ALIASES, STD, STRING, STRING_TEMPLATE, TEMPLATES, Writing, has_list, IsString, left, left_of, alias_in, aliases_of, joined, is_polymorphic, listed, named_in, std_name, table_name, template_in, with_template, member_in, filled, behind_run, is_name_byte, is_letter, run_of, begins_std, ends_operator, sign_size, short_rules, for_list, for_name, short_list, before_name, behind, constructor, if_read_back, is_read_back, member, text_of, Answer, Opened, Written, stepped, written_for, at_sign, at_plain, answers, keeps, opens, IsAt, Goes, AreOpen, before_last, all_of}
use Rattle.short_names.proofs.BracketLemmas.{no_name, here_is}
use Rattle.short_names.proofs.CloseLemmas.{name-ends}
use Rattle.short_names.proofs.NameLemmas.{no-colon, std-plain}
use Rattle.short_names.proofs.NameSteps.{at_run, nothing_shorter, run-take, run-within}
use Rattle.short_names.proofs.SignLemmas.{more-bytes}
use Rattle.short_names.proofs.WalkLemmas.{goes}

-- two places of the table are equal if they begin and end alike
pub place_is : (place other : Place) → place.from ≡ other.from → place.to ≡ other.to → place ≡ other
place_is place other from to = rw (from, to) refl

-- the row of `std::string`
abbrev pub string_row : Alias
string_row = get_or ALIASES STRING (record { template = STD; arguments = STD; name = STD })

-- the elements of the list
abbrev pub string_elements : List (List ℕ)
string_elements = codes "char" ∷ codes "std::char_traits<char>" ∷ codes "std::allocator<char>" ∷ []

-- ## Pieces within a list

abbrev within : Opened → List Opened → List ℕ → Written
within top around last = record { opened = top ∷ around; last = last }

piece : (text : List ℕ) (byte : ℕ) (rest : List ℕ) (written next : Written) (size : ℕ) → text ≡ byte ∷ rest
    → stepped short_rules byte rest written ≡ Some (record { size = size; written = next }) → 0 < size
    → written_for short_rules 0 text written ≡ written_for short_rules 0 (drop size text) next
piece text byte rest written next size here step some =
    goes short_rules text 0 byte rest written next size here step some ∙ ap (λ n. written_for short_rules 0 (drop n text) next) (omega arith)

-- a name that becomes no shorter
name_piece : (name more : List ℕ) (byte sign : ℕ) (tail last : List ℕ) (top : Opened) (around : List Opened) → name ≡ byte ∷ tail → is_name_byte byte ≡ true
    → run_of (name ++ sign ∷ more) ≡ name → has_list name (sign ∷ more) ≡ false → for_name name (sign ∷ more) (std_name name) ≡ None → ends_operator name ≡ false
    → written_for short_rules 0 (name ++ sign ∷ more) (within top around last) ≡ written_for short_rules 0 (sign ∷ more) (within top around (last ++ name))
name_piece name more byte sign tail last top around begins letter run_is no_list none no_operator =
    let text : List ℕ = name ++ sign ∷ more in
    let w : Written = within top around last in
    let here : text ≡ byte ∷ (tail ++ sign ∷ more) = ap (λ n. n ++ sign ∷ more) begins in
    let back : behind_run text ≡ sign ∷ more = ap (λ r. drop (length r) text) run_is ∙ drop_at name (sign ∷ more) (length name) refl in
    let step : stepped short_rules byte (tail ++ sign ∷ more) w ≡ keeps name w =
    at_run text 0 byte (tail ++ sign ∷ more) w here letter
    ∙ ap (λ r. if has_list r (behind_run text) then opens 60 r w else at_plain r (behind_run text) w (for_name r (behind_run text) (std_name r))) run_is
    ∙ ap (λ b. if has_list name b then opens 60 name w else at_plain name b w (for_name name b (std_name name))) back
    ∙ ap (λ b. if b then opens 60 name w else at_plain name (sign ∷ more) w (for_name name (sign ∷ more) (std_name name))) no_list
    ∙ ap (at_plain name (sign ∷ more) w) none
    ∙ ap (λ b. keeps (name ++ take (if b then sign_size (sign ∷ more) else 0) (sign ∷ more)) w) no_operator
    ∙ ap (λ t. keeps t w) (append-nil name) in
    piece text byte (tail ++ sign ∷ more) w (within top around (last ++ name)) (length name) here step (omega (arith, ap length begins))
    ∙ ap (λ t. written_for short_rules 0 t (within top around (last ++ name))) (drop_at name (sign ∷ more) (length name) refl)

-- `char` before a sign
char_piece : (more : List ℕ) (sign : ℕ) (last : List ℕ) (top : Opened) (around : List Opened) → is_name_byte sign ≡ false
    → written_for short_rules 0 (codes "char" ++ sign ∷ more) (within top around last) ≡ written_for short_rules 0 (sign ∷ more) (within top around (last ++ codes "char"))
unfolding run_of is_name_byte is_letter ends_operator
char_piece more sign last top around no_letter =
    let text : List ℕ = codes "char" ++ sign ∷ more in
    let run_is : run_of text ≡ codes "char" = ap (λ b. codes "char" ++ (if b then sign ∷ run_of more else [])) no_letter in
    let nothing = nothing_shorter text refl in
    let at : List ℕ → List ℕ = λ r. drop (length r) text in
    name_piece (codes "char") more 99 sign (codes "har") last top around refl refl run_is
    (ap (λ r. has_list r (at r)) (sym run_is) ∙ nothing.0)
    (ap (λ r. for_name r (at r) (std_name r)) (sym run_is) ∙ nothing.1) refl

open_piece : (more last : List ℕ) (top : Opened) (around : List Opened)
    → written_for short_rules 0 (60 ∷ more) (within top around last) ≡ written_for short_rules 0 more (within (record { bracket = 60; name = []; before = last; elements = [] }) (top ∷ around) [])
unfolding stepped at_sign is_name_byte is_letter
open_piece more last top around = piece (60 ∷ more) 60 more (within top around last) (within (record { bracket = 60; name = []; before = last; elements = [] }) (top ∷ around) []) 1 refl refl (omega arith)

abbrev list_of : (name before : List ℕ) → List (List ℕ) → Opened
list_of name before elements = record { bracket = 60; name = name; before = before; elements = elements }

close_step : (name before last rest : List ℕ) (elements : List (List ℕ)) (around : List Opened)
    → stepped short_rules 62 rest (within (list_of name before elements) around last)
    ≡ answers 1 (for_list (named_in name) name (elements ++ last ∷ []) rest) (record { opened = around; last = before })
unfolding stepped at_sign is_name_byte is_letter
close_step name before last rest elements around = refl

close_piece : (more before : List ℕ) (top : Opened) (around : List Opened)
    → written_for short_rules 0 (62 ∷ more) (within (list_of [] before []) (top ∷ around) (codes "char")) ≡ written_for short_rules 0 more (within top around (before ++ codes "<char>"))
unfolding joined
close_piece more before top around =
    piece (62 ∷ more) 62 more (within (list_of [] before []) (top ∷ around) (codes "char")) (within top around (before ++ codes "<char>")) 1 refl
    (close_step [] before (codes "char") more [] (top ∷ around)
    ∙ ap (λ n. answers 1 (for_list n [] (codes "char" ∷ []) more) (within top around before)) no_name) (omega arith)

comma_piece : (more name before last : List ℕ) (elements : List (List ℕ)) (around : List Opened)
    → written_for short_rules 0 (44 ∷ 32 ∷ more) (within (list_of name before elements) around last) ≡ written_for short_rules 0 more (within (list_of name before (elements ++ last ∷ [])) around [])
unfolding stepped at_sign is_name_byte is_letter
comma_piece more name before last elements around =
    piece (44 ∷ 32 ∷ more) 44 (32 ∷ more) (within (list_of name before elements) around last) (within (list_of name before (elements ++ last ∷ [])) around []) 2 refl refl (omega arith)

-- a name with the list `<char>`
instance_piece : (name more : List ℕ) (byte : ℕ) (tail : List ℕ) (top : Opened) (around : List Opened) → name ≡ byte ∷ tail → is_name_byte byte ≡ true
    → run_of (name ++ (codes "<char>" ++ more)) ≡ name → named_in name ≡ None → for_name name (codes "<char>" ++ more) (std_name name) ≡ None → ends_operator name ≡ false
    → written_for short_rules 0 (name ++ (codes "<char>" ++ more)) (within top around []) ≡ written_for short_rules 0 more (within top around (name ++ codes "<char>"))
unfolding is_name_byte is_letter
instance_piece name more byte tail top around begins letter run_is no_named none no_operator =
    let rest : List ℕ = codes "char>" ++ more in
    name_piece name rest byte 60 tail [] top around begins letter run_is (ap (λ o. starts_with nat_eq (60 ∷ rest) (codes "<") && is_some o) no_named) none no_operator
    ∙ open_piece rest name top around
    ∙ char_piece more 62 [] (list_of [] name []) (top ∷ around) refl
    ∙ close_piece more name top around

-- ## The list

no_traits : named_in (codes "std::char_traits") ≡ None
unfolding named_in template_in text_of
no_traits = ap table_name (std-plain (codes "std::char_traits") refl (λ e. absurd (omega (arith, e))))

no_allocator : named_in (codes "std::allocator") ≡ None
unfolding named_in template_in text_of
no_allocator = ap table_name (std-plain (codes "std::allocator") refl (λ e. absurd (omega (arith, e))))

no_member : (name more : List ℕ) → begins_std name ≡ true → (get_or name 5 0 ≡ 95 → ⊥) → member_in ALIASES (drop 5 name) (drop 5 name ++ more) ≡ None → for_name name more (std_name name) ≡ None
no_member name more begins plain none = ap (for_name name more) (std-plain name begins plain) ∙ ap (member name more (drop 5 name)) none

traits_piece : (more : List ℕ) (top : Opened) (around : List Opened)
    → written_for short_rules 0 (codes "std::char_traits<char>" ++ more) (within top around []) ≡ written_for short_rules 0 more (within top around (codes "std::char_traits<char>"))
unfolding run_of is_name_byte is_letter ends_operator
traits_piece more top around =
    instance_piece (codes "std::char_traits") more 115 (codes "td::char_traits") top around refl refl refl no_traits
    (no_member (codes "std::char_traits") (codes "<char>" ++ more) refl (λ e. absurd (omega (arith, e))) (no-colon (codes "char_traits") (codes "char_traits<char>" ++ more) refl refl)) refl

allocator_piece : (more : List ℕ) (top : Opened) (around : List Opened)
    → written_for short_rules 0 (codes "std::allocator<char>" ++ more) (within top around []) ≡ written_for short_rules 0 more (within top around (codes "std::allocator<char>"))
unfolding run_of is_name_byte is_letter ends_operator
allocator_piece more top around =
    instance_piece (codes "std::allocator") more 115 (codes "td::allocator") top around refl refl refl no_allocator
    (no_member (codes "std::allocator") (codes "<char>" ++ more) refl (λ e. absurd (omega (arith, e))) (no-colon (codes "allocator") (codes "allocator<char>" ++ more) refl refl)) refl

-- what is written for the list and its name
abbrev string_answer : (run rest : List ℕ) → Answer
string_answer run rest = for_list (named_in run) run string_elements rest

list_inside : (run rest before : List ℕ) (around : List Opened)
    → written_for short_rules 0 (codes "char, std::char_traits<char>, std::allocator<char>>" ++ rest) (within (list_of run before []) around [])
    ≡ written_for short_rules 0 (drop (string_answer run rest).size rest) (record { opened = around; last = before ++ (string_answer run rest).bytes })
unfolding is_name_byte is_letter
list_inside run rest before around =
    let third : List ℕ = codes "std::allocator<char>" ++ 62 ∷ rest in
    let second : List ℕ = codes "std::char_traits<char>" ++ (44 ∷ 32 ∷ third) in
    let answer : Answer = string_answer run rest in
    let next : Written = record { opened = around; last = before ++ answer.bytes } in
    let one : List (List ℕ) = codes "char" ∷ [] in
    let two : List (List ℕ) = codes "char" ∷ codes "std::char_traits<char>" ∷ [] in
    char_piece (32 ∷ second) 44 [] (list_of run before []) around refl
    ∙ comma_piece second run before (codes "char") [] around
    ∙ traits_piece (44 ∷ 32 ∷ third) (list_of run before one) around
    ∙ comma_piece third run before (codes "std::char_traits<char>") one around
    ∙ allocator_piece (62 ∷ rest) (list_of run before two) around
    ∙ piece (62 ∷ rest) 62 rest (within (list_of run before two) around (codes "std::allocator<char>")) next (1 + answer.size) refl
    (close_step run before (codes "std::allocator<char>") rest two around) (omega arith)
    ∙ ap (λ t. written_for short_rules 0 t next) (sym (drop-drop answer.size 1 (62 ∷ rest)))

abbrev string_named : Named
string_named = record { whole = STD; template = get_or TEMPLATES STRING_TEMPLATE (record { name = STD; count = 0; first_default = 0; polymorphic = STD; first_alias = 0; end_alias = 0 }) }

its_row : alias_in (aliases_of string_named) string_named string_elements (left string_named string_elements) ≡ Some string_row
unfolding alias_in left_of filled joined text_of
its_row = refl

string_is : (run rest : List ℕ) → named_in run ≡ with_template STD (slice_get TEMPLATES STRING_TEMPLATE) → is_read_back rest string_row ≡ true
    → string_answer run rest ≡ behind (before_name string_named run ++ text_of string_row.name) (constructor string_row rest)
unfolding short_list
string_is run rest named read =
    let by_usual : Option Alias → Answer = λ o. elim o [
      | Some alias ↦ behind (before_name string_named run ++ text_of alias.name) (constructor alias rest)
      | None ↦ if is_polymorphic string_named string_elements then record {
        bytes = before_name string_named run ++ codes "pmr::" ++ text_of string_named.template.name ++ listed (take (left_of string_named string_elements (length string_elements - 1)) string_elements);
        size = 0;
      } else record { bytes = run ++ listed (take (left string_named string_elements) string_elements); size = 0 }
    ] in
    ap (λ n. for_list n run string_elements rest) named
    ∙ ap (λ o. by_usual (if_read_back rest o)) its_row
    ∙ ap (λ b. by_usual (if b then Some string_row else None)) read

-- ## A step over it

pub string-room : (text : List ℕ) (at size : ℕ) → at < length text → size ≡ length (run_of (drop at text)) → IsString STD STRING_TEMPLATE (behind_run (drop at text)) → at + size + 52 ≤ length text
string-room text at size less size_is string =
    let u : List ℕ = drop at text in
    let rest : List ℕ = behind_run u in
    omega (arith, less, size_is, ap length string.follows, length-take 52 rest, length-drop (length (run_of u)) u, length-drop at text, run-within u)

-- the template's name is the end of the run
pub string-name : (run : List ℕ) → named_in run ≡ with_template STD (slice_get TEMPLATES STRING_TEMPLATE) → length (text_of string_row.template) ≤ length run
string-name run named = (name-ends run string_named named).0

pub string_goes : (text : List ℕ) (now : Writing) (written : Written) (size more : ℕ) (after : Writing) → IsAt text now written → now.at < length text
    → is_name_byte (get_or text now.at 0) ≡ true → size ≡ length (run_of (drop now.at text))
    → named_in (run_of (drop now.at text)) ≡ with_template STD (slice_get TEMPLATES STRING_TEMPLATE) → IsString STD STRING_TEMPLATE (behind_run (drop now.at text))
    → more ≡ (constructor string_row (drop (now.at + size + 52) text)).size → now.at + size + 52 + more ≤ length text
    → after.at ≡ now.at + size + 52 + more → after.copied ≡ after.at
    → after.out.items
    ≡ (now.out.items ++ take (now.at + (size - length (text_of string_row.template)) - now.copied) (drop now.copied text)) ++ text_of string_row.name ++ (constructor string_row (drop (now.at + size + 52) text)).bytes
    → after.brackets.items ≡ now.brackets.items → after.starts.items ≡ now.starts.items → Goes text now.at after
unfolding text_of
string_goes text now written size more after is less letter size_is named string more_is fits at_is copied_is out_is brackets_are starts_are =
    let u : List ℕ = drop now.at text in
    let run : List ℕ = run_of u in
    let rest : List ℕ = behind_run u in
    let byte : ℕ = get_or text now.at 0 in
    let here : drop now.at text ≡ byte ∷ drop (now.at + 1) text = here_is text now.at byte less refl in
    let back : drop 52 rest ≡ drop (now.at + size + 52) text =
    drop-drop 52 (length run) u ∙ drop-drop (length run + 52) now.at text ∙ ap (λ n. drop n text) (omega (arith, size_is)) in
    let follows : rest ≡ 60 ∷ (codes "char, std::char_traits<char>, std::allocator<char>>" ++ drop 52 rest) =
    sym (take-append-drop 52 rest) ∙ ap (λ t. t ++ drop 52 rest) string.follows in
    let list : has_list run rest ≡ true =
    ap (λ t. starts_with nat_eq t (codes "<") && is_some (named_in run)) follows ∙ ap is_some named in
    let step : stepped short_rules byte (drop (now.at + 1) text) written ≡ opens 60 run written =
    at_run text now.at byte (drop (now.at + 1) text) written here letter
    ∙ ap (λ b. if b then opens 60 run written else at_plain run rest written (for_name run rest (std_name run))) list in
    let opened : Written = within (list_of run written.last []) written.opened [] in
    let answer : Answer = string_answer run (drop 52 rest) in
    let next : Written = record written { last = written.last ++ answer.bytes } in
    let inner : drop (now.at + (length run + 1)) text ≡ codes "char, std::char_traits<char>, std::allocator<char>>" ++ drop 52 rest =
    sym (drop-drop (length run + 1) now.at text) ∙ sym (drop-drop 1 (length run) u) ∙ ap (drop 1) follows in
    let answer_is : answer ≡ behind (before_name string_named run ++ text_of string_row.name) (constructor string_row (drop (now.at + size + 52) text)) =
    ap (string_answer run) back ∙ string_is run (drop (now.at + size + 52) text) named (ap (λ t. is_read_back t string_row) (sym back) ∙ string.read_back) in
    let answer_size : more ≡ answer.size = more_is ∙ sym (ap (λ (a : Answer). a.size) answer_is) in
    let front : ℕ = size - length (text_of string_row.template) in
    let taken : take front u ≡ before_name string_named run =
    sym (take-take front (length run) u (omega (arith, size_is))) ∙ ap (take front) (run-take u) ∙ ap (λ n. take (n - length (text_of string_row.template)) run) size_is in
    let made : Answer = constructor string_row (drop (now.at + size + 52) text) in
    let nothing_left : after.at - after.copied ≡ 0 = omega (arith, copied_is) in
    record {
      written = next;
      is = record {
        goes_on =
            ap (λ k. written_for short_rules 0 (drop k text) next) at_is
            ∙ ap (λ t. written_for short_rules 0 t next) (sym (drop-drop more (now.at + size + 52) text) ∙ ap (drop more) (sym back) ∙ ap (λ n. drop n (drop 52 rest)) answer_size)
            ∙ sym (list_inside run (drop 52 rest) written.last written.opened)
            ∙ ap (λ t. written_for short_rules 0 t opened) (sym inner)
            ∙ sym (goes short_rules text now.at byte (drop (now.at + 1) text) written opened (length run + 1) here step (omega arith)) ∙ is.goes_on;
        copied = omega (arith, copied_is);
        within = omega (arith, at_is, fits);
        bytes =
            ap (λ n. after.out.items ++ take n (drop after.copied text)) nothing_left ∙ append-nil _ ∙ out_is
            ∙ ap (λ t. (t ++ text_of string_row.name) ++ made.bytes) (more-bytes text now.out.items now.copied now.at front (before_name string_named run) _ is.copied is.bytes taken)
            ∙ ap (λ t. t ++ made.bytes) (append_assoc (all_of written) (before_name string_named run) (text_of string_row.name))
            ∙ append_assoc (all_of written) (before_name string_named run ++ text_of string_row.name) made.bytes
            ∙ append_assoc (before_last written.opened) written.last ((before_name string_named run ++ text_of string_row.name) ++ made.bytes)
            ∙ ap (λ (a : Answer). before_last written.opened ++ (written.last ++ a.bytes)) (sym answer_is);
        opened = subst (λ bs. AreOpen written.opened bs after.starts.items) (sym brackets_are) (subst (λ s. AreOpen written.opened now.brackets.items s) (sym starts_are) is.opened);
      };
      further = omega (arith, at_is);
    }
