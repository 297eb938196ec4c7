-- Steps within brackets: what a sign does there.
use Rattle.short_names.proofs.Basics.{◌≡◌, ◌≢◌, ◌<◌, ◌≤◌, ◌+◌, ◌-◌, ◌==◌, refl, sym, ap, ◌∙◌, ℕ, arith, Bool, true, false, ◌&&◌, List, [], ◌∷◌, ◌++◌, length, take, drop, get_or, None, append_assoc, append-nil, length-drop, length-append, nat_eq, codes, if◌then◌else◌, ◌⊎◌, inl, inr, starts_with, Bracket, Writing, named_in, std_name, row_in, text_of, is_name_byte, is_letter, short_rules, Opened, Written, stepped, written_for, at_sign, at_byte, ends_element, keeps, opens, is_list, is_opening, is_closing, IsAt, Goes, IsListed, before_last, all_of, ended}
use Rattle.std.proofs.lemmas.Bool.{ne_eqb, true≢false}
use Rattle.std.proofs.lemmas.List.{drop_more, length-take}
use Rattle.short_names.proofs.ListLemmas.{ended-push, starts-push}
use Rattle.short_names.proofs.WalkLemmas.{goes, length-pending}
use Rattle.short_names.proofs.SignLemmas.{kept, opened, more-bytes, begun, top_of}

-- no name of the table
pub no_name : IsListed [] None
unfolding named_in std_name row_in text_of
no_name = refl

pub here_is : (text : List ℕ) (at byte : ℕ) → at < length text → get_or text at 0 ≡ byte → drop at text ≡ byte ∷ drop (at + 1) text
here_is text at byte less e = drop_more text at 0 less ∙ ap (λ b. b ∷ drop (at + 1) text) e

sign_opens : (written : Written) (byte : ℕ) (rest : List ℕ) (top : Opened) (around : List Opened) → is_name_byte byte ≡ false → is_opening byte ≡ true
    → written.opened ≡ top ∷ around → stepped short_rules byte rest written ≡ opens byte [] written
unfolding stepped at_sign
sign_opens written byte rest top around no_letter opening e = rw no_letter (ap (λ o. at_byte short_rules o byte rest written) e ∙ rw opening refl)

-- an opening bracket
pub opens_within : (text : List ℕ) (now : Writing) (written : Written) (byte : ℕ) (after : Writing) → IsAt text now written → now.at < length text → get_or text now.at 0 ≡ byte
    → is_name_byte byte ≡ false → is_opening byte ≡ true → 0 < length now.brackets.items → (list : Bool) → list ≡ (byte == 60)
    → after.at ≡ now.at + 1 → after.copied ≡ now.copied → after.out.items ≡ now.out.items
    → after.brackets.items ≡ now.brackets.items ++ record { is_list = list; named = None; place = length now.out.items + (now.at - now.copied); first = length now.starts.items } ∷ []
    → after.starts.items ≡ now.starts.items ++ (length now.out.items + (now.at - now.copied) + 1) ∷ []
    → Goes text now.at after
opens_within text now written byte after is less at_byte no_letter opening some list list_is at_is copied_is out_is brackets_are starts_are =
    let top = top_of written now.brackets.items now.starts.items is.opened some in
    let here = here_is text now.at byte less at_byte in
    opened text now written byte (drop (now.at + 1) text) byte [] None after is here
    (sign_opens written byte (drop (now.at + 1) text) top.top top.around no_letter opening top.opened_is)
    (ap (take 1) here) (omega (arith, less)) no_name (λ _. refl) at_is copied_is out_is
    (brackets_are ∙ ap (λ b. now.brackets.items ++ record { is_list = b; named = None; place = length now.out.items + (now.at - now.copied); first = length now.starts.items } ∷ []) list_is ∙ ap (λ n. now.brackets.items ++ record { is_list = byte == 60; named = None; place = length now.out.items + (n - now.copied); first = length now.starts.items } ∷ []) (omega arith))
    (starts_are ∙ ap (λ n. now.starts.items ++ (length now.out.items + (n - now.copied) + 1) ∷ []) (omega arith))

pub and_false : (b : Bool) → (b && false) ≡ false
and_false true = refl
and_false false = refl

sign_keeps : (written : Written) (byte : ℕ) (rest : List ℕ) (top : Opened) (around : List Opened) → is_name_byte byte ≡ false → is_opening byte ≡ false → (byte == 62) ≡ false → is_closing byte ≡ false
    → starts_with nat_eq (byte ∷ rest) (codes ", ") ≡ false → starts_with nat_eq (byte ∷ rest) (codes "->") ≡ false → written.opened ≡ top ∷ around
    → stepped short_rules byte rest written ≡ keeps (byte ∷ []) written
unfolding stepped at_sign
sign_keeps written byte rest top around no_letter no_opening no_greater no_closing no_comma no_arrow e =
    rw no_letter (ap (λ o. at_byte short_rules o byte rest written) e ∙ rw (no_opening, no_greater, no_closing, no_comma, and_false (is_list top), no_arrow) refl)

-- a byte that is no bracket, comma or minus
pub other_byte : (text : List ℕ) (now : Writing) (written : Written) (byte to : ℕ) → IsAt text now written → now.at < length text → get_or text now.at 0 ≡ byte
    → is_name_byte byte ≡ false → is_opening byte ≡ false → byte ≢ 62 → is_closing byte ≡ false → byte ≢ 44 → byte ≢ 45 → 0 < length now.brackets.items
    → to ≡ now.at + 1 → Goes text now.at (record now { at = to })
other_byte text now written byte to is less at_byte no_letter no_opening no_greater no_closing no_comma no_minus some to_is =
    let t = top_of written now.brackets.items now.starts.items is.opened some in
    let here = here_is text now.at byte less at_byte in
    let comma : (44 == byte) ≡ false = ne_eqb 44 byte (λ e. no_comma (sym e)) in
    let minus_sign : (45 == byte) ≡ false = ne_eqb 45 byte (λ e. no_minus (sym e)) in
    kept text now written byte (drop (now.at + 1) text) (byte ∷ []) to is here
    (sign_keeps written byte (drop (now.at + 1) text) t.top t.around no_letter no_opening (ne_eqb byte 62 no_greater) no_closing (rw comma refl) (rw minus_sign refl) t.opened_is)
    (ap (take 1) here) (omega arith) (omega (arith, less)) to_is

-- ## Commas

sign_ends : (written : Written) (rest : List ℕ) (top : Opened) (around : List Opened) → is_list top ≡ true → starts_with nat_eq (44 ∷ rest) (codes ", ") ≡ true
    → written.opened ≡ top ∷ around → stepped short_rules 44 rest written ≡ ends_element top around written.last
unfolding stepped at_sign is_name_byte is_letter
sign_ends written rest top around list begins e = ap (λ o. at_byte short_rules o 44 rest written) e ∙ rw (list, begins) refl

-- an element that ends
pub element_ends : (text : List ℕ) (now : Writing) (written : Written) (after : Writing) → IsAt text now written → now.at < length text → get_or text now.at 0 ≡ 44
    → starts_with nat_eq (drop now.at text) (codes ", ") ≡ true
    → ((around : List Bracket) (bracket : Bracket) → now.brackets.items ≡ around ++ bracket ∷ [] → true ≡ bracket.is_list) → 0 < length now.brackets.items
    → after.at ≡ now.at + 2 → after.copied ≡ now.copied → after.out.items ≡ now.out.items → after.brackets.items ≡ now.brackets.items
    → after.starts.items ≡ now.starts.items ++ (length now.out.items + (now.at + 2 - now.copied)) ∷ [] → Goes text now.at after
unfolding before_last
element_ends text now written after is less at_byte begins in_list some at_is copied_is out_is brackets_are starts_are =
    let t = top_of written now.brackets.items now.starts.items is.opened some in
    let top = t.top in
    let here = here_is text now.at 44 less at_byte in
    let rest = drop (now.at + 1) text in
    let list : is_list top ≡ true = sym t.is.is.kind ∙ sym (in_list t.is.around t.is.bracket t.is.brackets_are) in
    let begins_here : starts_with nat_eq (44 ∷ rest) (codes ", ") ≡ true = ap (λ u. starts_with nat_eq u (codes ", ")) (sym here) ∙ begins in
    let behind : List ℕ = before_last t.around ++ top.before ++ top.name in
    let next : Written = record { opened = record top { elements = top.elements ++ written.last ∷ [] } ∷ t.around; last = [] } in
    let all_is : all_of written ≡ (behind ++ top.bracket ∷ ended top.elements) ++ written.last = ap (λ o. before_last o ++ written.last) t.opened_is in
    let place : ℕ = length now.out.items + (now.at + 2 - now.copied) in
    let further : now.at + 2 ≤ length text = omega (arith, less, ap length (begun (drop now.at text) (codes ", ") begins), length-take 2 (drop now.at text), length-drop now.at text) in
    let size : length now.out.items + (now.at - now.copied) ≡ length behind + 1 + length (ended top.elements) + length written.last =
    omega (
      arith,
      is.copied,
      is.within,
      ap length (is.bytes ∙ all_is),
      length-append now.out.items (take (now.at - now.copied) (drop now.copied text)),
      length-pending text now.copied now.at is.copied is.within,
      length-append (behind ++ top.bracket ∷ ended top.elements) written.last,
      length-append behind (top.bracket ∷ ended top.elements),
    ) in
    record {
      written = next;
      is = record {
        goes_on =
            ap (λ k. written_for short_rules 0 (drop k text) next) at_is
            ∙ sym (goes short_rules text now.at 44 rest written next 2 here (sign_ends written rest top t.around list begins_here t.opened_is) (omega arith)) ∙ is.goes_on;
        copied = omega (arith, is.copied, at_is, copied_is);
        within = omega (arith, further, at_is);
        bytes =
            ap (λ l. l ++ take (after.at - after.copied) (drop after.copied text)) out_is
            ∙ ap (λ k. now.out.items ++ take (after.at - k) (drop k text)) copied_is
            ∙ ap (λ k. now.out.items ++ take (k - now.copied) (drop now.copied text)) at_is
            ∙ more-bytes text now.out.items now.copied now.at 2 (codes ", ") _ is.copied (is.bytes ∙ all_is) (begun (drop now.at text) (codes ", ") begins)
            ∙ append_assoc (behind ++ top.bracket ∷ ended top.elements) written.last (codes ", ")
            ∙ append_assoc behind (top.bracket ∷ ended top.elements) (written.last ++ codes ", ")
            ∙ ap (λ u. behind ++ top.bracket ∷ u) (sym (append_assoc (ended top.elements) written.last (codes ", ")) ∙ sym (ended-push top.elements written.last))
            ∙ sym (append-nil _);
        opened = record {
          bracket = t.is.bracket;
          around = t.is.around;
          earlier = t.is.earlier;
          own = t.is.own ++ place ∷ [];
          brackets_are = brackets_are ∙ t.is.brackets_are;
          starts_are = starts_are ∙ ap (λ u. u ++ place ∷ []) t.is.starts_are ∙ append_assoc t.is.earlier t.is.own (place ∷ []);
          is = record {
            kind = t.is.is.kind;
            named = t.is.is.named;
            place_is = t.is.is.place_is;
            first_is = t.is.is.first_is;
            starts_are =
                ap (λ u. u ++ place ∷ []) t.is.is.starts_are
                ∙ starts-push (t.is.bracket.place + 1) top.elements written.last place (omega (arith, size, is.copied, t.is.is.place_is));
            no_list = λ e. absurd (true≢false (sym list ∙ e));
          };
          outer = t.is.outer;
        };
      };
      further = omega (arith, at_is);
    }

sign_goes_on : (written : Written) (rest : List ℕ) (top : Opened) (around : List Opened) → (is_list top && starts_with nat_eq (44 ∷ rest) (codes ", ")) ≡ false
    → written.opened ≡ top ∷ around → stepped short_rules 44 rest written ≡ keeps (44 ∷ []) written
unfolding stepped at_sign is_name_byte is_letter
sign_goes_on written rest top around none e = ap (λ o. at_byte short_rules o 44 rest written) e ∙ rw none refl

-- a comma that ends no element
pub comma_goes_on : (text : List ℕ) (now : Writing) (written : Written) (to : ℕ) → IsAt text now written → now.at < length text → get_or text now.at 0 ≡ 44
    → (((others : List Bracket) (bracket : Bracket) → now.brackets.items ≡ others ++ bracket ∷ [] → false ≡ bracket.is_list) ⊎ (starts_with nat_eq (drop now.at text) (codes ", ") ≡ false))
    → 0 < length now.brackets.items → to ≡ now.at + 1 → Goes text now.at (record now { at = to })
comma_goes_on text now written to is less at_byte why some to_is =
    let t = top_of written now.brackets.items now.starts.items is.opened some in
    let here = here_is text now.at 44 less at_byte in
    let rest = drop (now.at + 1) text in
    let none : (is_list t.top && starts_with nat_eq (44 ∷ rest) (codes ", ")) ≡ false = elim why [
      | inl not_list ↦ ap (λ b. b && starts_with nat_eq (44 ∷ rest) (codes ", ")) (sym t.is.is.kind ∙ sym (not_list t.is.around t.is.bracket t.is.brackets_are))
      | inr no_blank ↦ ap (λ u. is_list t.top && starts_with nat_eq u (codes ", ")) (sym here) ∙ ap (λ b. is_list t.top && b) no_blank ∙ and_false (is_list t.top)
    ] in
    kept text now written 44 rest (44 ∷ []) to is here (sign_goes_on written rest t.top t.around none t.opened_is) (ap (take 1) here) (omega arith) (omega (arith, less)) to_is

-- ## Minus

at_minus : (written : Written) (rest : List ℕ) (top : Opened) (around : List Opened) → (b : Bool) → starts_with nat_eq (45 ∷ rest) (codes "->") ≡ b → written.opened ≡ top ∷ around
    → stepped short_rules 45 rest written ≡ if b then keeps (codes "->") written else keeps (45 ∷ []) written
unfolding stepped at_sign is_name_byte is_letter
at_minus written rest top around b begins e = ap (λ o. at_byte short_rules o 45 rest written) e ∙ rw (and_false (is_list top)) (ap (λ x. if x then keeps (codes "->") written else keeps (45 ∷ []) written) begins)

pub arrow : (text : List ℕ) (now : Writing) (written : Written) (to : ℕ) → IsAt text now written → now.at < length text → get_or text now.at 0 ≡ 45
    → starts_with nat_eq (drop now.at text) (codes "->") ≡ true → 0 < length now.brackets.items → to ≡ now.at + 2 → Goes text now.at (record now { at = to })
arrow text now written to is less byte begins some to_is =
    let t = top_of written now.brackets.items now.starts.items is.opened some in
    let here = here_is text now.at 45 less byte in
    kept text now written 45 (drop (now.at + 1) text) (codes "->") to is here
    (at_minus written (drop (now.at + 1) text) t.top t.around true (ap (λ u. starts_with nat_eq u (codes "->")) (sym here) ∙ begins) t.opened_is)
    (begun (drop now.at text) (codes "->") begins) (omega arith)
    (omega (arith, less, ap length (begun (drop now.at text) (codes "->") begins), length-take 2 (drop now.at text), length-drop now.at text)) to_is

pub minus : (text : List ℕ) (now : Writing) (written : Written) (to : ℕ) → IsAt text now written → now.at < length text → get_or text now.at 0 ≡ 45
    → starts_with nat_eq (drop now.at text) (codes "->") ≡ false → 0 < length now.brackets.items → to ≡ now.at + 1 → Goes text now.at (record now { at = to })
minus text now written to is less byte begins some to_is =
    let t = top_of written now.brackets.items now.starts.items is.opened some in
    let here = here_is text now.at 45 less byte in
    kept text now written 45 (drop (now.at + 1) text) (45 ∷ []) to is here
    (at_minus written (drop (now.at + 1) text) t.top t.around false (ap (λ u. starts_with nat_eq u (codes "->")) (sym here) ∙ begins) t.opened_is)
    (ap (take 1) here) (omega arith) (omega (arith, less)) to_is
