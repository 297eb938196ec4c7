-- Steps within brackets: brackets that are closed.
use Rattle.short_names.proofs.Basics.{◌≡◌, ◌<◌, ◌≤◌, ◌+◌, ◌-◌, ◌==◌, refl, sym, ap, ◌∙◌, subst, ℕ, arith, Bool, true, false, List, [], ◌∷◌, ◌++◌, length, take, drop, get_or, None, Some, append_assoc, append-nil, length-append, if◌then◌else◌, same_from_push, take_at, drop_at, Bracket, Listed, Writing, named_in, is_name_byte, is_letter, joined, short_rules, for_list, Answer, Opened, Written, stepped, written_for, at_sign, at_byte, closes_list, closes_group, is_list, is_opening, is_closing, start, IsAt, Goes, Steps, IsListed, IsOpen, IsClosed, AreOpen, IsPending, IsShortened, before_last, all_of, ended}
use Rattle.std.proofs.lemmas.Bool.{eqb-true}
use Rattle.short_names.proofs.WalkLemmas.{goes, stops}
use Rattle.short_names.proofs.ListLemmas.{joined-push, starts-same}
use Rattle.short_names.proofs.SignLemmas.{more-bytes, top_of}
use Rattle.short_names.proofs.BracketLemmas.{here_is}

-- the innermost bracket, and those around it
pub record Popped (written : Written) (others : List Bracket) (bracket : Bracket) (starts : List ℕ) : Type 0 where
  pub top : Opened
  pub around : List Opened
  pub opened_is : written.opened ≡ top ∷ around
  pub earlier : List ℕ
  pub own : List ℕ
  pub starts_are : starts ≡ earlier ++ own
  pub is : IsOpen top (before_last around) bracket (length earlier) own
  pub outer : AreOpen around others earlier

pub popped : (written : Written) (brackets : List Bracket) (starts : List ℕ) (others : List Bracket) (bracket : Bracket)
    → AreOpen written.opened brackets starts → brackets ≡ others ++ bracket ∷ [] → Popped written others bracket starts
popped written brackets starts others bracket are e =
    let t = top_of written brackets starts are (omega (arith, ap length e, length-append others (bracket ∷ []))) in
    let same = same_from_push t.is.around others t.is.bracket bracket (sym t.is.brackets_are ∙ e) in
    record {
      top = t.top;
      around = t.around;
      opened_is = t.opened_is;
      earlier = t.is.earlier;
      own = t.is.own;
      starts_are = t.is.starts_are;
      is = subst (λ b. IsOpen t.top (before_last t.around) b (length t.is.earlier) t.is.own) same.1 t.is.is;
      outer = subst (λ bs. AreOpen t.around bs t.is.earlier) same.0 t.is.outer;
    }

-- what is around a bracket that was closed
outer_are : (written : Written) (others : List Bracket) (bracket : Bracket) (starts : List ℕ) (p : Popped written others bracket starts) (new_brackets : List Bracket) (new_starts : List ℕ)
    → new_brackets ≡ others → new_starts ≡ take bracket.first starts → AreOpen p.around new_brackets new_starts
outer_are written others bracket starts p new_brackets new_starts e f =
    let earlier_is : new_starts ≡ p.earlier = f ∙ ap (take bracket.first) p.starts_are ∙ take_at p.earlier p.own bracket.first (sym p.is.first_is) in
    subst (λ bs. AreOpen p.around bs new_starts) (sym e) (subst (λ s. AreOpen p.around others s) (sym earlier_is) p.outer)

-- ## Groups

sign_closes : (written : Written) (byte : ℕ) (rest : List ℕ) (top : Opened) (around : List Opened) → is_name_byte byte ≡ false → is_opening byte ≡ false → (byte == 62) ≡ false → is_closing byte ≡ true
    → written.opened ≡ top ∷ around → stepped short_rules byte rest written ≡ if is_list top then None else closes_group top around byte written.last
unfolding stepped at_sign
sign_closes written byte rest top around no_letter no_opening no_greater closing e = rw no_letter (ap (λ o. at_byte short_rules o byte rest written) e ∙ rw (no_opening, no_greater, closing) refl)

group_text : (before own name last : List ℕ) (mark : ℕ) (elements : List (List ℕ)) → name ≡ [] → elements ≡ []
    → (before ++ own ++ name) ++ mark ∷ ended elements ++ last ≡ before ++ (own ++ mark ∷ last)
unfolding ended
group_text before own name last mark elements no_name none =
    ap (λ n. (before ++ own ++ n) ++ mark ∷ ended elements ++ last) no_name ∙ ap (λ es. (before ++ own ++ []) ++ mark ∷ ended es ++ last) none
    ∙ ap (λ u. u ++ mark ∷ [] ++ last) (append-nil (before ++ own)) ∙ append_assoc (before ++ own) (mark ∷ []) last ∙ append_assoc before own (mark ∷ last)

group_ends : (text : List ℕ) (now : Writing) (written : Written) (byte : ℕ) (after : Writing) (others : List Bracket) (bracket : Bracket)
    → IsAt text now written → now.at < length text → get_or text now.at 0 ≡ byte
    → is_name_byte byte ≡ false → is_opening byte ≡ false → (byte == 62) ≡ false → is_closing byte ≡ true
    → now.brackets.items ≡ others ++ bracket ∷ [] → bracket.is_list ≡ false → IsClosed now after others bracket → Goes text now.at after
unfolding before_last
group_ends text now written byte after others bracket is less at_byte no_letter no_opening no_greater closing brackets_are group closed =
    let p = popped written now.brackets.items now.starts.items others bracket is.opened brackets_are in
    let here = here_is text now.at byte less at_byte in
    let rest = drop (now.at + 1) text in
    let no_list : is_list p.top ≡ false = sym p.is.kind ∙ group in
    let next : Written = record { opened = p.around; last = (p.top.before ++ p.top.bracket ∷ written.last) ++ byte ∷ [] } in
    let all_is : all_of written ≡ before_last p.around ++ (p.top.before ++ p.top.bracket ∷ written.last) =
    ap (λ o. before_last o ++ written.last) p.opened_is
    ∙ group_text (before_last p.around) p.top.before p.top.name written.last p.top.bracket p.top.elements (p.is.no_list no_list).0 (p.is.no_list no_list).1 in
    let step : stepped short_rules byte rest written ≡ Some (record { size = 1; written = next }) =
    sign_closes written byte rest p.top p.around no_letter no_opening no_greater closing p.opened_is
    ∙ ap (λ b. if b then None else closes_group p.top p.around byte written.last) no_list in
    record {
      written = next;
      is = record {
        goes_on = ap (λ k. written_for short_rules 0 (drop k text) next) closed.at_is ∙ sym (goes short_rules text now.at byte rest written next 1 here step (omega arith)) ∙ is.goes_on;
        copied = omega (arith, is.copied, closed.at_is, closed.copied_is);
        within = omega (arith, less, closed.at_is);
        bytes =
            ap (λ l. l ++ take (after.at - after.copied) (drop after.copied text)) closed.out_is
            ∙ ap (λ k. now.out.items ++ take (after.at - k) (drop k text)) closed.copied_is
            ∙ ap (λ k. now.out.items ++ take (k - now.copied) (drop now.copied text)) closed.at_is
            ∙ more-bytes text now.out.items now.copied now.at 1 (byte ∷ []) _ is.copied (is.bytes ∙ all_is) (ap (take 1) here)
            ∙ append_assoc (before_last p.around) (p.top.before ++ p.top.bracket ∷ written.last) (byte ∷ []);
        opened = outer_are written others bracket now.starts.items p after.brackets.items after.starts.items closed.brackets_are closed.starts_are;
      };
      further = omega (arith, closed.at_is);
    }

group_stops : (text : List ℕ) (now : Writing) (written : Written) (byte : ℕ) (others : List Bracket) (bracket : Bracket)
    → IsAt text now written → now.at < length text → get_or text now.at 0 ≡ byte
    → is_name_byte byte ≡ false → is_opening byte ≡ false → (byte == 62) ≡ false → is_closing byte ≡ true
    → now.brackets.items ≡ others ++ bracket ∷ [] → bracket.is_list ≡ true → written_for short_rules 0 text start ≡ None
group_stops text now written byte others bracket is less at_byte no_letter no_opening no_greater closing brackets_are list =
    let p = popped written now.brackets.items now.starts.items others bracket is.opened brackets_are in
    let rest = drop (now.at + 1) text in
    sym is.goes_on ∙ stops short_rules text now.at byte rest written (here_is text now.at byte less at_byte)
    (sign_closes written byte rest p.top p.around no_letter no_opening no_greater closing p.opened_is
    ∙ ap (λ b. if b then None else closes_group p.top p.around byte written.last) (sym p.is.kind ∙ list))

-- a closing bracket that isn't of a list
pub group_closes : (text : List ℕ) (now : Writing) (written : Written) (byte : ℕ) (after : Writing) (result : Bool)
    → IsAt text now written → now.at < length text → get_or text now.at 0 ≡ byte
    → is_name_byte byte ≡ false → is_opening byte ≡ false → (byte == 62) ≡ false → is_closing byte ≡ true → 0 < length now.brackets.items
    → ((others : List Bracket) (bracket : Bracket) → now.brackets.items ≡ others ++ bracket ∷ [] → bracket.is_list ≡ true → result ≡ false)
    → ((others : List Bracket) (bracket : Bracket) → now.brackets.items ≡ others ++ bracket ∷ [] → bracket.is_list ≡ false → (result ≡ true) × IsClosed now after others bracket)
    → Steps text now.at after result
group_closes text now written byte after result is less at_byte no_letter no_opening no_greater closing some if_list if_group =
    let t = top_of written now.brackets.items now.starts.items is.opened some in
    by t.is.around t.is.bracket t.is.brackets_are t.is.bracket.is_list refl
  where
    by : (others : List Bracket) (bracket : Bracket) → now.brackets.items ≡ others ++ bracket ∷ [] → (b : Bool) → bracket.is_list ≡ b → Steps text now.at after result
    by others bracket e true list =
        subst (λ r. Steps text now.at after r) (sym (if_list others bracket e list))
        (group_stops text now written byte others bracket is less at_byte no_letter no_opening no_greater closing e list)
    by others bracket e false group =
        let both = if_group others bracket e group in
        subst (λ r. Steps text now.at after r) (sym both.0)
        (group_ends text now written byte after others bracket is less at_byte no_letter no_opening no_greater closing e group both.1)

-- ## Lists

sign_greater : (written : Written) (rest : List ℕ) (top : Opened) (around : List Opened) → written.opened ≡ top ∷ around
    → stepped short_rules 62 rest written ≡ if is_list top then closes_list short_rules top around written.last rest else None
unfolding stepped at_sign is_name_byte is_letter
sign_greater written rest top around e = ap (λ o. at_byte short_rules o 62 rest written) e

-- a list that isn't open
pub list_stops : (text : List ℕ) (now : Writing) (written : Written) (others : List Bracket) (bracket : Bracket)
    → IsAt text now written → now.at < length text → get_or text now.at 0 ≡ 62
    → now.brackets.items ≡ others ++ bracket ∷ [] → bracket.is_list ≡ false → written_for short_rules 0 text start ≡ None
list_stops text now written others bracket is less at_byte brackets_are group =
    let p = popped written now.brackets.items now.starts.items others bracket is.opened brackets_are in
    let rest = drop (now.at + 1) text in
    sym is.goes_on ∙ stops short_rules text now.at 62 rest written (here_is text now.at 62 less at_byte)
    (sign_greater written rest p.top p.around p.opened_is
    ∙ ap (λ b. if b then closes_list short_rules p.top p.around written.last rest else None) (sym p.is.kind ∙ group))

-- the text that was written for a list
list_text : (before name last : List ℕ) (mark : ℕ) (elements : List (List ℕ)) → mark ≡ 60
    → (before ++ name) ++ mark ∷ ended elements ++ last ≡ before ++ name ++ 60 ∷ joined (elements ++ last ∷ [])
list_text before name last mark elements is_less =
    ap (λ m. (before ++ name) ++ m ∷ ended elements ++ last) is_less
    ∙ append_assoc (before ++ name) (60 ∷ ended elements) last ∙ ap (λ u. before ++ name ++ 60 ∷ u) (sym (joined-push elements last))

list_bytes : (text : List ℕ) (now : Writing) (written : Written) (others : List Bracket) (bracket : Bracket) (p : Popped written others bracket now.starts.items)
    → IsAt text now written → bracket.is_list ≡ true
    → now.out.items ++ take (now.at - now.copied) (drop now.copied text) ≡ (before_last p.around ++ p.top.before) ++ p.top.name ++ 60 ∷ joined (p.top.elements ++ written.last ∷ [])
unfolding before_last
list_bytes text now written others bracket p is list =
    is.bytes ∙ ap (λ o. before_last o ++ written.last) p.opened_is
    ∙ list_text (before_last p.around ++ p.top.before) p.top.name written.last p.top.bracket p.top.elements (eqb-true p.top.bracket 60 (sym p.is.kind ∙ list))

list_ends : (text : List ℕ) (now : Writing) (written : Written) (after : Writing) (others : List Bracket) (bracket : Bracket) (p : Popped written others bracket now.starts.items)
    → IsAt text now written → now.at < length text → get_or text now.at 0 ≡ 62 → bracket.is_list ≡ true
    → after.at ≡ now.at + (1 + (for_list (named_in p.top.name) p.top.name (p.top.elements ++ written.last ∷ []) (drop (now.at + 1) text)).size)
    → after.at ≤ length text → after.copied ≤ after.at
    → after.out.items ++ take (after.at - after.copied) (drop after.copied text)
    ≡ (before_last p.around ++ p.top.before) ++ (for_list (named_in p.top.name) p.top.name (p.top.elements ++ written.last ∷ []) (drop (now.at + 1) text)).bytes
    → after.brackets.items ≡ others → after.starts.items ≡ take bracket.first now.starts.items → Goes text now.at after
list_ends text now written after others bracket p is less at_byte list at_is within copied bytes brackets_are starts_are =
    let here = here_is text now.at 62 less at_byte in
    let rest = drop (now.at + 1) text in
    let answer : Answer = for_list (named_in p.top.name) p.top.name (p.top.elements ++ written.last ∷ []) rest in
    let next : Written = record { opened = p.around; last = p.top.before ++ answer.bytes } in
    let step : stepped short_rules 62 rest written ≡ Some (record { size = 1 + answer.size; written = next }) =
    sign_greater written rest p.top p.around p.opened_is
    ∙ ap (λ b. if b then closes_list short_rules p.top p.around written.last rest else None) (sym p.is.kind ∙ list) in
    record {
      written = next;
      is = record {
        goes_on =
            ap (λ k. written_for short_rules 0 (drop k text) next) at_is
            ∙ sym (goes short_rules text now.at 62 rest written next (1 + answer.size) here step (omega arith)) ∙ is.goes_on;
        copied = copied;
        within = within;
        bytes = bytes ∙ append_assoc (before_last p.around) p.top.before answer.bytes;
        opened = outer_are written others bracket now.starts.items p after.brackets.items after.starts.items brackets_are starts_are;
      };
      further = omega (arith, at_is);
    }

-- a list without a name of the table
pub list_closes : (text : List ℕ) (now : Writing) (written : Written) (after : Writing) (others : List Bracket) (bracket : Bracket)
    → IsAt text now written → now.at < length text → get_or text now.at 0 ≡ 62
    → now.brackets.items ≡ others ++ bracket ∷ [] → bracket.is_list ≡ true → bracket.named ≡ None → IsClosed now after others bracket → Goes text now.at after
list_closes text now written after others bracket is less at_byte brackets_are list unnamed closed =
    let p = popped written now.brackets.items now.starts.items others bracket is.opened brackets_are in
    let rest = drop (now.at + 1) text in
    let elements = p.top.elements ++ written.last ∷ [] in
    let no_name : named_in p.top.name ≡ None = subst (λ l. IsListed p.top.name l) unnamed p.is.named in
    let none : for_list (named_in p.top.name) p.top.name elements rest ≡ for_list None p.top.name elements rest = ap (λ n. for_list n p.top.name elements rest) no_name in
    let before : List ℕ = before_last p.around ++ p.top.before in
    list_ends text now written after others bracket p is less at_byte list
    (closed.at_is ∙ ap (λ n. now.at + (1 + n)) (sym (ap (λ (a : Answer). a.size) none)))
    (omega (arith, less, closed.at_is)) (omega (arith, is.copied, closed.at_is, closed.copied_is))
    (ap (λ l. l ++ take (after.at - after.copied) (drop after.copied text)) closed.out_is
    ∙ ap (λ k. now.out.items ++ take (after.at - k) (drop k text)) closed.copied_is
    ∙ ap (λ k. now.out.items ++ take (k - now.copied) (drop now.copied text)) closed.at_is
    ∙ more-bytes text now.out.items now.copied now.at 1 (62 ∷ []) _ is.copied (list_bytes text now written others bracket p is list) (ap (take 1) (here_is text now.at 62 less at_byte))
    ∙ append_assoc (before ++ p.top.name) (60 ∷ joined elements) (62 ∷ []) ∙ append_assoc before p.top.name (60 ∷ joined elements ++ 62 ∷ [])
    ∙ ap (λ (a : Answer). before ++ a.bytes) (sym none))
    closed.brackets_are closed.starts_are

-- the end of a list after a name of the table
pub list_pending : (text : List ℕ) (now : Writing) (written : Written) (left : Writing) (others : List Bracket) (bracket : Bracket) (listed : Listed)
    → (p : Popped written others bracket now.starts.items) → IsAt text now written → now.at < length text → bracket.is_list ≡ true → bracket.named ≡ Some listed
    → left.at ≡ now.at → left.copied ≡ now.copied → left.out.items ≡ now.out.items → left.starts.items ≡ now.starts.items
    → IsPending text left bracket listed (before_last p.around ++ p.top.before) p.top.name (p.top.elements ++ written.last ∷ [])
list_pending text now written left others bracket listed p is less list named at_is copied_is out_is starts_are =
    let of_row = subst (λ l. IsListed p.top.name l) named p.is.named in
    record {
      copied = omega (arith, is.copied, at_is, copied_is);
      within = omega (arith, less, at_is);
      bytes =
          ap (λ l. l ++ take (left.at - left.copied) (drop left.copied text)) out_is
          ∙ ap (λ k. now.out.items ++ take (left.at - k) (drop k text)) copied_is
          ∙ ap (λ k. now.out.items ++ take (k - now.copied) (drop now.copied text)) at_is
          ∙ list_bytes text now written others bracket p is list;
      row = of_row.0;
      named = of_row.1;
      place = p.is.place_is;
      first = omega (arith, p.is.first_is, ap length (starts_are ∙ p.starts_are), length-append p.earlier p.own);
      starts =
          ap (drop bracket.first) (starts_are ∙ p.starts_are) ∙ drop_at p.earlier p.own bracket.first (sym p.is.first_is)
          ∙ p.is.starts_are ∙ starts-same (bracket.place + 1) p.top.elements written.last;
      some = omega (arith, length-append p.top.elements (written.last ∷ []));
    }

pub list_shortens : (text : List ℕ) (now : Writing) (written : Written) (left shorter after : Writing) (others : List Bracket) (bracket : Bracket) (listed : Listed)
    → (p : Popped written others bracket now.starts.items) → IsAt text now written → now.at < length text → get_or text now.at 0 ≡ 62 → bracket.is_list ≡ true
    → left.at ≡ now.at → left.brackets.items ≡ others → left.starts.items ≡ now.starts.items
    → IsShortened text left shorter listed (before_last p.around ++ p.top.before) p.top.name (p.top.elements ++ written.last ∷ [])
    → after.at ≡ shorter.at → after.copied ≡ shorter.copied → after.out.items ≡ shorter.out.items → after.brackets.items ≡ shorter.brackets.items
    → after.starts.items ≡ take bracket.first shorter.starts.items → Goes text now.at after
list_shortens text now written left shorter after others bracket listed p is less at_byte list left_at left_brackets left_starts s at_is copied_is out_is brackets_are starts_are =
    let answer : ℕ → Answer = λ at. for_list (named_in p.top.name) p.top.name (p.top.elements ++ written.last ∷ []) (drop (at + 1) text) in
    let none_left : after.at - after.copied ≡ 0 = omega (arith, s.copied_is, at_is, copied_is) in
    let to : ℕ → ℕ = λ at. at + (1 + (answer at).size) in
    let bytes : ℕ → List ℕ = λ at. before_last p.around ++ p.top.before ++ (answer at).bytes in
    list_ends text now written after others bracket p is less at_byte list
    (at_is ∙ s.at_is ∙ ap to left_at)
    (omega (arith, s.within, at_is)) (omega (arith, s.copied_is, at_is, copied_is))
    (ap (λ n. after.out.items ++ take n (drop after.copied text)) none_left ∙ append-nil _ ∙ out_is ∙ s.out_is
    ∙ ap bytes left_at)
    (brackets_are ∙ s.brackets_are ∙ left_brackets) (starts_are ∙ ap (take bracket.first) (s.starts_are ∙ left_starts))
