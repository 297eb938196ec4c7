-- Defaults as parts: a form with arguments in its holes.
use Rattle.short_names.proofs.Basics.{◌≡◌, ◌==◌, ◌&&◌, not, refl, sym, ap, ap₂, ◌∙◌, eqb-true, leb-true, ℕ, arith, Bool, true, false, List, [], ◌∷◌, ◌++◌, nat_le, codes, if◌then◌else◌, append_assoc, and_parts, true≢false, list_all, joined, listed, element, Parts, ends, name_then, byte_then, group_then, list_then, Elements, no_more, element_then, written, each_written, as_it_is, text_from, is_bare, is_other, is_end, begins_name, begins_hole, is_no_hole, has_some, opens_group, is_between_names, are_apart, each_apart, all_lists, all_lists_in, is_form, are_forms, begins_free, has_usual, is_placed, stands, bit, filled, ticks, is_name_byte, ends_operator, is_opening, is_closing}
use Rattle.short_names.proofs.PartWalks.{not-true}

-- ## Parts after parts

pub then_parts : Parts → Parts → Parts
then_parts ends more = more
then_parts (name_then name rest) more = name_then name (then_parts rest more)
then_parts (byte_then byte rest) more = byte_then byte (then_parts rest more)
then_parts (group_then opening inner closing rest) more = group_then opening inner closing (then_parts rest more)
then_parts (list_then usual name elements rest) more = list_then usual name elements (then_parts rest more)

pub then-written : (for_list : List ℕ → List ℕ → List (List ℕ) → List ℕ) (p more : Parts) → written for_list (then_parts p more) ≡ written for_list p ++ written for_list more
unfolding written then_parts
then-written f ends more = refl
then-written f (name_then name rest) more = ap (λ t. name ++ t) (then-written f rest more) ∙ sym (append_assoc name (written f rest) (written f more))
then-written f (byte_then byte rest) more = ap (λ t. byte ∷ t) (then-written f rest more)
then-written f (group_then opening inner closing rest) more =
    ap (λ t. opening ∷ written f inner ++ closing ∷ t) (then-written f rest more) ∙ sym (append_assoc (opening ∷ written f inner) (closing ∷ written f rest) (written f more))
then-written f (list_then usual name elements rest) more =
    ap (λ t. f usual name (each_written f elements) ++ t) (then-written f rest more) ∙ sym (append_assoc (f usual name (each_written f elements)) (written f rest) (written f more))

then-name : (p more : Parts) → begins_name p ≡ false → begins_name more ≡ false → begins_name (then_parts p more) ≡ false
unfolding then_parts
then-name ends more one two = two
then-name (name_then name rest) more one two = one
then-name (byte_then byte rest) more one two = one
then-name (group_then opening inner closing rest) more one two = one
then-name (list_then usual name elements rest) more one two = one

then-end : (p more : Parts) → is_end p ≡ false → is_end (then_parts p more) ≡ false
unfolding then_parts
then-end ends more one = absurd (true≢false one)
then-end (name_then name rest) more one = one
then-end (byte_then byte rest) more one = one
then-end (group_then opening inner closing rest) more one = one
then-end (list_then usual name elements rest) more one = one

then-free : (p more : Parts) → begins_free more true ≡ true → begins_free p true ≡ true → begins_free (then_parts p more) true ≡ true
unfolding then_parts
then-free ends more two one = two
then-free (name_then name rest) more two one = one
then-free (byte_then byte rest) more two one = one
then-free (group_then opening inner closing rest) more two one = one
then-free (list_then usual name elements rest) more two one = one

pub and-both : (a b : Bool) → a ≡ true → b ≡ true → (a && b) ≡ true
and-both true b one two = two
and-both false b one two = one

pub not-false : (b : Bool) → b ≡ false → not b ≡ true
not-false true h = absurd (true≢false h)
not-false false h = refl

still-between : (in_list : Bool) (byte : ℕ) (rest more : Parts) → is_between_names in_list byte rest ≡ true → is_between_names in_list byte (then_parts rest more) ≡ true
still-between in_list byte rest more h =
    let a = and_parts (not (is_name_byte byte)) _ h in
    let b = and_parts (not (is_opening byte)) _ a.1 in
    let c = and_parts (not (byte == 62)) _ b.1 in
    let d = and_parts (not (is_closing byte)) _ c.1 in
    let e = and_parts (not (in_list && byte == 44)) _ d.1 in
    and-both _ _ a.0 (and-both _ _ b.0 (and-both _ _ c.0 (and-both _ _ d.0 (and-both _ _ e.0 (by (byte == 45) (is_end rest) refl e.1)))))
  where
    by : (m n : Bool) → is_end rest ≡ n → not (m && n) ≡ true → not (m && is_end (then_parts rest more)) ≡ true
    by false n is h = refl
    by true true is h = absurd (true≢false (sym h))
    by true false is h = not-false (is_end (then_parts rest more)) (then-end rest more is)

-- a list may have another usual name, and other parts after it
pub stands-other : (usual other name : List ℕ) (rest more : Parts) → stands usual name rest ≡ true → (has_usual name ≡ false → is_bare other ≡ true) → (begins_free rest true ≡ true → begins_free more true ≡ true)
    → stands other name more ≡ true
stands-other usual other name rest more is bare free = by (has_usual name) refl is
  where
    by : (b : Bool) → has_usual name ≡ b → (if b then begins_free rest true else is_bare usual) ≡ true → (if b then begins_free more true else is_bare other) ≡ true
    by true e h = free h
    by false e h = bare e

pub placed-other : (lists : List ℕ → Bool) (usual other name : List ℕ) (rest more : Parts) → is_placed lists usual name rest ≡ true → (has_usual name ≡ false → is_bare other ≡ true)
    → (is_bare name ≡ true → is_bare other ≡ true) → (begins_free rest true ≡ true → begins_free more true ≡ true) → is_placed lists other name more ≡ true
placed-other lists usual other [] rest more is bare none free = none refl
placed-other lists usual other (byte ∷ name) rest more is bare none free =
    let a = and_parts (lists (byte ∷ name)) _ is in
    and-both _ _ a.0 (stands-other usual other (byte ∷ name) rest more a.1 bare free)

stands-bare : (usual name : List ℕ) (rest : Parts) → stands usual name rest ≡ true → has_usual name ≡ false → is_bare usual ≡ true
stands-bare usual name rest is none = by (has_usual name) none is
  where
    by : (b : Bool) → b ≡ false → (if b then begins_free rest true else is_bare usual) ≡ true → is_bare usual ≡ true
    by true e h = absurd (true≢false e)
    by false e h = h

placed-bare : (lists : List ℕ → Bool) (usual name : List ℕ) (rest : Parts) → is_placed lists usual name rest ≡ true → (has_usual name ≡ false → is_bare usual ≡ true) × (is_bare name ≡ true → is_bare usual ≡ true)
placed-bare lists usual [] rest is = (λ e. is, λ e. is)
placed-bare lists usual (byte ∷ name) rest is = (stands-bare usual (byte ∷ name) rest (and_parts (lists (byte ∷ name)) _ is).1, λ e. absurd (true≢false (sym e)))

pub then-apart : (lists : List ℕ → Bool) (in_list : Bool) (p more : Parts) → are_apart lists in_list p ≡ true → are_apart lists in_list more ≡ true → begins_name more ≡ false → begins_free more true ≡ true
    → are_apart lists in_list (then_parts p more) ≡ true
unfolding are_apart then_parts
then-apart lists in_list ends more one two first free = two
then-apart lists in_list (name_then name rest) more one two first free =
    let a = and_parts (is_other name && not (ends_operator name)) _ one in
    let b = and_parts (not (begins_name rest)) _ a.1 in
    and-both _ _ a.0 (and-both _ _ (not-false _ (then-name rest more (not-true (begins_name rest) b.0) first)) (then-apart lists in_list rest more b.1 two first free))
then-apart lists in_list (byte_then byte rest) more one two first free =
    let a = and_parts (is_between_names in_list byte rest) _ one in
    and-both _ _ (still-between in_list byte rest more a.0) (then-apart lists in_list rest more a.1 two first free)
then-apart lists in_list (group_then opening inner closing rest) more one two first free =
    let a = and_parts (opens_group opening) _ one in
    let b = and_parts (is_closing closing) _ a.1 in
    let c = and_parts (are_apart lists false inner) _ b.1 in
    and-both _ _ a.0 (and-both _ _ b.0 (and-both _ _ c.0 (then-apart lists in_list rest more c.1 two first free)))
then-apart lists in_list (list_then usual name elements rest) more one two first free =
    let a = and_parts (is_placed lists usual name rest) _ one in
    let bare = placed-bare lists usual name rest a.0 in
    let b = and_parts (has_some elements) _ a.1 in
    let c = and_parts (each_apart lists elements) _ b.1 in
    and-both _ _ (placed-other lists usual usual name rest (then_parts rest more) a.0 bare.0 bare.1 (then-free rest more free)) (and-both _ _ b.0 (and-both _ _ c.0 (then-apart lists in_list rest more c.1 two first free)))

pub then-all : (test : List ℕ → List ℕ → Elements → Bool) (p more : Parts) → all_lists test p ≡ true → all_lists test more ≡ true → all_lists test (then_parts p more) ≡ true
unfolding all_lists then_parts
then-all test ends more one two = two
then-all test (name_then name rest) more one two = then-all test rest more one two
then-all test (byte_then byte rest) more one two = then-all test rest more one two
then-all test (group_then opening inner closing rest) more one two =
    let a = and_parts (all_lists test inner) _ one in and-both _ _ a.0 (then-all test rest more a.1 two)
then-all test (list_then usual name elements rest) more one two =
    let a = and_parts (test usual name elements) _ one in
    let b = and_parts (all_lists_in test elements) _ a.1 in
    and-both _ _ a.0 (and-both _ _ b.0 (then-all test rest more b.1 two))

-- ## Holes

module _ (one two : Parts) (whole : List ℕ) where
  mutual
    pub in_holes : Parts → Parts
    in_holes ends = ends
    in_holes (name_then name rest) = name_then (filled [] [] whole name) (in_holes rest)
    in_holes (byte_then byte rest) = if byte == 0 then then_parts one (in_holes rest) else (if byte == 1 then then_parts two (in_holes rest) else byte_then byte (in_holes rest))
    in_holes (group_then opening inner closing rest) = group_then opening (in_holes inner) closing (in_holes rest)
    in_holes (list_then usual name elements rest) = list_then usual name (each_in_holes elements) (in_holes rest)

    pub each_in_holes : Elements → Elements
    each_in_holes no_more = no_more
    each_in_holes (element_then element others) = element_then (in_holes element) (each_in_holes others)

module _ (one two whole : List ℕ) where
  pub filled-more : (xs ys : List ℕ) → filled one two whole (xs ++ ys) ≡ filled one two whole xs ++ filled one two whole ys
  unfolding filled
  filled-more [] ys = refl
  filled-more (x ∷ xs) ys = ap (λ t. bit one two whole x ++ t) (filled-more xs ys) ∙ sym (append_assoc (bit one two whole x) (filled one two whole xs) (filled one two whole ys))

  pub filled-name : (name : List ℕ) → list_all is_no_hole name ≡ true → filled one two whole name ≡ filled [] [] whole name
  unfolding filled
  filled-name [] all = refl
  filled-name (byte ∷ name) all =
      let a = and_parts (is_no_hole byte) (list_all is_no_hole name) all in
      let b = and_parts (not (byte == 0)) (not (byte == 1)) a.0 in
      ap₂ (λ x y. x ++ y) (by (byte == 0) (byte == 1) (not-true (byte == 0) b.0) (not-true (byte == 1) b.1)) (filled-name name a.1)
    where
      by : (m n : Bool) → m ≡ false → n ≡ false
          → (if m then one else (if n then two else (if byte == 2 then whole else (if byte == 3 then ticks whole else byte ∷ []))))
          ≡ (if m then [] else (if n then [] else (if byte == 2 then whole else (if byte == 3 then ticks whole else byte ∷ []))))
      by true n is-m is-n = absurd (true≢false is-m)
      by false true is-m is-n = absurd (true≢false is-n)
      by false false is-m is-n = refl

  pub literal : (byte : ℕ) → nat_le 4 byte ≡ true → bit one two whole byte ≡ byte ∷ []
  literal byte h = by (byte == 0) (byte == 1) (byte == 2) (byte == 3) refl refl refl refl
    where
      by : (a b c d : Bool) → (byte == 0) ≡ a → (byte == 1) ≡ b → (byte == 2) ≡ c → (byte == 3) ≡ d
          → (if a then one else (if b then two else (if c then whole else (if d then ticks whole else byte ∷ [])))) ≡ byte ∷ []
      by true b c d is-a is-b is-c is-d = absurd (omega (arith, eqb-true byte 0 is-a, leb-true 4 byte h))
      by false true c d is-a is-b is-c is-d = absurd (omega (arith, eqb-true byte 1 is-b, leb-true 4 byte h))
      by false false true d is-a is-b is-c is-d = absurd (omega (arith, eqb-true byte 2 is-c, leb-true 4 byte h))
      by false false false true is-a is-b is-c is-d = absurd (omega (arith, eqb-true byte 3 is-d, leb-true 4 byte h))
      by false false false false is-a is-b is-c is-d = refl

  pub filled_each : List (List ℕ) → List (List ℕ)
  filled_each [] = []
  filled_each (element ∷ elements) = filled one two whole element ∷ filled_each elements

  filled-joined : (elements : List (List ℕ)) → filled one two whole (joined elements) ≡ joined (filled_each elements)
  unfolding joined filled filled_each
  filled-joined [] = refl
  filled-joined (element ∷ []) = refl
  filled-joined (element ∷ next ∷ elements) =
      filled-more (element ++ codes ", ") (joined (next ∷ elements))
      ∙ ap₂ (λ x y. x ++ y) (filled-more element (codes ", ")) (filled-joined (next ∷ elements))

-- ## A form with arguments

module _ (for_list : List ℕ → List ℕ → List (List ℕ) → List ℕ) (bare_is : (elements : List (List ℕ)) → for_list [] [] elements ≡ listed elements) (one two : Parts) (whole : List ℕ) where
  abbrev a : List ℕ
  a = written for_list one

  abbrev b : List ℕ
  b = written for_list two

  mutual
    unfolding written in_holes is_form filled filled_each

    pub form-written : (form : Parts) → is_form whole form ≡ true → written for_list (in_holes one two whole form) ≡ filled a b whole (text_from form)
    form-written ends good = refl
    form-written (name_then name rest) good =
        let p = and_parts _ _ good in
        let n = and_parts (list_all is_no_hole name) _ p.0 in
        let q = and_parts (not (begins_name rest)) _ p.1 in
        let r = and_parts (not (begins_hole rest)) (is_form whole rest) q.1 in
        ap₂ (λ x y. x ++ y) (sym (filled-name a b whole name n.0)) (form-written rest r.1) ∙ sym (filled-more a b whole name (text_from rest))
    form-written (byte_then byte rest) good =
        let p = and_parts _ (is_form whole rest) good in
        by (byte == 0) (byte == 1) refl refl p.0 (form-written rest p.1)
      where
        by : (m n : Bool) → (byte == 0) ≡ m → (byte == 1) ≡ n
            → (if not m && not n then nat_le 4 byte && (is_between_names true byte rest && not (byte == 45)) else not (begins_name rest) && (not (begins_hole rest) && begins_free rest true)) ≡ true
            → written for_list (in_holes one two whole rest) ≡ filled a b whole (text_from rest)
            → written for_list (if m then then_parts one (in_holes one two whole rest) else (if n then then_parts two (in_holes one two whole rest) else byte_then byte (in_holes one two whole rest)))
            ≡ bit a b whole byte ++ filled a b whole (text_from rest)
        by true n is-m is-n h again =
            then-written for_list one (in_holes one two whole rest) ∙ ap (λ t. a ++ t) again ∙ rw is-m refl
        by false true is-m is-n h again =
            then-written for_list two (in_holes one two whole rest) ∙ ap (λ t. b ++ t) again ∙ rw (is-m, is-n) refl
        by false false is-m is-n h again =
            ap (λ t. byte ∷ t) again ∙ ap (λ t. t ++ filled a b whole (text_from rest)) (sym (literal a b whole byte (and_parts (nat_le 4 byte) _ h).0))
    form-written (group_then opening inner closing rest) good = absurd (true≢false (sym good))
    form-written (list_then [] [] elements rest) good =
        let p = and_parts (has_some elements) _ good in
        let q = and_parts (are_forms whole elements) _ p.1 in
        ap₂ (λ x y. x ++ y) (bare_is (each_written for_list (each_in_holes one two whole elements))
        ∙ ap (λ t. 60 ∷ t ++ 62 ∷ []) (ap joined (forms-written elements q.0) ∙ sym (filled-joined a b whole (each_written as_it_is elements))))
        (form-written rest q.1)
        ∙ sym (filled-more a b whole (60 ∷ joined (each_written as_it_is elements) ++ 62 ∷ []) (text_from rest) ∙ ap (λ t. 60 ∷ t ++ filled a b whole (text_from rest)) (filled-more a b whole (joined (each_written as_it_is elements)) (62 ∷ [])))
    form-written (list_then [] (byte ∷ name) elements rest) good = absurd (true≢false (sym good))
    form-written (list_then (byte ∷ usual) name elements rest) good = absurd (true≢false (sym good))

    pub forms-written : (elements : Elements) → are_forms whole elements ≡ true → each_written for_list (each_in_holes one two whole elements) ≡ filled_each a b whole (each_written as_it_is elements)
    forms-written no_more good = refl
    forms-written (element_then element others) good =
        let p = and_parts (is_form whole element) _ good in
        ap₂ (λ x y. x ∷ y) (form-written element p.0) (forms-written others p.1)

holes-first : (one two : Parts) (whole : List ℕ) (form : Parts) → begins_name form ≡ false → begins_hole form ≡ false → begins_name (in_holes one two whole form) ≡ false
unfolding in_holes
holes-first one two whole ends name hole = refl
holes-first one two whole (name_then n rest) name hole = name
holes-first one two whole (byte_then byte rest) name hole = by (byte == 0) (byte == 1) (hole)
  where
    by : (m n : Bool) → not (not m && not n) ≡ false
        → begins_name (if m then then_parts one (in_holes one two whole rest) else (if n then then_parts two (in_holes one two whole rest) else byte_then byte (in_holes one two whole rest))) ≡ false
    by true n h = absurd (true≢false h)
    by false true h = absurd (true≢false h)
    by false false h = refl
holes-first one two whole (group_then opening inner closing rest) name hole = refl
holes-first one two whole (list_then usual n elements rest) name hole = name

holes-free : (one two : Parts) (whole : List ℕ) (form : Parts) → begins_hole form ≡ false → begins_free form true ≡ true → begins_free (in_holes one two whole form) true ≡ true
unfolding in_holes
holes-free one two whole ends hole free = refl
holes-free one two whole (name_then n rest) hole free = free
holes-free one two whole (byte_then byte rest) hole free = by (byte == 0) (byte == 1) hole
  where
    by : (m n : Bool) → not (not m && not n) ≡ false
        → begins_free (if m then then_parts one (in_holes one two whole rest) else (if n then then_parts two (in_holes one two whole rest) else byte_then byte (in_holes one two whole rest))) true ≡ true
    by true n h = absurd (true≢false h)
    by false true h = absurd (true≢false h)
    by false false h = free
holes-free one two whole (group_then opening inner closing rest) hole free = refl
holes-free one two whole (list_then usual n elements rest) hole free = free

between-any : (in_list : Bool) (byte : ℕ) (rest other : Parts) → is_between_names in_list byte rest ≡ true → (byte == 45) ≡ false → is_between_names in_list byte other ≡ true
between-any in_list byte rest other h isn't =
    let a = and_parts (not (is_name_byte byte)) _ h in
    let b = and_parts (not (is_opening byte)) _ a.1 in
    let c = and_parts (not (byte == 62)) _ b.1 in
    let d = and_parts (not (is_closing byte)) _ c.1 in
    let e = and_parts (not (in_list && byte == 44)) _ d.1 in
    and-both _ _ a.0 (and-both _ _ b.0 (and-both _ _ c.0 (and-both _ _ d.0 (and-both _ _ e.0 (ap (λ t. not (t && is_end other)) isn't)))))

module _ (lists : List ℕ → Bool) (one two : Parts) (whole : List ℕ) (one_apart : are_apart lists true one ≡ true) (two_apart : are_apart lists true two ≡ true) where
  mutual
    unfolding are_apart in_holes is_form

    pub form-apart : (form : Parts) → is_form whole form ≡ true → are_apart lists true (in_holes one two whole form) ≡ true
    form-apart ends good = refl
    form-apart (name_then name rest) good =
        let p = and_parts _ _ good in
        let n = and_parts (list_all is_no_hole name) _ p.0 in
        let q = and_parts (not (begins_name rest)) _ p.1 in
        let r = and_parts (not (begins_hole rest)) (is_form whole rest) q.1 in
        and-both _ _ n.1 (and-both _ _ (not-false _ (holes-first one two whole rest (not-true (begins_name rest) q.0) (not-true (begins_hole rest) r.0))) (form-apart rest r.1))
    form-apart (byte_then byte rest) good =
        let p = and_parts _ (is_form whole rest) good in
        by (byte == 0) (byte == 1) p.0 (form-apart rest p.1)
      where
        by : (m n : Bool)
            → (if not m && not n then nat_le 4 byte && (is_between_names true byte rest && not (byte == 45)) else not (begins_name rest) && (not (begins_hole rest) && begins_free rest true)) ≡ true
            → are_apart lists true (in_holes one two whole rest) ≡ true
            → are_apart lists true (if m then then_parts one (in_holes one two whole rest) else (if n then then_parts two (in_holes one two whole rest) else byte_then byte (in_holes one two whole rest))) ≡ true
        by true n h again =
            let q = and_parts (not (begins_name rest)) (not (begins_hole rest) && begins_free rest true) h in
            let r = and_parts (not (begins_hole rest)) (begins_free rest true) q.1 in
            then-apart lists true one (in_holes one two whole rest) one_apart again (holes-first one two whole rest (not-true (begins_name rest) q.0) (not-true (begins_hole rest) r.0))
            (holes-free one two whole rest (not-true (begins_hole rest) r.0) r.1)
        by false true h again =
            let q = and_parts (not (begins_name rest)) (not (begins_hole rest) && begins_free rest true) h in
            let r = and_parts (not (begins_hole rest)) (begins_free rest true) q.1 in
            then-apart lists true two (in_holes one two whole rest) two_apart again (holes-first one two whole rest (not-true (begins_name rest) q.0) (not-true (begins_hole rest) r.0))
            (holes-free one two whole rest (not-true (begins_hole rest) r.0) r.1)
        by false false h again =
            let q = and_parts (is_between_names true byte rest) (not (byte == 45)) (and_parts (nat_le 4 byte) _ h).1 in
            and-both _ _ (between-any true byte rest (in_holes one two whole rest) q.0 (not-true (byte == 45) q.1)) again
    form-apart (group_then opening inner closing rest) good = absurd (true≢false (sym good))
    form-apart (list_then [] [] elements rest) good =
        let p = and_parts (has_some elements) _ good in
        let q = and_parts (are_forms whole elements) _ p.1 in
        and-both _ _ (some elements p.0) (and-both _ _ (forms-apart elements q.0) (form-apart rest q.1))
      where
        some : (es : Elements) → has_some es ≡ true → has_some (each_in_holes one two whole es) ≡ true
        some no_more h = h
        some (element_then e o) h = refl
    form-apart (list_then [] (byte ∷ name) elements rest) good = absurd (true≢false (sym good))
    form-apart (list_then (byte ∷ usual) name elements rest) good = absurd (true≢false (sym good))

    pub forms-apart : (elements : Elements) → are_forms whole elements ≡ true → each_apart lists (each_in_holes one two whole elements) ≡ true
    forms-apart no_more good = refl
    forms-apart (element_then element others) good =
        let p = and_parts (is_form whole element) _ good in
        and-both _ _ (form-apart element p.0) (forms-apart others p.1)

module _ (test : List ℕ → List ℕ → Elements → Bool) (bare : (elements : Elements) → test [] [] elements ≡ true) (one two : Parts) (whole : List ℕ) (one_all : all_lists test one ≡ true) (two_all : all_lists test two ≡ true) where
  mutual
    unfolding all_lists in_holes is_form

    pub form-all : (form : Parts) → is_form whole form ≡ true → all_lists test (in_holes one two whole form) ≡ true
    form-all ends good = refl
    form-all (name_then name rest) good =
        let p = and_parts _ _ good in
        let q = and_parts (not (begins_name rest)) _ p.1 in
        let r = and_parts (not (begins_hole rest)) (is_form whole rest) q.1 in
        form-all rest r.1
    form-all (byte_then byte rest) good =
        let p = and_parts _ (is_form whole rest) good in
        by (byte == 0) (byte == 1) (form-all rest p.1)
      where
        by : (m n : Bool) → all_lists test (in_holes one two whole rest) ≡ true
            → all_lists test (if m then then_parts one (in_holes one two whole rest) else (if n then then_parts two (in_holes one two whole rest) else byte_then byte (in_holes one two whole rest))) ≡ true
        by true n again = then-all test one (in_holes one two whole rest) one_all again
        by false true again = then-all test two (in_holes one two whole rest) two_all again
        by false false again = again
    form-all (group_then opening inner closing rest) good = absurd (true≢false (sym good))
    form-all (list_then [] [] elements rest) good =
        let p = and_parts (has_some elements) _ good in
        let q = and_parts (are_forms whole elements) _ p.1 in
        and-both _ _ (bare (each_in_holes one two whole elements)) (and-both _ _ (forms-all elements q.0) (form-all rest q.1))
    form-all (list_then [] (byte ∷ name) elements rest) good = absurd (true≢false (sym good))
    form-all (list_then (byte ∷ usual) name elements rest) good = absurd (true≢false (sym good))

    pub forms-all : (elements : Elements) → are_forms whole elements ≡ true → all_lists_in test (each_in_holes one two whole elements) ≡ true
    forms-all no_more good = refl
    forms-all (element_then element others) good =
        let p = and_parts (is_form whole element) _ good in
        and-both _ _ (form-all element p.0) (forms-all others p.1)
