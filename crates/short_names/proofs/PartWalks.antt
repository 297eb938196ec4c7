-- The walk over the text of parts writes what is written for them part by part.
use Rattle.short_names.proofs.Basics.{◌≡◌, ◌==◌, ◌<◌, ◌&&◌, ◌||◌, ◌⊎◌, inl, inr, not, refl, sym, ap, ap₂, subst, ◌∙◌, eq-eqb, eqb-true, ℕ, arith, Bool, true, false, List, [], ◌∷◌, ◌++◌, length, get_or, nat_eq, codes, None, if◌then◌else◌, append-nil, append_assoc, and_parts, true≢false, list_all, starts_with, joined, listed, Parts, ends, name_then, byte_then, group_then, list_then, Elements, no_more, element_then, written, each_written, as_it_is, text_from, is_bare, is_other, is_end, begins_name, has_some, opens_group, is_between_names, are_apart, each_apart, are_outside, ends_apart, all_lists, all_lists_in, begins_free, has_usual, is_placed, stands, is_letter, is_name_byte, ends_operator, Rules, Opened, written_for, by_rules, text_or, is_list, is_opening, is_closing}
use Rattle.short_names.proofs.FrontLemmas.{differs}
use Rattle.short_names.proofs.PartSteps.{IsBehind, IsFree, at, free-nothing, within, inner-name, name-stays, name-opens, byte-outside, byte-within, group-opens, group-closes, list-closes-over, element-ends}

pub not-true : (b : Bool) → not b ≡ true → b ≡ false
not-true true h = absurd (true≢false (sym h))
not-true false h = refl

-- what rules do with parts
pub record Obeys (rules : Rules) (for_list : List ℕ → List ℕ → List (List ℕ) → List ℕ) (lists : List ℕ → Bool) : Type 0 where
  pub leave : (name rest : List ℕ) → is_other name ≡ true → (rules.opens name ≡ false) × (rules.for_name name rest ≡ None)
  pub open_list : (name : List ℕ) → lists name ≡ true → (rules.opens name ≡ true) × (0 < length name) × (list_all is_name_byte name ≡ true)
  pub answers : (usual name : List ℕ) (elements : List (List ℕ)) (rest : List ℕ) → lists name ≡ true → (has_usual name ≡ true → IsFree rest)
      → rules.for_list name elements rest ≡ record { bytes = for_list usual name elements; size = 0 }
  pub bare : (elements : List (List ℕ)) (rest : List ℕ) → rules.for_list [] elements rest ≡ record { bytes = for_list [] [] elements; size = 0 }
  pub bare_is : (elements : List (List ℕ)) → for_list [] [] elements ≡ listed elements

-- what rules do with lists that pass a test and are written by their usual names
pub record Calls (rules : Rules) (for_list : List ℕ → List ℕ → List (List ℕ) → List ℕ) (test : List ℕ → List ℕ → Elements → Bool) : Type 0 where
  pub bytes : (usual name : List ℕ) (elements : Elements) → test usual name elements ≡ true → list_all is_name_byte usual ≡ true
  pub calls : (usual name : List ℕ) (elements : Elements) → is_bare usual ≡ false → test usual name elements ≡ true → (opened : List Opened) (last rest : List ℕ) → IsFree rest
      → written_for rules 0 (usual ++ rest) (at opened last) ≡ written_for rules 0 rest (at opened (last ++ for_list usual name (each_written for_list elements)))

-- no list is written by its usual name
pub bare-calls : (rules : Rules) (for_list : List ℕ → List ℕ → List (List ℕ) → List ℕ) (test : List ℕ → List ℕ → Elements → Bool)
    → ((usual name : List ℕ) (elements : Elements) → test usual name elements ≡ true → is_bare usual ≡ true) → Calls rules for_list test
bare-calls rules for_list test bare = record {
  bytes = λ usual name elements is. none usual (bare usual name elements is);
  calls = λ usual name elements some is opened last rest free. absurd (true≢false (sym (bare usual name elements is) ∙ some));
}
  where
    none : (usual : List ℕ) → is_bare usual ≡ true → list_all is_name_byte usual ≡ true
    none [] is = refl
    none (byte ∷ usual) is = absurd (true≢false (sym is))

-- the innermost open bracket, if there is one, is a list's exactly if `in_list` is true
abbrev Around : (in_list : Bool) → List Opened → Type 0
Around in_list [] = Unit {0}
Around in_list (top ∷ around) = is_list top ≡ in_list

-- ## Names and bytes

pub other-parts : (name : List ℕ) → is_other name ≡ true → (0 < length name) × (list_all is_name_byte name ≡ true)
unfolding is_other
other-parts [] h = absurd (true≢false (sym h))
other-parts (byte ∷ name) h =
    let parts = and_parts true _ h in
    (omega arith, (and_parts (list_all is_name_byte (byte ∷ name)) _ parts.1).0)

first-name : (name text : List ℕ) → 0 < length name → list_all is_name_byte name ≡ true → is_name_byte (get_or (name ++ text) 0 0) ≡ true
first-name [] text some all = absurd (omega (arith, some))
first-name (byte ∷ name) text some all = (and_parts (is_name_byte byte) (list_all is_name_byte name) all).0

no-name : (byte other : ℕ) → is_name_byte byte ≡ true → is_name_byte other ≡ false → byte ≡ other → ⊥
no-name byte other is isn't same = true≢false (sym is ∙ ap is_name_byte same ∙ isn't)

opening-cases : (P : ℕ → Type 0) → P 40 → P 91 → P 123 → (byte : ℕ) → opens_group byte ≡ true → P byte
opening-cases P one two three byte h = by (byte == 40) (byte == 91) (byte == 123) refl refl refl h
  where
    by : (a b c : Bool) → (byte == 40) ≡ a → (byte == 91) ≡ b → (byte == 123) ≡ c → (a || (b || c)) ≡ true → P byte
    by true b c is-a is-b is-c e = subst P (sym (eqb-true byte 40 is-a)) one
    by false true c is-a is-b is-c e = subst P (sym (eqb-true byte 91 is-b)) two
    by false false true is-a is-b is-c e = subst P (sym (eqb-true byte 123 is-c)) three
    by false false false is-a is-b is-c e = absurd (true≢false (sym e))

closing-cases : (P : ℕ → Type 0) → P 41 → P 93 → P 125 → (byte : ℕ) → is_closing byte ≡ true → P byte
closing-cases P one two three byte h = by (byte == 41) (byte == 93) (byte == 125) refl refl refl h
  where
    by : (a b c : Bool) → (byte == 41) ≡ a → (byte == 93) ≡ b → (byte == 125) ≡ c → ((a || b) || c) ≡ true → P byte
    by true b c is-a is-b is-c e = subst P (sym (eqb-true byte 41 is-a)) one
    by false true c is-a is-b is-c e = subst P (sym (eqb-true byte 93 is-b)) two
    by false false true is-a is-b is-c e = subst P (sym (eqb-true byte 125 is-c)) three
    by false false false is-a is-b is-c e = absurd (true≢false (sym e))

-- ## What comes first

no-close : (lists : List ℕ → Bool) (in_list : Bool) (named : (name : List ℕ) → lists name ≡ true → (0 < length name) × (list_all is_name_byte name ≡ true))
    (test : List ℕ → List ℕ → Elements → Bool) (bytes : (usual name : List ℕ) (elements : Elements) → test usual name elements ≡ true → list_all is_name_byte usual ≡ true) (p : Parts) (text : List ℕ)
    → are_apart lists in_list p ≡ true → all_lists test p ≡ true → is_end p ≡ false → get_or (text_from p ++ text) 0 0 ≡ 62 → ⊥
unfolding are_apart all_lists written is_name_byte is_letter
no-close lists in_list named test bytes ends text good all some first = absurd (true≢false some)
no-close lists in_list named test bytes (name_then name rest) text good all some first =
    let is = other-parts name (and_parts (is_other name) _ (and_parts (is_other name && not (ends_operator name)) _ good).0).0 in
    no-name (get_or (name ++ (written as_it_is rest ++ text)) 0 0) 62 (first-name name (written as_it_is rest ++ text) is.0 is.1) refl (ap (λ t. get_or t 0 0) (sym (append_assoc name (written as_it_is rest) text)) ∙ first)
no-close lists in_list named test bytes (byte_then byte rest) text good all some first =
    let between = (and_parts (is_between_names in_list byte rest) _ good).0 in
    let not_list = (and_parts (not (byte == 62)) _ (and_parts (not (is_opening byte)) _ (and_parts (not (is_name_byte byte)) _ between).1).1).0 in
    true≢false (sym (eq-eqb byte 62 first) ∙ not-true (byte == 62) not_list)
no-close lists in_list named test bytes (group_then opening inner closing rest) text good all some first =
    opening-cases (λ b. b ≡ 62 → ⊥) (λ e. omega (arith, e)) (λ e. omega (arith, e)) (λ e. omega (arith, e)) opening (and_parts (opens_group opening) _ good).0 first
no-close lists in_list named test bytes (list_then [] [] elements rest) text good all some first = omega (arith, first)
no-close lists in_list named test bytes (list_then [] (byte ∷ name) elements rest) text good all some first =
    let is = named (byte ∷ name) (and_parts (lists (byte ∷ name)) _ (and_parts (is_placed lists [] (byte ∷ name) rest) _ good).0).0 in
    no-name byte 62 (first-name (byte ∷ name) [] is.0 is.1) refl first
no-close lists in_list named test bytes (list_then (byte ∷ usual) name elements rest) text good all some first =
    no-name byte 62 (first-name (byte ∷ usual) [] (omega arith) (bytes (byte ∷ usual) name elements (and_parts (test (byte ∷ usual) name elements) _ all).0)) refl first

behind : (lists : List ℕ → Bool) (in_list : Bool) (p : Parts) (text : List ℕ) → are_apart lists in_list p ≡ true → begins_name p ≡ false → IsBehind text → IsBehind (text_from p ++ text)
unfolding are_apart written is_name_byte is_letter
behind lists in_list ends text good first is = is
behind lists in_list (name_then name rest) text good first is = absurd (true≢false first)
behind lists in_list (byte_then byte rest) text good first is =
    not-true (is_name_byte byte) (and_parts (not (is_name_byte byte)) _ (and_parts (is_between_names in_list byte rest) _ good).0).0
behind lists in_list (group_then opening inner closing rest) text good first is =
    opening-cases (λ b. is_name_byte b ≡ false) refl refl refl opening (and_parts (opens_group opening) _ good).0
behind lists in_list (list_then [] [] elements rest) text good first is = refl
behind lists in_list (list_then (other ∷ usual) [] elements rest) text good first is = absurd (true≢false (sym (and_parts (is_placed lists (other ∷ usual) [] rest) (has_some elements && (each_apart lists elements && are_apart lists in_list rest)) good).0))
behind lists in_list (list_then usual (byte ∷ name) elements rest) text good first is = absurd (true≢false first)

-- neither a name nor a list comes first
free-in : (lists : List ℕ → Bool) (in_list : Bool) (p : Parts) (text : List ℕ) → are_apart lists in_list p ≡ true → begins_free p true ≡ true → IsFree text → IsFree (text_from p ++ text)
unfolding are_apart written is_name_byte is_letter
free-in lists in_list ends text good first is = is
free-in lists in_list (name_then name rest) text good first is = absurd (true≢false (sym first))
free-in lists in_list (byte_then byte rest) text good first is = (
  not-true (is_name_byte byte) (and_parts (not (is_name_byte byte)) _ (and_parts (is_between_names in_list byte rest) _ good).0).0,
  λ e. true≢false (sym (eq-eqb byte 60 e) ∙ not-true (byte == 60) first),
)
free-in lists in_list (group_then opening inner closing rest) text good first is = (
  opening-cases (λ b. is_name_byte b ≡ false) refl refl refl opening (and_parts (opens_group opening) _ good).0,
  opening-cases (λ b. b ≡ 60 → ⊥) (λ e. omega (arith, e)) (λ e. omega (arith, e)) (λ e. omega (arith, e)) opening (and_parts (opens_group opening) _ good).0,
)
free-in lists in_list (list_then usual name elements rest) text good first is = absurd (true≢false (sym first))

free-outside : (lists : List ℕ → Bool) (p : Parts) (text : List ℕ) → are_outside lists p ≡ true → begins_free p true ≡ true → (is_end p ≡ true → IsFree text) → IsFree (text_from p ++ text)
unfolding are_outside written is_name_byte is_letter
free-outside lists ends text good first is = is refl
free-outside lists (name_then name rest) text good first is = absurd (true≢false (sym first))
free-outside lists (byte_then byte rest) text good first is =
    (not-true (is_name_byte byte) (and_parts (not (is_name_byte byte)) _ good).0, λ e. true≢false (sym (eq-eqb byte 60 e) ∙ not-true (byte == 60) first))
free-outside lists (group_then opening inner closing rest) text good first is = absurd (true≢false (sym good))
free-outside lists (list_then usual name elements rest) text good first is = absurd (true≢false (sym first))

-- neither a name nor a list comes after a list that may have a usual name
stands-free : (usual name : List ℕ) (rest : Parts) → stands usual name rest ≡ true → has_usual name ≡ true → begins_free rest true ≡ true
stands-free usual name rest stood is = by (has_usual name) is stood
  where
    by : (b : Bool) → b ≡ true → (if b then begins_free rest true else is_bare usual) ≡ true → begins_free rest true ≡ true
    by true e h = h
    by false e h = absurd (true≢false (sym e))

called-has : (byte : ℕ) (usual name : List ℕ) (rest : Parts) → stands (byte ∷ usual) name rest ≡ true → has_usual name ≡ true
called-has byte usual name rest stood = by (has_usual name) stood
  where
    by : (b : Bool) → (if b then begins_free rest true else false) ≡ true → b ≡ true
    by true h = refl
    by false h = absurd (true≢false (sym h))

called-usual : (byte : ℕ) (usual name : List ℕ) (rest : Parts) → stands (byte ∷ usual) name rest ≡ true → begins_free rest true ≡ true
called-usual byte usual name rest stood = by (has_usual name) stood
  where
    by : (b : Bool) → (if b then begins_free rest true else false) ≡ true → begins_free rest true ≡ true
    by true h = h
    by false h = absurd (true≢false (sym h))

behind-outside : (lists : List ℕ → Bool) (p : Parts) (text : List ℕ) → are_outside lists p ≡ true → begins_name p ≡ false → IsBehind text → IsBehind (text_from p ++ text)
unfolding are_outside written is_name_byte is_letter
behind-outside lists ends text good first is = is
behind-outside lists (name_then name rest) text good first is = absurd (true≢false first)
behind-outside lists (byte_then byte rest) text good first is = not-true (is_name_byte byte) (and_parts (not (is_name_byte byte)) _ good).0
behind-outside lists (group_then opening inner closing rest) text good first is = absurd (true≢false (sym good))
behind-outside lists (list_then [] [] elements rest) text good first is = refl
behind-outside lists (list_then (other ∷ usual) [] elements rest) text good first is = absurd (true≢false (sym good))
behind-outside lists (list_then usual (byte ∷ name) elements rest) text good first is = absurd (true≢false first)

some-behind : (lists : List ℕ → Bool) (p : Parts) (text : List ℕ) → are_outside lists p ≡ true → begins_name p ≡ false → is_end p ≡ false → IsBehind (text_from p ++ text)
unfolding are_outside written is_name_byte is_letter
some-behind lists ends text good first some = absurd (true≢false some)
some-behind lists (name_then name rest) text good first some = absurd (true≢false first)
some-behind lists (byte_then byte rest) text good first some = not-true (is_name_byte byte) (and_parts (not (is_name_byte byte)) _ good).0
some-behind lists (group_then opening inner closing rest) text good first some = absurd (true≢false (sym good))
some-behind lists (list_then [] [] elements rest) text good first some = refl
some-behind lists (list_then (other ∷ usual) [] elements rest) text good first some = absurd (true≢false (sym good))
some-behind lists (list_then usual (byte ∷ name) elements rest) text good first some = absurd (true≢false first)

-- parts don't end with a name, or no byte of a name comes after them
rest-apart : (name : List ℕ) (rest : Parts) (text : List ℕ) → ends_apart (name_then name rest) ≡ true ⊎ IsFree text → ends_apart rest ≡ true ⊎ IsFree text
unfolding ends_apart
rest-apart name rest text (inl h) = inl (and_parts (not (is_end rest)) _ h).1
rest-apart name rest text (inr h) = inr h

behind-more : (lists : List ℕ → Bool) (name : List ℕ) (rest : Parts) (text : List ℕ) → are_outside lists rest ≡ true → begins_name rest ≡ false
    → ends_apart (name_then name rest) ≡ true ⊎ IsFree text → IsBehind (text_from rest ++ text)
unfolding ends_apart
behind-more lists name rest text good first (inr h) = behind-outside lists rest text good first h.0
behind-more lists name rest text good first (inl h) = some-behind lists rest text good first (not-true (is_end rest) (and_parts (not (is_end rest)) _ h).0)

-- likewise for parts after a list
rest-of : (usual name : List ℕ) (elements : Elements) (rest : Parts) (text : List ℕ) → ends_apart (list_then usual name elements rest) ≡ true ⊎ IsFree text → ends_apart rest ≡ true ⊎ IsFree text
unfolding ends_apart
rest-of usual name elements rest text (inl h) = inl (and_parts (not (has_usual name) || not (is_end rest)) _ h).1
rest-of usual name elements rest text (inr h) = inr h

free-of : (usual name : List ℕ) (elements : Elements) (rest : Parts) (text : List ℕ) → ends_apart (list_then usual name elements rest) ≡ true ⊎ IsFree text → has_usual name ≡ true → is_end rest ≡ true → IsFree text
unfolding ends_apart
free-of usual name elements rest text (inl h) is end =
    absurd (true≢false (sym (and_parts (not (has_usual name) || not (is_end rest)) _ h).0 ∙ ap₂ (λ a b. not a || not b) is end))
free-of usual name elements rest text (inr h) is end = h

-- ## A byte

comma : (in_list : Bool) (top : Opened) (byte : ℕ) (text : List ℕ) → is_list top ≡ in_list → not (in_list && byte == 44) ≡ true
    → (is_list top && starts_with nat_eq (byte ∷ text) (codes ", ")) ≡ false
comma false top byte text is none = ap (λ b. b && starts_with nat_eq (byte ∷ text) (codes ", ")) is
comma true top byte text is none =
    ap (λ b. b && starts_with nat_eq (byte ∷ text) (codes ", ")) is
    ∙ differs (byte ∷ text) (codes ", ") 0 (omega arith) (λ e. true≢false (sym (eq-eqb byte 44 e) ∙ not-true (byte == 44) none))

arrow : (lists : List ℕ → Bool) (in_list : Bool) (named : (name : List ℕ) → lists name ≡ true → (0 < length name) × (list_all is_name_byte name ≡ true))
    (test : List ℕ → List ℕ → Elements → Bool) (bytes : (usual name : List ℕ) (elements : Elements) → test usual name elements ≡ true → list_all is_name_byte usual ≡ true) (byte : ℕ) (p : Parts) (text : List ℕ)
    → are_apart lists in_list p ≡ true → all_lists test p ≡ true → not (byte == 45 && is_end p) ≡ true
    → starts_with nat_eq (byte ∷ (text_from p ++ text)) (codes "->") ≡ false
arrow lists in_list named test bytes byte p text good all some = by (byte == 45) refl some
  where
    by : (b : Bool) → (byte == 45) ≡ b → not (b && is_end p) ≡ true → starts_with nat_eq (byte ∷ (text_from p ++ text)) (codes "->") ≡ false
    by true e more = differs (byte ∷ (text_from p ++ text)) (codes "->") 1 (omega arith) (no-close lists in_list named test bytes p text good all (not-true (is_end p) more))
    by false e more = differs (byte ∷ (text_from p ++ text)) (codes "->") 0 (omega arith) (λ same. true≢false (sym (eq-eqb byte 45 same) ∙ e))

module _ (rules : Rules) (for_list : List ℕ → List ℕ → List (List ℕ) → List ℕ) (lists : List ℕ → Bool) (obeys : Obeys rules for_list lists)
    (test : List ℕ → List ℕ → Elements → Bool) (calls : Calls rules for_list test) where
  named : (name : List ℕ) → lists name ≡ true → (0 < length name) × (list_all is_name_byte name ≡ true)
  named name is = let opens = obeys.open_list name is in (opens.1, opens.2)

  byte-in : (in_list : Bool) (byte : ℕ) (rest : Parts) (text : List ℕ) (opened : List Opened) (last : List ℕ) → is_between_names in_list byte rest ≡ true
      → are_apart lists in_list rest ≡ true → all_lists test rest ≡ true → Around in_list opened
      → written_for rules 0 (byte ∷ (text_from rest ++ text)) (at opened last) ≡ written_for rules 0 (text_from rest ++ text) (at opened (last ++ byte ∷ []))
  byte-in in_list byte rest text [] last between good all around =
      byte-outside rules byte (text_from rest ++ text) last (not-true (is_name_byte byte) (and_parts (not (is_name_byte byte)) _ between).0)
  byte-in in_list byte rest text (top ∷ opened) last between good all around =
      let a = and_parts (not (is_name_byte byte)) _ between in
      let b = and_parts (not (is_opening byte)) _ a.1 in
      let c = and_parts (not (byte == 62)) _ b.1 in
      let d = and_parts (not (is_closing byte)) _ c.1 in
      let e = and_parts (not (in_list && byte == 44)) _ d.1 in
      byte-within rules byte (text_from rest ++ text) top opened last (not-true (is_name_byte byte) a.0) (not-true (is_opening byte) b.0) (not-true (byte == 62) c.0) (not-true (is_closing byte) d.0)
      (comma in_list top byte (text_from rest ++ text) around e.0) (arrow lists in_list named test calls.bytes byte rest text good all e.1)

  -- ## Other brackets

  -- wherever the text is, these bytes are written for it
  abbrev Goes : (in_list : Bool) → (text bytes : List ℕ) → Type 0
  Goes in_list text bytes = (opened : List Opened) (last rest : List ℕ) → Around in_list opened → IsFree rest
      → written_for rules 0 (text ++ rest) (at opened last) ≡ written_for rules 0 rest (at opened (last ++ bytes))

  group-at : (opening closing : ℕ) (inner bytes rest : List ℕ) (opened : List Opened) (last : List ℕ) → Goes false inner bytes
      → is_name_byte opening ≡ false → is_name_byte closing ≡ false → is_opening opening ≡ true → (opening == 60) ≡ false → is_opening closing ≡ false → (closing == 62) ≡ false → is_closing closing ≡ true → (closing ≡ 60 → ⊥)
      → written_for rules 0 (opening ∷ (inner ++ closing ∷ rest)) (at opened last) ≡ written_for rules 0 rest (at opened (last ++ (opening ∷ bytes ++ closing ∷ [])))
  group-at opening closing inner bytes rest [] last goes a b c d e f g shut =
      byte-outside rules opening (inner ++ closing ∷ rest) last a
      ∙ goes [] (last ++ opening ∷ []) (closing ∷ rest) tt (b, shut)
      ∙ byte-outside rules closing rest ((last ++ opening ∷ []) ++ bytes) b
      ∙ ap (λ t. written_for rules 0 rest (at [] t)) (ap (λ t. t ++ closing ∷ []) (append_assoc last (opening ∷ []) bytes) ∙ append_assoc last (opening ∷ bytes) (closing ∷ []))
  group-at opening closing inner bytes rest (top ∷ around) last goes a b c d e f g shut =
      group-opens rules opening (inner ++ closing ∷ rest) top around last a c
      ∙ goes (within opening [] last [] ∷ top ∷ around) [] (closing ∷ rest) d (b, shut)
      ∙ group-closes rules closing rest (within opening [] last []) (top ∷ around) bytes b e f g d
      ∙ ap (λ t. written_for rules 0 rest (at (top ∷ around) t)) (append_assoc last (opening ∷ bytes) (closing ∷ []))

  group-in : (opening closing : ℕ) (inner bytes rest : List ℕ) (opened : List Opened) (last : List ℕ) → opens_group opening ≡ true → is_closing closing ≡ true → Goes false inner bytes
      → written_for rules 0 (opening ∷ (inner ++ closing ∷ rest)) (at opened last) ≡ written_for rules 0 rest (at opened (last ++ (opening ∷ bytes ++ closing ∷ [])))
  unfolding is_name_byte is_letter
  group-in opening closing inner bytes rest opened last opens closes goes =
      opening-cases (λ o. written_for rules 0 (o ∷ (inner ++ closing ∷ rest)) (at opened last) ≡ written_for rules 0 rest (at opened (last ++ (o ∷ bytes ++ closing ∷ []))))
      (closing-cases (λ c. written_for rules 0 (40 ∷ (inner ++ c ∷ rest)) (at opened last) ≡ written_for rules 0 rest (at opened (last ++ (40 ∷ bytes ++ c ∷ []))))
      (group-at 40 41 inner bytes rest opened last goes refl refl refl refl refl refl refl (λ e. omega (arith, e)))
      (group-at 40 93 inner bytes rest opened last goes refl refl refl refl refl refl refl (λ e. omega (arith, e)))
      (group-at 40 125 inner bytes rest opened last goes refl refl refl refl refl refl refl (λ e. omega (arith, e))) closing closes)
      (closing-cases (λ c. written_for rules 0 (91 ∷ (inner ++ c ∷ rest)) (at opened last) ≡ written_for rules 0 rest (at opened (last ++ (91 ∷ bytes ++ c ∷ []))))
      (group-at 91 41 inner bytes rest opened last goes refl refl refl refl refl refl refl (λ e. omega (arith, e)))
      (group-at 91 93 inner bytes rest opened last goes refl refl refl refl refl refl refl (λ e. omega (arith, e)))
      (group-at 91 125 inner bytes rest opened last goes refl refl refl refl refl refl refl (λ e. omega (arith, e))) closing closes)
      (closing-cases (λ c. written_for rules 0 (123 ∷ (inner ++ c ∷ rest)) (at opened last) ≡ written_for rules 0 rest (at opened (last ++ (123 ∷ bytes ++ c ∷ []))))
      (group-at 123 41 inner bytes rest opened last goes refl refl refl refl refl refl refl (λ e. omega (arith, e)))
      (group-at 123 93 inner bytes rest opened last goes refl refl refl refl refl refl refl (λ e. omega (arith, e)))
      (group-at 123 125 inner bytes rest opened last goes refl refl refl refl refl refl refl (λ e. omega (arith, e))) closing closes)
      opening opens

  -- ## Elements

  abbrev Listed : (elements : Elements) (name : List ℕ) (before : List ℕ) (done : List (List ℕ)) (around : List Opened) (beyond rest bytes : List ℕ) → Type 0
  Listed elements name before done around beyond rest bytes =
      written_for rules 0 (joined (each_written as_it_is elements) ++ 62 ∷ (beyond ++ rest)) (at (within 60 name before done ∷ around) []) ≡ written_for rules 0 rest (at around (before ++ bytes))

  -- what is written for a name and its elements, and some bytes after the list
  abbrev Answers : (name : List ℕ) → List (List ℕ) → (beyond rest bytes : List ℕ) → Type 0
  Answers name elements beyond rest bytes = rules.for_list name elements (beyond ++ rest) ≡ record { bytes = bytes; size = length beyond }

  each-step : (others : Elements) (text bytes : List ℕ) → Goes true text bytes → (name before : List ℕ) (done : List (List ℕ)) (around : List Opened) (beyond rest all : List ℕ)
      → Answers name (done ++ bytes ∷ each_written for_list others) beyond rest all
      → ((done : List (List ℕ)) → has_some others ≡ true → Answers name (done ++ each_written for_list others) beyond rest all → Listed others name before done around beyond rest all)
      → written_for rules 0 (joined (text ∷ each_written as_it_is others) ++ 62 ∷ (beyond ++ rest)) (at (within 60 name before done ∷ around) []) ≡ written_for rules 0 rest (at around (before ++ all))
  unfolding written joined is_name_byte is_letter
  each-step no_more text bytes goes name before done around beyond rest all answer again =
      goes (within 60 name before done ∷ around) [] (62 ∷ (beyond ++ rest)) refl (refl, λ e. omega (arith, e))
      ∙ list-closes-over rules beyond rest name before done around bytes all answer
  each-step (element_then next others) text bytes goes name before done around beyond rest all answer again =
      let more : List ℕ = joined (each_written as_it_is (element_then next others)) in
      let stack : List Opened = within 60 name before done ∷ around in
      let tail : List ℕ = 62 ∷ (beyond ++ rest) in
      ap (λ t. written_for rules 0 t (at stack [])) (append_assoc (text ++ codes ", ") more tail ∙ append_assoc text (codes ", ") (more ++ tail))
      ∙ goes stack [] (codes ", " ++ (more ++ tail)) refl (refl, λ e. omega (arith, e))
      ∙ element-ends rules (more ++ tail) name before done around bytes
      ∙ again (done ++ bytes ∷ []) refl (ap (λ d. rules.for_list name d (beyond ++ rest)) (append_assoc done (bytes ∷ []) (each_written for_list (element_then next others))) ∙ answer)

  abbrev Outside : (elements : Elements) (last rest : List ℕ) → Type 0
  Outside elements last rest =
      written_for rules 0 (joined (each_written as_it_is elements) ++ 62 ∷ rest) (at [] last)
      ≡ written_for rules 0 rest (at [] (last ++ (joined (each_written for_list elements) ++ 62 ∷ [])))

  outside-step : (others : Elements) (text bytes : List ℕ) → Goes true text bytes → (last rest : List ℕ)
      → ((last : List ℕ) → has_some others ≡ true → Outside others last rest)
      → written_for rules 0 (joined (text ∷ each_written as_it_is others) ++ 62 ∷ rest) (at [] last)
      ≡ written_for rules 0 rest (at [] (last ++ (joined (bytes ∷ each_written for_list others) ++ 62 ∷ [])))
  unfolding written joined is_name_byte is_letter
  outside-step no_more text bytes goes last rest again =
      goes [] last (62 ∷ rest) tt (refl, λ e. omega (arith, e))
      ∙ byte-outside rules 62 rest (last ++ bytes) refl
      ∙ ap (λ t. written_for rules 0 rest (at [] t)) (append_assoc last bytes (62 ∷ []))
  outside-step (element_then next others) text bytes goes last rest again =
      let more : List ℕ = joined (each_written as_it_is (element_then next others)) in
      let most : List ℕ = joined (each_written for_list (element_then next others)) in
      let front : List ℕ = last ++ bytes in
      ap (λ t. written_for rules 0 t (at [] last)) (append_assoc (text ++ codes ", ") more (62 ∷ rest) ∙ append_assoc text (codes ", ") (more ++ 62 ∷ rest))
      ∙ goes [] last (codes ", " ++ (more ++ 62 ∷ rest)) tt (refl, λ e. omega (arith, e))
      ∙ byte-outside rules 44 (32 ∷ (more ++ 62 ∷ rest)) front refl
      ∙ byte-outside rules 32 (more ++ 62 ∷ rest) (front ++ 44 ∷ []) refl
      ∙ again ((front ++ 44 ∷ []) ++ 32 ∷ []) refl
      ∙ ap (λ t. written_for rules 0 rest (at [] t)) (
      ap (λ t. t ++ (most ++ 62 ∷ [])) (append_assoc front (44 ∷ []) (32 ∷ []))
      ∙ sym (append_assoc (front ++ codes ", ") most (62 ∷ []))
      ∙ ap (λ t. t ++ 62 ∷ []) (ap (λ t. t ++ most) (append_assoc last bytes (codes ", ")) ∙ append_assoc last (bytes ++ codes ", ") most)
      ∙ append_assoc last ((bytes ++ codes ", ") ++ most) (62 ∷ [])
      )

  -- ## A list

  abbrev Each : Elements → Type 0
  Each elements = (name before : List ℕ) (done : List (List ℕ)) (around : List Opened) (beyond rest bytes : List ℕ)
      → Answers name (done ++ each_written for_list elements) beyond rest bytes → Listed elements name before done around beyond rest bytes

  named-list : (name : List ℕ) (elements : Elements) (rest : List ℕ) (opened : List Opened) (last : List ℕ) → lists name ≡ true → (has_usual name ≡ true → IsFree rest) → Each elements
      → written_for rules 0 (name ++ 60 ∷ (joined (each_written as_it_is elements) ++ 62 ∷ rest)) (at opened last)
      ≡ written_for rules 0 rest (at opened (last ++ for_list [] name (each_written for_list elements)))
  named-list name elements rest opened last is free each =
      let opens = obeys.open_list name is in
      name-opens rules name (joined (each_written as_it_is elements) ++ 62 ∷ rest) opened last opens.1 opens.2 opens.0
      ∙ each name last [] opened [] rest (for_list [] name (each_written for_list elements)) (obeys.answers [] name (each_written for_list elements) rest is free)

  bare-list : (elements : Elements) (rest : List ℕ) (opened : List Opened) (last : List ℕ) → Each elements → ((last rest : List ℕ) → Outside elements last rest)
      → written_for rules 0 (60 ∷ (joined (each_written as_it_is elements) ++ 62 ∷ rest)) (at opened last)
      ≡ written_for rules 0 rest (at opened (last ++ for_list [] [] (each_written for_list elements)))
  unfolding is_name_byte is_letter
  bare-list elements rest [] last each outside =
      byte-outside rules 60 (joined (each_written as_it_is elements) ++ 62 ∷ rest) last refl
      ∙ outside (last ++ 60 ∷ []) rest
      ∙ ap (λ t. written_for rules 0 rest (at [] t)) (append_assoc last (60 ∷ []) (joined (each_written for_list elements) ++ 62 ∷ []) ∙ ap (λ t. last ++ t) (sym (obeys.bare_is (each_written for_list elements))))
  bare-list elements rest (top ∷ around) last each outside =
      group-opens rules 60 (joined (each_written as_it_is elements) ++ 62 ∷ rest) top around last refl refl
      ∙ each [] last [] (top ∷ around) [] rest (for_list [] [] (each_written for_list elements)) (obeys.bare (each_written for_list elements) rest)

  -- ## All parts

  more : (opened : List Opened) (last x y rest : List ℕ) → written_for rules 0 rest (at opened ((last ++ x) ++ y)) ≡ written_for rules 0 rest (at opened (last ++ (x ++ y)))
  more opened last x y rest = ap (λ t. written_for rules 0 rest (at opened t)) (append_assoc last x y)

  list-text : (name texts rest text : List ℕ) → (name ++ (60 ∷ texts ++ 62 ∷ []) ++ rest) ++ text ≡ name ++ 60 ∷ (texts ++ 62 ∷ (rest ++ text))
  list-text name texts rest text =
      append_assoc (name ++ (60 ∷ texts ++ 62 ∷ [])) rest text ∙ append_assoc name (60 ∷ texts ++ 62 ∷ []) (rest ++ text)
      ∙ ap (λ t. name ++ 60 ∷ t) (append_assoc texts (62 ∷ []) (rest ++ text))

  list-in : (name : List ℕ) (elements : Elements) (after : Parts) (rest : List ℕ) (opened : List Opened) (last : List ℕ) → is_placed lists [] name after ≡ true
      → (begins_free after true ≡ true → IsFree rest) → Each elements → ((last rest : List ℕ) → Outside elements last rest)
      → written_for rules 0 (name ++ 60 ∷ (joined (each_written as_it_is elements) ++ 62 ∷ rest)) (at opened last)
      ≡ written_for rules 0 rest (at opened (last ++ for_list [] name (each_written for_list elements)))
  list-in [] elements after rest opened last is free each outside = bare-list elements rest opened last each outside
  list-in (byte ∷ name) elements after rest opened last is free each outside =
      let a = and_parts (lists (byte ∷ name)) _ is in
      named-list (byte ∷ name) elements rest opened last a.0 (λ h. free (stands-free [] (byte ∷ name) after a.1 h)) each

  -- a list by its usual name
  usual-in : (byte : ℕ) (usual name : List ℕ) (after : Parts) → is_placed lists (byte ∷ usual) name after ≡ true → begins_free after true ≡ true
  usual-in byte usual [] after is = absurd (true≢false (sym is))
  usual-in byte usual (first ∷ name) after is = called-usual byte usual (first ∷ name) after (and_parts (lists (first ∷ name)) _ is).1

  mutual
    unfolding written are_apart all_lists

    pub inner-goes : (p : Parts) (in_list : Bool) → are_apart lists in_list p ≡ true → all_lists test p ≡ true → Goes in_list (text_from p) (written for_list p)
    inner-goes ends in_list good all = λ opened last text around behind. ap (λ t. written_for rules 0 text (at opened t)) (sym (append-nil last))
    inner-goes (name_then name rest) in_list good all = λ opened last text around is.
        let a = and_parts (is_other name && not (ends_operator name)) _ good in
        let b = and_parts (is_other name) _ a.0 in
        let c = and_parts (not (begins_name rest)) _ a.1 in
        let tail : List ℕ = text_from rest ++ text in
        let other = other-parts name b.0 in
        let left = obeys.leave name tail b.0 in
        ap (λ t. written_for rules 0 t (at opened last)) (append_assoc name (text_from rest) text)
        ∙ inner-name rules name tail opened last other.0 other.1 (behind lists in_list rest text c.1 (not-true (begins_name rest) c.0) is.0) left.0 left.1 (not-true (ends_operator name) b.1)
        ∙ inner-goes rest in_list c.1 all opened (last ++ name) text around is
        ∙ more opened last name (written for_list rest) text
    inner-goes (byte_then byte rest) in_list good all = λ opened last text around is.
        let a = and_parts (is_between_names in_list byte rest) _ good in
        byte-in in_list byte rest text opened last a.0 a.1 all around
        ∙ inner-goes rest in_list a.1 all opened (last ++ byte ∷ []) text around is
        ∙ more opened last (byte ∷ []) (written for_list rest) text
    inner-goes (group_then opening inner closing rest) in_list good all = λ opened last text around is.
        let a = and_parts (opens_group opening) _ good in
        let b = and_parts (is_closing closing) _ a.1 in
        let c = and_parts (are_apart lists false inner) _ b.1 in
        let t = and_parts (all_lists test inner) _ all in
        let bytes : List ℕ = opening ∷ written for_list inner ++ closing ∷ [] in
        ap (λ t. written_for rules 0 (opening ∷ t) (at opened last)) (append_assoc (text_from inner) (closing ∷ text_from rest) text)
        ∙ group-in opening closing (text_from inner) (written for_list inner) (text_from rest ++ text) opened last a.0 b.0 (inner-goes inner false c.0 t.0)
        ∙ inner-goes rest in_list c.1 t.1 opened (last ++ bytes) text around is
        ∙ more opened last bytes (written for_list rest) text
        ∙ ap (λ t. written_for rules 0 text (at opened (last ++ opening ∷ t))) (append_assoc (written for_list inner) (closing ∷ []) (written for_list rest))
    inner-goes (list_then [] name elements rest) in_list good all = λ opened last text around is.
        let a = and_parts (is_placed lists [] name rest) _ good in
        let b = and_parts (has_some elements) _ a.1 in
        let c = and_parts (each_apart lists elements) _ b.1 in
        let t = and_parts (test [] name elements) _ all in
        let u = and_parts (all_lists_in test elements) _ t.1 in
        let bytes : List ℕ = for_list [] name (each_written for_list elements) in
        ap (λ t. written_for rules 0 t (at opened last)) (list-text name (joined (each_written as_it_is elements)) (text_from rest) text)
        ∙ list-in name elements rest (text_from rest ++ text) opened last a.0 (λ first. free-in lists in_list rest text c.1 first is) (each-goes elements c.0 u.0 b.0) (each-outside elements c.0 u.0 b.0)
        ∙ inner-goes rest in_list c.1 u.1 opened (last ++ bytes) text around is
        ∙ more opened last bytes (written for_list rest) text
    inner-goes (list_then (byte ∷ usual) name elements rest) in_list good all = λ opened last text around is.
        let a = and_parts (is_placed lists (byte ∷ usual) name rest) _ good in
        let b = and_parts (has_some elements) _ a.1 in
        let c = and_parts (each_apart lists elements) _ b.1 in
        let t = and_parts (test (byte ∷ usual) name elements) _ all in
        let u = and_parts (all_lists_in test elements) _ t.1 in
        let bytes : List ℕ = for_list (byte ∷ usual) name (each_written for_list elements) in
        ap (λ t. written_for rules 0 t (at opened last)) (append_assoc (byte ∷ usual) (text_from rest) text)
        ∙ calls.calls (byte ∷ usual) name elements refl t.0 opened last (text_from rest ++ text) (free-in lists in_list rest text c.1 (usual-in byte usual name rest a.0) is)
        ∙ inner-goes rest in_list c.1 u.1 opened (last ++ bytes) text around is
        ∙ more opened last bytes (written for_list rest) text

    pub each-goes : (elements : Elements) → each_apart lists elements ≡ true → all_lists_in test elements ≡ true → has_some elements ≡ true → Each elements
    each-goes no_more good all some = absurd (true≢false (sym some))
    each-goes (element_then element others) good all some = λ name before done around beyond rest bytes answer.
        let a = and_parts (are_apart lists true element) _ good in
        let t = and_parts (all_lists test element) _ all in
        each-step others (text_from element) (written for_list element) (inner-goes element true a.0 t.0) name before done around beyond rest bytes answer
        (λ d s h. each-goes others a.1 t.1 s name before d around beyond rest bytes h)

    pub each-outside : (elements : Elements) → each_apart lists elements ≡ true → all_lists_in test elements ≡ true → has_some elements ≡ true → (last rest : List ℕ) → Outside elements last rest
    each-outside no_more good all some = absurd (true≢false (sym some))
    each-outside (element_then element others) good all some = λ last rest.
        let a = and_parts (are_apart lists true element) _ good in
        let t = and_parts (all_lists test element) _ all in
        outside-step others (text_from element) (written for_list element) (inner-goes element true a.0 t.0) last rest (λ l s. each-outside others a.1 t.1 s l rest)

  -- parts outside of brackets, before more of a text
  pub outer-goes : (p : Parts) (last text : List ℕ) → are_outside lists p ≡ true → all_lists test p ≡ true → ends_apart p ≡ true ⊎ IsFree text
      → written_for rules 0 (text_from p ++ text) (at [] last) ≡ written_for rules 0 text (at [] (last ++ written for_list p))
  unfolding written are_outside ends_apart all_lists
  outer-goes ends last text good all free = ap (λ t. written_for rules 0 text (at [] t)) (sym (append-nil last))
  outer-goes (name_then name rest) last text good all free =
      let a = and_parts (is_other name) _ good in
      let b = and_parts (not (begins_name rest)) _ a.1 in
      let other = other-parts name a.0 in
      let tail : List ℕ = text_from rest ++ text in
      let left = obeys.leave name tail a.0 in
      ap (λ t. written_for rules 0 t (at [] last)) (append_assoc name (text_from rest) text)
      ∙ name-stays rules name tail [] last other.0 other.1 (behind-more lists name rest text b.1 (not-true (begins_name rest) b.0) free) left.0 left.1 refl
      ∙ outer-goes rest (last ++ name) text b.1 all (rest-apart name rest text free)
      ∙ more [] last name (written for_list rest) text
  outer-goes (byte_then byte rest) last text good all free =
      let a = and_parts (not (is_name_byte byte)) _ good in
      byte-outside rules byte (text_from rest ++ text) last (not-true (is_name_byte byte) a.0)
      ∙ outer-goes rest (last ++ byte ∷ []) text a.1 all free
      ∙ more [] last (byte ∷ []) (written for_list rest) text
  outer-goes (group_then opening inner closing rest) last text good all free = absurd (true≢false (sym good))
  outer-goes (list_then [] name elements rest) last text good all free =
      let a = and_parts (not (is_bare name) && (lists name && stands [] name rest)) _ good in
      let d = and_parts (lists name) _ (and_parts (not (is_bare name)) _ a.0).1 in
      let b = and_parts (has_some elements) _ a.1 in
      let c = and_parts (each_apart lists elements) _ b.1 in
      let t = and_parts (test [] name elements) _ all in
      let u = and_parts (all_lists_in test elements) _ t.1 in
      let bytes : List ℕ = for_list [] name (each_written for_list elements) in
      ap (λ t. written_for rules 0 t (at [] last)) (list-text name (joined (each_written as_it_is elements)) (text_from rest) text)
      ∙ named-list name elements (text_from rest ++ text) [] last d.0 (λ h. free-outside lists rest text c.1 (stands-free [] name rest d.1 h) (free-of [] name elements rest text free h)) (each-goes elements c.0 u.0 b.0)
      ∙ outer-goes rest (last ++ bytes) text c.1 u.1 (rest-of [] name elements rest text free)
      ∙ more [] last bytes (written for_list rest) text
  outer-goes (list_then (byte ∷ usual) name elements rest) last text good all free =
      let a = and_parts (not (is_bare name) && (lists name && stands (byte ∷ usual) name rest)) _ good in
      let d = and_parts (lists name) _ (and_parts (not (is_bare name)) _ a.0).1 in
      let b = and_parts (has_some elements) _ a.1 in
      let c = and_parts (each_apart lists elements) _ b.1 in
      let t = and_parts (test (byte ∷ usual) name elements) _ all in
      let u = and_parts (all_lists_in test elements) _ t.1 in
      let bytes : List ℕ = for_list (byte ∷ usual) name (each_written for_list elements) in
      ap (λ t. written_for rules 0 t (at [] last)) (append_assoc (byte ∷ usual) (text_from rest) text)
      ∙ calls.calls (byte ∷ usual) name elements refl t.0 [] last (text_from rest ++ text)
      (free-outside lists rest text c.1 (called-usual byte usual name rest d.1) (free-of (byte ∷ usual) name elements rest text free (called-has byte usual name rest d.1)))
      ∙ outer-goes rest (last ++ bytes) text c.1 u.1 (rest-of (byte ∷ usual) name elements rest text free)
      ∙ more [] last bytes (written for_list rest) text

  -- a whole text by rules
  pub by-parts : (p : Parts) → are_outside lists p ≡ true → all_lists test p ≡ true → by_rules rules (text_from p) ≡ written for_list p
  unfolding by_rules written_for is_name_byte is_letter
  by-parts p good all =
      ap (text_or (text_from p)) (ap (λ t. written_for rules 0 t (at [] [])) (sym (append-nil (text_from p))) ∙ outer-goes p [] [] good all (inr free-nothing))

  -- the text of parts within a list, alone
  pub by-inner-parts : (p : Parts) → are_apart lists true p ≡ true → all_lists test p ≡ true → by_rules rules (text_from p) ≡ written for_list p
  unfolding by_rules written_for is_name_byte is_letter
  by-inner-parts p good all =
      ap (text_or (text_from p)) (ap (λ t. written_for rules 0 t (at [] [])) (sym (append-nil (text_from p))) ∙ inner-goes p true good all [] [] [] tt free-nothing)
