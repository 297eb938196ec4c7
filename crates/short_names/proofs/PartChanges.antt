-- Parts in which the elements of each list are replaced.
use Rattle.short_names.proofs.Basics.{◌≡◌, ◌==◌, ◌&&◌, ◌||◌, not, refl, sym, ap, ap₂, ◌∙◌, ℕ, suc, Bool, true, false, List, [], ◌∷◌, ◌++◌, and_parts, true≢false, Parts, ends, name_then, byte_then, group_then, list_then, Elements, no_more, element_then, written, each_written, is_bare, is_other, is_end, begins_name, has_some, opens_group, is_between_names, are_apart, each_apart, are_outside, ends_apart, all_lists, all_lists_in, begins_free, has_aliases, has_usual, is_placed, stands, is_name_byte, ends_operator, is_opening, is_closing}
use Rattle.short_names.proofs.NameSteps.{no_named}
use Rattle.short_names.proofs.PartForms.{and-both, placed-other, stands-other}
use Rattle.short_names.proofs.PartLists.{count}

has-none : has_usual [] ≡ false
unfolding has_usual
has-none = ap has_aliases (no_named [] refl)

placed-or : (lists : List ℕ → Bool) (usual name : List ℕ) (rest : Parts) → is_placed lists usual name rest ≡ true → (is_bare name || lists name) ≡ true
placed-or lists usual [] rest is = refl
placed-or lists usual (byte ∷ name) rest is = (and_parts (lists (byte ∷ name)) _ is).0

or-true : (lists : List ℕ → Bool) (name : List ℕ) → lists name ≡ true → (is_bare name || lists name) ≡ true
or-true lists [] h = refl
or-true lists (byte ∷ name) h = h

module _ (elements_of : List ℕ → Elements → Elements) (usual_of : List ℕ → Elements → List ℕ) where
  mutual
    pub changed : Parts → Parts
    changed ends = ends
    changed (name_then name rest) = name_then name (changed rest)
    changed (byte_then byte rest) = byte_then byte (changed rest)
    changed (group_then opening inner closing rest) = group_then opening (changed inner) closing (changed rest)
    changed (list_then usual name elements rest) = list_then (usual_of name (each_changed elements)) name (elements_of name (each_changed elements)) (changed rest)

    pub each_changed : Elements → Elements
    each_changed no_more = no_more
    each_changed (element_then element others) = element_then (changed element) (each_changed others)

  pub changed-some : (elements : Elements) → has_some (each_changed elements) ≡ has_some elements
  unfolding changed
  changed-some no_more = refl
  changed-some (element_then element others) = refl

  pub changed-count : (elements : Elements) → count (each_changed elements) ≡ count elements
  unfolding changed count
  changed-count no_more = refl
  changed-count (element_then element others) = ap suc (changed-count others)

  pub changed-end : (p : Parts) → is_end (changed p) ≡ is_end p
  unfolding changed
  changed-end ends = refl
  changed-end (name_then name rest) = refl
  changed-end (byte_then byte rest) = refl
  changed-end (group_then opening inner closing rest) = refl
  changed-end (list_then usual name elements rest) = refl

  pub changed-first : (p : Parts) → begins_name (changed p) ≡ begins_name p
  unfolding changed
  changed-first ends = refl
  changed-first (name_then name rest) = refl
  changed-first (byte_then byte rest) = refl
  changed-first (group_then opening inner closing rest) = refl
  changed-first (list_then usual name elements rest) = refl

  pub changed-ends : (p : Parts) → ends_apart (changed p) ≡ ends_apart p
  unfolding changed ends_apart
  changed-ends ends = refl
  changed-ends (name_then name rest) = ap₂ (λ e r. not e && r) (changed-end rest) (changed-ends rest)
  changed-ends (byte_then byte rest) = changed-ends rest
  changed-ends (group_then opening inner closing rest) = changed-ends rest
  changed-ends (list_then usual name elements rest) = ap₂ (λ e r. (not (has_usual name) || not e) && r) (changed-end rest) (changed-ends rest)

  pub changed-free : (p : Parts) (at_end : Bool) → begins_free (changed p) at_end ≡ begins_free p at_end
  unfolding changed
  changed-free ends at_end = refl
  changed-free (name_then name rest) at_end = refl
  changed-free (byte_then byte rest) at_end = refl
  changed-free (group_then opening inner closing rest) at_end = refl
  changed-free (list_then usual name elements rest) at_end = refl

  changed-between : (in_list : Bool) (byte : ℕ) (rest : Parts) → is_between_names in_list byte (changed rest) ≡ is_between_names in_list byte rest
  changed-between in_list byte rest =
      ap (λ e. not (is_name_byte byte) && (not (is_opening byte) && (not (byte == 62) && (not (is_closing byte) && (not (in_list && byte == 44) && not (byte == 45 && e)))))) (changed-end rest)

  module _ (lists : List ℕ → Bool)
      (stay : (name : List ℕ) (elements : Elements) → (is_bare name || lists name) ≡ true → has_some elements ≡ true → each_apart lists elements ≡ true
      → (has_some (elements_of name elements) ≡ true) × (each_apart lists (elements_of name elements) ≡ true))
      (plain : (name : List ℕ) (elements : Elements) → has_usual name ≡ false → is_bare (usual_of name elements) ≡ true) where
    plain-bare : (name : List ℕ) (elements : Elements) → is_bare name ≡ true → is_bare (usual_of name elements) ≡ true
    plain-bare [] elements is = plain [] elements has-none
    plain-bare (byte ∷ name) elements is = absurd (true≢false (sym is))

    mutual
      unfolding are_apart changed

      pub changed-apart : (p : Parts) (in_list : Bool) → are_apart lists in_list p ≡ true → are_apart lists in_list (changed p) ≡ true
      changed-apart ends in_list good = refl
      changed-apart (name_then name rest) in_list good =
          let a = and_parts (is_other name && not (ends_operator name)) _ good in
          let b = and_parts (not (begins_name rest)) _ a.1 in
          and-both _ _ a.0 (and-both _ _ (ap not (changed-first rest) ∙ b.0) (changed-apart rest in_list b.1))
      changed-apart (byte_then byte rest) in_list good =
          let a = and_parts (is_between_names in_list byte rest) _ good in
          and-both _ _ (changed-between in_list byte rest ∙ a.0) (changed-apart rest in_list a.1)
      changed-apart (group_then opening inner closing rest) in_list good =
          let a = and_parts (opens_group opening) _ good in
          let b = and_parts (is_closing closing) _ a.1 in
          let c = and_parts (are_apart lists false inner) _ b.1 in
          and-both _ _ a.0 (and-both _ _ b.0 (and-both _ _ (changed-apart inner false c.0) (changed-apart rest in_list c.1)))
      changed-apart (list_then usual name elements rest) in_list good =
          let a = and_parts (is_placed lists usual name rest) _ good in
          let b = and_parts (has_some elements) _ a.1 in
          let c = and_parts (each_apart lists elements) _ b.1 in
          let new : Elements = each_changed elements in
          let s = stay name new (placed-or lists usual name rest a.0) (changed-some elements ∙ b.0) (each-changed-apart elements c.0) in
          and-both _ _ (placed-other lists usual (usual_of name new) name rest (changed rest) a.0 (plain name new) (plain-bare name new) (λ h. changed-free rest true ∙ h))
          (and-both _ _ s.0 (and-both _ _ s.1 (changed-apart rest in_list c.1)))

      pub each-changed-apart : (elements : Elements) → each_apart lists elements ≡ true → each_apart lists (each_changed elements) ≡ true
      each-changed-apart no_more good = refl
      each-changed-apart (element_then element others) good =
          let a = and_parts (are_apart lists true element) _ good in
          and-both _ _ (changed-apart element true a.0) (each-changed-apart others a.1)

    pub changed-outside : (p : Parts) → are_outside lists p ≡ true → are_outside lists (changed p) ≡ true
    unfolding are_outside changed
    changed-outside ends good = refl
    changed-outside (name_then name rest) good =
        let a = and_parts (is_other name) _ good in
        let b = and_parts (not (begins_name rest)) _ a.1 in
        and-both _ _ a.0 (and-both _ _ (ap not (changed-first rest) ∙ b.0) (changed-outside rest b.1))
    changed-outside (byte_then byte rest) good =
        let a = and_parts (not (is_name_byte byte)) _ good in
        and-both _ _ a.0 (changed-outside rest a.1)
    changed-outside (group_then opening inner closing rest) good = absurd (true≢false (sym good))
    changed-outside (list_then usual name elements rest) good =
        let a = and_parts (not (is_bare name) && (lists name && stands usual name rest)) _ good in
        let n = and_parts (not (is_bare name)) (lists name && stands usual name rest) a.0 in
        let d = and_parts (lists name) (stands usual name rest) n.1 in
        let b = and_parts (has_some elements) _ a.1 in
        let c = and_parts (each_apart lists elements) _ b.1 in
        let new : Elements = each_changed elements in
        let s = stay name new (or-true lists name d.0) (changed-some elements ∙ b.0) (each-changed-apart elements c.0) in
        and-both _ _ (and-both _ _ n.0 (and-both _ _ d.0 (stands-other usual (usual_of name new) name rest (changed rest) d.1 (plain name new) (λ h. changed-free rest true ∙ h))))
        (and-both _ _ s.0 (and-both _ _ s.1 (changed-outside rest c.1)))

  -- rules write for the changed parts what other rules write for the original parts
  module _ (lists : List ℕ → Bool) (test : List ℕ → List ℕ → Elements → Bool) (for_list other : List ℕ → List ℕ → List (List ℕ) → List ℕ)
      (at_list : (usual name : List ℕ) (elements : Elements) → (is_bare name || lists name) ≡ true → has_some elements ≡ true → each_apart lists elements ≡ true → test usual name elements ≡ true
      → all_lists_in test elements ≡ true → each_written for_list (each_changed elements) ≡ each_written other elements
      → for_list (usual_of name (each_changed elements)) name (each_written for_list (elements_of name (each_changed elements))) ≡ other usual name (each_written other elements)) where
    mutual
      unfolding written are_apart all_lists changed

      pub changed-written : (p : Parts) (in_list : Bool) → are_apart lists in_list p ≡ true → all_lists test p ≡ true → written for_list (changed p) ≡ written other p
      changed-written ends in_list good all = refl
      changed-written (name_then name rest) in_list good all =
          let a = and_parts (is_other name && not (ends_operator name)) _ good in
          let b = and_parts (not (begins_name rest)) _ a.1 in
          ap (λ t. name ++ t) (changed-written rest in_list b.1 all)
      changed-written (byte_then byte rest) in_list good all =
          let a = and_parts (is_between_names in_list byte rest) _ good in
          ap (λ t. byte ∷ t) (changed-written rest in_list a.1 all)
      changed-written (group_then opening inner closing rest) in_list good all =
          let a = and_parts (opens_group opening) _ good in
          let b = and_parts (is_closing closing) _ a.1 in
          let c = and_parts (are_apart lists false inner) _ b.1 in
          let t = and_parts (all_lists test inner) _ all in
          ap₂ (λ x y. opening ∷ x ++ closing ∷ y) (changed-written inner false c.0 t.0) (changed-written rest in_list c.1 t.1)
      changed-written (list_then usual name elements rest) in_list good all =
          let a = and_parts (is_placed lists usual name rest) _ good in
          let b = and_parts (has_some elements) _ a.1 in
          let c = and_parts (each_apart lists elements) _ b.1 in
          let t = and_parts (test usual name elements) _ all in
          let u = and_parts (all_lists_in test elements) _ t.1 in
          ap₂ (λ x y. x ++ y) (at_list usual name elements (placed-or lists usual name rest a.0) b.0 c.0 t.0 u.0 (each-changed-written elements c.0 u.0)) (changed-written rest in_list c.1 u.1)

      pub each-changed-written : (elements : Elements) → each_apart lists elements ≡ true → all_lists_in test elements ≡ true → each_written for_list (each_changed elements) ≡ each_written other elements
      each-changed-written no_more good all = refl
      each-changed-written (element_then element others) good all =
          let a = and_parts (are_apart lists true element) _ good in
          let t = and_parts (all_lists test element) _ all in
          ap₂ (λ x y. x ∷ y) (changed-written element true a.0 t.0) (each-changed-written others a.1 t.1)

    pub outside-written : (p : Parts) → are_outside lists p ≡ true → all_lists test p ≡ true → written for_list (changed p) ≡ written other p
    unfolding written are_outside all_lists changed
    outside-written ends good all = refl
    outside-written (name_then name rest) good all =
        let a = and_parts (is_other name) _ good in
        let b = and_parts (not (begins_name rest)) _ a.1 in
        ap (λ t. name ++ t) (outside-written rest b.1 all)
    outside-written (byte_then byte rest) good all =
        let a = and_parts (not (is_name_byte byte)) _ good in
        ap (λ t. byte ∷ t) (outside-written rest a.1 all)
    outside-written (group_then opening inner closing rest) good all = absurd (true≢false (sym good))
    outside-written (list_then usual name elements rest) good all =
        let a = and_parts (not (is_bare name) && (lists name && stands usual name rest)) _ good in
        let d = and_parts (lists name) (stands usual name rest) (and_parts (not (is_bare name)) (lists name && stands usual name rest) a.0).1 in
        let b = and_parts (has_some elements) _ a.1 in
        let c = and_parts (each_apart lists elements) _ b.1 in
        let t = and_parts (test usual name elements) _ all in
        let u = and_parts (all_lists_in test elements) _ t.1 in
        ap₂ (λ x y. x ++ y) (at_list usual name elements (or-true lists name d.0) b.0 c.0 t.0 u.0 (each-changed-written elements c.0 u.0)) (outside-written rest c.1 u.1)

  -- every list passes a test
  module _ (lists : List ℕ → Bool) (test : List ℕ → List ℕ → Elements → Bool)
      (at_list : (name : List ℕ) (elements : Elements) → (is_bare name || lists name) ≡ true → all_lists_in test elements ≡ true
      → (test (usual_of name elements) name (elements_of name elements) ≡ true) × (all_lists_in test (elements_of name elements) ≡ true)) where
    mutual
      unfolding are_apart all_lists changed

      pub changed-all : (p : Parts) (in_list : Bool) → are_apart lists in_list p ≡ true → all_lists test (changed p) ≡ true
      changed-all ends in_list good = refl
      changed-all (name_then name rest) in_list good =
          let a = and_parts (is_other name && not (ends_operator name)) _ good in
          changed-all rest in_list (and_parts (not (begins_name rest)) _ a.1).1
      changed-all (byte_then byte rest) in_list good = changed-all rest in_list (and_parts (is_between_names in_list byte rest) _ good).1
      changed-all (group_then opening inner closing rest) in_list good =
          let a = and_parts (opens_group opening) _ good in
          let b = and_parts (is_closing closing) _ a.1 in
          let c = and_parts (are_apart lists false inner) _ b.1 in
          and-both _ _ (changed-all inner false c.0) (changed-all rest in_list c.1)
      changed-all (list_then usual name elements rest) in_list good =
          let a = and_parts (is_placed lists usual name rest) _ good in
          let b = and_parts (has_some elements) _ a.1 in
          let c = and_parts (each_apart lists elements) _ b.1 in
          let t = at_list name (each_changed elements) (placed-or lists usual name rest a.0) (each-changed-all elements c.0) in
          and-both _ _ t.0 (and-both _ _ t.1 (changed-all rest in_list c.1))

      pub each-changed-all : (elements : Elements) → each_apart lists elements ≡ true → all_lists_in test (each_changed elements) ≡ true
      each-changed-all no_more good = refl
      each-changed-all (element_then element others) good =
          let a = and_parts (are_apart lists true element) _ good in
          and-both _ _ (changed-all element true a.0) (each-changed-all others a.1)

    pub outside-all : (p : Parts) → are_outside lists p ≡ true → all_lists test (changed p) ≡ true
    unfolding are_outside all_lists changed
    outside-all ends good = refl
    outside-all (name_then name rest) good = outside-all rest (and_parts (not (begins_name rest)) _ (and_parts (is_other name) _ good).1).1
    outside-all (byte_then byte rest) good = outside-all rest (and_parts (not (is_name_byte byte)) _ good).1
    outside-all (group_then opening inner closing rest) good = absurd (true≢false (sym good))
    outside-all (list_then usual name elements rest) good =
        let a = and_parts (not (is_bare name) && (lists name && stands usual name rest)) _ good in
        let d = and_parts (lists name) (stands usual name rest) (and_parts (not (is_bare name)) (lists name && stands usual name rest) a.0).1 in
        let b = and_parts (has_some elements) _ a.1 in
        let c = and_parts (each_apart lists elements) _ b.1 in
        let t = at_list name (each_changed elements) (or-true lists name d.0) (each-changed-all elements c.0) in
        and-both _ _ t.0 (and-both _ _ t.1 (outside-all rest c.1))

  -- rules write the same for the changed parts, whose lists all pass another test
  module _ (lists : List ℕ → Bool) (test new_test : List ℕ → List ℕ → Elements → Bool) (for_list : List ℕ → List ℕ → List (List ℕ) → List ℕ)
      (at_list : (usual name : List ℕ) (elements : Elements) → (is_bare name || lists name) ≡ true → has_some elements ≡ true → each_apart lists elements ≡ true → test usual name elements ≡ true
      → all_lists_in test elements ≡ true → all_lists_in new_test (each_changed elements) ≡ true → each_written for_list (each_changed elements) ≡ each_written for_list elements
      → (new_test (usual_of name (each_changed elements)) name (elements_of name (each_changed elements)) ≡ true) × (all_lists_in new_test (elements_of name (each_changed elements)) ≡ true)
      × (for_list (usual_of name (each_changed elements)) name (each_written for_list (elements_of name (each_changed elements))) ≡ for_list usual name (each_written for_list elements))) where
    mutual
      unfolding written are_apart all_lists changed

      pub changed-both : (p : Parts) (in_list : Bool) → are_apart lists in_list p ≡ true → all_lists test p ≡ true → (all_lists new_test (changed p) ≡ true) × (written for_list (changed p) ≡ written for_list p)
      changed-both ends in_list good all = (refl, refl)
      changed-both (name_then name rest) in_list good all =
          let a = and_parts (is_other name && not (ends_operator name)) _ good in
          let again = changed-both rest in_list (and_parts (not (begins_name rest)) _ a.1).1 all in
          (again.0, ap (λ t. name ++ t) again.1)
      changed-both (byte_then byte rest) in_list good all =
          let again = changed-both rest in_list (and_parts (is_between_names in_list byte rest) _ good).1 all in
          (again.0, ap (λ t. byte ∷ t) again.1)
      changed-both (group_then opening inner closing rest) in_list good all =
          let a = and_parts (opens_group opening) _ good in
          let b = and_parts (is_closing closing) _ a.1 in
          let c = and_parts (are_apart lists false inner) _ b.1 in
          let t = and_parts (all_lists test inner) _ all in
          let one = changed-both inner false c.0 t.0 in
          let two = changed-both rest in_list c.1 t.1 in
          (and-both _ _ one.0 two.0, ap₂ (λ x y. opening ∷ x ++ closing ∷ y) one.1 two.1)
      changed-both (list_then usual name elements rest) in_list good all =
          let a = and_parts (is_placed lists usual name rest) _ good in
          let b = and_parts (has_some elements) _ a.1 in
          let c = and_parts (each_apart lists elements) _ b.1 in
          let t = and_parts (test usual name elements) _ all in
          let u = and_parts (all_lists_in test elements) _ t.1 in
          let each = each-both elements c.0 u.0 in
          let here = at_list usual name elements (placed-or lists usual name rest a.0) b.0 c.0 t.0 u.0 each.0 each.1 in
          let two = changed-both rest in_list c.1 u.1 in
          (and-both _ _ here.0 (and-both _ _ here.1 two.0), ap₂ (λ x y. x ++ y) here.2 two.1)

      pub each-both : (elements : Elements) → each_apart lists elements ≡ true → all_lists_in test elements ≡ true
          → (all_lists_in new_test (each_changed elements) ≡ true) × (each_written for_list (each_changed elements) ≡ each_written for_list elements)
      each-both no_more good all = (refl, refl)
      each-both (element_then element others) good all =
          let a = and_parts (are_apart lists true element) _ good in
          let t = and_parts (all_lists test element) _ all in
          let one = changed-both element true a.0 t.0 in
          let two = each-both others a.1 t.1 in
          (and-both _ _ one.0 two.0, ap₂ (λ x y. x ∷ y) one.1 two.1)

    pub outside-both : (p : Parts) → are_outside lists p ≡ true → all_lists test p ≡ true → (all_lists new_test (changed p) ≡ true) × (written for_list (changed p) ≡ written for_list p)
    unfolding written are_outside all_lists changed
    outside-both ends good all = (refl, refl)
    outside-both (name_then name rest) good all =
        let again = outside-both rest (and_parts (not (begins_name rest)) _ (and_parts (is_other name) _ good).1).1 all in
        (again.0, ap (λ t. name ++ t) again.1)
    outside-both (byte_then byte rest) good all =
        let again = outside-both rest (and_parts (not (is_name_byte byte)) _ good).1 all in
        (again.0, ap (λ t. byte ∷ t) again.1)
    outside-both (group_then opening inner closing rest) good all = absurd (true≢false (sym good))
    outside-both (list_then usual name elements rest) good all =
        let a = and_parts (not (is_bare name) && (lists name && stands usual name rest)) _ good in
        let d = and_parts (lists name) (stands usual name rest) (and_parts (not (is_bare name)) (lists name && stands usual name rest) a.0).1 in
        let b = and_parts (has_some elements) _ a.1 in
        let c = and_parts (each_apart lists elements) _ b.1 in
        let t = and_parts (test usual name elements) _ all in
        let u = and_parts (all_lists_in test elements) _ t.1 in
        let each = each-both elements c.0 u.0 in
        let here = at_list usual name elements (or-true lists name d.0) b.0 c.0 t.0 u.0 each.0 each.1 in
        let two = outside-both rest c.1 u.1 in
        (and-both _ _ here.0 (and-both _ _ here.1 two.0), ap₂ (λ x y. x ++ y) here.2 two.1)

-- every list that passes a test passes another
module _ (lists : List ℕ → Bool) (test other : List ℕ → List ℕ → Elements → Bool)
    (at_list : (usual name : List ℕ) (elements : Elements) → (is_bare name || lists name) ≡ true → has_some elements ≡ true → each_apart lists elements ≡ true → test usual name elements ≡ true
    → all_lists_in test elements ≡ true → other usual name elements ≡ true) where
  mutual
    unfolding are_apart all_lists

    pub inner-follow : (p : Parts) (in_list : Bool) → are_apart lists in_list p ≡ true → all_lists test p ≡ true → all_lists other p ≡ true
    inner-follow ends in_list good all = refl
    inner-follow (name_then name rest) in_list good all =
        let a = and_parts (is_other name && not (ends_operator name)) _ good in
        inner-follow rest in_list (and_parts (not (begins_name rest)) _ a.1).1 all
    inner-follow (byte_then byte rest) in_list good all = inner-follow rest in_list (and_parts (is_between_names in_list byte rest) _ good).1 all
    inner-follow (group_then opening inner closing rest) in_list good all =
        let a = and_parts (opens_group opening) _ good in
        let b = and_parts (is_closing closing) _ a.1 in
        let c = and_parts (are_apart lists false inner) _ b.1 in
        let t = and_parts (all_lists test inner) _ all in
        and-both _ _ (inner-follow inner false c.0 t.0) (inner-follow rest in_list c.1 t.1)
    inner-follow (list_then usual name elements rest) in_list good all =
        let a = and_parts (is_placed lists usual name rest) _ good in
        let b = and_parts (has_some elements) _ a.1 in
        let c = and_parts (each_apart lists elements) _ b.1 in
        let t = and_parts (test usual name elements) _ all in
        let u = and_parts (all_lists_in test elements) _ t.1 in
        and-both _ _ (at_list usual name elements (placed-or lists usual name rest a.0) b.0 c.0 t.0 u.0) (and-both _ _ (each-follow elements c.0 u.0) (inner-follow rest in_list c.1 u.1))

    pub each-follow : (elements : Elements) → each_apart lists elements ≡ true → all_lists_in test elements ≡ true → all_lists_in other elements ≡ true
    each-follow no_more good all = refl
    each-follow (element_then element others) good all =
        let a = and_parts (are_apart lists true element) _ good in
        let t = and_parts (all_lists test element) _ all in
        and-both _ _ (inner-follow element true a.0 t.0) (each-follow others a.1 t.1)

  pub outside-follow : (p : Parts) → are_outside lists p ≡ true → all_lists test p ≡ true → all_lists other p ≡ true
  unfolding are_outside all_lists
  outside-follow ends good all = refl
  outside-follow (name_then name rest) good all = outside-follow rest (and_parts (not (begins_name rest)) _ (and_parts (is_other name) _ good).1).1 all
  outside-follow (byte_then byte rest) good all = outside-follow rest (and_parts (not (is_name_byte byte)) _ good).1 all
  outside-follow (group_then opening inner closing rest) good all = absurd (true≢false (sym good))
  outside-follow (list_then usual name elements rest) good all =
      let a = and_parts (not (is_bare name) && (lists name && stands usual name rest)) _ good in
      let d = and_parts (lists name) (stands usual name rest) (and_parts (not (is_bare name)) (lists name && stands usual name rest) a.0).1 in
      let b = and_parts (has_some elements) _ a.1 in
      let c = and_parts (each_apart lists elements) _ b.1 in
      let t = and_parts (test usual name elements) _ all in
      let u = and_parts (all_lists_in test elements) _ t.1 in
      and-both _ _ (at_list usual name elements (or-true lists name d.0) b.0 c.0 t.0 u.0) (and-both _ _ (each-follow elements c.0 u.0) (outside-follow rest c.1 u.1))

-- other rules write the same, if they do so for each list that passes a test
module _ (lists : List ℕ → Bool) (test : List ℕ → List ℕ → Elements → Bool) (for_list other : List ℕ → List ℕ → List (List ℕ) → List ℕ)
    (at_list : (usual name : List ℕ) (elements : Elements) → (is_bare name || lists name) ≡ true → test usual name elements ≡ true
    → for_list usual name (each_written other elements) ≡ other usual name (each_written other elements)) where
  mutual
    unfolding written are_apart all_lists

    pub same-written : (p : Parts) (in_list : Bool) → are_apart lists in_list p ≡ true → all_lists test p ≡ true → written for_list p ≡ written other p
    same-written ends in_list good all = refl
    same-written (name_then name rest) in_list good all =
        let a = and_parts (is_other name && not (ends_operator name)) _ good in
        ap (λ t. name ++ t) (same-written rest in_list (and_parts (not (begins_name rest)) _ a.1).1 all)
    same-written (byte_then byte rest) in_list good all =
        ap (λ t. byte ∷ t) (same-written rest in_list (and_parts (is_between_names in_list byte rest) _ good).1 all)
    same-written (group_then opening inner closing rest) in_list good all =
        let a = and_parts (opens_group opening) _ good in
        let b = and_parts (is_closing closing) _ a.1 in
        let c = and_parts (are_apart lists false inner) _ b.1 in
        let t = and_parts (all_lists test inner) _ all in
        ap₂ (λ x y. opening ∷ x ++ closing ∷ y) (same-written inner false c.0 t.0) (same-written rest in_list c.1 t.1)
    same-written (list_then usual name elements rest) in_list good all =
        let a = and_parts (is_placed lists usual name rest) _ good in
        let b = and_parts (has_some elements) _ a.1 in
        let c = and_parts (each_apart lists elements) _ b.1 in
        let t = and_parts (test usual name elements) _ all in
        let u = and_parts (all_lists_in test elements) _ t.1 in
        ap₂ (λ x y. x ++ y) (ap (for_list usual name) (each-same-written elements c.0 u.0) ∙ at_list usual name elements (placed-or lists usual name rest a.0) t.0) (same-written rest in_list c.1 u.1)

    each-same-written : (elements : Elements) → each_apart lists elements ≡ true → all_lists_in test elements ≡ true → each_written for_list elements ≡ each_written other elements
    each-same-written no_more good all = refl
    each-same-written (element_then element others) good all =
        let a = and_parts (are_apart lists true element) _ good in
        let t = and_parts (all_lists test element) _ all in
        ap₂ (λ x y. x ∷ y) (same-written element true a.0 t.0) (each-same-written others a.1 t.1)
