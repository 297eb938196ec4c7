-- A text and its short text have the same full text, and a text and its full text have the same short text, where the text has
-- usual names or their lists outside of other lists.
use Rattle.short_names.proofs.Basics.{◌≡◌, ◌&&◌, ◌∷◌, ◌==◌, inl, inr, not, refl, sym, ap, ap₂, subst, ◌∙◌, ℕ, arith, Bool, true, false, List, [], ◌++◌, Some, append-nil, append_assoc, eq-eqb, and_parts, true≢false, full, full_to, full_rules, begins_free, begins_name, is_end, Parts, ends, name_then, byte_then, group_then, list_then, Elements, written, as_it_is, text_from, are_outside, all_lists, is_simple_list, short_bytes, full_bytes, is_known, is_name_byte, is_letter, short, short_rules, GoesOn, IsConstructed, IsUsual, Whole, last_parts, usual_then, member_then, constructor_then, front_of, comes_apart, whole_written, one_of, is_free, AreApart, all_within, IsWhole, Rules, by_rules, text_or, written_for}
use Rattle.short_names.proofs.ConstructorSteps.{short-by-name, short-by-list, full-by-name, full-by-list}
use Rattle.short_names.proofs.MemberSteps.{member-after, short-member, full-member, short-alone, full-alone}
use Rattle.short_names.proofs.PartChanges.{changed-first, changed-end, changed, changed-ends, changed-free, changed-outside, outside-written}
use Rattle.short_names.proofs.PartForms.{and-both}
use Rattle.short_names.proofs.PartLaws.{known-calls, outside-full, outside-reads, outside-short, reads, reads-calls, short-of-full}
use Rattle.short_names.proofs.PartTexts.{full-calls, full-of-list, full-plain, full-stay, full_elements, full_usual, is_full, short-of-list, short-plain, short-stay, short_elements, short_usual}
use Rattle.short_names.proofs.PartRules.{short-obeys, full-obeys}
use Rattle.short_names.proofs.PartSteps.{IsBehind, IsFree, at, free-nothing}
use Rattle.short_names.proofs.PartWalks.{Calls, Obeys, outer-goes, not-true}
use Rattle.short_names.proofs.UsualSteps.{for-list, free-after, name-parts, short-name, full-name, short-list, full-list}

-- ## What comes first

free-parts : (for_list : List ℕ → List ℕ → List (List ℕ) → List ℕ) (p : Parts) (at_end : Bool) (text : List ℕ) → are_outside is_simple_list p ≡ true → begins_free p at_end ≡ true → (at_end ≡ true → text ≡ [])
    → IsFree (written for_list p ++ text)
unfolding written are_outside is_name_byte is_letter
free-parts f ends at_end text good first end = subst IsFree (sym (end first)) (refl, λ e. absurd (omega (arith, e)))
free-parts f (name_then name rest) at_end text good first end = absurd (true≢false (sym first))
free-parts f (byte_then byte rest) at_end text good first end =
    let a = and_parts (not (is_name_byte byte)) _ good in
    (not-true (is_name_byte byte) a.0, λ e. true≢false (sym (eq-eqb byte 60 e) ∙ not-true (byte == 60) first))
free-parts f (group_then opening inner closing rest) at_end text good first end = absurd (true≢false (sym good))
free-parts f (list_then usual name elements rest) at_end text good first end = absurd (true≢false (sym first))

free-whole : (for_list : List ℕ → List ℕ → List (List ℕ) → List ℕ) (usual : Bool → (name list : List ℕ) → List ℕ) (w : Whole) → AreApart w → is_free w ≡ true → IsFree (whole_written for_list usual w)
unfolding whole_written AreApart
free-whole f u (last_parts p) good first = subst IsFree (append-nil (written f p)) (free-parts f p true [] good first (λ e. refl))
free-whole f u (usual_then p is_list name list rest) good first = free-parts f p false (u is_list name list ++ whole_written f u rest) good.0 first (λ e. absurd (true≢false (sym e)))
free-whole f u (member_then p is_list name list member rest) good first = free-parts f p false (u is_list name list ++ (member ++ whole_written f u rest)) good.0 first (λ e. absurd (true≢false (sym e)))
free-whole f u (constructor_then p is_list destructor name list class own rest) good first =
    free-parts f p false (u is_list name list ++ (front_of destructor ++ (u is_list class own ++ whole_written f u rest))) good.0 first (λ e. absurd (true≢false (sym e)))

behind-parts : (for_list : List ℕ → List ℕ → List (List ℕ) → List ℕ) (p : Parts) (text : List ℕ) → are_outside is_simple_list p ≡ true → begins_name p ≡ false → (is_end p ≡ true → IsBehind text) → IsBehind (written for_list p ++ text)
unfolding written are_outside is_simple_list
behind-parts f ends text good first end = end refl
behind-parts f (name_then name rest) text good first end = absurd (true≢false first)
behind-parts f (byte_then byte rest) text good first end = not-true (is_name_byte byte) (and_parts (not (is_name_byte byte)) _ good).0
behind-parts f (group_then opening inner closing rest) text good first end = absurd (true≢false (sym good))
behind-parts f (list_then [] [] elements rest) text good first end = absurd (true≢false (sym good))
behind-parts f (list_then (other ∷ usual) [] elements rest) text good first end = absurd (true≢false (sym good))
behind-parts f (list_then usual (byte ∷ name) elements rest) text good first end = absurd (true≢false first)

behind-whole : (for_list : List ℕ → List ℕ → List (List ℕ) → List ℕ) (usual : Bool → (name list : List ℕ) → List ℕ) (w : Whole) → AreApart w → comes_apart w ≡ true → IsBehind (whole_written for_list usual w)
unfolding whole_written AreApart is_name_byte is_letter
behind-whole f u (last_parts p) good first = subst IsBehind (append-nil (written f p)) (behind-parts f p [] good (not-true (begins_name p) first) (λ e. refl))
behind-whole f u (usual_then p is_list name list rest) good first =
    let a = and_parts (not (begins_name p)) (not (is_end p)) first in
    behind-parts f p (u is_list name list ++ whole_written f u rest) good.0 (not-true (begins_name p) a.0) (λ e. absurd (true≢false (sym e ∙ not-true (is_end p) a.1)))
behind-whole f u (member_then p is_list name list member rest) good first =
    let a = and_parts (not (begins_name p)) (not (is_end p)) first in
    behind-parts f p (u is_list name list ++ (member ++ whole_written f u rest)) good.0 (not-true (begins_name p) a.0) (λ e. absurd (true≢false (sym e ∙ not-true (is_end p) a.1)))
behind-whole f u (constructor_then p is_list destructor name list class own rest) good first =
    let a = and_parts (not (begins_name p)) (not (is_end p)) first in
    behind-parts f p (u is_list name list ++ (front_of destructor ++ (u is_list class own ++ whole_written f u rest))) good.0 (not-true (begins_name p) a.0) (λ e. absurd (true≢false (sym e ∙ not-true (is_end p) a.1)))

-- ## The walk

module _ (rules : Rules) (for_list : List ℕ → List ℕ → List (List ℕ) → List ℕ) (usual : Bool → (name list : List ℕ) → List ℕ) (obeys : Obeys rules for_list is_simple_list)
    (test : List ℕ → List ℕ → Elements → Bool) (calls : Calls rules for_list test)
    (at_usual : (is_list : Bool) (name list rest : List ℕ) → IsUsual name list → IsFree rest → (last : List ℕ)
    → written_for rules 0 (one_of is_list name list ++ rest) (at [] last) ≡ written_for rules 0 rest (at [] (last ++ usual is_list name list)))
    (at_member : (is_list : Bool) (name list member rest : List ℕ) → (is : IsUsual name list) → GoesOn name list member is.alias → IsBehind rest → (last : List ℕ)
    → written_for rules 0 (one_of is_list name list ++ (member ++ rest)) (at [] last) ≡ written_for rules 0 rest (at [] (last ++ (usual is_list name list ++ member))))
    (at_constructor : (is_list destructor : Bool) (name list class own rest : List ℕ) → (is : IsUsual name list) → IsConstructed destructor name list class own is.alias → IsBehind rest → (last : List ℕ)
    → written_for rules 0 (one_of is_list name list ++ (front_of destructor ++ (one_of is_list class own ++ rest))) (at [] last)
    ≡ written_for rules 0 rest (at [] (last ++ (usual is_list name list ++ (front_of destructor ++ usual is_list class own))))) where
  whole-goes : (w : Whole) (last : List ℕ) → AreApart w → all_within test w ≡ true → written_for rules 0 (whole_written as_it_is one_of w) (at [] last) ≡ Some (at [] (last ++ whole_written for_list usual w))
  unfolding whole_written AreApart all_within written_for is_name_byte is_letter
  whole-goes (last_parts p) last good all =
      ap (λ t. written_for rules 0 t (at [] last)) (sym (append-nil (text_from p))) ∙ outer-goes rules for_list is_simple_list obeys test calls p last [] good all (inr free-nothing)
  whole-goes (usual_then p is_list name list rest) last good all =
      let a = and_parts (all_lists test p) (all_within test rest) all in
      let text : List ℕ = whole_written as_it_is one_of rest in
      let front : List ℕ = last ++ written for_list p in
      let bytes : List ℕ = usual is_list name list in
      outer-goes rules for_list is_simple_list obeys test calls p last (one_of is_list name list ++ text) good.0 a.0 (inl good.1)
      ∙ at_usual is_list name list text good.2 (free-whole as_it_is one_of rest good.4 good.3) front
      ∙ whole-goes rest (front ++ bytes) good.4 a.1
      ∙ ap (λ t. Some (at [] t)) (append_assoc front bytes (whole_written for_list usual rest) ∙ append_assoc last (written for_list p) (bytes ++ whole_written for_list usual rest))
  whole-goes (member_then p is_list name list member rest) last good all =
      let a = and_parts (all_lists test p) (all_within test rest) all in
      let text : List ℕ = whole_written as_it_is one_of rest in
      let front : List ℕ = last ++ written for_list p in
      let bytes : List ℕ = usual is_list name list ++ member in
      outer-goes rules for_list is_simple_list obeys test calls p last (one_of is_list name list ++ (member ++ text)) good.0 a.0 (inl good.1)
      ∙ at_member is_list name list member text good.2.0 good.2.1 (behind-whole as_it_is one_of rest good.4 good.3) front
      ∙ whole-goes rest (front ++ bytes) good.4 a.1
      ∙ ap (λ t. Some (at [] t)) (
      append_assoc front bytes (whole_written for_list usual rest) ∙ append_assoc last (written for_list p) (bytes ++ whole_written for_list usual rest)
      ∙ ap (λ t. last ++ (written for_list p ++ t)) (append_assoc (usual is_list name list) member (whole_written for_list usual rest)))
  whole-goes (constructor_then p is_list destructor name list class own rest) last good all =
      let a = and_parts (all_lists test p) (all_within test rest) all in
      let text : List ℕ = whole_written as_it_is one_of rest in
      let more : List ℕ = whole_written for_list usual rest in
      let front : List ℕ = last ++ written for_list p in
      let bytes : List ℕ = usual is_list name list ++ (front_of destructor ++ usual is_list class own) in
      outer-goes rules for_list is_simple_list obeys test calls p last (one_of is_list name list ++ (front_of destructor ++ (one_of is_list class own ++ text))) good.0 a.0 (inl good.1)
      ∙ at_constructor is_list destructor name list class own text good.2.0 good.2.1 (behind-whole as_it_is one_of rest good.4 good.3) front
      ∙ whole-goes rest (front ++ bytes) good.4 a.1
      ∙ ap (λ t. Some (at [] t)) (
      append_assoc front bytes more ∙ append_assoc last (written for_list p) (bytes ++ more)
      ∙ ap (λ t. last ++ (written for_list p ++ t)) (append_assoc (usual is_list name list) (front_of destructor ++ usual is_list class own) more
      ∙ ap (λ t. usual is_list name list ++ t) (append_assoc (front_of destructor) (usual is_list class own) more)))

  by-whole : (w : Whole) → AreApart w → all_within test w ≡ true → by_rules rules (whole_written as_it_is one_of w) ≡ whole_written for_list usual w
  unfolding by_rules
  by-whole w good all = ap (text_or (whole_written as_it_is one_of w)) (whole-goes w [] good all)

named_by : Bool → (name list : List ℕ) → List ℕ
named_by is_list name list = name

listed_by : Bool → (name list : List ℕ) → List ℕ
listed_by is_list name list = list

short-whole : (test : List ℕ → List ℕ → Elements → Bool) → Calls short_rules short_bytes test → (w : Whole) → AreApart w → all_within test w ≡ true → by_rules short_rules (whole_written as_it_is one_of w) ≡ whole_written short_bytes named_by w
unfolding named_by
short-whole test calls = by-whole short_rules short_bytes named_by short-obeys test calls (λ is_list name list rest is free last. by is_list name list rest is free last)
    (λ is_list name list member rest is on behind last. go is_list name list member rest is on behind last)
    (λ is_list destructor name list class own rest is on behind last. constructs is_list destructor name list class own rest is on behind last)
  where
    by : (is_list : Bool) (name list rest : List ℕ) → IsUsual name list → IsFree rest → (last : List ℕ)
        → written_for short_rules 0 (one_of is_list name list ++ rest) (at [] last) ≡ written_for short_rules 0 rest (at [] (last ++ name))
    by true name list rest is free last = short-list rest name list is last (free-after is.alias rest free)
    by false name list rest is free last = short-name rest free name list (for-list name list is) [] last refl

    go : (is_list : Bool) (name list member rest : List ℕ) → (is : IsUsual name list) → GoesOn name list member is.alias → IsBehind rest → (last : List ℕ)
        → written_for short_rules 0 (one_of is_list name list ++ (member ++ rest)) (at [] last) ≡ written_for short_rules 0 rest (at [] (last ++ (name ++ member)))
    go true name list member rest is on behind last =
        let bytes = name-parts name is.bytes in
        short-list (member ++ rest) name list is last (member-after is.alias name list member rest on behind)
        ∙ short-alone rest behind name list member is.alias on bytes.0 bytes.1 last (last ++ name)
        ∙ ap (λ t. written_for short_rules 0 rest (at [] t)) (append_assoc last name member)
    go false name list member rest is on behind last =
        let bytes = name-parts name is.bytes in
        short-member rest behind name list member is.alias on bytes.0 bytes.1 last

    constructs : (is_list destructor : Bool) (name list class own rest : List ℕ) → (is : IsUsual name list) → IsConstructed destructor name list class own is.alias → IsBehind rest → (last : List ℕ)
        → written_for short_rules 0 (one_of is_list name list ++ (front_of destructor ++ (one_of is_list class own ++ rest))) (at [] last) ≡ written_for short_rules 0 rest (at [] (last ++ (name ++ (front_of destructor ++ class))))
    constructs true destructor name list class own rest is on behind last = short-by-list destructor name list class own is on rest behind last
    constructs false destructor name list class own rest is on behind last = short-by-name destructor name list class own is on rest behind last

full-whole : (test : List ℕ → List ℕ → Elements → Bool) → Calls (full_rules (full_to 3)) (full_bytes (full_to 3)) test → (w : Whole) → AreApart w → all_within test w ≡ true → by_rules (full_rules (full_to 3)) (whole_written as_it_is one_of w) ≡ whole_written (full_bytes (full_to 3)) listed_by w
unfolding listed_by
full-whole test calls = by-whole (full_rules (full_to 3)) (full_bytes (full_to 3)) listed_by (full-obeys (full_to 3)) test calls (λ is_list name list rest is free last. by is_list name list rest is free last)
    (λ is_list name list member rest is on behind last. go is_list name list member rest is on behind last)
    (λ is_list destructor name list class own rest is on behind last. constructs is_list destructor name list class own rest is on behind last)
  where
    by : (is_list : Bool) (name list rest : List ℕ) → IsUsual name list → IsFree rest → (last : List ℕ)
        → written_for (full_rules (full_to 3)) 0 (one_of is_list name list ++ rest) (at [] last) ≡ written_for (full_rules (full_to 3)) 0 rest (at [] (last ++ list))
    by true name list rest is free last = full-list rest name list is last
    by false name list rest is free last = full-name rest free name list (for-list name list is) [] last

    go : (is_list : Bool) (name list member rest : List ℕ) → (is : IsUsual name list) → GoesOn name list member is.alias → IsBehind rest → (last : List ℕ)
        → written_for (full_rules (full_to 3)) 0 (one_of is_list name list ++ (member ++ rest)) (at [] last) ≡ written_for (full_rules (full_to 3)) 0 rest (at [] (last ++ (list ++ member)))
    go true name list member rest is on behind last =
        let bytes = name-parts name is.bytes in
        full-list (member ++ rest) name list is last
        ∙ full-alone rest behind name list member is.alias on bytes.0 bytes.1 last (last ++ list)
        ∙ ap (λ t. written_for (full_rules (full_to 3)) 0 rest (at [] t)) (append_assoc last list member)
    go false name list member rest is on behind last =
        let bytes = name-parts name is.bytes in
        full-member rest behind name list member is.alias on bytes.0 bytes.1 last
        ∙ full-alone rest behind name list member is.alias on bytes.0 bytes.1 last (last ++ list)
        ∙ ap (λ t. written_for (full_rules (full_to 3)) 0 rest (at [] t)) (append_assoc last list member)

    constructs : (is_list destructor : Bool) (name list class own rest : List ℕ) → (is : IsUsual name list) → IsConstructed destructor name list class own is.alias → IsBehind rest → (last : List ℕ)
        → written_for (full_rules (full_to 3)) 0 (one_of is_list name list ++ (front_of destructor ++ (one_of is_list class own ++ rest))) (at [] last)
        ≡ written_for (full_rules (full_to 3)) 0 rest (at [] (last ++ (list ++ (front_of destructor ++ own))))
    constructs true destructor name list class own rest is on behind last = full-by-list destructor name list class own is on rest behind last
    constructs false destructor name list class own rest is on behind last = full-by-name destructor name list class own is on rest behind last

-- ## Short and full ones

module _ (elements_of : List ℕ → Elements → Elements) (usual_of : List ℕ → Elements → List ℕ) (to_list : Bool) where
  rewritten : Whole → Whole
  rewritten (last_parts p) = last_parts (changed elements_of usual_of p)
  rewritten (usual_then p is_list name list rest) = usual_then (changed elements_of usual_of p) to_list name list (rewritten rest)
  rewritten (member_then p is_list name list member rest) = member_then (changed elements_of usual_of p) to_list name list member (rewritten rest)
  rewritten (constructor_then p is_list destructor name list class own rest) = constructor_then (changed elements_of usual_of p) to_list destructor name list class own (rewritten rest)

  rewritten-free : (w : Whole) → is_free (rewritten w) ≡ is_free w
  unfolding rewritten
  rewritten-free (last_parts p) = changed-free elements_of usual_of p true
  rewritten-free (usual_then p is_list name list rest) = changed-free elements_of usual_of p false
  rewritten-free (member_then p is_list name list member rest) = changed-free elements_of usual_of p false
  rewritten-free (constructor_then p is_list destructor name list class own rest) = changed-free elements_of usual_of p false

  rewritten-first : (w : Whole) → comes_apart (rewritten w) ≡ comes_apart w
  unfolding rewritten
  rewritten-first (last_parts p) = ap not (changed-first elements_of usual_of p)
  rewritten-first (usual_then p is_list name list rest) = ap₂ (λ x y. not x && not y) (changed-first elements_of usual_of p) (changed-end elements_of usual_of p)
  rewritten-first (member_then p is_list name list member rest) = ap₂ (λ x y. not x && not y) (changed-first elements_of usual_of p) (changed-end elements_of usual_of p)
  rewritten-first (constructor_then p is_list destructor name list class own rest) = ap₂ (λ x y. not x && not y) (changed-first elements_of usual_of p) (changed-end elements_of usual_of p)

  rewritten-apart : ((p : Parts) → are_outside is_simple_list p ≡ true → are_outside is_simple_list (changed elements_of usual_of p) ≡ true) → (w : Whole) → AreApart w → AreApart (rewritten w)
  unfolding rewritten AreApart
  rewritten-apart stay (last_parts p) good = stay p good
  rewritten-apart stay (usual_then p is_list name list rest) good =
      (stay p good.0, changed-ends elements_of usual_of p ∙ good.1, good.2, rewritten-free rest ∙ good.3, rewritten-apart stay rest good.4)
  rewritten-apart stay (member_then p is_list name list member rest) good =
      (stay p good.0, changed-ends elements_of usual_of p ∙ good.1, good.2, rewritten-first rest ∙ good.3, rewritten-apart stay rest good.4)
  rewritten-apart stay (constructor_then p is_list destructor name list class own rest) good =
      (stay p good.0, changed-ends elements_of usual_of p ∙ good.1, good.2, rewritten-first rest ∙ good.3, rewritten-apart stay rest good.4)

  rewritten-is : (for_list other : List ℕ → List ℕ → List (List ℕ) → List ℕ) (usual another : Bool → (name list : List ℕ) → List ℕ)
      → ((p : Parts) → are_outside is_simple_list p ≡ true → all_lists is_known p ≡ true → written for_list (changed elements_of usual_of p) ≡ written other p)
      → ((is_list : Bool) (name list : List ℕ) → usual to_list name list ≡ another is_list name list)
      → (w : Whole) → AreApart w → all_within is_known w ≡ true → whole_written for_list usual (rewritten w) ≡ whole_written other another w
  unfolding rewritten AreApart whole_written all_within
  rewritten-is f h u v parts same (last_parts p) good no_pmr = parts p good no_pmr
  rewritten-is f h u v parts same (usual_then p is_list name list rest) good no_pmr =
      let a = and_parts (all_lists is_known p) (all_within is_known rest) no_pmr in
      ap₂ (λ x y. x ++ y) (parts p good.0 a.0) (ap₂ (λ x y. x ++ y) (same is_list name list) (rewritten-is f h u v parts same rest good.4 a.1))
  rewritten-is f h u v parts same (member_then p is_list name list member rest) good no_pmr =
      let a = and_parts (all_lists is_known p) (all_within is_known rest) no_pmr in
      ap₂ (λ x y. x ++ y) (parts p good.0 a.0) (ap₂ (λ x y. x ++ (member ++ y)) (same is_list name list) (rewritten-is f h u v parts same rest good.4 a.1))
  rewritten-is f h u v parts same (constructor_then p is_list destructor name list class own rest) good no_pmr =
      let a = and_parts (all_lists is_known p) (all_within is_known rest) no_pmr in
      ap₂ (λ x y. x ++ y) (parts p good.0 a.0)
      (ap₂ (λ x y. x ++ (front_of destructor ++ y)) (same is_list name list) (ap₂ (λ x y. x ++ y) (same is_list class own) (rewritten-is f h u v parts same rest good.4 a.1)))

  rewritten-within : (test : List ℕ → List ℕ → Elements → Bool)
      → ((p : Parts) → are_outside is_simple_list p ≡ true → all_lists is_known p ≡ true → all_lists test (changed elements_of usual_of p) ≡ true)
      → (w : Whole) → AreApart w → all_within is_known w ≡ true → all_within test (rewritten w) ≡ true
  unfolding rewritten AreApart all_within
  rewritten-within test parts (last_parts p) good known = parts p good known
  rewritten-within test parts (usual_then p is_list name list rest) good known =
      let a = and_parts (all_lists is_known p) (all_within is_known rest) known in
      and-both _ _ (parts p good.0 a.0) (rewritten-within test parts rest good.4 a.1)
  rewritten-within test parts (member_then p is_list name list member rest) good known =
      let a = and_parts (all_lists is_known p) (all_within is_known rest) known in
      and-both _ _ (parts p good.0 a.0) (rewritten-within test parts rest good.4 a.1)
  rewritten-within test parts (constructor_then p is_list destructor name list class own rest) good known =
      let a = and_parts (all_lists is_known p) (all_within is_known rest) known in
      and-both _ _ (parts p good.0 a.0) (rewritten-within test parts rest good.4 a.1)

within-reads : (w : Whole) → AreApart w → all_within is_known w ≡ true → all_within reads w ≡ true
unfolding AreApart all_within
within-reads (last_parts p) good known = outside-reads p good known
within-reads (usual_then p is_list name list rest) good known =
    let a = and_parts (all_lists is_known p) (all_within is_known rest) known in
    and-both _ _ (outside-reads p good.0 a.0) (within-reads rest good.4 a.1)
within-reads (member_then p is_list name list member rest) good known =
    let a = and_parts (all_lists is_known p) (all_within is_known rest) known in
    and-both _ _ (outside-reads p good.0 a.0) (within-reads rest good.4 a.1)
within-reads (constructor_then p is_list destructor name list class own rest) good known =
    let a = and_parts (all_lists is_known p) (all_within is_known rest) known in
    and-both _ _ (outside-reads p good.0 a.0) (within-reads rest good.4 a.1)

-- ## The laws

module _ (text : List ℕ) (made : IsWhole text) where
  abbrev w : Whole
  w = made.whole

  inner : List ℕ → List ℕ
  inner = full_to 3

  abbrev brief : Whole
  brief = rewritten short_elements short_usual false w

  abbrev long : Whole
  long = rewritten full_elements full_usual true w

  brief-apart : AreApart brief
  brief-apart = rewritten-apart short_elements short_usual false (changed-outside short_elements short_usual is_simple_list short-stay short-plain) w made.apart

  long-apart : AreApart long
  long-apart = rewritten-apart full_elements full_usual true (changed-outside full_elements full_usual is_simple_list full-stay full-plain) w made.apart

  short-here : by_rules short_rules text ≡ whole_written short_bytes named_by w
  short-here = ap (by_rules short_rules) made.text_is ∙ short-whole is_known known-calls w made.apart made.known

  full-here : by_rules (full_rules inner) text ≡ whole_written (full_bytes inner) listed_by w
  unfolding inner
  full-here = ap (by_rules (full_rules inner)) made.text_is ∙ full-whole reads reads-calls w made.apart (within-reads w made.apart made.known)

  short-text : by_rules short_rules text ≡ whole_written as_it_is one_of brief
  unfolding named_by
  short-text =
      short-here ∙ sym (rewritten-is short_elements short_usual false as_it_is short_bytes one_of named_by
      (outside-written short_elements short_usual is_simple_list is_known as_it_is short_bytes short-of-list) (λ is_list name list. refl) w made.apart made.known)

  full-text : by_rules (full_rules inner) text ≡ whole_written as_it_is one_of long
  unfolding inner listed_by
  full-text =
      full-here ∙ sym (rewritten-is full_elements full_usual true as_it_is (full_bytes (full_to 3)) one_of listed_by
      (outside-written full_elements full_usual is_simple_list is_known as_it_is (full_bytes (full_to 3)) (full-of-list 2)) (λ is_list name list. refl) w made.apart made.known)

  pub whole-keeps-short : short (full text) ≡ short text
  unfolding short full full_to inner named_by
  whole-keeps-short =
      ap (by_rules short_rules) full-text
      ∙ short-whole is_full (full-calls short_rules short_bytes) long long-apart (rewritten-within full_elements full_usual true is_full outside-full w made.apart made.known)
      ∙ rewritten-is full_elements full_usual true short_bytes short_bytes named_by named_by
      (outside-written full_elements full_usual is_simple_list is_known short_bytes short_bytes short-of-full) (λ is_list name list. refl) w made.apart made.known
      ∙ sym short-here

  pub whole-keeps-full : full (short text) ≡ full text
  unfolding short full full_to inner listed_by
  whole-keeps-full =
      ap (by_rules (full_rules (full_to 3))) short-text
      ∙ full-whole reads reads-calls brief brief-apart (rewritten-within short_elements short_usual false reads (λ p apart known. (outside-short p apart known).0) w made.apart made.known)
      ∙ rewritten-is short_elements short_usual false (full_bytes (full_to 3)) (full_bytes (full_to 3)) listed_by listed_by
      (λ p apart known. (outside-short p apart known).1) (λ is_list name list. refl) w made.apart made.known
      ∙ sym full-here
