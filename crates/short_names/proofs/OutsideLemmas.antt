-- Outside of brackets a text is written as it is up to the first name that becomes shorter.
use Rattle.short_names.proofs.Basics.{◌≡◌, ◌<◌, ◌≤◌, ◌+◌, ◌-◌, ◌==◌, ◌||◌, ◌&&◌, not, ◌⊎◌, inl, inr, refl, sym, ap, ◌∙◌, subst, ℕ, zero, suc, arith, Bool, true, false, List, [], ◌∷◌, ◌++◌, length, take, drop, get_or, Some, append_assoc, append-nil, length-drop, length-append, codes, if◌then◌else◌, take-add, Writing, IsChange, std_name, IsPlain, IsFirst, behind_run, is_name_byte, is_letter, run_of, begins_std, is_std_at, short_rules, for_name, Opened, Written, stepped, written_for, at_plain, opens, IsAt, Goes, CanChange, before_last}
use Rattle.std.proofs.lemmas.Bool.{true≢false, ne_eqb, cases_order}
use Rattle.std.proofs.lemmas.List.{drop-drop, get_or-drop, get_or-take}
use Rattle.short_names.specs.declared.names.Change.TheVariants as changes
use Rattle.short_names.specs.declared.finding.Found.{Found}
use Rattle.short_names.proofs.WalkLemmas.{goes}
use Rattle.short_names.proofs.SignLemmas.{begun, more-bytes}
use Rattle.short_names.proofs.BracketLemmas.{and_false}
use Rattle.short_names.proofs.NameSteps.{run-take, run-within, run-some, at_run, nothing_shorter}

abbrev pub outside : List ℕ → Written
outside last = record { opened = []; last = last }

-- the byte after a run belongs to no name
pub run-stops : (text : List ℕ) → is_name_byte (get_or text (length (run_of text)) 0) ≡ false
unfolding run_of is_name_byte is_letter
run-stops [] = refl
run-stops (byte ∷ text) = by (is_name_byte byte) refl (run-stops text)
  where
    by : (b : Bool) → is_name_byte byte ≡ b → is_name_byte (get_or text (length (run_of text)) 0) ≡ false
        → is_name_byte (get_or (byte ∷ text) (length (if b then byte ∷ run_of text else [])) 0) ≡ false
    by true e ih = ih
    by false e ih = e

-- a byte within a run belongs to a name
run-letter : (text : List ℕ) (k : ℕ) → k < length (run_of text) → is_name_byte (get_or text k 0) ≡ true
unfolding run_of
run-letter [] k less = absurd (omega (arith, less))
run-letter (byte ∷ text) zero less = first (is_name_byte byte) less
  where
    first : (b : Bool) → 0 < length (if b then byte ∷ run_of text else []) → b ≡ true
    first true h = refl
    first false h = absurd (omega (arith, h))
run-letter (byte ∷ text) (suc k) less = run-letter text k (next (is_name_byte byte) less)
  where
    next : (b : Bool) → suc k < length (if b then byte ∷ run_of text else []) → k < length (run_of text)
    next true h = omega (arith, h)
    next false h = absurd (omega (arith, h))

-- `std::` begins with a byte of a name
pub std-letter : (text : List ℕ) (k : ℕ) → begins_std (drop k text) ≡ true → is_name_byte (get_or text k 0) ≡ true
unfolding is_name_byte is_letter
std-letter text k h =
    let first : get_or text k 0 ≡ 115 = sym (ap (λ n. get_or text n 0) (omega arith)) ∙ sym (get_or-drop k text 0 0) ∙ sym (get_or-take 5 (drop k text) 0 0 (omega arith)) ∙ ap (λ t. get_or t 0 0) (begun (drop k text) (codes "std::") h) in
    ap is_name_byte first

-- whether `std::` begins a run at a place after a piece depends only on the text after the piece
pub at-drop : (text : List ℕ) (size k : ℕ) → 0 < size → (begins_std (drop size text) ≡ true → is_name_byte (get_or text (size - 1) 0) ≡ false)
    → is_std_at (drop size text) k ≡ is_std_at text (size + k)
at-drop text size zero some boundary =
    by (begins_std (drop size text)) refl ∙ ap (is_std_at text) (omega arith)
  where
    by : (b : Bool) → begins_std (drop size text) ≡ b → (begins_std (drop size text) && true) ≡ is_std_at text size
    by true e = rw e (sym (ap (λ z. z || not (is_name_byte (get_or text (size - 1) 0))) (ne_eqb size 0 (λ z. absurd (omega (arith, z, some)))) ∙ ap not (boundary e)))
    by false e = rw e refl
at-drop text size (suc k) some boundary =
    same (drop (suc k) (drop size text)) (drop (size + suc k) text) (suc k == 0) (size + suc k == 0) (get_or (drop size text) (suc k - 1) 0) (get_or text (size + suc k - 1) 0)
    (drop-drop (suc k) size text)
    (ne_eqb (suc k) 0 (λ z. absurd (omega (arith, z))) ∙ sym (ne_eqb (size + suc k) 0 (λ z. absurd (omega (arith, z)))))
    (get_or-drop size text (suc k - 1) 0 ∙ ap (λ n. get_or text n 0) (omega arith))
  where
    same : (u v : List ℕ) (a b : Bool) (x y : ℕ) → u ≡ v → a ≡ b → x ≡ y → (begins_std u && (a || not (is_name_byte x))) ≡ (begins_std v && (b || not (is_name_byte y)))
    same u v a b x y e f g =
        ap (λ t. begins_std t && (a || not (is_name_byte x))) e ∙ ap (λ c. begins_std v && (c || not (is_name_byte x))) f ∙ ap (λ n. begins_std v && (b || not (is_name_byte n))) g

-- one piece of a text outside of brackets
pub record Piece (text : List ℕ) (to : ℕ) : Type 0 where
  pub byte : ℕ
  pub rest : List ℕ
  pub size : ℕ
  pub text_is : text ≡ byte ∷ rest
  pub some : 0 < size
  pub within : size ≤ to
  pub step : (last : List ℕ) → stepped short_rules byte rest (outside last) ≡ Some (record { size = size; written = outside (last ++ take size text) })
  pub boundary : begins_std (drop size text) ≡ true → is_name_byte (get_or text (size - 1) 0) ≡ false

-- a place within a text at which `std::` begins a run doesn't come after a byte of a name
ends-behind : (text : List ℕ) (to k : ℕ) → (is_std_at text to ≡ true) ⊎ (to ≡ length text) → to < k → k ≤ length text → 0 < to → is_name_byte (get_or text (to - 1) 0) ≡ true → ⊥
ends-behind text to k end less within some letter = elim end [
  | inl begins ↦ absurd (true≢false (sym begins ∙ ap (λ b. begins_std (drop to text) && (b || not (is_name_byte (get_or text (to - 1) 0)))) (ne_eqb to 0 (λ z. absurd (omega (arith, z, some)))) ∙ ap (λ b. begins_std (drop to text) && not b) letter ∙ and_false (begins_std (drop to text))))
  | inr all ↦ absurd (omega (arith, less, within, all))
]

sign-piece : (byte : ℕ) (rest : List ℕ) (to : ℕ) → 0 < to → is_name_byte byte ≡ false → Piece (byte ∷ rest) to
unfolding stepped
sign-piece byte rest to some no_letter = record {
  byte = byte;
  rest = rest;
  size = 1;
  text_is = refl;
  some = omega arith;
  within = omega (arith, some);
  step = λ last. rw no_letter refl;
  boundary = λ _. no_letter;
}

run-piece : (byte : ℕ) (rest : List ℕ) (to : ℕ) → 0 < to → to ≤ length (byte ∷ rest) → is_name_byte byte ≡ true → IsPlain (byte ∷ rest) to
    → (is_std_at (byte ∷ rest) to ≡ true) ⊎ (to ≡ length (byte ∷ rest)) → Piece (byte ∷ rest) to
run-piece byte rest to some within letter plain end =
    let text : List ℕ = byte ∷ rest in
    let run : List ℕ = run_of text in
    let some_run : 0 < length run = run-some text letter in
    let fits : length run ≤ to = not_less (length run) to (λ less. ends-behind text to (length run) end less (run-within text) some (run-letter text (to - 1) (omega (arith, less, some)))) in
    let nothing = plain_at (begins_std text) refl (λ e. plain 0 some (ap (λ b. b && true) e)) in
    record {
      byte = byte;
      rest = rest;
      size = length run;
      text_is = refl;
      some = some_run;
      within = fits;
      step = λ last.
          at_run text 0 byte rest (outside last) refl letter
          ∙ ap (λ b. if b then opens 60 run (outside last) else at_plain run (behind_run text) (outside last) (for_name run (behind_run text) (std_name run))) nothing.0
          ∙ ap (at_plain run (behind_run text) (outside last)) nothing.1
          ∙ ap (λ t. Some (record { size = length t; written = outside (last ++ t) })) (append-nil run)
          ∙ ap (λ t. Some (record { size = length run; written = outside (last ++ t) })) (sym (run-take text));
      boundary = λ begins. absurd (true≢false (sym (std-letter text (length run) begins) ∙ run-stops text));
    }
  where
    not_less : (n m : ℕ) → (m < n → ⊥) → n ≤ m
    not_less n m f = elim (cases_order n m) [ inl e ↦ omega (arith, e) | inr o ↦ elim o [ inl h ↦ omega (arith, h) | inr h ↦ absurd (f h) ] ]

    plain_at : (b : Bool) → begins_std (byte ∷ rest) ≡ b
        → (begins_std (byte ∷ rest) ≡ true → IsChange (run_of (byte ∷ rest)) (behind_run (byte ∷ rest)) changes.Nothing) → IsChange (run_of (byte ∷ rest)) (behind_run (byte ∷ rest)) changes.Nothing
    plain_at true e f = f e
    plain_at false e f = nothing_shorter (byte ∷ rest) e

piece : (text : List ℕ) (to : ℕ) → 0 < to → to ≤ length text → IsPlain text to → (is_std_at text to ≡ true) ⊎ (to ≡ length text) → Piece text to
piece [] to some within plain end = absurd (omega (arith, some, within))
piece (byte ∷ rest) to some within plain end = by (is_name_byte byte) refl
  where
    by : (b : Bool) → is_name_byte byte ≡ b → Piece (byte ∷ rest) to
    by true e = run-piece byte rest to some within e plain end
    by false e = sign-piece byte rest to some e

-- outside of brackets a text is written as it is up to a place, if no name before the place becomes shorter
pub goes_outside : (fuel to : ℕ) (text last : List ℕ) → to ≤ fuel → to ≤ length text → IsPlain text to → (is_std_at text to ≡ true) ⊎ (to ≡ length text)
    → written_for short_rules 0 text (outside last) ≡ written_for short_rules 0 (drop to text) (outside (last ++ take to text))
goes_outside fuel zero text last less within plain end = ap (λ l. written_for short_rules 0 text (outside l)) (sym (append-nil last))
goes_outside zero (suc to) text last less within plain end = absurd (omega (arith, less))
goes_outside (suc fuel) (suc to) text last less within plain end =
    let p = piece text (suc to) (omega arith) within plain end in
    let rest : List ℕ = drop p.size text in
    let left : ℕ = suc to - p.size in
    let all : suc to ≡ p.size + left = omega (arith, p.within) in
    let shift : (k : ℕ) → is_std_at rest k ≡ is_std_at text (p.size + k) = λ k. at-drop text p.size k p.some p.boundary in
    let more : IsPlain rest left = λ k h e.
    subst (λ t. IsChange (run_of t) (behind_run t) changes.Nothing) (sym (drop-drop k p.size text)) (plain (p.size + k) (omega (arith, h, p.within)) (sym (shift k) ∙ e)) in
    let end_is : (is_std_at rest left ≡ true) ⊎ (left ≡ length rest) = elim end [
      | inl begins ↦ inl (shift left ∙ ap (is_std_at text) (sym all) ∙ begins)
      | inr whole ↦ inr (omega (arith, whole, length-drop p.size text, p.within))
    ] in
    goes short_rules text 0 p.byte p.rest (outside last) (outside (last ++ take p.size text)) p.size p.text_is (p.step last) p.some
    ∙ ap (λ n. written_for short_rules 0 (drop n text) (outside (last ++ take p.size text))) (omega arith)
    ∙ goes_outside fuel left rest (last ++ take p.size text) (omega (arith, less, p.some)) (omega (arith, within, length-drop p.size text, p.within)) more end_is
    ∙ ap (λ t. written_for short_rules 0 t (outside (last ++ take p.size text ++ take left rest))) (drop-drop left p.size text ∙ ap (λ n. drop n text) (sym all))
    ∙ ap (λ l. written_for short_rules 0 (drop (suc to) text) (outside l))
    (append_assoc last (take p.size text) (take left rest) ∙ ap (λ t. last ++ t) (sym (take-add p.size left text) ∙ ap (λ n. take n text) (sym all)))

-- ## Steps

skips : (text : List ℕ) (now : Writing) (opened : List Opened) (last : List ℕ) (to : ℕ) → IsAt text now (record { opened = opened; last = last }) → now.brackets.items ≡ []
    → to ≤ length (drop now.at text) → IsPlain (drop now.at text) to → (is_std_at (drop now.at text) to ≡ true) ⊎ (to ≡ length (drop now.at text))
    → (at : ℕ) → at ≡ now.at + to → IsAt text (record now { at = at }) (record { opened = opened; last = last ++ take to (drop now.at text) })
skips text now [] last to is none within plain end at at_is = record {
  goes_on =
      ap (λ n. written_for short_rules 0 (drop n text) (outside (last ++ take to (drop now.at text)))) at_is
      ∙ ap (λ t. written_for short_rules 0 t (outside (last ++ take to (drop now.at text)))) (sym (drop-drop to now.at text))
      ∙ sym (goes_outside to to (drop now.at text) last (omega arith) within plain end) ∙ is.goes_on;
  copied = omega (arith, is.copied, at_is);
  within = omega (arith, within, length-drop now.at text, is.within, at_is);
  bytes =
      ap (λ n. now.out.items ++ take (n - now.copied) (drop now.copied text)) at_is
      ∙ more-bytes text now.out.items now.copied now.at to (take to (drop now.at text)) _ is.copied is.bytes refl
      ∙ append_assoc (before_last []) last (take to (drop now.at text));
  opened = is.opened;
}
skips text now (top ∷ around) last to is none within plain end at at_is =
    absurd (omega (arith, ap length none, ap length is.opened.brackets_are, length-append is.opened.around (is.opened.bracket ∷ [])))

-- a step to the first name that becomes shorter
pub skips_to : (text : List ℕ) (now : Writing) (written : Written) (found : Found) → IsAt text now written → now.brackets.items ≡ [] → IsFirst (drop now.at text) found
    → IsAt text (record now { at = now.at + found.at }) (record written { last = written.last ++ take found.at (drop now.at text) })
skips_to text now written found is none first =
    skips text now written.opened written.last found.at is none (omega (arith, first.within)) first.plain (inl first.begins) (now.at + found.at) refl

-- a step to the end of the text
pub skips_all : (text : List ℕ) (now : Writing) (written : Written) → IsAt text now written → now.at < length text → now.brackets.items ≡ [] → IsPlain (drop now.at text) (length (drop now.at text))
    → Goes text now.at (record now { at = length text })
skips_all text now written is less none plain = record {
  written = record written { last = written.last ++ take (length (drop now.at text)) (drop now.at text) };
  is = skips text now written.opened written.last (length (drop now.at text)) is none (omega arith) plain (inr refl) (length text) (omega (arith, length-drop now.at text, less));
  further = less;
}

pub begins-at : (text : List ℕ) (at : ℕ) → is_std_at text at ≡ true → begins_std (drop at text) ≡ true
begins-at text at h = by (begins_std (drop at text)) (at == 0 || not (is_name_byte (get_or text (at - 1) 0))) h
  where
    by : (a b : Bool) → (a && b) ≡ true → a ≡ true
    by true b e = refl
    by false b e = e

pub found_changes : (text : List ℕ) (now : Writing) (written : Written) (found : Found) → IsAt text now written → now.brackets.items ≡ [] → IsFirst (drop now.at text) found
    → CanChange text (record now { at = now.at + found.at }) found.size found.change
found_changes text now written found is none first =
    let rest_is : drop found.at (drop now.at text) ≡ drop (now.at + found.at) text = drop-drop found.at now.at text in (
      (record written { last = written.last ++ take found.at (drop now.at text) }, skips_to text now written found is none first, omega (arith, first.within, length-drop now.at text)),
      std-letter text (now.at + found.at) (ap begins_std (sym rest_is) ∙ begins-at (drop now.at text) found.at first.begins),
      first.size ∙ ap (λ t. length (run_of t)) rest_is,
      subst (λ t. IsChange (run_of t) (behind_run t) found.change) rest_is first.change,
      omega (arith, first.within, first.size, run-within (drop found.at (drop now.at text)), length-drop found.at (drop now.at text), length-drop now.at text),
      λ e. absurd (true≢false (sym e ∙ first.some)),
    )

pub farther : (text : List ℕ) (from more : ℕ) (now : Writing) → Goes text (from + more) now → Goes text from now
farther text from more now goes_to = record { written = goes_to.written; is = goes_to.is; further = omega (arith, goes_to.further) }
