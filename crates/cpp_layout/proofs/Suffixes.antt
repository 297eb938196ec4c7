-- The texts after a function's parameters, by their numbers.
use Rattle.cpp_layout.proofs.Basics.{◌≡◌, refl, ap, sym, ◌∙◌, arith, ℕ, ◌+◌, ◌*◌, ◌<◌, length, Bool, true, false, encoding_text, qualifier_text, ref_text, Mark, Qualifiers, mark_of, qualifiers_of, bit, mark_number, qualifiers_number, fixed_text, shown_mark, suffix_of, SUFFIX}
use Rattle.cpp_grammar.specs.Term as values
use Rattle.cpp_grammar.specs.Term.{RefQualifier, any_value, lvalue_only, rvalue_only, explicit_object}

abbrev pub number_of : (r v c : Bool) → Mark → (n : Bool) → ℕ
number_of r v c m n = SUFFIX + (bit r + 2 * bit v + 4 * bit c) + 8 * mark_number (mark_of m) + 24 * bit n

pub suffix_is : (r v c : Bool) (m : Mark) (n : Bool) → (mark_of m ≡ explicit_object → ⊥) → fixed_text (number_of r v c m n) ≡ suffix_of (record { restrict = r; volatile = v; const = c }) (mark_of m) n
unfolding bit mark_number suffix_of encoding_text qualifier_text ref_text
suffix_is false false false Mark.Any false other = refl
suffix_is true false false Mark.Any false other = refl
suffix_is false true false Mark.Any false other = refl
suffix_is true true false Mark.Any false other = refl
suffix_is false false true Mark.Any false other = refl
suffix_is true false true Mark.Any false other = refl
suffix_is false true true Mark.Any false other = refl
suffix_is true true true Mark.Any false other = refl
suffix_is false false false Mark.Lvalue false other = refl
suffix_is true false false Mark.Lvalue false other = refl
suffix_is false true false Mark.Lvalue false other = refl
suffix_is true true false Mark.Lvalue false other = refl
suffix_is false false true Mark.Lvalue false other = refl
suffix_is true false true Mark.Lvalue false other = refl
suffix_is false true true Mark.Lvalue false other = refl
suffix_is true true true Mark.Lvalue false other = refl
suffix_is false false false Mark.Rvalue false other = refl
suffix_is true false false Mark.Rvalue false other = refl
suffix_is false true false Mark.Rvalue false other = refl
suffix_is true true false Mark.Rvalue false other = refl
suffix_is false false true Mark.Rvalue false other = refl
suffix_is true false true Mark.Rvalue false other = refl
suffix_is false true true Mark.Rvalue false other = refl
suffix_is true true true Mark.Rvalue false other = refl
suffix_is false false false Mark.Any true other = refl
suffix_is true false false Mark.Any true other = refl
suffix_is false true false Mark.Any true other = refl
suffix_is true true false Mark.Any true other = refl
suffix_is false false true Mark.Any true other = refl
suffix_is true false true Mark.Any true other = refl
suffix_is false true true Mark.Any true other = refl
suffix_is true true true Mark.Any true other = refl
suffix_is false false false Mark.Lvalue true other = refl
suffix_is true false false Mark.Lvalue true other = refl
suffix_is false true false Mark.Lvalue true other = refl
suffix_is true true false Mark.Lvalue true other = refl
suffix_is false false true Mark.Lvalue true other = refl
suffix_is true false true Mark.Lvalue true other = refl
suffix_is false true true Mark.Lvalue true other = refl
suffix_is true true true Mark.Lvalue true other = refl
suffix_is false false false Mark.Rvalue true other = refl
suffix_is true false false Mark.Rvalue true other = refl
suffix_is false true false Mark.Rvalue true other = refl
suffix_is true true false Mark.Rvalue true other = refl
suffix_is false false true Mark.Rvalue true other = refl
suffix_is true false true Mark.Rvalue true other = refl
suffix_is false true true Mark.Rvalue true other = refl
suffix_is true true true Mark.Rvalue true other = refl
suffix_is r v c Mark.ExplicitObject n other = absurd (other refl)

pub suffix_some : (r v c : Bool) (m : Mark) (n : Bool) → (mark_of m ≡ explicit_object → ⊥) → SUFFIX < number_of r v c m n → 0 < length (fixed_text (number_of r v c m n))
unfolding bit mark_number
suffix_some false false false Mark.Any false other more = absurd (omega (arith, more))
suffix_some true false false Mark.Any false other more = omega arith
suffix_some false true false Mark.Any false other more = omega arith
suffix_some true true false Mark.Any false other more = omega arith
suffix_some false false true Mark.Any false other more = omega arith
suffix_some true false true Mark.Any false other more = omega arith
suffix_some false true true Mark.Any false other more = omega arith
suffix_some true true true Mark.Any false other more = omega arith
suffix_some false false false Mark.Lvalue false other more = omega arith
suffix_some true false false Mark.Lvalue false other more = omega arith
suffix_some false true false Mark.Lvalue false other more = omega arith
suffix_some true true false Mark.Lvalue false other more = omega arith
suffix_some false false true Mark.Lvalue false other more = omega arith
suffix_some true false true Mark.Lvalue false other more = omega arith
suffix_some false true true Mark.Lvalue false other more = omega arith
suffix_some true true true Mark.Lvalue false other more = omega arith
suffix_some false false false Mark.Rvalue false other more = omega arith
suffix_some true false false Mark.Rvalue false other more = omega arith
suffix_some false true false Mark.Rvalue false other more = omega arith
suffix_some true true false Mark.Rvalue false other more = omega arith
suffix_some false false true Mark.Rvalue false other more = omega arith
suffix_some true false true Mark.Rvalue false other more = omega arith
suffix_some false true true Mark.Rvalue false other more = omega arith
suffix_some true true true Mark.Rvalue false other more = omega arith
suffix_some false false false Mark.Any true other more = omega arith
suffix_some true false false Mark.Any true other more = omega arith
suffix_some false true false Mark.Any true other more = omega arith
suffix_some true true false Mark.Any true other more = omega arith
suffix_some false false true Mark.Any true other more = omega arith
suffix_some true false true Mark.Any true other more = omega arith
suffix_some false true true Mark.Any true other more = omega arith
suffix_some true true true Mark.Any true other more = omega arith
suffix_some false false false Mark.Lvalue true other more = omega arith
suffix_some true false false Mark.Lvalue true other more = omega arith
suffix_some false true false Mark.Lvalue true other more = omega arith
suffix_some true true false Mark.Lvalue true other more = omega arith
suffix_some false false true Mark.Lvalue true other more = omega arith
suffix_some true false true Mark.Lvalue true other more = omega arith
suffix_some false true true Mark.Lvalue true other more = omega arith
suffix_some true true true Mark.Lvalue true other more = omega arith
suffix_some false false false Mark.Rvalue true other more = omega arith
suffix_some true false false Mark.Rvalue true other more = omega arith
suffix_some false true false Mark.Rvalue true other more = omega arith
suffix_some true true false Mark.Rvalue true other more = omega arith
suffix_some false false true Mark.Rvalue true other more = omega arith
suffix_some true false true Mark.Rvalue true other more = omega arith
suffix_some false true true Mark.Rvalue true other more = omega arith
suffix_some true true true Mark.Rvalue true other more = omega arith
suffix_some r v c Mark.ExplicitObject n other more = absurd (other refl)

-- an explicit object is never the mark after the parameters
never-shown : (x : RefQualifier) → explicit_object ≡ shown_mark x → ⊥
unfolding shown_mark
never-shown any_value e = cc e
never-shown lvalue_only e = cc e
never-shown rvalue_only e = cc e
never-shown explicit_object e = cc e

shown-suffix : (q : values.Qualifiers) (x : RefQualifier) (n : Bool) → suffix_of q (shown_mark x) n ≡ suffix_of q x n
unfolding shown_mark suffix_of encoding_text ref_text
shown-suffix q any_value n = refl
shown-suffix q lvalue_only n = refl
shown-suffix q rvalue_only n = refl
shown-suffix q explicit_object n = refl

-- m is the mark that is shown for w; a, e and f are the numbers of the qualifiers, of m and of noexcept
module _ (q : Qualifiers) (w m : Mark) (n : Bool) (a e f : ℕ) (s : mark_of m ≡ shown_mark (mark_of w)) (p : a ≡ qualifiers_number (qualifiers_of q)) (k : e ≡ mark_number (mark_of m)) (l : f ≡ bit n) where
  other : mark_of m ≡ explicit_object → ⊥
  other is = never-shown (mark_of w) (sym is ∙ s)

  pub suffix-number : fixed_text (SUFFIX + a + 8 * e + 24 * f) ≡ suffix_of (qualifiers_of q) (mark_of w) n
  suffix-number = rw (p, k, l) (suffix_is q.restrict q.volatile q.const_ m n other) ∙ ap (λ x. suffix_of (qualifiers_of q) x n) s ∙ shown-suffix (qualifiers_of q) (mark_of w) n

  pub suffix-length : SUFFIX < SUFFIX + a + 8 * e + 24 * f → 0 < length (fixed_text (SUFFIX + a + 8 * e + 24 * f))
  suffix-length = rw (p, k, l) (suffix_some q.restrict q.volatile q.const_ m n other)
