-- A text in which no run begins with `std::` is as short as it can be.
use Rattle.short_names.proofs.Basics.{◌≡◌, ◌≤◌, ◌-◌, ◌==◌, ◌||◌, ◌&&◌, not, inr, refl, sym, ap, ◌∙◌, ℕ, zero, suc, arith, Bool, true, false, List, [], ◌∷◌, ◌++◌, length, take, drop, get_or, Option, None, Some, is_some, MatchOption, drop_all, take_all, without_inlines, std_front, std_size, IsPlain, is_name_byte, begins_std, is_std_at, short, shortened, taken, short_rules, by_rules, text_or, written_for}
use Rattle.std.proofs.lemmas.Bool.{true≢false, ne_eqb}
use Rattle.short_names.proofs.OutsideLemmas.{outside, goes_outside}

pub short_plain : (text : List ℕ) → IsPlain text (length text) → short text ≡ text
unfolding short by_rules written_for
short_plain text plain =
    ap (text_or text)
    (goes_outside (length text) (length text) text [] (omega arith) (omega arith) plain (inr refl)
    ∙ ap (λ t. written_for short_rules 0 t (outside ([] ++ take (length text) text))) (drop_all (length text) text (omega arith)))
    ∙ take_all (length text) text (omega arith)

-- the byte before a place belongs to a name; `in_run` says whether the byte before the text does
abbrev before : Bool → List ℕ → ℕ → Bool
before in_run text zero = in_run
before in_run text (suc k) = is_name_byte (get_or text k 0)

kept : (text : List ℕ) (in_run : Bool) → ((k : ℕ) → begins_std (drop k text) ≡ true → before in_run text k ≡ true) → without_inlines in_run 0 text ≡ text
unfolding without_inlines
kept [] in_run none = refl
kept (byte ∷ text) true none = ap (λ t. byte ∷ t) (kept text (is_name_byte byte) (λ k. shifted true none k))
  where
    shifted : (in_run : Bool) → ((k : ℕ) → begins_std (drop k (byte ∷ text)) ≡ true → before in_run (byte ∷ text) k ≡ true) → (k : ℕ) → begins_std (drop k text) ≡ true → before (is_name_byte byte) text k ≡ true
    shifted in_run h zero e = h (suc zero) e
    shifted in_run h (suc k) e = h (suc (suc k)) e
kept (byte ∷ text) false none =
    by (begins_std (byte ∷ text)) refl (ap (λ t. byte ∷ t) (kept text (is_name_byte byte) (λ k. shifted k)))
  where
    shifted : (k : ℕ) → begins_std (drop k text) ≡ true → before (is_name_byte byte) text k ≡ true
    shifted zero e = none (suc zero) e
    shifted (suc k) e = none (suc (suc k)) e

    by : (b : Bool) → begins_std (byte ∷ text) ≡ b → byte ∷ without_inlines (is_name_byte byte) 0 text ≡ byte ∷ text
        → elim b [ true ↦ std_front (byte ∷ text) ++ without_inlines true (std_size (byte ∷ text) - 1) text | false ↦ byte ∷ without_inlines (is_name_byte byte) zero text ] ≡ byte ∷ text
    by true e ih = absurd (true≢false (sym (none zero e)))
    by false e ih = ih

-- if no run of a text begins with `std::`, nothing changes
pub no_std_short : (text : List ℕ) → ((k : ℕ) → is_std_at text k ≡ false) → (keeps_inline : Bool) → shortened keeps_inline text ≡ text
unfolding shortened taken
no_std_short text none true = short_plain text (λ k less e. absurd (true≢false (sym e ∙ none k)))
no_std_short text none false =
    ap short (kept text false (λ k e. is_before k e (none k))) ∙ short_plain text (λ k less e. absurd (true≢false (sym e ∙ none k)))
  where
    either : (b : Bool) → (true && (false || not b)) ≡ false → b ≡ true
    either true e = refl
    either false e = absurd (true≢false e)

    is_before : (k : ℕ) → begins_std (drop k text) ≡ true → is_std_at text k ≡ false → before false text k ≡ true
    is_before zero e h = absurd (true≢false (sym (ap (λ b. b && true) e) ∙ h))
    is_before (suc k) e h =
        either (is_name_byte (get_or text k 0))
        (sym (ap (λ b. b && (suc k == 0 || not (is_name_byte (get_or text (suc k - 1) 0)))) e ∙ ap (λ z. true && (z || not (is_name_byte (get_or text (suc k - 1) 0)))) (ne_eqb (suc k) 0 (λ z. absurd (omega (arith, z))))
        ∙ ap (λ n. true && (false || not (is_name_byte (get_or text n 0)))) (omega arith)) ∙ h)

pub no_run : (text : List ℕ) (found : Option ℕ) (Q : ℕ → Type 0) → MatchOption found ((k : ℕ) → 0 ≤ k → is_std_at text k ≡ false) Q → is_some found ≡ false → (k : ℕ) → is_std_at text k ≡ false
no_run text None Q none e k = none k (omega arith)
no_run text (Some at) Q some e k = absurd (true≢false e)
