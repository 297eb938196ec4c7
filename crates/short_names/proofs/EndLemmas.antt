-- The first and the last step of what is written.
use Rattle.short_names.proofs.Basics.{◌≡◌, ◌<◌, ◌≤◌, ◌-◌, ◌==◌, refl, sym, ap, ◌∙◌, ℕ, zero, suc, arith, Bool, true, false, List, [], ◌∷◌, ◌++◌, length, take, drop, None, Some, length-append, if◌then◌else◌, drop_all, nil_from_length, Bracket, Writing, short, short_rules, Opened, Written, by_rules, text_or, written_for, start, IsAt, AreOpen, before_last}
use Rattle.std.proofs.lemmas.Bool.{eq-eqb, eqb-true, ne_eqb, true≢false}

pub begins : (text : List ℕ) (now : Writing) → now.at ≡ 0 → now.copied ≡ 0 → now.out.items ≡ [] → now.brackets.items ≡ [] → now.starts.items ≡ [] → IsAt text now start
unfolding before_last
begins text now at_is copied_is out_is brackets_are starts_are =
    let none : now.at - now.copied ≡ 0 = omega (arith, at_is, copied_is) in
    record {
      goes_on = ap (λ n. written_for short_rules 0 (drop n text) start) at_is;
      copied = omega (arith, at_is, copied_is);
      within = omega (arith, at_is);
      bytes = ap (λ l. l ++ take (now.at - now.copied) (drop now.copied text)) out_is ∙ ap (λ n. [] ++ take n (drop now.copied text)) none;
      opened = (brackets_are, starts_are);
    }

-- a text in which brackets don't pair stays as it is
pub not_paired : (text : List ℕ) → written_for short_rules 0 text start ≡ None → short text ≡ text
unfolding short by_rules
not_paired text none = ap (text_or text) none

by_opened : (text : List ℕ) (now : Writing) (opened : List Opened) (last out : List ℕ) (empty : Bool) → AreOpen opened now.brackets.items now.starts.items
    → out ≡ before_last opened ++ last → empty ≡ (length now.brackets.items == 0) → text_or text (Some (record { opened = opened; last = last })) ≡ if empty then out else text
unfolding before_last
by_opened text now [] last out empty are out_is empty_is =
    let yes_empty : empty ≡ true = empty_is ∙ eq-eqb _ _ (ap length are.0) in
    rw yes_empty (sym out_is)
by_opened text now (top ∷ around) last out empty are out_is empty_is =
    let not_empty : empty ≡ false = empty_is ∙ ne_eqb _ _ (λ e. absurd (omega (arith, e, ap length are.brackets_are, length-append are.around (are.bracket ∷ [])))) in
    rw not_empty refl

-- a text that was walked through to its end
pub ends : (text : List ℕ) (now : Writing) (written : Written) (out : List ℕ) (empty : Bool) → IsAt text now written → length text ≤ now.at
    → out ≡ now.out.items ++ take (now.at - now.copied) (drop now.copied text) → empty ≡ (length now.brackets.items == 0)
    → short text ≡ if empty then out else text
unfolding short by_rules written_for
ends text now written out empty is all out_is empty_is =
    ap (text_or text) (sym is.goes_on ∙ ap (λ t. written_for short_rules 0 t written) (drop_all now.at text all))
    ∙ by_opened text now written.opened written.last out empty is.opened (out_is ∙ is.bytes) empty_is

-- ## Whether brackets are open

pub none_open : (brackets : List Bracket) (len : ℕ) (empty : Bool) → len ≡ length brackets → empty ≡ (len == 0) → empty ≡ true → brackets ≡ []
none_open brackets len empty long is e = nil_from_length brackets (omega (arith, long, eqb-true len 0 (sym is ∙ e)))

pub some_open : (brackets : List Bracket) (len : ℕ) (empty : Bool) → len ≡ length brackets → empty ≡ (len == 0) → empty ≡ false → 0 < length brackets
some_open brackets zero empty long is e = absurd (true≢false (sym is ∙ e))
some_open brackets (suc n) empty long is e = omega (arith, long)
