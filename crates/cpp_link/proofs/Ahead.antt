-- How many parts the productions have, and which of them always have a row.
use Rattle.cpp_link.proofs.Basics.{◌≡◌, refl, sym, ◌∙◌, ap, ℕ, ◌<◌, List, length, true, false, ◌||◌, Rule, symbols_of, TakesRule, IsCount, IsAhead, are_rows, ahead_by_rows, Production, Operation, number_of_kind, parts_of, may_be_empty, kinds, sheet_with, blank, wide_sheet, wide, production_at, at_number, its_symbols, taken_rule, skips_parts}

-- a rule has the parts of its production
its_parts : (kind : ℕ) (rule : Rule) (taken : List ℕ) (number : ℕ) → kind < wide.kinds → TakesRule wide kind rule taken → rule.number ≡ number
    → symbols_of rule ≡ parts_of (production_at number)
its_parts kind rule taken number is_kind takes number_is =
    let t = taken_rule kind rule taken is_kind takes in
    ap symbols_of t.is ∙ its_symbols t.production ∙ ap parts_of (sym (at_number t.production) ∙ ap (λ r. production_at r.number) (sym t.is) ∙ ap production_at number_is)

pub count_right : (number : ℕ) → IsCount wide number (length (parts_of (production_at number)))
count_right number kind rule taken is_kind takes number_is = ap (λ ss. length ss) (its_parts kind rule taken number is_kind takes number_is)

each_rows : (p : Production) → (skips_parts p || are_rows wide (parts_of p)) ≡ true
unfolding number_of_kind parts_of may_be_empty kinds sheet_with blank wide_sheet wide skips_parts
each_rows Production.Mark = refl
each_rows (Production.Operation Operation.ExpressionC) = refl
each_rows _ = refl

pub ahead_right : (number held after : ℕ) → skips_parts (production_at number) ≡ false → IsAhead wide number held after held
ahead_right number held after none =
    let p = production_at number in
    let rows : are_rows wide (parts_of p) ≡ true = sym (ap (λ b. b || are_rows wide (parts_of p)) none) ∙ each_rows p in
    ahead_by_rows wide number held after (λ kind rule taken is_kind takes number_is. ap (are_rows wide) (its_parts kind rule taken number is_kind takes number_is) ∙ rows)
