-- Walks over paths and arguments: one step, and the end.
use Rattle.std.proofs.Common.{◌≡◌, ℕ, zero, suc, ◌+◌, ◌-◌, ◌<◌, ◌≤◌, List, [], ◌∷◌, ◌++◌, length, true, false, Option, Some, None, refl, sym, ap, ◌∙◌, arith, append_assoc, append-nil}
use Rattle.std.proofs.lemmas.Bool.{cond-true, cond-false}
use Rattle.std.specs.Prelude.{nat_lt}
use Rattle.sym_shape.specs.declared.rule.Row.{Row}
use Rattle.sym_parts.specs.Spelling.{span}
use Rattle.rust_spelled.specs.Rows.{row_at, production_at, behind}
use Rattle.rust_spelled.specs.Paths.{parent_by, paths_from, is_named_by, first_named}
use Rattle.rust_spelled.specs.Arguments.{arguments_from, arguments_of, is_generic, generics, item_of, items_of}

-- ## Lists that are found in turn

-- after more was found, the rest is what is left to be found
pub found-more : {X : Type 0} (old new more rest whole : List X) → new ≡ old ++ more → old ++ (more ++ rest) ≡ whole → new ++ rest ≡ whole
found-more old new more rest whole is all = ap (λ found. found ++ rest) is ∙ (append_assoc old more rest ∙ all)

-- if nothing is left to be found, all was found
pub found-all : {X : Type 0} (found rest whole : List X) → rest ≡ [] → found ++ rest ≡ whole → found ≡ whole
found-all found rest whole none all = sym (append-nil found) ∙ (ap (λ left. found ++ left) (sym none) ∙ all)

-- ## Paths

pub paths_from-none : (most : ℕ) (rows : List Row) → paths_from most rows None ≡ []
unfolding paths_from
paths_from-none zero rows = refl
paths_from-none (suc most) rows = refl

pub paths_from-past : (most : ℕ) (rows : List Row) (path : ℕ) → length rows ≤ path → paths_from most rows (Some path) ≡ []
unfolding paths_from
paths_from-past zero rows path past = refl
paths_from-past (suc most) rows path past = cond-false (nat_lt path (length rows)) _ _ (search (arith, past))

pub paths_from-more : (most : ℕ) (rows : List Row) (path : ℕ) → 0 < most → path < length rows
    → paths_from most rows (Some path) ≡ path ∷ paths_from (most - 1) rows (parent_by (production_at rows path) path)
unfolding paths_from
paths_from-more zero rows path some within = absurd (omega (arith, some))
paths_from-more (suc most) rows path some within =
    cond-true (nat_lt path (length rows)) _ _ (search (arith, within))
    ∙ ap (λ n. path ∷ paths_from n rows (parent_by (production_at rows path) path)) (omega arith)

-- ## Names

pub named-here : (symbol : List ℕ) (rows : List Row) (path : ℕ) (rest : List ℕ) → is_named_by (production_at rows path) symbol rows path ≡ true
    → first_named symbol rows (path ∷ rest) ≡ Some path
unfolding first_named
named-here symbol rows path rest is = cond-true (is_named_by (production_at rows path) symbol rows path) _ _ is

pub named-later : (symbol : List ℕ) (rows : List Row) (path : ℕ) (rest : List ℕ) → is_named_by (production_at rows path) symbol rows path ≡ false
    → first_named symbol rows (path ∷ rest) ≡ first_named symbol rows rest
unfolding first_named
named-later symbol rows path rest is = cond-false (is_named_by (production_at rows path) symbol rows path) _ _ is

pub named-none : (symbol : List ℕ) (rows : List Row) → first_named symbol rows [] ≡ None
unfolding first_named
named-none symbol rows = refl

-- ## Arguments

pub arguments_from-past : (most : ℕ) (rows : List Row) (argument end : ℕ) → end ≤ argument → arguments_from most rows argument end ≡ []
unfolding arguments_from
arguments_from-past zero rows argument end past = refl
arguments_from-past (suc most) rows argument end past = cond-false (nat_lt argument end) _ _ (search (arith, past))

pub arguments_from-more : (most : ℕ) (rows : List Row) (argument end : ℕ) → 0 < most → argument < end
    → arguments_from most rows argument end
    ≡ span (row_at rows argument).from (row_at rows (argument + 1)).to ∷ arguments_from (most - 1) rows (behind rows (argument + 1)) end
unfolding arguments_from
arguments_from-more zero rows argument end some within = absurd (omega (arith, some))
arguments_from-more (suc most) rows argument end some within =
    cond-true (nat_lt argument end) _ _ (search (arith, within))
    ∙ ap (λ n. span (row_at rows argument).from (row_at rows (argument + 1)).to ∷ arguments_from n rows (behind rows (argument + 1)) end) (omega arith)

pub arguments_from-end : (most : ℕ) (rows : List Row) (argument end : ℕ) → most ≤ 0 → arguments_from most rows argument end ≡ []
unfolding arguments_from
arguments_from-end zero rows argument end none = refl
arguments_from-end (suc most) rows argument end none = absurd (omega (arith, none))

pub paths_from-end : (most : ℕ) (rows : List Row) (path : Option ℕ) → most ≤ 0 → paths_from most rows path ≡ []
unfolding paths_from
paths_from-end zero rows path none = refl
paths_from-end (suc most) rows path none = absurd (omega (arith, none))

-- ## Generic paths

pub generic-here : (rows : List Row) (path : ℕ) (rest : List ℕ) → is_generic (production_at rows path) ≡ true
    → generics rows (path ∷ rest) ≡ path ∷ generics rows rest
unfolding generics
generic-here rows path rest is = cond-true (is_generic (production_at rows path)) _ _ is

pub generic-later : (rows : List Row) (path : ℕ) (rest : List ℕ) → is_generic (production_at rows path) ≡ false
    → generics rows (path ∷ rest) ≡ generics rows rest
unfolding generics
generic-later rows path rest is = cond-false (is_generic (production_at rows path)) _ _ is

pub generic-none : (rows : List Row) → generics rows [] ≡ []
unfolding generics
generic-none rows = refl

pub items-here : (rows : List Row) (before path : ℕ) (rest : List ℕ)
    → items_of rows before (path ∷ rest) ≡ item_of rows before path ∷ items_of rows (before + length (arguments_of rows path)) rest
unfolding items_of
items-here rows before path rest = refl

pub items-none : (rows : List Row) (before : ℕ) → items_of rows before [] ≡ []
unfolding items_of
items-none rows before = refl
