-- What becomes shorter at a run that is a name of std.
use Rattle.std.proofs.Common.{◌≡◌, ◌<◌, ◌≤◌, ◌+◌, ◌-◌, ℕ, Bool, true, false, List, ◌++◌, ◌&&◌, length, take, drop, get_or, nat_eq, codes, slice_get, is_some, refl, sym, ap, ◌∙◌, subst, arith, Option, None, Some, MatchOption, drop-drop, length-append}
use Rattle.short_names.proofs.Basics.{starts_with, and_right, drop-append-le, slice_get-get_or, Place, Alias, Template, ALIASES, TEMPLATES, has_list, IsMemberOf, std_name, named_in, table_name, with_template, template_in, member_in, is_constructor, last_part, run_of, constructor, for_name, member, text_of}
use Rattle.short_names.proofs.FrontLemmas.{front-length}
use Rattle.short_names.proofs.NameLemmas.{std-end, member-is}
use Rattle.short_names.proofs.RunLemmas.{run-prefix, run-drop}

-- ## A run that is no name of std

module _ (run rest : List ℕ) (none : std_name run ≡ None) where
  pub no-list : has_list run rest ≡ false
  unfolding named_in
  no-list = and_right (starts_with nat_eq rest (codes "<")) (is_some (named_in run)) (ap (λ o. is_some (table_name o)) none)

  pub no-name-change : for_name run rest (std_name run) ≡ None
  no-name-change = ap (for_name run rest) none

-- ## A row, where a list follows

pub row-or-none : (name : List ℕ) (b : Bool) → b ≡ true → (o : Option ℕ)
    → MatchOption o (template_in TEMPLATES name ≡ None) (λ row. (row < length TEMPLATES) × (template_in TEMPLATES name ≡ slice_get TEMPLATES row))
    → MatchOption o ((b && is_some (template_in TEMPLATES name)) ≡ false) (λ row. (b ≡ true) × (row < length TEMPLATES) × (template_in TEMPLATES name ≡ slice_get TEMPLATES row))
row-or-none name b is None m = and_right b (is_some (template_in TEMPLATES name)) (ap is_some m)
row-or-none name b is (Some row) m = (is, m.0, m.1)

-- ## The name of the table that a run is

module _ (run : List ℕ) (whole : Place) (name : List ℕ) (std : std_name run ≡ Some (record { whole = whole; name = name })) where
  pub named-is : named_in run ≡ with_template whole (template_in TEMPLATES name)
  unfolding named_in
  named-is = ap table_name std

  some-template : (o : Option Template) → is_some (with_template whole o) ≡ is_some o
  some-template None = refl
  some-template (Some template) = refl

  pub list-is : (rest : List ℕ) → (starts_with nat_eq rest (codes "<") && is_some (template_in TEMPLATES name)) ≡ has_list run rest
  list-is rest = ap (λ b. starts_with nat_eq rest (codes "<") && b) (sym (some-template (template_in TEMPLATES name)) ∙ ap is_some (sym named-is))

  -- ## Usual names with which the run begins

  module _ (text : List ℕ) (is_run : run ≡ run_of text) where
    abbrev from : ℕ
    from = length run - length name

    abbrev rest : List ℕ
    rest = drop (length run) text

    text-is : text ≡ run ++ rest
    text-is = run-prefix text ∙ ap (λ r. r ++ drop (length r) text) (sym is_run)

    ends : (drop from run ≡ name) × (length name ≤ length run)
    ends = std-end run (record { whole = whole; name = name }) std

    pub run-within : length run ≤ length text
    run-within = omega (arith, ap length text-is, length-append run rest)

    pub name-within : length name ≤ length run
    name-within = ends.1

    behind-is : drop from text ≡ name ++ rest
    behind-is = ap (drop from) text-is ∙ drop-append-le from run rest (omega arith) ∙ ap (λ n. n ++ rest) ends.0

    pub name-run : name ≡ run_of (drop from text)
    name-run = sym ends.0 ∙ ap (drop from) is_run ∙ sym (run-drop text from (omega (arith, ap length is_run)))

    by-member : (o : Option Alias) → member_in ALIASES name (drop from text) ≡ o → for_name run rest (std_name run) ≡ member run rest name o
    by-member o found =
        ap (for_name run rest) std ∙ ap (λ t. member run rest name (member_in ALIASES name t)) (sym behind-is) ∙ ap (member run rest name) found

    pub no-member-change : member_in ALIASES name (drop from text) ≡ None → for_name run rest (std_name run) ≡ None
    no-member-change none = by-member None none

    pub member-change : (row size : ℕ) (d : Alias) → row < length ALIASES → member_in ALIASES name (drop from text) ≡ slice_get ALIASES row
        → size ≡ from + length (text_of (get_or ALIASES row d).name) → IsMemberOf run rest size (slice_get ALIASES row)
    member-change row size d within found size-is =
        let alias = get_or ALIASES row d in
        let got : slice_get ALIASES row ≡ Some alias = slice_get-get_or ALIASES row d within in
        let is = member-is ALIASES name (drop from text) alias (found ∙ got) in
        let there : drop (length (text_of alias.name)) (drop from text) ≡ drop size (run ++ rest) =
        drop-drop (length (text_of alias.name)) from text ∙ ap (λ k. drop k text) (sym size-is) ∙ ap (drop size) text-is in
        subst (IsMemberOf run rest size) (sym got) (record {
          within = omega (arith, size-is, ends.1, front-length name (text_of alias.name) is.0);
          constructs = ap (λ t. is_constructor t (last_part (text_of alias.template))) (sym there) ∙ is.1;
          answer =
              by-member (Some alias) (found ∙ got)
              ∙ ap (λ k. Some (record {
                bytes = take k run ++ (constructor alias (drop k (run ++ rest))).bytes;
                size = k + (constructor alias (drop k (run ++ rest))).size;
              })) (sym size-is);
        })

    pub member-within : (row size : ℕ) (d : Alias) → row < length ALIASES → member_in ALIASES name (drop from text) ≡ slice_get ALIASES row
        → size ≡ from + length (text_of (get_or ALIASES row d).name) → size ≤ length run
    member-within row size d within found size-is =
        let alias = get_or ALIASES row d in
        let is = member-is ALIASES name (drop from text) alias (found ∙ slice_get-get_or ALIASES row d within) in
        omega (arith, size-is, ends.1, front-length name (text_of alias.name) is.0)
