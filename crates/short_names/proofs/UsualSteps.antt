-- Usual names and the lists that they replace, outside of lists.
use Rattle.short_names.proofs.Basics.{◌≡◌, ◌==◌, ◌<◌, ◌+◌, ◌-◌, ◌&&◌, ◌||◌, not, refl, sym, ap, ap₂, subst, ◌∙◌, eqb-true, ℕ, arith, Bool, true, false, List, [], ◌∷◌, ◌++◌, length, take, drop, get_or, nat_eq, codes, Option, None, Some, is_some, if◌then◌else◌, append-nil, append_assoc, and_parts, true≢false, list_all, starts_with, Named, Alias, ALIASES, joined, listed, left, left_of, is_polymorphic, full_to, full_rules, usual, usual_in, instance, pmr_in, StdName, std_name, named_in, last_part, class_of, front_size, is_constructor, ends_name, member_in, alias_of, each_written, as_it_is, instance_by, instance_of, is_bare, is_only, is_row, is_std, is_usual, usual_instance, has_some, each_apart, is_simple_list, short_bytes, full_bytes, ends_operator, is_letter, is_name_byte, short_rules, short_list, if_read_back, is_read_back, member, text_of, IsUsual, is_listed, Answer, Opened, Rules, sign_of, written_for}
use lib.Pointwise.{bytes_decides}
use Rattle.short_names.specs.Full as of_full
use Rattle.short_names.specs.Short as of_short
use Rattle.short_names.proofs.PartRules.{free-constructor, free-end, no-constructor, no-end, short-obeys, full-obeys}
use Rattle.short_names.proofs.PartSteps.{IsFree, at, behind-all, name-answers, name-opens, name-stays}
use Rattle.short_names.proofs.PartWalks.{Calls, bare-calls, each-goes, not-true}

pub name-parts : (name : List ℕ) → (not (is_bare name) && list_all is_name_byte name) ≡ true → (0 < length name) × (list_all is_name_byte name ≡ true)
name-parts [] h = absurd (true≢false (sym h))
name-parts (byte ∷ name) h = (omega arith, h)

-- A usual name, and what full texts have in its place.
pub record IsFor (name list : List ℕ) : Type 0 where
  pub std : StdName
  pub alias : Alias
  pub std_is : std_name name ≡ Some std
  pub bytes : (not (is_bare name) && list_all is_name_byte name) ≡ true
  pub none_named : (is_some (named_in name) || is_some (pmr_in name)) ≡ false
  pub only : is_only ALIASES std.name ≡ true
  pub alias_is : usual_in ALIASES std.name (std.name ++ []) ≡ Some alias
  pub size_is : length name - length std.name + length (text_of alias.name) ≡ length name
  pub list_is : full_to 3 (take (length name - length std.name) name ++ instance std alias) ≡ list

pub for-list : (name list : List ℕ) → IsUsual name list → IsFor name list
for-list name list is = record {
  std = is.std;
  alias = is.alias;
  std_is = is.std_is;
  bytes = is.bytes;
  none_named = is.none_named;
  only = is.only;
  alias_is = is.alias_is;
  size_is = is.size_is;
  list_is = is.list_is;
}

-- what is known of a name that passes the test `is_usual`
pub record IsTested (name : List ℕ) : Type 0 where
  pub is : IsFor name (full_to 3 (usual_instance name))
  pub some : is_bare name ≡ false
  pub quiet : ends_operator name ≡ false
  pub whole : full_to 4 (usual_instance name) ≡ full_to 3 (usual_instance name)

row-for : (name : List ℕ) (std : StdName) → std_name name ≡ Some std → (not (is_bare name) && list_all is_name_byte name) ≡ true → (is_some (named_in name) || is_some (pmr_in name)) ≡ false → is_only ALIASES std.name ≡ true
    → (found : Option Alias) → alias_of std ≡ found → is_row name std found ≡ true → IsFor name (full_to 3 (instance_of name std found))
row-for name std std_is bytes none_named only None alias_is row = absurd (true≢false (sym row))
row-for name std std_is bytes none_named only (Some alias) alias_is row = record {
  std = std;
  alias = alias;
  std_is = std_is;
  bytes = bytes;
  none_named = none_named;
  only = only;
  alias_is = alias_is;
  size_is = eqb-true _ _ row;
  list_is = refl;
}

std-for : (name : List ℕ) → (not (is_bare name) && list_all is_name_byte name) ≡ true → (is_some (named_in name) || is_some (pmr_in name)) ≡ false
    → (o : Option StdName) → std_name name ≡ o → is_std name o ≡ true → IsFor name (full_to 3 (instance_by name o))
std-for name bytes none_named None std_is is = absurd (true≢false (sym is))
std-for name bytes none_named (Some std) std_is is =
    let a = and_parts (is_only ALIASES std.name) (is_row name std (alias_of std)) is in
    row-for name std std_is bytes none_named a.0 (alias_of std) refl a.1

pub tested : (name : List ℕ) → is_usual name ≡ true → IsTested name
unfolding is_usual usual_instance
tested name h =
    let a = and_parts (not (is_bare name) && list_all is_name_byte name) _ h in
    let b = and_parts (not (is_some (named_in name) || is_some (pmr_in name))) _ a.1 in
    let c = and_parts (not (ends_operator name)) _ b.1 in
    let d = and_parts (is_std name (std_name name)) _ c.1 in
    record {
      is = std-for name a.0 (not-true (is_some (named_in name) || is_some (pmr_in name)) b.0) (std_name name) refl d.0;
      some = not-true (is_bare name) (and_parts (not (is_bare name)) _ a.0).0;
      quiet = not-true (ends_operator name) c.0;
      whole = (bytes_decides (full_to 4 (instance_by name (std_name name))) (full_to 3 (instance_by name (std_name name)))).0 d.1;
    }

module _ (rest : List ℕ) (free : IsFree rest) where
  same-usual : (rows : List Alias) (name : List ℕ) → is_only rows name ≡ true
      → (usual_in rows name (name ++ rest) ≡ usual_in rows name (name ++ [])) × (member_in rows name (name ++ rest) ≡ None)
  unfolding is_only usual_in member_in ends_name
  same-usual [] name all = (refl, refl)
  same-usual (row ∷ rows) name all =
      let a = and_parts _ (is_only rows name) all in
      let again = same-usual rows name a.1 in
      by (starts_with nat_eq name (text_of row.name)) (is_letter (get_or name (length (text_of row.name)) 0)) (length name == length (text_of row.name)) refl refl a.0 again.0 again.1
    where
      by : (b c d : Bool) → is_letter (get_or name (length (text_of row.name)) 0) ≡ c → (length name == length (text_of row.name)) ≡ d → (not b || (c || d)) ≡ true
          → usual_in rows name (name ++ rest) ≡ usual_in rows name (name ++ []) → member_in rows name (name ++ rest) ≡ None
          → ((if b && ends_name (drop (length (text_of row.name)) (name ++ rest)) then Some row else usual_in rows name (name ++ rest))
          ≡ (if b && ends_name (drop (length (text_of row.name)) (name ++ [])) then Some row else usual_in rows name (name ++ [])))
          × ((if b && is_constructor (drop (length (text_of row.name)) (name ++ rest)) (last_part (text_of row.template)) then Some row else member_in rows name (name ++ rest)) ≡ None)
      by false c d is-c is-d h one two = (one, two)
      by true true d is-c is-d h one two =
          let k = length (text_of row.name) in
          (rw (no-end name rest k is-c, no-end name [] k is-c) one, rw (no-constructor name rest k is-c (last_part (text_of row.template))) two)
      by true false true is-c is-d h one two =
          let k = length (text_of row.name) in
          let same : k ≡ length name = sym (eqb-true (length name) k is-d) in
          let here : (t : List ℕ) → drop k (name ++ t) ≡ t = λ t. ap (λ j. drop j (name ++ t)) same ∙ behind-all name t in (
            ap (λ t. if ends_name t then Some row else usual_in rows name (name ++ rest)) (here rest) ∙ ap (λ (b : Bool). if b then Some row else usual_in rows name (name ++ rest)) (free-end rest free)
                ∙ sym (ap (λ t. if ends_name t then Some row else usual_in rows name (name ++ [])) (here [])),
            ap (λ t. if is_constructor t (last_part (text_of row.template)) then Some row else member_in rows name (name ++ rest)) (here rest)
                ∙ ap (λ (b : Bool). if b then Some row else member_in rows name (name ++ rest)) (free-constructor rest free (last_part (text_of row.template))) ∙ two,
          )
      by true false false is-c is-d h one two = absurd (true≢false (sym h))

  module _ (name list : List ℕ) (is : IsFor name list) (opened : List Opened) (last : List ℕ) where
    bytes : (0 < length name) × (list_all is_name_byte name ≡ true)
    bytes = name-parts name is.bytes

    nowhere : (is_some (named_in name) ≡ false) × (is_some (pmr_in name) ≡ false)
    nowhere = by (is_some (named_in name)) (is_some (pmr_in name)) is.none_named
      where
        by : (a b : Bool) → (a || b) ≡ false → (a ≡ false) × (b ≡ false)
        by true b h = absurd (true≢false h)
        by false b h = (refl, h)

    -- short texts leave the name as it is
    pub short-name : sign_of opened name rest ≡ [] → written_for short_rules 0 (name ++ rest) (at opened last) ≡ written_for short_rules 0 rest (at opened (last ++ name))
    short-name quiet =
        name-stays short_rules name rest opened last bytes.0 bytes.1 free.0 nowhere.0
        (ap (of_short.for_name name rest) is.std_is ∙ ap (member name rest is.std.name) (same-usual ALIASES is.std.name is.only).1) quiet

    -- full texts have the list in place of the name
    pub full-name : written_for (full_rules (full_to 3)) 0 (name ++ rest) (at opened last) ≡ written_for (full_rules (full_to 3)) 0 rest (at opened (last ++ list))
    full-name =
        let inner : List ℕ → List ℕ = full_to 3 in
        let from : ℕ = length name - length is.std.name in
        let behind : ℕ = from + length (text_of is.alias.name) in
        let none : of_full.constructor is.alias (drop behind (name ++ rest)) ≡ record { bytes = []; size = 0 } =
        ap (of_full.constructor is.alias) (ap (λ k. drop k (name ++ rest)) is.size_is ∙ behind-all name rest)
        ∙ ap (λ (b : Bool). if b then record {
          bytes = take (front_size rest) rest ++ last_part (text_of is.alias.template);
          size = front_size rest + length (class_of is.alias);
        } else record { bytes = []; size = 0 }) (free-constructor rest free (class_of is.alias)) in
        name-answers (full_rules inner) name rest opened last list bytes.0 bytes.1 free.0 is.none_named (
        ap (of_full.for_name inner name rest) is.std_is
        ∙ ap (usual inner is.std name rest) ((same-usual ALIASES is.std.name is.only).0 ∙ is.alias_is)
        ∙ ap (λ (a : Answer). Some (record { bytes = inner (take from name ++ instance is.std is.alias) ++ a.bytes; size = behind + a.size })) none
        ∙ ap₂ (λ t k. Some (record { bytes = t ++ []; size = k + 0 })) is.list_is is.size_is
        ∙ ap₂ (λ t k. Some (record { bytes = t; size = k })) (append-nil list) (omega arith))

-- ## The list of a usual name

pub listed-calls : (rules : Rules) (for_list : List ℕ → List ℕ → List (List ℕ) → List ℕ) → Calls rules for_list is_listed
unfolding is_listed
listed-calls rules for_list = bare-calls rules for_list is_listed (λ usual name elements is. is)

-- neither more of a name nor a constructor follows
pub record IsAfter (alias : Alias) (rest : List ℕ) : Type 0 where
  pub ends : ends_name rest ≡ true
  pub not_own : is_constructor rest (last_part (text_of alias.template)) ≡ false
  pub not_class : is_constructor rest (class_of alias) ≡ false

pub free-after : (alias : Alias) (rest : List ℕ) → IsFree rest → IsAfter alias rest
free-after alias rest free = record {
  ends = free-end rest free;
  not_own = free-constructor rest free (last_part (text_of alias.template));
  not_class = free-constructor rest free (class_of alias);
}

module _ (rest name list : List ℕ) (is : IsUsual name list) (last : List ℕ) where
  pub run_parts : (0 < length is.run) × (list_all is_name_byte is.run ≡ true)
  run_parts = name-parts is.run is.run_bytes

  pub list-text : list ++ rest ≡ is.run ++ 60 ∷ (joined (each_written as_it_is is.elements) ++ 62 ∷ rest)
  list-text =
      ap (λ t. t ++ rest) is.list_from ∙ append_assoc is.run (listed (each_written as_it_is is.elements)) rest
      ∙ ap (λ t. is.run ++ 60 ∷ t) (append_assoc (joined (each_written as_it_is is.elements)) (62 ∷ []) rest)

  -- short texts have the name in place of the list
  pub short-list : IsAfter is.alias rest → written_for short_rules 0 (list ++ rest) (at [] last) ≡ written_for short_rules 0 rest (at [] (last ++ name))
  unfolding short_list
  short-list after =
      let xs : List (List ℕ) = each_written short_bytes is.elements in
      let a = and_parts (has_some is.elements) (each_apart is_simple_list is.elements) is.apart in
      let alias : Alias = is.alias in
      let before : List ℕ = of_short.before_name is.named is.run ++ text_of alias.name in
      let write : Option Alias → Answer = λ o. elim o [
        | Some alias ↦ of_short.behind (of_short.before_name is.named is.run ++ text_of alias.name) (of_short.constructor alias rest)
        | None ↦ if is_polymorphic is.named xs then record {
          bytes = of_short.before_name is.named is.run ++ codes "pmr::" ++ text_of is.named.template.name ++ listed (take (left_of is.named xs (length xs - 1)) xs);
          size = 0;
        } else record { bytes = is.run ++ listed (take (left is.named xs) xs); size = 0 }
      ] in
      let read : is_read_back rest alias ≡ true =
      ap (λ e. e && (is_constructor rest (last_part (text_of alias.template)) || not (is_constructor rest (class_of alias)))) after.ends
      ∙ ap (λ x. x || not (is_constructor rest (class_of alias))) after.not_own
      ∙ ap not after.not_class in
      let none : of_short.constructor alias rest ≡ record { bytes = []; size = 0 } =
      ap (λ (b : Bool). if b then record {
        bytes = take (front_size rest) rest ++ class_of alias;
        size = front_size rest + length (last_part (text_of alias.template));
      } else record { bytes = []; size = 0 }) after.not_own in
      let answer : short_list is.named is.run xs rest ≡ record { bytes = name; size = 0 } =
      ap (λ (o : Option Alias). write (if_read_back rest o)) is.found
      ∙ ap (λ (b : Bool). write (if b then Some alias else None)) read
      ∙ ap (of_short.behind before) none
      ∙ ap (λ t. record { bytes = t; size = 0 }) (append-nil before ∙ is.short) in
      ap (λ t. written_for short_rules 0 t (at [] last)) list-text
      ∙ name-opens short_rules is.run (joined (each_written as_it_is is.elements) ++ 62 ∷ rest) [] last run_parts.0 run_parts.1 (ap is_some is.named_is)
      ∙ each-goes short_rules short_bytes is_simple_list short-obeys is_listed (listed-calls short_rules short_bytes) is.elements a.1 is.plain a.0 is.run last [] [] [] rest name (ap (λ o. of_short.for_list o is.run xs rest) is.named_is ∙ answer)

  -- full texts leave the list as it is
  pub full-list : written_for (full_rules (full_to 3)) 0 (list ++ rest) (at [] last) ≡ written_for (full_rules (full_to 3)) 0 rest (at [] (last ++ list))
  unfolding full_bytes
  full-list =
      let inner : List ℕ → List ℕ = full_to 3 in
      let ys : List (List ℕ) = each_written (full_bytes inner) is.elements in
      let a = and_parts (has_some is.elements) (each_apart is_simple_list is.elements) is.apart in
      let opening : is_some (named_in is.run) ≡ true = ap is_some is.named_is in
      let sized : (o : Option Named) → o ≡ Some is.named → of_full.for_list inner is.run ys o ≡ record { bytes = (of_full.for_list inner is.run ys o).bytes; size = 0 } =
      λ o e. subst (λ o. of_full.for_list inner is.run ys o ≡ record { bytes = (of_full.for_list inner is.run ys o).bytes; size = 0 }) (sym e) refl in
      ap (λ t. written_for (full_rules inner) 0 t (at [] last)) list-text
      ∙ name-opens (full_rules inner) is.run (joined (each_written as_it_is is.elements) ++ 62 ∷ rest) [] last run_parts.0 run_parts.1 (ap (λ b. b || is_some (pmr_in is.run)) opening)
      ∙ each-goes (full_rules inner) (full_bytes inner) is_simple_list (full-obeys inner) is_listed (listed-calls (full_rules inner) (full_bytes inner)) is.elements a.1 is.plain a.0 is.run last [] [] [] rest list
      (sized (named_in is.run) is.named_is ∙ ap (λ t. record { bytes = t; size = 0 }) is.whole)
