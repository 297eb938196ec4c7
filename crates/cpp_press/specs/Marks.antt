-- The marks of keys. A key is looked up by its mark first.
use Rattle.std.specs.Prelude.{◌≡◌, ℕ, ◌+◌, ◌*◌, ◌%◌, get_or, Option}
use Rattle.std.specs.BTreeMap.{get}
use Rattle.std.specs.Ordering.{is_eq}
use Rattle.std.specs.declared.cmp.Ordering.TheVariants.{Equal}
use Rattle.std.proofs.Common.{ap, refl}
use Rattle.sym_spell.specs.Firsts.{first_in, IsIndex, text_mark}
use Rattle.sym_spell.specs.declared.firsts.Firsts.{Firsts}
use Rattle.sym_spell.proofs.Orders.{first-tied, number-tied, list-tied}
use Rattle.cpp_press.specs.declared.numbering.Key.{Key}
use Rattle.cpp_press.specs.Numbers.{key_cmp}

-- a number made of a key's production, parts, numbers and first text
abbrev pub mark_of : Key → ℕ
mark_of key =
    key.production * 59 + (key.first_part * 101 + key.second_part * 307 + key.third_part * 419)
    + (get_or key.numbers 0 0 % 65536 * 17 + get_or key.numbers 1 0 % 65536 * 229) + text_mark key.first_text.now

pub marked-alike : (a b : Key) → key_cmp a b ≡ Equal → mark_of a ≡ mark_of b
marked-alike a b same =
    let h1 = first-tied _ _ (ap is_eq same) in
    let h2 = first-tied _ _ h1.1 in
    let h3 = first-tied _ _ h2.1 in
    let h4 = first-tied _ _ h3.1 in
    let h5 = first-tied _ _ h4.1 in
    let h6 = first-tied _ _ h5.1 in
    let first_part = number-tied a.first_part b.first_part h1.0 in
    let second_part = number-tied a.second_part b.second_part h2.0 in
    let third_part = number-tied a.third_part b.third_part h3.0 in
    let production = number-tied a.production b.production h4.0 in
    let numbers = list-tied a.numbers b.numbers h5.0 in
    let text = list-tied a.first_text.now b.first_text.now h6.0 in
    rw (first_part, second_part, third_part, production, numbers, text) refl

-- the first node with a key, as the table of first nodes finds it
abbrev pub found_in : Firsts Key → Key → Option ℕ
found_in keys = first_in key_cmp mark_of keys.places.items keys.seen.items (get key_cmp keys.more)

abbrev pub IsFound : Firsts Key → Type 0
IsFound keys = IsIndex mark_of keys.places.items keys.seen.items (get key_cmp keys.more)
