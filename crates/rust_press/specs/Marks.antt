-- The marks of keys. A key is looked up by its mark first.
use Rattle.std.specs.Prelude.{◌≡◌, ℕ, ◌+◌, ◌*◌, ◌%◌, get_or, Option}
use Rattle.std.specs.BTreeMap.{get}
use Rattle.std.specs.Cmp.Lexicographic.{slice_cmp}
use Rattle.std.specs.Ordering.{nat_cmp, ordering_then, is_eq}
use Rattle.std.specs.declared.cmp.Ordering.{Ordering}
use Rattle.std.specs.declared.cmp.Ordering.TheVariants.{Equal}
use Rattle.std.proofs.Common.{ap, refl}
use Rattle.sym_spell.specs.Firsts.{first_in, IsIndex, text_mark}
use Rattle.sym_spell.specs.declared.firsts.Firsts.{Firsts}
use Rattle.sym_spell.proofs.Orders.{first-tied, number-tied, list-tied}
use Rattle.rust_press.specs.declared.numbering.Key.{Key}

-- the derived order of keys
abbrev pub key_cmp : Key → Key → Ordering
key_cmp a b =
    ordering_then (nat_cmp a.production b.production) (ordering_then (nat_cmp a.count b.count)
    (ordering_then (slice_cmp nat_cmp a.parts b.parts) (ordering_then (slice_cmp nat_cmp a.numbers b.numbers)
    (ordering_then (slice_cmp nat_cmp a.first_text.now b.first_text.now) (slice_cmp nat_cmp a.second_text.now b.second_text.now)))))

-- a number made of a key's production, parts, numbers and first text
abbrev pub mark_of : Key → ℕ
mark_of key =
    key.production * 59 + (get_or key.parts 0 0 * 101 + get_or key.parts 1 0 * 307 + get_or key.parts 2 0 * 419)
    + (get_or key.numbers 0 0 % 65536 * 17 + get_or key.numbers 1 0 % 65536 * 229) + text_mark key.first_text.now

pub marked-alike : (a b : Key) → key_cmp a b ≡ Equal → mark_of a ≡ mark_of b
marked-alike a b same =
    let h1 = first-tied _ _ (ap is_eq same) in
    let h2 = first-tied _ _ h1.1 in
    let h3 = first-tied _ _ h2.1 in
    let h4 = first-tied _ _ h3.1 in
    let h5 = first-tied _ _ h4.1 in
    let production = number-tied a.production b.production h1.0 in
    let parts = list-tied a.parts b.parts h3.0 in
    let numbers = list-tied a.numbers b.numbers h4.0 in
    let text = list-tied a.first_text.now b.first_text.now h5.0 in
    rw (production, parts, numbers, text) refl

-- the first node with a key, as the table of first nodes finds it; then what `found_in` needs of the table
abbrev pub found_in : Firsts Key → Key → Option ℕ
found_in keys = first_in key_cmp mark_of keys.places.items keys.seen.items (get key_cmp keys.more)

abbrev pub IsFound : Firsts Key → Type 0
IsFound keys = IsIndex mark_of keys.places.items keys.seen.items (get key_cmp keys.more)
