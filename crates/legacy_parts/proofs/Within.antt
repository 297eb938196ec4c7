-- What spells the parts of a legacy name's text is within the symbol.
use Rattle.legacy_parts.proofs.Basics.{◌≡◌, ℕ, ◌+◌, ◌-◌, ◌<◌, ◌≤◌, List, [], ◌∷◌, length, refl, sym, subst, arith, Some, AreNames, IsPlaced, Path, legacy_of, some_names_of, AreNames-low, Role, Item, Spelled, last_at, size_at, spelled, spelling_by, spelling_of_path}
use Rattle.std.specs.List.{All}
use Rattle.std.proofs.lemmas.List.Elements.{All-cons, All-nil}
use Rattle.sym_parts.specs.Within.{IsSpanWithin, IsWithin}
use Rattle.sym_parts.specs.declared.role.Role.TheVariants as role
use Rattle.legacy_parts.proofs.Places.{one-on, places-are, size-is}
use Rattle.legacy_parts.proofs.Standing.{stands}

-- the last name begins no earlier than the first, and before the names end
last-within : (s : List ℕ) (at to : ℕ) (names : List (List ℕ)) → AreNames s at to names → (at ≤ last_at s at names) × (last_at s at names ≤ to)
unfolding last_at
last-within s at to [] are = (omega arith, omega (arith, are))
last-within s at to (name ∷ []) are = (omega arith, omega (arith, AreNames-low s at to (name ∷ []) are))
last-within s at to (name ∷ next ∷ rest) are =
    let size = size-is s at (record { bytes = name; size = are.0 }) are.1 in
    let later = last-within s (at + size_at s at) to (next ∷ rest) (subst (λ n. AreNames s (at + n) to (next ∷ rest)) (sym size) are.2) in
    (omega (arith, later.0), later.1)

abbrev IsSpelledIn : (n : ℕ) → Spelled → Type 0
IsSpelledIn n part = IsSpanWithin n part.span

one-more : (n : ℕ) (r : Role) (from to : ℕ) (rest : List Spelled) → from ≤ to → to ≤ n → All (IsSpelledIn n) rest → All (IsSpelledIn n) (spelled r from to ∷ rest)
one-more n r from to rest order within all = All-cons (IsSpelledIn n) (spelled r from to) rest (order, within) all

by-places : (first last hash suffix end : ℕ) → 3 ≤ first → first ≤ end → 3 ≤ last → last ≤ hash → hash < suffix → suffix ≤ end → IsWithin end (spelling_by first last hash suffix end)
unfolding spelling_by
by-places first last hash suffix end begins first-within low high before within =
    let hashes = spelled role.Hash hash (suffix - 1) ∷ [] in
    let suffixes = spelled role.Suffix suffix end ∷ hashes in
    let bases = spelled role.Base last hash ∷ suffixes in
    let impls = spelled role.Impl 3 first ∷ bases in
    let crates = spelled role.Crate 3 first ∷ impls in
    let the_hash = one-more end role.Hash hash (suffix - 1) [] (omega (arith, before)) (omega (arith, within)) (All-nil (IsSpelledIn end)) in
    let the_suffix = one-more end role.Suffix suffix end hashes within (omega arith) the_hash in
    let base = one-more end role.Base last hash suffixes high (omega (arith, before, within)) the_suffix in
    let impl = one-more end role.Impl 3 first bases begins first-within base in
    let crate = one-more end role.Crate 3 first impls begins first-within impl in
    let scope = one-more end role.Scope 3 last crates low (omega (arith, high, before, within)) crate in
    record {
      others = (omega (arith, low, high), omega (arith, before, within));
      spans = scope;
      specials = All-nil (IsSpanWithin end);
      tags = All-nil (IsSpanWithin end);
      argument_lists = All-nil (IsSpanWithin end);
      arguments = All-nil (λ (item : Item). IsSpanWithin end item.span);
      parameters = All-nil (λ (item : Item). IsSpanWithin end item.span);
      elements = All-nil (IsSpanWithin end);
    }

pub spelling-within : (s : List ℕ) (path : Path) → legacy_of s ≡ Some path → IsWithin (length s) (spelling_of_path s path)
spelling-within s path is =
    let standing = stands s path is in
    let place = standing.0 in
    let at = standing.1 in
    let placed : IsPlaced s place = (path, is, at) in
    let some = some_names_of s path is in
    let low = AreNames-low s 3 place.hash path.names at.0 in
    let first = one-on s 3 3 place.hash path.names (omega (arith, low, some)) at.0 in
    let last = last-within s 3 place.hash path.names at.0 in
    subst (IsWithin (length s)) (places-are s place placed path (3 + size_at s 3) (last_at s 3 path.names) is refl refl)
    (by-places (3 + size_at s 3) (last_at s 3 path.names) place.hash place.end (length s) (omega arith) (omega (arith, first.4, at.2, at.3)) last.0 last.1 at.2 at.3)
