-- What a call for a text with parts writes, depending on whether the text and the parts have room.
use Rattle.sym_calls.proofs.Basics.{◌≡◌, ◌≤◌, ◌⊎◌, inl, inr, ℕ, List, length, drop, map, ◌++◌, Bool, true, false, Option, Some, None, Result, Ok, Err, ap, sym, subst, ◌∙◌, arith, ◌&&◌, nat_le, not, if◌then◌else◌, length-map, Refusal, Malformed, BadReference, BadValue, TooLong, Memory, Detail, Mangled, Kind, symbol_of, cpp_by, Marking, Parsed, Parsing, cpp_marking, parsed_by, mangling_number, mangling_of, Ending, named, refused, status_alone, PartsEndAs, PartsEnding, both_written, is_whole, name_parts_told, none_found, numbered, parsed_told, parts_of_kind, parts_told, reported, without_text, Asked}
use Rattle.sym_parts.specs.declared.part.Part.{Part}
use Rattle.sym_calls.specs.declared.parts.NameFound.{NameFound}
use Rattle.sym_calls.specs.declared.parts.NamePart.{NamePart}

-- the text and its parts are written
abbrev pub full : Parsed → (mangling : ℕ) → (buffer : List ℕ) → (parts : List NamePart) → PartsEnding
full parsed mangling buffer parts = record {
  ending = record { status = 0; buffer = parsed.text ++ drop (length parsed.text) buffer; length = length parsed.text; offset = 0 };
  parts = map numbered parsed.parts ++ drop (length parsed.parts) parts;
  found = reported parsed mangling;
}

-- neither the text nor its parts are written
abbrev pub small : Parsed → (mangling : ℕ) → (buffer : List ℕ) → (parts : List NamePart) → PartsEnding
small parsed mangling buffer parts = record { ending = record { status = 6; buffer = buffer; length = length parsed.text; offset = 0 }; parts = parts; found = reported parsed mangling }

pub both-full : (parsed : Parsed) (mangling : ℕ) (buffer : List ℕ) (parts : List NamePart) → (nat_le (length parsed.text) (length buffer) && nat_le (length parsed.parts) (length parts)) ≡ true
    → both_written parsed mangling buffer parts ≡ full parsed mangling buffer parts
unfolding both_written
both-full parsed mangling buffer parts fits = ap (λ b. if b then full parsed mangling buffer parts else small parsed mangling buffer parts) fits

pub both-small : (parsed : Parsed) (mangling : ℕ) (buffer : List ℕ) (parts : List NamePart) → (nat_le (length parsed.text) (length buffer) && nat_le (length parsed.parts) (length parts)) ≡ false
    → both_written parsed mangling buffer parts ≡ small parsed mangling buffer parts
unfolding both_written
both-small parsed mangling buffer parts fits = ap (λ b. if b then full parsed mangling buffer parts else small parsed mangling buffer parts) fits

-- ## What is written

-- the text or its parts have no room
pub both-small-ends : (parsed : Parsed) (mangling : ℕ) (buffer : List ℕ) (parts : List NamePart) (found : NameFound) (size : ℕ) → (nat_le (length parsed.text) (length buffer) && nat_le (length parsed.parts) (length parts)) ≡ false
    → size ≡ length parsed.text → found ≡ reported parsed mangling
    → PartsEndAs (both_written parsed mangling buffer parts) buffer parts (record { ending = record { status = 6; buffer = buffer; length = size; offset = 0 }; parts = parts; found = found })
both-small-ends parsed mangling buffer parts found size fits sizes is =
    inl (ap (λ n. record { ending = record { status = 6; buffer = buffer; length = n; offset = 0 }; parts = parts; found = found }) sizes
    ∙ ap (λ f. record { ending = record { status = 6; buffer = buffer; length = length parsed.text; offset = 0 }; parts = parts; found = f }) is
    ∙ sym (both-small parsed mangling buffer parts fits))

-- the text and its parts have room
pub both-full-end : (parsed : Parsed) (mangling : ℕ) (buffer buffer' : List ℕ) (parts parts' : List NamePart) (found : NameFound) (size : ℕ) → (nat_le (length parsed.text) (length buffer) && nat_le (length parsed.parts) (length parts)) ≡ true
    → size ≡ length parsed.text → buffer' ≡ parsed.text ++ drop (length parsed.text) buffer → parts' ≡ map numbered parsed.parts ++ drop (length parsed.parts) parts → found ≡ reported parsed mangling
    → PartsEndAs (both_written parsed mangling buffer parts) buffer parts (record { ending = record { status = 0; buffer = buffer'; length = size; offset = 0 }; parts = parts'; found = found })
both-full-end parsed mangling buffer buffer' parts parts' found size fits sizes texts listed is =
    inl (ap (λ n. record { ending = record { status = 0; buffer = buffer'; length = n; offset = 0 }; parts = parts'; found = found }) sizes
    ∙ ap (λ b. record { ending = record { status = 0; buffer = b; length = length parsed.text; offset = 0 }; parts = parts'; found = found }) texts
    ∙ ap (λ p. record { ending = record { status = 0; buffer = parsed.text ++ drop (length parsed.text) buffer; length = length parsed.text; offset = 0 }; parts = p; found = found }) listed
    ∙ ap (λ f. record { ending = record { status = 0; buffer = parsed.text ++ drop (length parsed.text) buffer; length = length parsed.text; offset = 0 }; parts = map numbered parsed.parts ++ drop (length parsed.parts) parts; found = f }) is
    ∙ sym (both-full parsed mangling buffer parts fits))

-- if the parts that are put are the text's numbered parts, these are at the front
pub put-numbered : (given list put parts : List NamePart) (found : List Part) → given ≡ list → list ≡ map numbered found → put ≡ given ++ drop (length given) parts → put ≡ map numbered found ++ drop (length found) parts
put-numbered given list put parts found is lists puts =
    puts ∙ ap (λ l. l ++ drop (length l) parts) (is ∙ lists) ∙ ap (λ n. map numbered found ++ drop n parts) (length-map found numbered)

pub put-text : (given text put buffer : List ℕ) → given ≡ text → put ≡ given ++ drop (length given) buffer → put ≡ text ++ drop (length text) buffer
put-text given text put buffer is puts = puts ∙ ap (λ t. t ++ drop (length t) buffer) is

-- ## How calls end

-- a refusal's status is one that a lack of memory may replace
refused-small : (e : Refusal) (skip : ℕ) (buffer : List ℕ) → (refused e skip buffer).status ≤ 6
unfolding refused
refused-small (Malformed at) skip buffer = omega arith
refused-small (BadReference at) skip buffer = omega arith
refused-small (BadValue at) skip buffer = omega arith
refused-small TooLong skip buffer = omega arith
refused-small Memory skip buffer = omega arith

chosen-small : (b : Bool) (one other : PartsEnding) → one.ending.status ≤ 6 → other.ending.status ≤ 6 → (if b then one else other).ending.status ≤ 6
chosen-small true one other h i = h
chosen-small false one other h i = i

both-status : (parsed : Parsed) (mangling : ℕ) (buffer : List ℕ) (parts : List NamePart) → (both_written parsed mangling buffer parts).ending.status ≤ 6
unfolding both_written
both-status parsed mangling buffer parts =
    chosen-small (nat_le (length parsed.text) (length buffer) && nat_le (length parsed.parts) (length parts)) (full parsed mangling buffer parts) (small parsed mangling buffer parts) (omega arith) (omega arith)

parsed-status : (answer : Result Parsed Refusal) (mangling skip : ℕ) (buffer : List ℕ) (parts : List NamePart) → (parsed_told answer mangling skip buffer parts).ending.status ≤ 6
unfolding parsed_told
parsed-status (Ok parsed) mangling skip buffer parts = both-status parsed mangling buffer parts
parsed-status (Err e) mangling skip buffer parts = refused-small e skip buffer

-- nothing is reported
none-ends : (ending : Ending) (parts : List NamePart) (found : NameFound) → found ≡ none_found
    → (let told : PartsEnding = record { ending = ending; parts = parts; found = found } in told ≡ without_text ending parts)
none-ends ending parts found is = ap (λ f. record { ending = ending; parts = parts; found = f }) is

-- there is no memory for the parts
pub both-memory : (parsed : Parsed) (mangling : ℕ) (buffer : List ℕ) (parts : List NamePart) (found : NameFound) (ending : Ending) → found ≡ none_found → ending ≡ status_alone 5 buffer
    → PartsEndAs (both_written parsed mangling buffer parts) buffer parts (record { ending = ending; parts = parts; found = found })
both-memory parsed mangling buffer parts found ending none is =
    inr (both-status parsed mangling buffer parts, none-ends ending parts found none ∙ ap (λ e. without_text e parts) is)

-- a text with parts
pub parsed-ends : (answer : Result Parsed Refusal) (parsed : Parsed) (mangling skip : ℕ) (buffer : List ℕ) (parts : List NamePart) (ended : PartsEnding) → answer ≡ Ok parsed
    → PartsEndAs (both_written parsed mangling buffer parts) buffer parts ended → PartsEndAs (parsed_told answer mangling skip buffer parts) buffer parts ended
unfolding parsed_told
parsed-ends answer parsed mangling skip buffer parts ended is ends = subst (λ a. PartsEndAs (parsed_told a mangling skip buffer parts) buffer parts ended) (sym is) ends

-- a refusal
pub parsed-refused : (answer : Result Parsed Refusal) (e : Refusal) (mangling skip : ℕ) (buffer : List ℕ) (parts : List NamePart) (found : NameFound) (ending : Ending)
    → (e ≡ Memory) ⊎ (answer ≡ Err e) → found ≡ none_found → ending ≡ refused e skip buffer
    → PartsEndAs (parsed_told answer mangling skip buffer parts) buffer parts (record { ending = ending; parts = parts; found = found })
unfolding parsed_told refused
parsed-refused answer e mangling skip buffer parts found ending (inl memory) none is =
    inr (parsed-status answer mangling skip buffer parts, none-ends ending parts found none ∙ ap (λ n. without_text n parts) (is ∙ ap (λ r. refused r skip buffer) memory))
parsed-refused answer e mangling skip buffer parts found ending (inr same) none is =
    inl (none-ends ending parts found none ∙ ap (λ n. without_text n parts) is ∙ sym (ap (λ a. parsed_told a mangling skip buffer parts) same))

-- the symbol of a name
pub name-parts-end : (parses : Parsing) (asked : Asked) (name buffer : List ℕ) (parts : List NamePart) (kind : Kind) (ended : PartsEnding) → named asked.underscore name ≡ Ok kind
    → PartsEndAs (parsed_told (parses kind (symbol_of kind name)) (mangling_number (mangling_of asked.legacy kind.lang (symbol_of kind name))) kind.skip buffer parts) buffer parts ended
    → PartsEndAs (name_parts_told parses asked name buffer parts) buffer parts ended
unfolding parts_of_kind
name-parts-end parses asked name buffer parts kind ended is ends =
    subst (λ (n : Result Kind ℕ). PartsEndAs (parts_of_kind parses asked.legacy n name buffer parts) buffer parts ended) (sym is) ends

-- a name that names no symbol
pub no-name-parts-end : (parses : Parsing) (asked : Asked) (name buffer : List ℕ) (parts : List NamePart) (status : ℕ) (found : NameFound) (ending : Ending) → named asked.underscore name ≡ Err status
    → found ≡ none_found → ending ≡ status_alone status buffer
    → PartsEndAs (name_parts_told parses asked name buffer parts) buffer parts (record { ending = ending; parts = parts; found = found })
unfolding parts_of_kind
no-name-parts-end parses asked name buffer parts status found ending is none told =
    subst (λ (n : Result Kind ℕ). PartsEndAs (parts_of_kind parses asked.legacy n name buffer parts) buffer parts (record { ending = ending; parts = parts; found = found })) (sym is)
    (inl (none-ends ending parts found none ∙ ap (λ e. without_text e parts) told))

-- a fact about the answers with parts, where it is known whether legacy Rust names are paths
pub parses-as-legacy : {W : Type 0} (P : Parsing → Type 0) (cpp : Mangled W) (marking : Marking W) (asked : Asked) (legacy : Bool) (limit limit' : ℕ) (detail : Detail) → asked.legacy ≡ legacy → limit' ≡ limit → detail ≡ asked.detail
    → P (parsed_by cpp marking legacy limit' detail) → P (parsed_by cpp marking asked.legacy limit asked.detail)
parses-as-legacy P cpp marking asked legacy limit limit' detail is limits details h =
    subst (λ l. P (parsed_by cpp marking l limit asked.detail)) (sym is)
    (subst (λ d. P (parsed_by cpp marking legacy limit d)) details (subst (λ n. P (parsed_by cpp marking legacy n detail)) limits h))

-- ## Flags

-- one of the flags doesn't exist
pub no-flag-ends : (asked : Option Asked) (limit : ℕ) (name buffer : List ℕ) (parts : List NamePart) (found : NameFound) (ending : Ending) → asked ≡ None → found ≡ none_found → ending ≡ status_alone 8 buffer
    → PartsEndAs (parts_told asked limit name buffer parts) buffer parts (record { ending = ending; parts = parts; found = found })
unfolding parts_told
no-flag-ends asked limit name buffer parts found ending is none told =
    subst (λ a. PartsEndAs (parts_told a limit name buffer parts) buffer parts (record { ending = ending; parts = parts; found = found })) (sym is)
    (inl (none-ends ending parts found none ∙ ap (λ e. without_text e parts) told))

-- what is requested has no parts
pub no-parts-end : (asked : Option Asked) (one : Asked) (limit : ℕ) (name buffer : List ℕ) (parts : List NamePart) (found : NameFound) (ending : Ending) → asked ≡ Some one → (is_whole one.texts && not one.types) ≡ false
    → found ≡ none_found → ending ≡ status_alone 8 buffer → PartsEndAs (parts_told asked limit name buffer parts) buffer parts (record { ending = ending; parts = parts; found = found })
unfolding parts_told
no-parts-end asked one limit name buffer parts found ending is other none told =
    subst (λ a. PartsEndAs (parts_told a limit name buffer parts) buffer parts (record { ending = ending; parts = parts; found = found })) (sym is)
    (inl (none-ends ending parts found none ∙ ap (λ e. without_text e parts) told
    ∙ sym (ap (λ b. if b then name_parts_told (parsed_by (cpp_by one.wide) cpp_marking one.legacy limit one.detail) one name buffer parts else without_text (status_alone 8 buffer) parts) other)))

-- a call with the grammar that is requested
pub asked-parts-end : (asked : Option Asked) (one : Asked) (wide : Bool) (limit : ℕ) (name buffer : List ℕ) (parts : List NamePart) (ended : PartsEnding) → asked ≡ Some one → (is_whole one.texts && not one.types) ≡ true → one.wide ≡ wide
    → PartsEndAs (name_parts_told (parsed_by (cpp_by wide) cpp_marking one.legacy limit one.detail) one name buffer parts) buffer parts ended → PartsEndAs (parts_told asked limit name buffer parts) buffer parts ended
unfolding parts_told
asked-parts-end asked one wide limit name buffer parts ended is whole width ends =
    subst (λ a. PartsEndAs (parts_told a limit name buffer parts) buffer parts ended) (sym is)
    (subst (λ wanted. PartsEndAs wanted buffer parts ended)
    (sym (ap (λ b. if b then name_parts_told (parsed_by (cpp_by one.wide) cpp_marking one.legacy limit one.detail) one name buffer parts else without_text (status_alone 8 buffer) parts) whole))
    (subst (λ w. PartsEndAs (name_parts_told (parsed_by (cpp_by w) cpp_marking one.legacy limit one.detail) one name buffer parts) buffer parts ended) (sym width) ends))
