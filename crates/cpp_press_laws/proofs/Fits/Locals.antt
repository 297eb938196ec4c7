-- An entity that was read in the scope of an encoding fits, as a type and as an encoding's own name.
use Rattle.cpp_press_laws.proofs.Basics.{ℕ, ◌+◌, inr, List, [], Option, true, refl, ap, ◌∙◌, codes, ◌and◌, text, and-assoc, and-assoc-at, Qualifiers, RefQualifier, Term, local, is_open, pack_length, State, behind, Around, appended, after, discriminator_text, Spelling, no_ways, type_ways, entity_text, local_text, ways_of, Fitting, Behind, Slot, Role, in_type, in_name_with, letters_of, IsSpellableDiscriminator, type_fits, fits_nowhere, fits_of}
use Rattle.cpp_press_laws.proofs.Components.Parts.{Whole}
use Rattle.cpp_press_laws.proofs.Components.KnownTrees.{keeps}
use Rattle.cpp_press_laws.proofs.Ways as way
use Rattle.cpp_press_laws.proofs.Fits.Read.{pressed_at, Fitted, refitted, and-fitted, bytes-fitted, fitted-bytes, component-fitted}
use Rattle.cpp_press_laws.proofs.Fits.Types.{TypeFits, typed-complete, may-as}
use Rattle.cpp_press_laws.proofs.Fits.Names.{respelled, moved}
use Rattle.cpp_press_laws.proofs.Fits.Nests.{OwnNameFits, EntityFits}
use Rattle.cpp_press_laws.proofs.Fits.Symbols.{WholeFits}

-- an encoding between Z and E, the entity and its discriminator
abbrev LocalStanding : (e entity : Term) → Option (List ℕ) → Role → Fitting
LocalStanding e entity discriminator role inner allowed place cs =
    (fits_of e).as_encoding allowed (place + 1) cs
    × Behind (text (codes "Z") and (ways_of inner.encoding e).as_encoding and text (codes "E"))
    ((fits_of entity).as_entity role (after e true inner) allowed) place cs
    × IsSpellableDiscriminator discriminator

abbrev local_spelling : (e entity : Term) → Option (List ℕ) → Role → ℕ → Spelling
local_spelling e entity discriminator role n =
    local_text (ways_of n e).as_encoding entity (ways_of n entity).between_N_and_E discriminator (letters_of role)

pub local-fits : (around : Around) (e entity : Term) (discriminator : Option (List ℕ)) (role : Role) (old mid new : State)
    → IsSpellableDiscriminator discriminator → WholeFits around e old mid → EntityFits (after e true around) entity role mid new
    → Fitted around (LocalStanding e entity discriminator role) (local_spelling e entity discriminator role) (local e entity discriminator) old new
unfolding local_text after is_open pack_length
local-fits around e entity discriminator role old mid new good one other =
    let own : Term = local e entity discriminator in
    let enc : ℕ → Spelling = λ n. (ways_of n e).as_encoding in
    let part : ℕ → Spelling = λ n. entity_text entity (letters_of role) (ways_of n entity).between_N_and_E in
    let end : ℕ → Spelling = λ n. part n and text (discriminator_text discriminator) in
    respelled (refitted (and-fitted (bytes-fitted (codes "Z") (fitted-bytes (codes "E") one))
    (fitted-bytes (discriminator_text discriminator) (moved around (behind e true) other))
    (λ n allowed a b. may-as (pressed_at n around) allowed entity own refl (λ arguments. refl) b))
    (λ n allowed place cs fits. (fits.0, fits.1, good)))
    (λ n place cs. and-assoc-at (text (codes "Z")) (enc n and text (codes "E")) (end n) place cs
    ∙ ap (λ s. (text (codes "Z") and s) place cs) (and-assoc (enc n) (text (codes "E")) (end n)))

-- a local entity as a type
pub local-typed : (around : Around) (e entity : Term) (discriminator : Option (List ℕ)) (slot : Slot) (old mid new : State)
    → IsSpellableDiscriminator discriminator → WholeFits around e old mid → EntityFits (after e true around) entity in_type mid new
    → TypeFits around slot (local e entity discriminator) old (appended around (local e entity discriminator) new)
unfolding fits_of type_fits fits_nowhere ways_of type_ways no_ways letters_of
local-typed around e entity discriminator slot old mid new good one other =
    let own : Term = local e entity discriminator in
    component-fitted (local-fits around e entity discriminator in_type old mid new good one other) tt
    (λ n. (keeps own Unit n (Whole own) way.as_name) (λ x i. inr i) []) (λ n allowed place cs fits. tt)
    (λ n. typed-complete own (λ m. refl) slot (pressed_at n around))

-- a local entity as an encoding's own name
pub local-own : (around : Around) (e entity : Term) (discriminator : Option (List ℕ)) (q : Qualifiers) (ref : RefQualifier) (old mid new : State)
    → IsSpellableDiscriminator discriminator → WholeFits around e old mid → EntityFits (after e true around) entity (in_name_with q ref) mid new
    → OwnNameFits around (local e entity discriminator) q ref old new
unfolding fits_of type_fits fits_nowhere ways_of type_ways no_ways letters_of
local-own around e entity discriminator q ref old mid new good one other =
    local-fits around e entity discriminator (in_name_with q ref) old mid new good one other
