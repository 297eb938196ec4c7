-- The components that names add or find, in each of their ways.
use Rattle.cpp_press_laws.proofs.Basics.{refl, ◌≡◌, ℕ, ◌+◌, ◌⊎◌, ◌≤◌, inl, inr, length, List, [], ◌∷◌, ◌++◌, Option, Bool, true, false, arith, sym, subst, ◌&&◌, codes, true≢false, false≢true, true_from_ne_false, ◌and◌, text, nothing, Term, symbol, alone, in_std, within, instance, local, tagged, count, arguments_of, without_tags, outermost, behind, Around, after, inside, counted, name_letters, discriminator_text, Component, Spelling, ended, component, no_ways, type_ways, in_N_and_E, with_letters, name_ways, template_before, is_operator, is_encoding, is_nested, is_one_piece, entity_text, local_text, ways_of, Written, Standing, Fitting, Behind, as_component, as_template, behind_bytes, one_piece, Slot, names_type, names_function, begins_name, Role, in_type, in_name_with, letters_of, names_in, fits_nowhere, type_fits, fits_of, names_member, IsSpellableDiscriminator}
use Rattle.cpp_press_laws.proofs.Components.Encodings.{encoding-prefix, no-encoding}
use Rattle.cpp_press_laws.proofs.EveryWay.Instances.{not-one-piece, one-piece-is}
use Rattle.cpp_press_laws.proofs.Components.Parts.{PrefixOr, Inside, Whole, prefix-whole}
use Rattle.cpp_press_laws.proofs.Fitting as fit
use Rattle.cpp_press_laws.proofs.Components.AddedWays.{AddsParts, Adds, Either, both-added, fewer-added, after-bytes, before-bytes, nested-added, fewer-by, behind-and, at-once, and-adds, whole-adds, letters-add, no-letters-add, arguments_count, surplus, surplus-some, surplus-named, way_at, AtSlot, WaysAdd, AddsAt, nowhere-ways-add, in-component, reference-adds, found-and-adds, found-template-adds, in-template, in-nested-template, component-at}

-- ## Names

pub no-encoding-inside : (e x : Term) (inside : Type 0) → is_encoding e ≡ true → PrefixOr e inside x → ⊥
unfolding is_encoding
no-encoding-inside (symbol e suffix) x inside is w = absurd (false≢true is)
no-encoding-inside _ x inside is w = first_of (cc, assumption w)

pub either-named : (typed : Bool) (p : Term) → (elim typed as (λ _. Bool) [ true ↦ names_type p | false ↦ names_function p ]) ≡ true → 2 ≤ surplus p
unfolding names_type names_function begins_name
either-named true = surplus-named names_type refl
either-named false = surplus-named names_function refl

pub alone-add : (p : Term) → WaysAdd p (fits_of p) (λ n. ways_of n p) → WaysAdd (alone p) (fits_of (alone p)) (λ n. ways_of n (alone p))
unfolding fits_of fits_nowhere ways_of name_ways no_ways arguments_count arguments_of names_type names_function begins_name
alone-add p a = record {
  at = each;
  before = λ typed m around allowed G arguments Q more. in-template m around allowed (alone p)
      (one_piece outermost (elim typed [ true ↦ names_type p | false ↦ names_function p ]) (fits_of p).as_piece) (λ n.
      (ways_of n p).as_piece) G
      arguments Q (spelled around allowed (elim typed [ true ↦ names_type p | false ↦ names_function p ]) (either-named typed p)) more;
}
  where
    spelled : (around : Around) (allowed : Option ℕ) (may : Bool) → (may ≡ true → 2 ≤ surplus p)
        → Adds 2 around.encoding (Inside p) (one_piece outermost may (fits_of p).as_piece around allowed) (ways_of around.encoding p).as_piece
    spelled around allowed may big place cs fits = fewer-by (surplus p) 2 (big fits.1) (a.at fit.as_piece around allowed place cs fits.2)

    whole : (around : Around) (allowed : Option ℕ) (may : Bool) → (may ≡ true → 2 ≤ surplus p)
        → Adds 1 around.encoding (Whole (alone p)) (as_component (alone p) (one_piece outermost may (fits_of p).as_piece) around allowed)
        (component around.encoding (alone p) (ways_of around.encoding p).as_piece)
    whole around allowed may big = in-component around allowed (alone p) (one_piece outermost may (fits_of p).as_piece)
        (ways_of around.encoding p).as_piece (spelled around allowed may big)

    each : AddsAt (alone p) (fits_of (alone p)) (λ n. ways_of n (alone p))
    each fit.as_type = λ slot around allowed. component-at slot _ (λ x w. w)
        (whole around allowed (names_type p) (surplus-named names_type refl p))
        (whole around allowed (names_type p) (surplus-named names_type refl p))
    each fit.as_prefix = λ around allowed. whole around allowed (begins_name p) (surplus-named begins_name refl p)
    each fit.as_prefix_template = λ around allowed. whole around allowed (begins_name p) (surplus-named begins_name refl p)
    each fit.as_name = λ q ref around allowed. no-letters-add 2 (name_letters q ref) around.encoding (Inside (alone p))
        (one_piece outermost (names_function p) (fits_of p).as_piece around allowed) (ways_of around.encoding p).as_piece
        (ways_of around.encoding p).as_piece (spelled around allowed (names_function p) (surplus-named names_function refl p))
    each fit.as_argument = λ in_pack around allowed. whole around allowed (names_type p) (surplus-named names_type refl p)
    each w = (nowhere-ways-add (alone p) (λ n. ways_of n (alone p))).at w

pub front-none : (s : Spelling) (n : ℕ) (own : Term) (G : Standing) (place : ℕ) (cs : List Component)
    → Behind ((text [] and s) and ended n own) G place cs → Behind (s and ended n own) G place cs
unfolding ended
front-none s n own G place cs fits =
    let same : place + 0 ≡ place = omega arith in
    subst (λ q. G (place + length ((s q cs).bytes ++ [])) ((s q cs).components ++ record { tree = own; encoding = n } ∷ [])) same fits

pub in-std-add : (p : Term) → WaysAdd p (fits_of p) (λ n. ways_of n p) → WaysAdd (in_std p) (fits_of (in_std p)) (λ n. ways_of n (in_std p))
unfolding fits_of fits_nowhere ways_of name_ways no_ways arguments_count arguments_of entity_text is_one_piece in_N_and_E
in-std-add p a = record {
  at = each;
  before = λ typed m around allowed G arguments Q more. befores typed (is_operator p) m around allowed G arguments Q more;
}
  where
    std : Fitting
    std around allowed place cs = (names_function p ≡ true) × (fits_of p).as_piece around allowed (place + 2) cs

    spelling : ℕ → Spelling
    spelling n = text (codes "St") and (ways_of n p).as_piece

    typed_spelling : Bool → ℕ → Spelling
    typed_spelling b n = elim b as (λ _. Spelling) [ true ↦ in_N_and_E [] (spelling n) | false ↦ spelling n ]

    spelled : (around : Around) (allowed : Option ℕ) → Adds 2 around.encoding (Inside p) (std around allowed) (spelling around.encoding)
    spelled around allowed place cs fits =
        after-bytes (surplus p) 2 (codes "St") (omega arith) ((a.at fit.as_piece) around allowed (place + 2) cs fits.1)

    typed : (b : Bool) (around : Around) (allowed : Option ℕ)
        → Adds 2 around.encoding (Inside p) (behind_bytes (elim b [ true ↦ codes "N" | false ↦ [] ]) std around allowed)
        (typed_spelling b around.encoding)
    typed true around allowed place cs fits = nested-added 2 [] (spelled around allowed (place + 1) cs fits)
    typed false around allowed place cs fits = spelled around allowed place cs (at-once (std around allowed) place cs fits)

    whole : (around : Around) (allowed : Option ℕ) → Adds 1 around.encoding (Whole (in_std p)) (as_component (in_std p) (behind_bytes
        (elim (is_operator p) [ true ↦ codes "N" | false ↦ [] ]) std) around allowed)
        (component around.encoding (in_std p) (typed_spelling (is_operator p) around.encoding))
    whole around allowed = in-component around allowed (in_std p) (behind_bytes (elim (is_operator p) [ true ↦ codes "N" | false ↦ [] ]) std)
        (typed_spelling (is_operator p) around.encoding) (typed (is_operator p) around allowed)

    bare : (m : ℕ) (spelled_at : Fitting) (around : Around) (allowed : Option ℕ) (G : Fitting) (arguments : Spelling) (Q : Term → Type 0)
        → Adds 2 around.encoding (Inside p) (spelled_at around allowed) (spelling around.encoding)
        → Adds m around.encoding Q (G around allowed) arguments
        → Adds m around.encoding (Either (Whole (in_std p)) Q) (as_template (in_std p) spelled_at
        (λ n. text [] and spelling n) G around allowed)
        (template_before around.encoding (in_std p) false (spelling around.encoding) arguments)
    bare m spelled_at around allowed G arguments Q one more place cs fits =
        in-template m around allowed (in_std p) spelled_at spelling G arguments Q one more place cs (
          fits.0,
          fits.1,
          λ none. (
            (fits.2 none).0,
            front-none (spelling around.encoding) around.encoding (in_std p) (G around allowed) place cs
                (fits.2 none).1,
          ),
        )

    befores : (typed_ b : Bool) (m : ℕ) (around : Around) (allowed : Option ℕ) (G : Fitting) (arguments : Spelling) (Q : Term → Type 0)
        → Adds m around.encoding Q (G around allowed) arguments
        → Adds m around.encoding (Either (Whole (in_std p)) Q)
        (as_template (in_std p) (elim typed_ [ true ↦ behind_bytes (elim b [ true ↦ codes "N" | false ↦ [] ]) std | false ↦ std ])
        (λ n. text (elim (typed_ && b) [ true ↦ codes "N" | false ↦ [] ]) and text (codes "St") and (ways_of n p).as_piece) G around allowed)
        (template_before around.encoding (in_std p) (typed_ && b) (spelling around.encoding) arguments)
    befores false b m around allowed G arguments Q more = bare m std around allowed G arguments Q (spelled around allowed) more
    befores true false m around allowed G arguments Q more =
        bare m (behind_bytes [] std) around allowed G arguments Q (typed false around allowed) more
    befores true true m around allowed G arguments Q more =
        in-nested-template m around allowed (in_std p) std spelling G arguments Q (spelled around allowed) more

    each : AddsAt (in_std p) (fits_of (in_std p)) (λ n. ways_of n (in_std p))
    each fit.as_type = λ slot around allowed. component-at slot _ (λ x w. w) (whole around allowed) (whole around allowed)
    each fit.as_prefix = λ around allowed. in-component around allowed (in_std p) std (spelling around.encoding) (spelled around allowed)
    each fit.as_prefix_template = λ around allowed. in-component around allowed (in_std p) std (spelling around.encoding) (spelled around allowed)
    each fit.between = spelled
    each fit.between_template = spelled
    each fit.as_entity = λ role around allowed place cs fits. fewer-by 2 0 (omega arith) (nested-added 2 (letters_of role)
        (spelled around allowed (place + length (codes "N" ++ letters_of role)) cs fits))
    each fit.as_name = λ q ref around allowed. letters-add 2 0 (omega arith) (name_letters q ref) around.encoding (Inside (in_std p)) around allowed std std
        (spelling around.encoding) (spelling around.encoding) (spelled around allowed) (spelled around allowed)
    each fit.as_argument = λ in_pack around allowed. whole around allowed
    each w = (nowhere-ways-add (in_std p) (λ n. ways_of n (in_std p))).at w

-- an entity spelled as one piece, or as a name between N and E
pub entity-adds : (b : Bool) (k m n : ℕ) → m ≤ k → (P : Term → Type 0) (letters : List ℕ) (between : Spelling) (place : ℕ) (cs : List Component)
    → ((b ≡ true) × AddsParts m n P cs (between place cs))
    ⊎ ((b ≡ false) × AddsParts k n P cs (between (place + length (codes "N" ++ letters)) cs))
    → AddsParts m n P cs ((elim b as (λ _. Spelling) [ true ↦ between | false ↦ in_N_and_E letters between ]) place cs)
unfolding in_N_and_E
entity-adds true k m n le P letters between place cs (inl one) = one.1
entity-adds true k m n le P letters between place cs (inr other) = absurd (true≢false other.0)
entity-adds false k m n le P letters between place cs (inl one) = absurd (false≢true one.0)
entity-adds false k m n le P letters between place cs (inr other) = fewer-by k m le (nested-added k letters other.1)

pub at-none : (G : Standing) (place : ℕ) (cs : List Component) → G place cs → G (place + 0) cs
at-none G place cs fits = let same : place ≡ place + 0 = omega arith in subst (λ p. G p cs) same fits

-- a name that is between N and E with letters or without
pub nested-letters-add : (letters : List ℕ) (n : ℕ) (P : Term → Type 0) (F : Standing) (between : Spelling) → Adds 2 n P F between
    → Adds 0 n P (λ place cs. F (place + length (codes "N" ++ letters)) cs) (with_letters letters (in_N_and_E [] between) between)
unfolding with_letters in_N_and_E
nested-letters-add [] n P F between one place cs fits = fewer-by 2 0 (omega arith) (nested-added 2 [] (one (place + 1) cs fits))
nested-letters-add (l ∷ ls) n P F between one place cs fits =
    fewer-by 2 0 (omega arith) (nested-added 2 (l ∷ ls) (one (place + length (codes "N" ++ l ∷ ls)) cs fits))

pub within-add : (prefix p : Term) → WaysAdd prefix (fits_of prefix) (λ n. ways_of n prefix) → WaysAdd p (fits_of p) (λ n. ways_of n p)
    → WaysAdd (within prefix p) (fits_of (within prefix p)) (λ n. ways_of n (within prefix p))
unfolding fits_of fits_nowhere ways_of name_ways no_ways arguments_count arguments_of begins_name entity_text is_one_piece after in_N_and_E
within-add prefix p a b = record {
  at = each;
  before = λ typed m around allowed G arguments Q more. in-nested-template m around allowed (within prefix p) joined spelling G arguments Q
      (joins around allowed) more;
}
  where
    joined : Fitting
    joined around allowed place cs =
        (fits_of prefix).as_prefix around allowed place cs
        × (names_member p ≡ true)
        × Behind (ways_of around.encoding prefix).as_prefix ((fits_of p).as_piece (after prefix true around) allowed) place cs

    local_piece : Bool → Fitting
    local_piece may around allowed place cs =
        (is_encoding prefix ≡ true) × one_piece (behind prefix true) may (fits_of p).as_piece around allowed place cs

    begun_ : Fitting
    begun_ around allowed place cs = local_piece (begins_name p) around allowed place cs ⊎ joined around allowed place cs

    spelling : ℕ → Spelling
    spelling n = (ways_of n prefix).as_prefix and (ways_of n p).as_piece

    joins : (around : Around) (allowed : Option ℕ) → Adds 2 around.encoding (Inside (within prefix p)) (joined around allowed)
        (spelling around.encoding)
    joins around allowed place cs fits =
        let f : Written = (ways_of around.encoding prefix).as_prefix place cs in
        let one = (a.at fit.as_prefix) around allowed place cs fits.0 in
        fewer-added
        (both-added 1 (surplus p) 2 (omega (arith, surplus-some p)) one (b.at fit.as_piece (after prefix true around) allowed (place + length f.bytes) f.components fits.2))
        (λ x i. elim i [ inl w ↦ inl (prefix-whole prefix x (Inside prefix x) w) | inr j ↦ inr j ])

    pieces : (k : ℕ) (may : Bool) → (may ≡ true → k ≤ surplus p) → (around : Around) (allowed : Option ℕ)
        → Adds k around.encoding (Inside (within prefix p)) (local_piece may around allowed) (spelling around.encoding)
    pieces k may big around allowed place cs fits =
        let n : ℕ = around.encoding in
        let piece : Spelling = (ways_of n p).as_piece in
        let one = fewer-by (surplus p) k (big fits.1.1)
        (b.at fit.as_piece around allowed (place + 0) cs (at-none ((fits_of p).as_piece around allowed) place cs fits.1.2)) in
        subst (λ s. AddsParts k n (Inside (within prefix p)) cs ((s and piece) place cs)) (sym (encoding-prefix prefix n fits.0))
        (fewer-added one (λ x i. elim i [ inl w ↦ absurd (no-encoding-inside prefix x (Inside prefix x) fits.0 w) | inr j ↦ j ]))

    begins : (around : Around) (allowed : Option ℕ) → Adds 2 around.encoding (Inside (within prefix p)) (begun_ around allowed)
        (spelling around.encoding)
    begins around allowed place cs (inl one) = pieces 2 (begins_name p) (surplus-named begins_name refl p) around allowed place cs one
    begins around allowed place cs (inr other) = joins around allowed place cs other

    whole : (around : Around) (allowed : Option ℕ) → Adds 1 around.encoding (Whole (within prefix p)) (as_component (within prefix p)
        (behind_bytes (codes "N") joined) around allowed) (component around.encoding (within prefix p) (in_N_and_E []
        (spelling around.encoding)))
    whole around allowed =
        in-component around allowed (within prefix p) (behind_bytes (codes "N") joined) (in_N_and_E [] (spelling around.encoding))
        (λ place cs fits. nested-added 2 [] (joins around allowed (place + 1) cs fits))

    each : AddsAt (within prefix p) (fits_of (within prefix p)) (λ n. ways_of n (within prefix p))
    each fit.as_type = λ slot around allowed. component-at slot _ (λ x w. w) (whole around allowed) (whole around allowed)
    each fit.as_prefix = λ around allowed. in-component around allowed (within prefix p) begun_ (spelling around.encoding) (begins around allowed)
    each fit.as_prefix_template = λ around allowed. in-component around allowed (within prefix p) begun_ (spelling around.encoding)
        (begins around allowed)
    each fit.between = joins
    each fit.between_template = joins
    each fit.as_entity = λ role around allowed place cs fits. entity-adds (is_encoding prefix) 2 0 around.encoding (omega arith) (Inside (within prefix p))
        (letters_of role)
        (spelling around.encoding) place cs (elim fits [
          | inl one ↦ inl (one.1.0, pieces 0 (names_in role p) (λ _. omega arith) around allowed place cs one.1)
          | inr other ↦ inr (
            no-encoding prefix around allowed (place + length (codes "N" ++ letters_of role)) cs other.0,
            joins around allowed (place + length (codes "N" ++ letters_of role)) cs other,
          )
        ])
    each fit.as_entity_template = pieces 2 (begins_name p) (surplus-named begins_name refl p)
    each fit.as_name = λ q ref around allowed. nested-letters-add (name_letters q ref) around.encoding (Inside (within prefix p))
        (joined around allowed)
        (spelling around.encoding) (joins around allowed)
    each fit.as_argument = λ in_pack around allowed. whole around allowed
    each w = (nowhere-ways-add (within prefix p) (λ n. ways_of n (within prefix p))).at w

pub instance-add : (template arguments : Term) → WaysAdd template (fits_of template) (λ n. ways_of n template)
    → WaysAdd arguments (fits_of arguments) (λ n. ways_of n arguments)
    → WaysAdd (instance template arguments) (fits_of (instance template arguments)) (λ n. ways_of n (instance template arguments))
unfolding fits_of fits_nowhere ways_of name_ways no_ways entity_text inside arguments_count arguments_of
instance-add template arguments a b = record {
  at = each;
  before = λ typed m around allowed G more_arguments Q more. found-and-adds m around allowed own (λ n. text []) G nothing more_arguments Q more;
}
  where
    own : Term
    own = instance template arguments

    elements : Fitting
    elements around allowed place cs = (fits_of arguments).as_elements false (inside around) allowed (place + 1) cs

    listed : ℕ → Spelling
    listed n = text (codes "I") and (ways_of n arguments).as_elements and text (codes "E")

    elements-add : (around : Around) (allowed : Option ℕ)
        → Adds (count arguments + 2) around.encoding (Inside arguments) (elements around allowed) (listed around.encoding)
    elements-add around allowed place cs fits =
        after-bytes (count arguments + 1) (count arguments + 2) (codes "I") (omega arith) (before-bytes (count arguments) (count arguments + 1) (codes "E") (omega arith) (b.at fit.as_elements false (inside around) allowed (place + 1) cs fits))

    joined : Fitting
    joined around allowed place cs =
        (fits_of template).between_template around allowed place cs
        × Behind ((ways_of around.encoding template).between_N_and_E and ended around.encoding template) (elements around allowed) place cs

    spelling : ℕ → Spelling
    spelling n = (ways_of n template).between_N_and_E and ended n template and listed n

    joins : (around : Around) (allowed : Option ℕ) → Adds (count arguments + 2) around.encoding (Inside own) (joined around allowed) (spelling around.encoding)
    joins around allowed place cs fits =
        let n : ℕ = around.encoding in
        let between : Spelling = (ways_of n template).between_N_and_E in
        whole-adds (count arguments + 2) n template (Inside arguments) ((fits_of template).between_template around allowed) (elements around allowed) between
        (listed n)
        (a.at fit.between_template around allowed) (elements-add around allowed) place cs fits.0
        (behind-and between (ended n template) (elements around allowed) place cs fits.1)

    pieces : (around : Around) (allowed : Option ℕ) (place : ℕ) (cs : List Component)
        → (fits_of template).as_entity_template around allowed place cs
        → Behind ((ways_of around.encoding template).between_N_and_E and ended around.encoding template) (elements around allowed) place cs
        → AddsParts (count arguments + 2) around.encoding (Inside own) cs (spelling around.encoding place cs)
    pieces around allowed place cs fits more =
        let n : ℕ = around.encoding in
        let between : Spelling = (ways_of n template).between_N_and_E in
        whole-adds (count arguments + 2) n template (Inside arguments) ((fits_of template).as_entity_template around allowed)
        (elements around allowed) between (listed n)
        (a.at fit.as_entity_template around allowed) (elements-add around allowed) place cs fits
        (behind-and between (ended n template) (elements around allowed) place cs more)

    befores : (typed : Bool) (around : Around) (allowed : Option ℕ)
        → Adds (count arguments + 2) around.encoding (Inside own) ((fits_of template).before typed elements around allowed)
        ((ways_of around.encoding template).before typed (listed around.encoding))
    befores typed around allowed =
        a.before typed (count arguments + 2) around allowed elements (listed around.encoding) (Inside arguments) (elements-add around allowed)

    prefixed : Fitting
    prefixed around allowed place cs =
        (fits_of template).as_prefix_template around allowed place cs
        × Behind (ways_of around.encoding template).as_prefix (elements around allowed) place cs

    prefixes : (around : Around) (allowed : Option ℕ) → Adds (count arguments + 2) around.encoding (Inside own) (prefixed around allowed)
        ((ways_of around.encoding template).as_prefix and listed around.encoding)
    prefixes around allowed place cs fits =
        and-adds 1 (count arguments + 2) (count arguments + 2) (omega arith) (a.at fit.as_prefix_template around allowed)
        (elements-add around allowed) place cs (fits.0, fits.1)

    whole : (around : Around) (allowed : Option ℕ) → Adds 1 around.encoding (Whole own) (as_component own
        ((fits_of template).before true elements)
        around allowed) (component around.encoding own ((ways_of around.encoding template).before true (listed around.encoding)))
    whole around allowed = in-component around allowed own ((fits_of template).before true elements)
        ((ways_of around.encoding template).before true (listed around.encoding))
        (λ place cs fits. fewer-by (count arguments + 2) 2 (omega arith) (befores true around allowed place cs fits))

    each : AddsAt (instance template arguments) (fits_of (instance template arguments)) (λ n. ways_of n (instance template arguments))
    each fit.as_type = λ slot around allowed. component-at slot _ (λ x w. w) (whole around allowed) (whole around allowed)
    each fit.as_prefix = λ around allowed. in-component around allowed own prefixed
        ((ways_of around.encoding template).as_prefix and listed around.encoding)
        (λ place cs fits. fewer-by (count arguments + 2) 2 (omega arith) (prefixes around allowed place cs fits))
    each fit.as_prefix_template = λ around allowed. reference-adds around allowed own
        ((ways_of around.encoding template).as_prefix and listed around.encoding)
    each fit.between = λ around allowed place cs fits. fewer-by (count arguments + 2) 2 (omega arith) (joins around allowed place cs fits)
    each fit.as_entity = λ role around allowed place cs fits. entity-adds (is_one_piece own) (count arguments + 2) (count arguments) around.encoding (omega arith) (Inside own) (letters_of role)
        (spelling around.encoding) place cs (elim fits [
          | inl one ↦ inl (
            true_from_ne_false (is_one_piece own) (one-piece-is template arguments around allowed place cs one.1),
            fewer-by (count arguments + 2) (count arguments) (omega arith) (pieces around allowed place cs one.1 one.2),
          )
          | inr other ↦ inr (
            not-one-piece template arguments around allowed (place + length (codes "N" ++ letters_of role)) cs other.0,
            joins around allowed (place + length (codes "N" ++ letters_of role)) cs other,
          )
        ])
    each fit.as_name = λ q ref around allowed. letters-add (count arguments + 2) (count arguments) (omega arith) (name_letters q ref) around.encoding (Inside own) around allowed
        ((fits_of template).before false elements) joined ((ways_of around.encoding template).before false (listed around.encoding))
        (spelling around.encoding) (befores false around allowed) (joins around allowed)
    each fit.as_argument = λ in_pack around allowed. whole around allowed
    each w = (nowhere-ways-add (instance template arguments) (λ n. ways_of n (instance template arguments))).at w

-- a name with a tag can only be a reference
pub tagged-add : (of_structor : Bool) (name : Term) (tag : List ℕ)
    → WaysAdd (tagged of_structor name tag) (fits_of (tagged of_structor name tag)) (λ n. ways_of n (tagged of_structor name tag))
unfolding ways_of name_ways no_ways fits_of type_fits fits_nowhere
tagged-add of_structor name tag = record {
  at = each;
  before = λ typed m around allowed G arguments Q more. found-template-adds m around allowed own (λ n. text []) G (is_nested (without_tags name))
      ((ways_of around.encoding name).between_N_and_E and text (codes "B" ++ counted tag)) arguments Q more;
}
  where
    own : Term
    own = tagged of_structor name tag

    each : AddsAt own (fits_of own) (λ n. ways_of n own)
    each fit.as_type = λ slot around allowed. component-at slot _ (λ x w. w) (reference-adds around allowed own _) (reference-adds around allowed own _)
    each fit.as_prefix = λ around allowed. reference-adds around allowed own _
    each fit.as_prefix_template = λ around allowed. reference-adds around allowed own _
    each fit.as_argument = λ in_pack around allowed. reference-adds around allowed own _
    each w = (nowhere-ways-add own (λ n. ways_of n own)).at w

pub local-add : (e entity : Term) (discriminator : Option (List ℕ)) → WaysAdd e (fits_of e) (λ n. ways_of n e)
    → WaysAdd entity (fits_of entity) (λ n. ways_of n entity)
    → WaysAdd (local e entity discriminator) (fits_of (local e entity discriminator)) (λ n. ways_of n (local e entity discriminator))
unfolding fits_of fits_nowhere type_fits ways_of type_ways no_ways local_text after letters_of arguments_count arguments_of
local-add e entity discriminator a b = record {
  at = each;
  before = λ typed m around allowed G arguments Q more. found-and-adds m around allowed own (λ n. text []) G
      (spelling in_type around.encoding) arguments Q
      more;
}
  where
    own : Term
    own = local e entity discriminator

    spelled : Role → Fitting
    spelled role around allowed place cs =
        (fits_of e).as_encoding allowed (place + 1) cs
        × Behind (text (codes "Z") and (ways_of around.encoding e).as_encoding and text (codes "E"))
        ((fits_of entity).as_entity role (after e true around) allowed) place cs
        × IsSpellableDiscriminator discriminator

    spelling : Role → ℕ → Spelling
    spelling role n = local_text (ways_of n e).as_encoding entity (ways_of n entity).between_N_and_E discriminator (letters_of role)

    spelled-adds : (k : ℕ) (role : Role) → k ≤ arguments_count entity + 2 → (around : Around) (allowed : Option ℕ)
        → Adds k around.encoding (Inside own) (spelled role around allowed) (spelling role around.encoding)
    spelled-adds k role le around allowed place cs fits =
        let n : ℕ = around.encoding in
        let scope : Spelling = (ways_of n e).as_encoding in
        let f : Written = scope (place + 1) cs in
        let inner : Around = after e true around in
        let G : Standing = (fits_of entity).as_entity role inner allowed in
        let later : ℕ = place + 1 + length f.bytes + 1 in
        let c : ℕ = arguments_count entity in
        let behind_ : G later f.components = behind-and scope (text (codes "E")) G (place + 1) cs
        (behind-and (text (codes "Z")) (scope and text (codes "E")) G place cs fits.1) in
        let other = b.at fit.as_entity role inner allowed later f.components behind_ in
        fewer-added (after-bytes (c + 1) k (codes "Z") (omega (arith, le)) (both-added 0 (c + 1) (c + 1) (omega arith)
        (a.at fit.as_encoding allowed n n (place + 1) cs fits.0)
        (after-bytes c (c + 1) (codes "E") (omega arith) (before-bytes c c (discriminator_text discriminator) (omega arith) other))))
        (λ x i. elim i [ inl s ↦ inl s.1 | inr j ↦ inr j ])

    whole : (around : Around) (allowed : Option ℕ) → Adds 1 around.encoding (Whole own) (as_component own (spelled in_type) around allowed)
        (component around.encoding own (spelling in_type around.encoding))
    whole around allowed = in-component around allowed own (spelled in_type) (spelling in_type around.encoding)
        (spelled-adds 2 in_type (omega arith) around allowed)

    component-slots : (slot : Slot) (around : Around) (allowed : Option ℕ) → Adds 1 around.encoding (AtSlot slot own)
        (as_component own (spelled in_type) around allowed) (way_at slot (ways_of around.encoding own))
    component-slots slot around allowed = component-at slot _ (λ x w. w) (whole around allowed) (whole around allowed)

    each : AddsAt (local e entity discriminator) (fits_of (local e entity discriminator)) (λ n. ways_of n (local e entity discriminator))
    each fit.as_type = λ slot around allowed. component-slots slot around allowed
    each fit.as_prefix = λ around allowed. reference-adds around allowed own (spelling in_type around.encoding)
    each fit.as_prefix_template = λ around allowed. reference-adds around allowed own (spelling in_type around.encoding)
    each fit.as_name = λ q ref around allowed. spelled-adds (arguments_count entity) (in_name_with q ref) (omega arith) around allowed
    each fit.as_argument = λ in_pack around allowed. whole around allowed
    each w = (nowhere-ways-add (local e entity discriminator) (λ n. ways_of n (local e entity discriminator))).at w
