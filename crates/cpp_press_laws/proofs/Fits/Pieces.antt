-- A name of one piece that was read fits: alone, or in the scope of an encoding.
use Rattle.cpp_press_laws.proofs.Basics.{◌≤◌, ◌≡◌, ℕ, inl, inr, List, [], ◌∷◌, Bool, true, false, refl, ap, sym, subst, ◌∙◌, ◌and◌, Qualifiers, RefQualifier, Term, alone, within, instance, is_open, pack_length, State, outermost, behind, Around, appended, name_letters, Spelling, no_ways, name_ways, in_N_and_E, with_letters, is_encoding, is_one_piece, entity_text, ways_of, Fitting, Slot, Role, letters_of, IsWithoutLetters, one_piece, begins_name, names_type, names_function, names_in, by_letters, fits_of}
use Rattle.cpp_press_laws.proofs.Components.Encodings.{encoding-prefix, encoding-shut}
use Rattle.cpp_press_laws.proofs.Components.Parts.{Whole}
use Rattle.cpp_press_laws.proofs.Components.KnownTrees.{keeps}
use Rattle.cpp_press_laws.proofs.Fitting as fit
use Rattle.cpp_press_laws.proofs.Ways as way
use Rattle.cpp_press_laws.proofs.Components.AddedWays.{fewer-by, in-component, surplus}
use Rattle.cpp_press_laws.proofs.Components.AddedNames.{either-named}
use Rattle.cpp_press_laws.proofs.Components.AddedTrees.{adds}
use Rattle.cpp_press_laws.proofs.Fits.Read.{pressed_at, Fitted, refitted, component-fitted, fitted-as}
use Rattle.cpp_press_laws.proofs.Fits.Types.{TypeFits, typed-complete, may-as, may-as-two, may-closed}
use Rattle.cpp_press_laws.proofs.Fits.Names.{respelled, PrefixFits, TemplatePrefixFits, PieceFits, ElementsFit, arguments_standing, arguments_text, prefix-component}
use Rattle.cpp_press_laws.proofs.Fits.Templates.{template-fitted, spelled-before, nothing-and}
use Rattle.cpp_press_laws.proofs.Fits.Nests.{OwnNameFits, EntityFits}

-- ## A piece alone

-- a piece that fits also fits as a name of its own
alone-piece : (around : Around) (p : Term) (old now : State) → PieceFits around p old now
    → Fitted around (fits_of p).as_piece (λ n. (ways_of n p).as_piece) (alone p) old now
unfolding is_open pack_length
alone-piece around p old now one =
    fitted-as one (λ n allowed may. may-as (pressed_at n around) allowed p (alone p) refl (λ arguments. refl) may)

-- a piece alone as a type's name
pub alone-typed : (around : Around) (p : Term) (slot : Slot) (old now : State) → around.prefix ≡ outermost → names_type p ≡ true
    → PieceFits around p old now → TypeFits around slot (alone p) old (appended around (alone p) now)
unfolding fits_of ways_of name_ways no_ways
alone-typed around p slot old now outer names one =
    component-fitted (refitted (alone-piece around p old now one) (λ n allowed place cs fits. (outer, names, fits))) tt
    (λ n. (keeps p Unit n (Whole (alone p)) way.as_piece) (λ x i. inr i))
    (λ n allowed place cs fits. tt) (λ n. typed-complete (alone p) (λ m. refl) slot (pressed_at n around))

-- a piece alone as an encoding's own name, which has no letters
pub alone-own : (around : Around) (p : Term) (q : Qualifiers) (ref : RefQualifier) (old now : State) → around.prefix ≡ outermost
    → names_function p ≡ true → name_letters q ref ≡ [] → PieceFits around p old now → OwnNameFits around (alone p) q ref old now
unfolding fits_of ways_of name_ways no_ways with_letters
alone-own around p q ref old now outer names none one =
    respelled (refitted (alone-piece around p old now one)
    (λ n allowed place cs fits. (subst IsWithoutLetters (sym none) tt, (outer, names, fits))))
    (λ n place cs. sym (ap (λ letters. with_letters letters (ways_of n p).as_piece (ways_of n p).as_piece place cs)
    none))

pub alone-prefix-template : (around : Around) (p : Term) (old now : State) → around.prefix ≡ outermost → begins_name p ≡ true
    → PieceFits around p old now → TemplatePrefixFits around (alone p) old (appended around (alone p) now)
unfolding fits_of ways_of name_ways no_ways
alone-prefix-template around p old now outer begins one =
    prefix-component (alone-piece around p old now one) tt tt (λ n allowed place cs fits. (outer, begins, fits))
    (λ n allowed place cs fits. ((adds (alone p)).at fit.as_prefix_template (pressed_at n around) allowed place cs fits).complete)

-- a piece alone before arguments, in a type or in an encoding's own name
pub alone-before : (around : Around) (p a : Term) (typed : Bool) (old mid now : State) → around.prefix ≡ outermost
    → (elim typed as (λ _. Bool) [ true ↦ names_type p | false ↦ names_function p ]) ≡ true
    → PieceFits around p old mid → ElementsFit around a (appended around (alone p) mid) now
    → Fitted around ((fits_of (alone p)).before typed (arguments_standing a)) (λ n. (ways_of n (alone p)).before typed (arguments_text a n))
    (instance (alone p) a) old now
unfolding fits_of ways_of name_ways no_ways
alone-before around p a typed old mid now outer names one other =
    let own : Term = alone p in
    let may : Bool = elim typed as (λ _. Bool) [ true ↦ names_type p | false ↦ names_function p ] in
    let H : Fitting = one_piece outermost may (fits_of p).as_piece in
    let s : ℕ → Spelling = λ n. (ways_of n p).as_piece in
    let spelled : Fitted around H s own old mid = refitted (alone-piece around p old mid one) (λ n allowed place cs fits. (outer, names, fits)) in
    let more : 2 ≤ surplus p = either-named typed p names in
    template-fitted around own a false H H s s s old mid now
    (component-fitted spelled tt (λ n. (keeps p Unit n (Whole own) way.as_piece) (λ x i. inr i)) (λ n allowed place cs fits. tt)
    (λ n allowed place cs fits. (in-component (pressed_at n around) allowed own H (s n)
    (λ at ds piece. fewer-by (surplus p) 2 more ((adds p).at fit.as_piece (pressed_at n around) allowed at ds piece.2)) place cs fits).complete))
    (spelled-before spelled other tt tt (λ n allowed place cs fits. (adds p).at fit.as_piece (pressed_at n around) allowed place cs fits.2)) other

-- a piece alone with arguments, as an encoding's own name
pub alone-instance-own : (around : Around) (p a : Term) (q : Qualifiers) (ref : RefQualifier) (old mid now : State) → around.prefix ≡ outermost
    → names_function p ≡ true → name_letters q ref ≡ [] → PieceFits around p old mid → ElementsFit around a (appended around (alone p) mid) now
    → OwnNameFits around (instance (alone p) a) q ref old now
unfolding fits_of ways_of name_ways no_ways by_letters with_letters
alone-instance-own around p a q ref old mid now outer names none one other = by (name_letters q ref) none
  where
    own : Term
    own = instance (alone p) a

    elements : Fitting
    elements = arguments_standing a

    by : (letters : List ℕ) → letters ≡ [] → Fitted around (by_letters letters ((fits_of (alone p)).before false elements) (fits_of own).between)
        (λ n. with_letters letters ((ways_of n (alone p)).before false (arguments_text a n)) (ways_of n own).between_N_and_E) own old now
    by [] same = alone-before around p a false old mid now outer names one other
    by (l ∷ ls) same = absurd cc

-- ## A piece in the scope of an encoding

-- the spelling of a piece in the scope of an encoding is that of the piece
local-piece : (around : Around) (e p : Term) (old now : State) → is_encoding e ≡ true → PieceFits around p old now
    → Fitted around (fits_of p).as_piece (λ n. (ways_of n (within e p)).between_N_and_E) (within e p) old now
unfolding ways_of name_ways no_ways is_open pack_length
local-piece around e p old now is one =
    let r : ℕ → Spelling = λ n. (ways_of n p).as_piece in
    respelled (fitted-as one (λ n allowed may. may-as-two (pressed_at n around) allowed e p (within e p) refl
    (λ arguments. refl)
    (may-closed (pressed_at n around) allowed e (encoding-shut e is)) may))
    (λ n place cs. sym (ap (λ s. (s and r n) place cs) (encoding-prefix e n is) ∙ nothing-and (r n) place cs))

-- a piece in the scope of an encoding as a prefix, and before arguments that end a prefix
pub local-prefix : (around : Around) (e p : Term) (old now : State) → is_encoding e ≡ true → around.prefix ≡ behind e true → begins_name p ≡ true
    → PieceFits around p old now → PrefixFits around (within e p) old (appended around (within e p) now)
unfolding fits_of ways_of name_ways no_ways
local-prefix around e p old now is scoped begins one =
    prefix-component (local-piece around e p old now is one) tt tt
    (λ n allowed place cs fits. inl (is, (scoped, begins, fits)))
    (λ n allowed place cs fits. ((adds (within e p)).at fit.as_prefix (pressed_at n around) allowed place cs fits).complete)

pub local-prefix-template : (around : Around) (e p : Term) (old now : State) → is_encoding e ≡ true → around.prefix ≡ behind e true
    → begins_name p ≡ true → PieceFits around p old now → TemplatePrefixFits around (within e p) old (appended around (within e p) now)
unfolding fits_of ways_of name_ways no_ways
local-prefix-template around e p old now is scoped begins one =
    prefix-component (local-piece around e p old now is one) tt tt
    (λ n allowed place cs fits. inl (is, (scoped, begins, fits)))
    (λ n allowed place cs fits. ((adds (within e p)).at fit.as_prefix_template (pressed_at n around) allowed place cs fits).complete)

-- an entity of one piece
pub local-entity : (around : Around) (e p : Term) (role : Role) (old now : State) → is_encoding e ≡ true → around.prefix ≡ behind e true
    → names_in role p ≡ true → letters_of role ≡ [] → PieceFits around p old now → EntityFits around (within e p) role old now
unfolding fits_of entity_text is_one_piece
local-entity around e p role old now is scoped names none one =
    let s : ℕ → Spelling = λ n. (ways_of n (within e p)).between_N_and_E in
    respelled (refitted (local-piece around e p old now is one)
    (λ n allowed place cs fits. inl (subst IsWithoutLetters (sym none) tt, (is, (scoped, names, fits)))))
    (λ n place cs. sym
    (ap (λ b. (elim b as (λ _. Spelling) [ true ↦ s n | false ↦ in_N_and_E (letters_of role) (s n) ]) place cs) is))

-- an entity of one piece with arguments
pub local-instance-entity : (around : Around) (e p a : Term) (role : Role) (old mid now : State) → is_encoding e ≡ true
    → around.prefix ≡ behind e true → begins_name p ≡ true → letters_of role ≡ [] → PieceFits around p old mid
    → ElementsFit around a (appended around (within e p) mid) now → EntityFits around (instance (within e p) a) role old now
unfolding fits_of ways_of name_ways no_ways entity_text is_one_piece
local-instance-entity around e p a role old mid now is scoped begins none one other =
    let own : Term = within e p in
    let whole : Term = instance own a in
    let s : ℕ → Spelling = λ n. (ways_of n whole).between_N_and_E in
    let piece : Fitted around (fits_of own).as_entity_template (λ n. (ways_of n own).between_N_and_E) own old mid =
    refitted (local-piece around e p old mid is one) (λ n allowed place cs fits. (is, (scoped, begins, fits))) in
    respelled (refitted (spelled-before piece other tt tt
    (λ n. (adds own).at fit.as_entity_template (pressed_at n around)))
    (λ n allowed place cs fits. inl (subst IsWithoutLetters (sym none) tt, fits.0, fits.1))) (λ n place cs. sym
    (ap (λ b. (elim b as (λ _. Spelling) [ true ↦ s n | false ↦ in_N_and_E (letters_of role) (s n) ]) place cs) is))
