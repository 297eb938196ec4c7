-- Template names and their arguments, by how the names compare with the components before them.
use Rattle.cpp_spelling.proofs.Basics.{◌≡◌, ℕ, List, [], Bool, true, false, Some, None, ap, sym, ◌∙◌, codes, ◌&&◌, ◌++◌, ◌and◌, text, nothing, and-assoc, nothing-and, Term, alone, in_std, within, instance, tagged, without_tags, counted, Component, Spelling, first_equal, component, spelled_out, referred, reference, ended, ways_of, no_ways, type_ways, name_ways, piece_ways, argument_ways, encoding_ways, in_N_and_E, template_before, is_operator, is_nested, is_name, ◌onto◌, written, in_way, before, bracketed, ending, arguments_onto, needs_N, is_instance, template_onto}
use Rattle.cpp_spelling.proofs.Ways.{under, three, arguments-is}

true-false : true ≡ false → ⊥
true-false bad = cc

referred-known : (n : ℕ) (t : Term) (a other r : Spelling) (k p : ℕ) (cs : List Component) → first_equal n t 0 cs ≡ Some k → (referred n t a other and r) p cs ≡ ((reference k and a) and r) p cs
unfolding referred
referred-known n t a other r k p cs some =
    ap (λ o. ((λ (q : ℕ) (ds : List Component). elim o as (λ _. _) [ Some k ↦ (reference k and a) q ds | None ↦ other q ds ]) and r) p cs) some

referred-fresh : (n : ℕ) (t : Term) (a other r : Spelling) (p : ℕ) (cs : List Component) → first_equal n t 0 cs ≡ None → (referred n t a other and r) p cs ≡ (other and r) p cs
unfolding referred
referred-fresh n t a other r p cs none =
    ap (λ o. ((λ (q : ℕ) (ds : List Component). elim o as (λ _. _) [ Some k ↦ (reference k and a) q ds | None ↦ other q ds ]) and r) p cs) none

abbrev behind : (n : ℕ) → Term → Spelling
behind n a = text (codes "I") and ((ways_of n a).as_elements and text (codes "E"))

named-known : (n : ℕ) (t a : Term) (other r : Spelling) (k p : ℕ) (cs : List Component) → first_equal n t 0 cs ≡ Some k
    → (referred n t (behind n a) other and r) p cs ≡ (reference k and arguments_onto n a r) p cs
named-known n t a other r k p cs some =
    referred-known n t (behind n a) other r k p cs some
    ∙ ap {A = Spelling} (λ (f : Spelling). f p cs) (and-assoc (reference k) (behind n a) r ∙ under (reference k) (arguments-is n a r))

part-known : (n : ℕ) (t : Term) (more r : Spelling) (k p : ℕ) (cs : List Component) → first_equal n t 0 cs ≡ Some k → ((component n t nothing and more) and r) p cs ≡ ((reference k and more) and r) p cs
unfolding component
part-known n t more r k p cs some =
    ap (λ o. (((λ (q : ℕ) (ds : List Component). elim o as (λ _. _) [ Some k ↦ reference k q ds | None ↦ spelled_out n t nothing q ds ]) and more) and r) p cs) some

part-fresh : (n : ℕ) (t : Term) (more r : Spelling) (p : ℕ) (cs : List Component) → first_equal n t 0 cs ≡ None → ((component n t nothing and more) and r) p cs ≡ (((nothing and ended n t) and more) and r) p cs
unfolding component spelled_out
part-fresh n t more r p cs none =
    ap (λ o. (((λ (q : ℕ) (ds : List Component). elim o as (λ _. _) [ Some k ↦ reference k q ds | None ↦ (nothing and ended n t) q ds ]) and more) and r) p cs) none

pub known-template : (n : ℕ) (b : Bool) (t a : Term) (r : Spelling) (k p : ℕ) (cs : List Component) → is_name t ≡ true → first_equal n t 0 cs ≡ Some k
    → (before n b t a and r) p cs ≡ (reference k and arguments_onto n a r) p cs
unfolding ways_of no_ways type_ways name_ways piece_ways argument_ways encoding_ways template_before is_name before bracketed ◌onto◌ written in_way
known-template n b (alone q) a r k p cs is some = named-known n (alone q) a _ r k p cs some
known-template n b (in_std q) a r k p cs is some = named-known n (in_std q) a _ r k p cs some
known-template n b (within x q) a r k p cs is some = named-known n (within x q) a _ r k p cs some
known-template n b (instance t x) a r k p cs is some =
    part-known n (instance t x) (behind n a) r k p cs some
    ∙ ap {A = Spelling} (λ (f : Spelling). f p cs) (and-assoc (reference k) (behind n a) r ∙ under (reference k) (arguments-is n a r))
known-template n b (tagged of_structor name tag) a r k p cs is some = named-known n (tagged of_structor name tag) a _ r k p cs some
known-template n b _ a r k p cs is some = absurd (true-false (sym is))

-- a name that is spelled out, and the end of its component
whole-is : (n : ℕ) (t a : Term) (s r : Spelling) → ◌≡◌ {A = Spelling} ((s and (ended n t and behind n a)) and r) (s and (ended n t and arguments_onto n a r))
whole-is n t a s r = three s (ended n t) (behind n a) r ∙ under s (under (ended n t) (arguments-is n a r))

nested-whole : (n : ℕ) (t a : Term) (s r : Spelling)
    → ◌≡◌ {A = Spelling} (in_N_and_E [] (s and (ended n t and behind n a)) and r) (text (codes "N") and (s and (ended n t and arguments_onto n a (text (codes "E") and r))))
unfolding in_N_and_E
nested-whole n t a s r =
    three (text (codes "N")) (s and (ended n t and behind n a)) (text (codes "E")) r ∙ under (text (codes "N")) (whole-is n t a s (text (codes "E") and r))

std-whole : (n : ℕ) (t a : Term) (s r : Spelling) (b : Bool)
    → ◌≡◌ {A = Spelling} ((elim b as (λ _. Spelling) [ true ↦ in_N_and_E [] (s and (ended n t and behind n a)) | false ↦ s and (ended n t and behind n a) ]) and r)
    (elim b as (λ _. Spelling) [ true ↦ text (codes "N") and (s and (ended n t and arguments_onto n a (text (codes "E") and r))) | false ↦ s and (ended n t and arguments_onto n a r) ])
std-whole n t a s r true = nested-whole n t a s r
std-whole n t a s r false = whole-is n t a s r

pub fresh-template : (n : ℕ) (b : Bool) (t a : Term) (r : Spelling) (p : ℕ) (cs : List Component) → is_name t ≡ true → first_equal n t 0 cs ≡ None
    → (before n b t a and r) p cs ≡ (template_onto n b t a r) p cs
unfolding ways_of no_ways type_ways name_ways piece_ways argument_ways encoding_ways template_before is_name before bracketed needs_N is_instance template_onto ◌onto◌ written in_way ending
fresh-template n b (alone q) a r p cs is none =
    referred-fresh n (alone q) (behind n a) _ r p cs none ∙ ap {A = Spelling} (λ (f : Spelling). f p cs) (whole-is n (alone q) a (ways_of n q).as_piece r)
fresh-template n b (in_std q) a r p cs is none =
    referred-fresh n (in_std q) (behind n a) _ r p cs none
    ∙ ap {A = Spelling} (λ (f : Spelling). f p cs) (std-whole n (in_std q) a (text (codes "St") and (ways_of n q).as_piece) r (b && is_operator q))
fresh-template n b (within x q) a r p cs is none =
    referred-fresh n (within x q) (behind n a) _ r p cs none
    ∙ ap {A = Spelling} (λ (f : Spelling). f p cs) (nested-whole n (within x q) a ((ways_of n x).as_prefix and (ways_of n q).as_piece) r)
fresh-template n b (instance t x) a r p cs is none =
    part-fresh n (instance t x) (behind n a) r p cs none
    ∙ ap {A = Spelling} (λ (f : Spelling). f p cs) (
    ap {A = Spelling} {B = Spelling} (λ (f : Spelling). (f and behind n a) and r) (nothing-and (ended n (instance t x)))
    ∙ and-assoc (ended n (instance t x)) (behind n a) r ∙ under (ended n (instance t x)) (arguments-is n a r))
fresh-template n b (tagged of_structor name tag) a r p cs is none =
    referred-fresh n (tagged of_structor name tag) (behind n a) _ r p cs none
    ∙ ap {A = Spelling} (λ (f : Spelling). f p cs)
    (std-whole n (tagged of_structor name tag) a ((ways_of n name).between_N_and_E and text (codes "B" ++ counted tag)) r (is_nested (without_tags name)))
fresh-template n b _ a r p cs is none = absurd (true-false (sym is))
