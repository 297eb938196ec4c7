-- Each spelling keeps the components before it.
use Rattle.cpp_press_laws.proofs.Basics.{◌≡◌, ℕ, suc, ◌+◌, ◌≤◌, inl, inr, length, List, [], ◌∷◌, ◌++◌, Option, Some, None, Bool, true, false, refl, ap, sym, subst, ◌∙◌, arith, length-append, codes, ◌and◌, text, Term, local, list, absent, discriminator_text, Component, Spelling, reference, first_equal, ended, spelled_out, referred, component, Ways, in_N_and_E, is_one_piece, entity_text, local_text, ways_of, Marked, unmarked, IsTemplateBehindLetters, IsNeverReferred, Written}
use Rattle.cpp_press_laws.specs.MarkedComponents as marks
use Rattle.cpp_press_laws.proofs.Ways as way
use Rattle.cpp_press_laws.proofs.Components.Growing.{size, unmarked-append, Grows, more-grows, front, back}
use Rattle.cpp_press_laws.proofs.Components.Apart.{ways-grow}

-- ## Spellings

pub record Keeps (spelling : Spelling) : Type 0 where
  pub kept : (place : ℕ) (cs : List Component) → length cs ≤ length (spelling place cs).components

pub keeps-text : (bytes : List ℕ) → Keeps (text bytes)
keeps-text bytes = record { kept = λ place cs. omega arith }

pub keeps-and : (first rest : Spelling) → Keeps first → Keeps rest → Keeps (first and rest)
keeps-and first rest one more = record {
  kept = λ place cs.
      let f : Written = first place cs in omega (arith, one.kept place cs, more.kept (place + length f.bytes) f.components);
}

pub keeps-ended : (n : ℕ) (own : Term) → Keeps (ended n own)
unfolding ended
keeps-ended n own = record { kept = λ place cs. omega (arith, length-append cs (record { tree = own; encoding = n } ∷ [])) }

pub keeps-component : (n : ℕ) (own : Term) (spelling : Spelling) → Keeps spelling → Keeps (component n own spelling)
unfolding component reference spelled_out ended
keeps-component n own spelling one = record { kept = λ place cs. go place cs (first_equal n own 0 cs) }
  where
    go : (place : ℕ) (cs : List Component) (o : Option ℕ) → length cs ≤ length (elim o as (λ _. Written) [
      | Some number ↦ reference number place cs
      | None ↦ spelled_out n own spelling place cs
    ]).components
    go place cs (Some number) = omega arith
    go place cs None = omega (
      arith,
      one.kept place cs,
      length-append (spelling place cs).components
          (record { tree = own; encoding = n } ∷ []),
    )

pub keeps-referred : (n : ℕ) (own : Term) (behind other : Spelling) → Keeps behind → Keeps other → Keeps (referred n own behind other)
unfolding referred reference
keeps-referred n own behind other one two = record { kept = λ place cs. go place cs (first_equal n own 0 cs) }
  where
    go : (place : ℕ) (cs : List Component) (o : Option ℕ) → length cs ≤ length (elim o as (λ _. Written) [
      | Some number ↦ (reference number and behind) place cs
      | None ↦ other place cs
    ]).components
    go place cs (Some number) = (keeps-and (reference number) behind (keeps-text _) one).kept place cs
    go place cs None = two.kept place cs

pub keeps-N-and-E : (letters : List ℕ) (name : Spelling) → Keeps name → Keeps (in_N_and_E letters name)
unfolding in_N_and_E
keeps-N-and-E letters name one =
    keeps-and (text (codes "N" ++ letters)) (name and text (codes "E")) (keeps-text _) (keeps-and name (text (codes "E")) one (keeps-text _))

-- bytes before a spelling, and bytes after it
pub keeps-front : (bytes : List ℕ) (spelling : Spelling) → Keeps spelling → Keeps (text bytes and spelling)
keeps-front bytes spelling one = keeps-and (text bytes) spelling (keeps-text bytes) one

pub keeps-behind : (spelling : Spelling) (bytes : List ℕ) → Keeps spelling → Keeps (spelling and text bytes)
keeps-behind spelling bytes one = keeps-and spelling (text bytes) one (keeps-text bytes)

-- one of two spellings
abbrev pub choice : Bool → (f g : Spelling) → Spelling
choice b f g = elim b as (λ _. Spelling) [ true ↦ f | false ↦ g ]

pub keeps-choice : (b : Bool) (f g : Spelling) → Keeps f → Keeps g → Keeps (choice b f g)
keeps-choice true f g one two = one
keeps-choice false f g one two = two

pub keeps-local : (around : Spelling) (entity : Term) (between : Spelling) (discriminator : Option (List ℕ)) (letters : List ℕ)
    → Keeps around → Keeps between → Keeps (local_text around entity between discriminator letters)
unfolding local_text entity_text
keeps-local around entity between discriminator letters one two =
    let name : Spelling = choice (is_one_piece entity) between (in_N_and_E letters between) in
    keeps-front (codes "Z") (around and text (codes "E") and name and text (discriminator_text discriminator))
    (keeps-and around (text (codes "E") and name and text (discriminator_text discriminator)) one
    (keeps-front (codes "E") (name and text (discriminator_text discriminator))
    (keeps-behind name (discriminator_text discriminator)
    (keeps-choice (is_one_piece entity) between (in_N_and_E letters between) two (keeps-N-and-E letters between two)))))

-- ## The ways of a tree

-- components, each with a mark
abbrev marked_as : List Component → List Marked
marked_as [] = []
marked_as (c ∷ cs) = record { component = c; was_compared = true } ∷ marked_as cs

without_marks : (cs : List Component) → unmarked (marked_as cs) ≡ cs
without_marks [] = refl
without_marks (c ∷ cs) = ap (λ l. c ∷ l) (without_marks cs)

-- a spelling that adds components keeps those before it
grown_keeps : {whole : Term} {m : ℕ} {spelling : marks.Spelling} {plain : Spelling} → Grows whole m spelling plain → Keeps plain
grown_keeps {plain = plain} one = record {
  kept = λ place cs. subst (λ l. length l ≤ length (plain place l).components) (without_marks cs) (still place (marked_as cs));
}
  where
    still : (place : ℕ) (cs : List Marked) → length (unmarked cs) ≤ length (plain place (unmarked cs)).components
    still place cs =
        let a = one.adds place cs in
        let all : unmarked cs ++ unmarked a.added ≡ (plain place (unmarked cs)).components =
        sym (unmarked-append cs a.added) ∙ ap unmarked (sym a.split) ∙ a.same in
        subst (λ l. length (unmarked cs) ≤ length l) all (omega (arith, length-append (unmarked cs) (unmarked a.added)))

-- a tree around the name `t` in which no template name that ends `t` is ever referred to
abbrev around_it : Term → Term
around_it t = local absent t None

behind_letters : (t : Term) (letters : List ℕ) (x : Term) → IsTemplateBehindLetters x t letters → IsNeverReferred x (around_it t)
behind_letters t (l ∷ ls) x is = inl is
behind_letters t [] x is = absurd is

pub record KeepsAll (w : Ways) : Type 0 where
  pub as_type : Keeps w.as_type
  pub under_qualifiers : Keeps w.under_qualifiers
  pub as_prefix : Keeps w.as_prefix
  pub between_N_and_E : Keeps w.between_N_and_E
  pub as_piece : Keeps w.as_piece
  pub as_encoding : Keeps w.as_encoding
  pub as_name : (letters : List ℕ) → Keeps (w.as_name letters)
  pub as_argument : Keeps w.as_argument
  pub as_parameters : Keeps w.as_parameters
  pub as_more_parameters : Keeps w.as_more_parameters
  pub as_elements : Keeps w.as_elements

-- each way of each tree keeps the components before it
pub keeps : (t : Term) (n : ℕ) → KeepsAll (ways_of n t)
keeps t n =
    let w = ways-grow (around_it t) t (λ x is. inr (inr is)) n in record {
      as_type = grown_keeps (w way.as_type);
      under_qualifiers = grown_keeps (w way.under_qualifiers);
      as_prefix = grown_keeps (w way.as_prefix);
      between_N_and_E = grown_keeps (w way.between_N_and_E (λ x is. inl is));
      as_piece = grown_keeps (w way.as_piece);
      as_encoding = grown_keeps (w way.as_encoding);
      as_name = λ letters. grown_keeps (w way.as_name letters (behind_letters t letters));
      as_argument = grown_keeps (w way.as_argument);
      as_parameters = grown_keeps (w way.as_parameters);
      as_more_parameters = grown_keeps (w way.as_more_parameters);
      as_elements = grown_keeps (w way.as_elements);
    }

-- a template name with the arguments after it
pub keeps_before : (template arguments : Term) (n : ℕ) (in_type : Bool)
    → Keeps ((ways_of n template).before in_type (text (codes "I") and (ways_of n arguments).as_elements and text (codes "E")))
keeps_before template arguments n in_type =
    let t = ways-grow (list template arguments) template (λ x is. inl is) n in
    let a = ways-grow (list template arguments) arguments (λ x is. inr is) n in
    grown_keeps (t way.before in_type _ _ (suc (size template + size arguments)) (omega arith) (front (codes "I") (back (more-grows (a way.as_elements) (omega arith)) (codes "E"))))
