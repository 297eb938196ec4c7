-- What the parser of the command line finds, by the options and arguments that it is given.
use Rattle.demangle_command.proofs.Basics.{◌≡◌, ◌∙◌, ap, refl, subst, map, Bor, [], ◌∷◌, ◌++◌, ℕ, Bool, List, Option, Some, None, false, true, map-append, AddsAliases, AddsShortAliases, Rule, Text, is_simple, is_simple_and_free, rule_of, Arg, IsAsked, IsColored, IsSpelled, command_line, IsSpelling, IsStyle, Spelling, Style}
use Rattle.demangle_names.specs.Coloring.{IsColoring}
use Rattle.demangle_names.specs.declared.coloring.Coloring.{Coloring}
use Rattle.demangle_names.specs.declared.coloring.Coloring.TheVariants.{Never}
use Rattle.demangle_names.specs.declared.spelling.Spelling.TheVariants.{Plain}
use Rattle.demangle_names.specs.declared.style.Style.TheVariants.{Auto}

pub simple : is_simple command_line ≡ true
unfolding command_line
simple = refl

pub simple_and_free : is_simple_and_free command_line ≡ true
unfolding command_line
simple_and_free = refl

-- an argument with one more letter
pub short-more : (old new : Arg) (letter : ℕ) (rule : Rule) → AddsShortAliases old new ((letter, false) ∷ []) → rule_of old ≡ rule → rule_of new ≡ record rule { short_aliases = rule.short_aliases ++ letter ∷ [] }
short-more old new letter rule adds is =
    let shorts : List (ℕ × Bool) → List ℕ = map (λ alias. alias.0) in
    ap rule_of adds.0 ∙ ap (λ (s : List ℕ). record (rule_of old) { short_aliases = s }) (ap shorts adds.1 ∙ map-append (λ (alias : ℕ × Bool). alias.0) old.short_aliases.items ((letter, false) ∷ []))
    ∙ ap (λ (r : Rule). record r { short_aliases = r.short_aliases ++ letter ∷ [] }) is

pub short-local : (old new : Arg) (letter : ℕ) → AddsShortAliases old new ((letter, false) ∷ []) → old.global ≡ false → new.global ≡ false
short-local old new letter adds local = ap (λ (a : Arg). a.global) adds.0 ∙ local

-- an argument with one more long name
pub alias-more : (old new : Arg) (name : Bor (List ℕ)) (rule : Rule) → AddsAliases old new ((name, false) ∷ []) → rule_of old ≡ rule → rule_of new ≡ record rule { aliases = rule.aliases ++ name.now ∷ [] }
alias-more old new name rule adds is =
    let names : List (Bor (List ℕ) × Bool) → List Text = map (λ alias. alias.0.now) in
    ap rule_of adds.0 ∙ ap (λ (s : List Text). record (rule_of old) { aliases = s }) (ap names adds.1 ∙ map-append (λ (alias : Bor (List ℕ) × Bool). alias.0.now) old.aliases.items ((name, false) ∷ []))
    ∙ ap (λ (r : Rule). record r { aliases = r.aliases ++ name.now ∷ [] }) is

pub alias-local : (old new : Arg) (name : Bor (List ℕ)) → AddsAliases old new ((name, false) ∷ []) → old.global ≡ false → new.global ≡ false
alias-local old new name adds local = ap (λ (a : Arg). a.global) adds.0 ∙ local

-- the style, by the text that the parser found
pub asked-none : (text : Option Text) → None ≡ text → IsAsked text (Some Auto)
asked-none text none = subst (λ t. IsAsked t (Some Auto)) none refl

pub asked-some : (text : Option Text) (name : Text) (asked : Option Style) → Some name ≡ text → IsStyle name asked → IsAsked text asked
asked-some text name asked some named = subst (λ t. IsAsked t asked) some named

-- the spelling, by the text that the parser found
pub spelled-none : (text : Option Text) → None ≡ text → IsSpelled text (Some Plain)
spelled-none text none = subst (λ t. IsSpelled t (Some Plain)) none refl

pub spelled-some : (text : Option Text) (name : Text) (asked : Option Spelling) → Some name ≡ text → IsSpelling name asked → IsSpelled text asked
spelled-some text name asked some named = subst (λ t. IsSpelled t asked) some named

-- the colouring, by the text that the parser found
pub colored-none : (text : Option Text) → None ≡ text → IsColored text (Some Never)
colored-none text none = subst (λ t. IsColored t (Some Never)) none refl

pub colored-some : (text : Option Text) (name : Text) (asked : Option Coloring) → Some name ≡ text → IsColoring name asked → IsColored text asked
colored-some text name asked some named = subst (λ t. IsColored t asked) some named
