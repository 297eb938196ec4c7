-- The declaration of a parameter names parameters that are declared with it, wherever it is read. So it isn't closed anywhere
-- in the wide reading, and no production outside a signature uses its value.
use Rattle.cpp_grammar.proofs.Basics.{◌≡◌, refl, ap, sym, ◌∙◌, List, [], ◌∷◌, ◌++◌, Bool, true, false, not, ◌||◌, ◌&&◌, nat_eq, true≢false, false≢true, Sym, Kind as OfKind, Production, Operation, DECLARATION_AFTER_T, DECLARATIONS, FIRST_OF_LAMBDA, FIRST_AFTER_T, number_of_kind, parts_of, wide_alternatives, Value, nothing_there}
use Rattle.cpp_grammar.specs.declared.kind.Kind.{Kind}
use Rattle.cpp_grammar.proofs.Choosing.{each_passes}
use Rattle.cpp_grammar.proofs.ClosedValues.{Good, AllGood, all_append, good_nothing, held}
use Rattle.cpp_grammar.proofs.Ways.{has_signature}

-- the kinds of what is declared
unfoldable pub is_declaration : Sym → Bool
is_declaration (OfKind k) = nat_eq k DECLARATION_AFTER_T || nat_eq k DECLARATIONS
is_declaration _ = false

-- likewise the kinds of a lambda's first type, with the declarations before it
unfoldable pub is_first : Sym → Bool
is_first (OfKind k) = nat_eq k FIRST_OF_LAMBDA || nat_eq k FIRST_AFTER_T
is_first _ = false

unfoldable pub declares : Sym → Bool
declares x = is_declaration x || is_first x

-- the productions of declarations that have parts
unfoldable pub makes_declared : Production → Bool
makes_declared Production.ValueOf = true
makes_declared Production.OfConcept = true
makes_declared Production.TemplateOf = true
makes_declared Production.PackOf = true
makes_declared Production.Declarations = true
makes_declared Production.DeclaredFirst = true
makes_declared Production.FirstWithT = true
makes_declared _ = false

pub only_declared : (kind : Kind) → each_passes (λ p. not (makes_declared p) || declares (OfKind (number_of_kind kind))) (wide_alternatives kind) ≡ true
unfolding makes_declared declares is_declaration is_first number_of_kind wide_alternatives each_passes
only_declared Kind.Symbol = refl
only_declared _ = refl

-- the production that skips its first part, a declaration
unfoldable pub skips : Production → Bool
skips Production.DeclaredArgument = true
skips _ = false

-- parts that are declarations are in a signature, except for a first part that is skipped
unfoldable pub parts_apart : Production → (first : Bool) → List Sym → Bool
parts_apart p first [] = true
parts_apart p first (x ∷ xs) = (not (declares x) || (has_signature p || (first && skips p))) && parts_apart p false xs

pub declared_apart : (p : Production) → parts_apart p true (parts_of p) ≡ true
unfolding parts_apart declares is_declaration is_first has_signature skips parts_of number_of_kind
declared_apart Production.Mark = refl
declared_apart (Production.Operation Operation.ExpressionC) = refl
declared_apart _ = refl

unfoldable pub is_nothing : List Value → Bool
is_nothing [] = true
is_nothing (v ∷ vs) = false

pub some_values : (vs : List Value) (v : Value) → is_nothing (vs ++ (v ∷ [])) ≡ false
unfolding is_nothing
some_values [] v = refl
some_values (u ∷ vs) v = refl

-- the values of parts, with nothing in the place of one that isn't used
unfoldable pub read_of : Production → (own : Bool) → List Value → List Value
read_of Production.DeclaredArgument true (v ∷ vs) = nothing_there ∷ vs
read_of p own vs = vs

unfoldable pub hides : Production → (own : Bool) → List Value → Bool
hides Production.DeclaredArgument true [] = true
hides p own vs = false

pub read_abi : (p : Production) (vs : List Value) → read_of p false vs ≡ vs
unfolding read_of
read_abi Production.DeclaredArgument vs = refl
read_abi _ vs = refl

pub read_none : (s : Type 0) (p : Production) (own : Bool) → AllGood s (read_of p own [])
unfolding read_of
read_none s Production.DeclaredArgument true = tt
read_none s Production.DeclaredArgument false = tt
read_none s _ own = tt

-- one more value, which is closed unless it isn't used
pub read_then : (s : Type 0) (p : Production) (own : Bool) (vs : List Value) (v : Value) → AllGood s (read_of p own vs) → (hides p own vs ≡ false → Good s (held v)) → AllGood s (read_of p own (vs ++ (v ∷ [])))
unfolding read_of hides held
read_then s Production.DeclaredArgument true [] v all good = (good_nothing s, tt)
read_then s Production.DeclaredArgument true (u ∷ vs) v all good = (all.0, all_append s vs (v ∷ []) all.1 (good refl, tt))
read_then s Production.DeclaredArgument false vs v all good = all_append s vs (v ∷ []) all (good refl, tt)
read_then s p own vs v all good = all_append s vs (v ∷ []) all (good refl, tt)

pub none_hidden : (p : Production) (own : Bool) (vs : List Value) → own ≡ true → hides p own vs ≡ false → (is_nothing vs && skips p) ≡ false
unfolding hides is_nothing skips
none_hidden Production.DeclaredArgument true [] e h = absurd (true≢false h)
none_hidden Production.DeclaredArgument true (v ∷ vs) e h = refl
none_hidden Production.DeclaredArgument false vs e h = absurd (false≢true e)
none_hidden p own [] e h = refl
none_hidden p own (v ∷ vs) e h = refl

pub same_skipped : (p : Production) (new old : List Value) → (skips p ≡ true → new ≡ old) → (is_nothing old && skips p) ≡ (is_nothing new && skips p)
same_skipped p new old same = go (skips p) refl
  where
    never : (b : Bool) → (b && false) ≡ false
    never true = refl
    never false = refl

    go : (b : Bool) → skips p ≡ b → (is_nothing old && skips p) ≡ (is_nothing new && skips p)
    go true is = ap (λ vs. is_nothing vs && skips p) (sym (same is))
    go false is = ap (λ b. is_nothing old && b) is ∙ never (is_nothing old) ∙ sym (ap (λ b. is_nothing new && b) is ∙ never (is_nothing new))

-- the next part of a production declares nothing, unless it is in a signature or isn't used
pub next_apart : (p : Production) (own : Bool) (old new : List Value) (x : Sym) → (not (declares x) || (has_signature p || (is_nothing old && skips p))) ≡ true → (skips p ≡ true → new ≡ old) → hides p own new ≡ false →
    own ≡ true → has_signature p ≡ false → declares x ≡ false
next_apart p own old new x apart same unhidden is none =
    apart_ (declares x) (has_signature p) (is_nothing old && skips p) apart none (same_skipped p new old same ∙ none_hidden p own new is unhidden)
  where
    apart_ : (d s k : Bool) → (not d || (s || k)) ≡ true → s ≡ false → k ≡ false → d ≡ false
    apart_ false s k h f g = refl
    apart_ true true k h f g = absurd (true≢false f)
    apart_ true false true h f g = absurd (true≢false g)
    apart_ true false false h f g = absurd (false≢true h)
