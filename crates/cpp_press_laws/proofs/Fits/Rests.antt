-- Names between N and E as they are read, part by part: each part makes the name so far longer, and the longer name fits.
use Rattle.cpp_press_laws.proofs.Basics.{◌≡◌, ℕ, inl, inr, List, [], None, Bool, true, false, refl, ap, sym, subst, ◌∙◌, arith, Kind, Term, symbol, in_std, within, instance, State, Around, Value, prefix_tree, prefix_listed, tree, tree_of, is_there, appended, with_prefix, after, inside, applied, first_around, first_state, is_encoding, names_function, names_member, IsSpellableSuffix, SymbolFits}
use Rattle.cpp_press_laws.proofs.Components.Complete.{worths-none}
use Rattle.cpp_press_laws.proofs.Fits.Read.{Wherever}
use Rattle.cpp_press_laws.proofs.Fits.Names.{PrefixFits, TemplatePrefixFits, PieceFits, ElementsFit, within-joined, std-between}
use Rattle.cpp_press_laws.proofs.Fits.Templates.{TemplateFits, within-template, std-template}
use Rattle.cpp_press_laws.proofs.Fits.Nests.{NestFits, within-nest, std-nest, instance-nest}
use Rattle.cpp_press_laws.proofs.Fits.Symbols.{WholeFits}
use Rattle.cpp_press_laws.proofs.Fits.Sorts.{KindFits, ArgumentsRead}

-- a name between N and E as a value, which isn't a candidate yet
abbrev pub NestRead : Around → Value → (start new : State) → Type 0
NestRead outer v start new = (v ≡ tree (tree_of v) false) × NestFits outer (tree_of v) start new

-- The name so far, before arguments or a further piece (kind NestRest). `outer` surrounds the name, which began in state `start`.
pub record SoFarFits (outer : Around) (t : Term) (listed : Bool) (start old : State) : Type 0 where
  pub apart : Wherever outer start (is_encoding t ≡ false)
  pub prefix : PrefixFits outer t start (with_prefix (after t listed outer) old)
  pub template : TemplatePrefixFits outer t start (with_prefix (after t listed outer) old)

-- ## A template name or its instance

-- a name without arguments, or with the arguments after it
pub applied-as : (P : Term → State → Type 0) (around : Around) (t : Term) (v : Value) (mid new : State) → P t mid
    → (ArgumentsRead (after t false around) v mid new → P (instance t (tree_of v)) new)
    → KindFits Kind.MaybeArguments (after t false around) v mid new → P (applied t v) new
unfolding applied is_there tree_of
applied-as P around t v mid new bare more (inl none) =
    let same : applied t v ≡ t = ap (applied t) none.0 in
    subst (λ u. P u new) (sym same) (subst (P t) (sym none.1) bare)
applied-as P around t v mid new bare more (inr there) =
    let whole : applied t v ≡ instance t (tree_of v) = ap (applied t) there.0 in
    subst (λ u. P u new) (sym whole) (more there.1)

-- a template name between N and E
pub applied-nest : (outer around : Around) (t : Term) (v : Value) (start mid new : State) → TemplateFits outer t start mid
    → NestFits outer t start mid
    → (ArgumentsRead (after t false around) v mid new → ElementsFit outer (tree_of v) (appended outer t mid) new)
    → KindFits Kind.MaybeArguments (after t false around) v mid new → NestRead outer (tree (applied t v) false) start new
unfolding tree_of
applied-nest outer around t v start mid new template nest here arguments = (
  refl,
  applied-as (λ u s. NestFits outer u start s) around t v mid new nest
      (λ h. instance-nest outer t (tree_of v) start mid new template (here h)) arguments,
)

-- ## Components and pieces after St

-- a piece after a prefix, with or without arguments (kind Component)
pub component-read : (outer : Around) (t p : Term) (listed : Bool) (v : Value) (start old mid new : State) → Wherever outer start (is_encoding t ≡ false)
    → names_member p ≡ true
    → PrefixFits outer t start old → PieceFits (after t listed outer) p old mid
    → KindFits Kind.MaybeArguments (after (within t p) false (after t listed outer)) v mid new
    → NestRead outer (tree (applied (within t p) v) false) start new
unfolding after inside with_prefix prefix_listed prefix_tree appended
component-read outer t p listed v start old mid new apart names one piece arguments =
    let between = within-joined outer t p listed start old mid names one piece in
    applied-nest outer (after t listed outer) (within t p) v start mid new (within-template outer t p start mid apart between)
    (within-nest outer t p start mid apart between) (λ h. h) arguments

-- a piece after St, with or without arguments (production NestStd)
pub std-read : (outer : Around) (p : Term) (v : Value) (start mid new : State) → names_function p ≡ true → PieceFits outer p start mid
    → KindFits Kind.MaybeArguments (after (in_std p) false outer) v mid new → NestRead outer (tree (applied (in_std p) v) false) start new
unfolding after inside with_prefix prefix_listed prefix_tree appended
std-read outer p v start mid new names piece arguments =
    let between = std-between outer p start mid names piece in
    applied-nest outer outer (in_std p) v start mid new (std-template outer p start mid between) (std-nest outer p start mid between)
    (λ h. h) arguments

-- ## The root

-- a symbol fits if its encoding fits after the symbol's first two bytes
pub symbol-fits : (e : Term) (suffix : List ℕ) (new : State) → WholeFits first_around e first_state new → new.packs ≡ None
    → IsSpellableSuffix suffix → SymbolFits (symbol e suffix)
unfolding first_around first_state
symbol-fits e suffix new one bare good =
    let p = one.fits 0 2 [] None (record { later = omega arith; complete = tt; among = (tt, (omega arith, worths-none)); functions = tt }) (λ m is. sym bare ∙ is) in
    (p.fits, good)
