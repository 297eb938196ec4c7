-- What a parameter of a template may name, and where the named argument is.
use Rattle.cpp_direct.proofs.Basics.{arguments_of, Around, before_arguments, count, Detail, element, has_return_type, inside, instance, is_structor, qualifiers_of, ref_of, Term, tree, tree_of, types_of, Bool, ◌+◌, ◌≡◌, ℕ, zero, suc, ◌<◌, List, [], ◌∷◌, ◌++◌, length, slice_get, Some, None, is_some, arith, ap, sym, ◌∙◌, subst, refl, true, false, false≢true, AreAmong, AreKnown, Argument, argument_of, Arguments, arguments_in, called_on, detail_of, has_const, HasArguments, HasNameSo, HasParameters, HasScope, is_within_type, IsAmong, IsNamedSo, IsOwnName, IsPackOf, IsScoped, list_with, Mark, nowhere, Open, place_of, PrintAllIn, PrintsName, qualifiers, Scope, Symbol}
use Rattle.cpp_direct.proofs.Kept.{none-known, placed-stays}
use Rattle.cpp_grammar.specs.Values as values

-- trees stay at their places when more is written

one-stays : {detail : Detail} {in_pack : Bool} (text more : List ℕ) (p : Argument) (k : ℕ) (ts : List Term) → IsAmong in_pack detail text p k ts
    → IsAmong in_pack detail (text ++ more) p k ts
one-stays text more p k ts h = record { bytes = h.bytes; placed = placed-stays text more p h.bytes h.placed; own = h.own; there = h.there; prints = h.prints }

pub pack-stays : {detail : Detail} (text more : List ℕ) (a : Arguments) (ts : List Term) → IsPackOf detail text a ts → IsPackOf detail (text ++ more) a ts
pack-stays text more a ts h = record { size = h.size; among = λ k known. one-stays text more (place_of a (a.before + k)) k ts (h.among k known) }

-- the arguments of a name stay at their places when more is written
pub arguments-stay : {detail : Detail} (text more : List ℕ) (a : Arguments) (name : Term) → HasArguments detail text a name
    → HasArguments detail (text ++ more) a name
arguments-stay text more a name has = (
  λ k o. let h = has.0 k o in record {
    bytes = h.bytes;
    placed = placed-stays text more (place_of a k) h.bytes h.placed;
    own = h.own;
    all = h.all;
    all_are = h.all_are;
    there = h.there;
    prints = h.prints;
  },
  λ o. let h = has.1 o in record { all = h.all; all_are = h.all_are; elements = h.elements; there = h.there; are = pack-stays text more a h.elements h.are },
)

-- if no argument is known, nothing is claimed of arguments
pub no-arguments : {detail : Detail} (text : List ℕ) (name : Term) → HasArguments detail text nowhere name
no-arguments text name = (λ k single. absurd (none-known k single.0), λ e. cc e)

-- arguments stay at their places while they are read
pub among-stay : {detail : Detail} (is_pack : Bool) (text more : List ℕ) (a : Arguments) (ts : List Term) → AreAmong is_pack detail text a ts
    → AreAmong is_pack detail (text ++ more) a ts
among-stay is_pack text more a ts known =
    (λ k o single. one-stays text more (place_of a k) k ts (known.0 k o single), λ e k o. one-stays text more (place_of a k) k ts (known.1 e k o))

-- arguments stay at their places after the last of them is read
pub known-stay : {detail : Detail} (text more : List ℕ) (a : Arguments) (ts : List Term) (tail : Term) → AreKnown detail text a ts tail
    → AreKnown detail (text ++ more) a ts tail
known-stay text more a ts tail known = (
  λ k o. one-stays text more (place_of a k) k ts (known.0 k o),
  λ o. let h = known.1 o in (h.0, h.1, pack-stays text more a h.0 h.2),
)

-- an element of a list is also in the list with a tail, at the same number
pub element-there : (ts : List Term) (tail : Term) (k : ℕ) (t : Term) → slice_get ts k ≡ Some t
    → (element (list_with ts tail) k ≡ t) × (k < count (list_with ts tail))
unfolding element count
element-there [] tail k t e = cc e
element-there (u ∷ ts) tail zero t e = (cc e, omega arith)
element-there (u ∷ ts) tail (suc k) t e = let h = element-there ts tail k t e in (h.0, omega (arith, h.1))

-- the symbol's own name keeps its text and its arguments when more is written
pub name-stays : {detail : Detail} {scope : Scope} (text new more : List ℕ) (a : Arguments) (own : Term) (name : List ℕ) → new ≡ text ++ more
    → IsOwnName detail scope text a own name → IsOwnName detail scope new a own name
name-stays {detail} text new more a own name grown p = record {
  prints = p.prints;
  names = subst (λ l. HasArguments detail l a own) (sym grown) (arguments-stay text more a own p.names);
  given = p.given;
  named = p.named;
}

-- a function keeps its name when more is written, and may have other parameters then
abbrev pub parameters-as : (s : Symbol) {extra more_extra : ℕ} {scope : Scope} (text new more : List ℕ) (mark : Mark) (start : ℕ) (a : Arguments) {ts us : List Term} {texts more_texts : List ℕ}
    (p : HasParameters s extra scope text mark start a ts texts) → new ≡ text ++ more → PrintAllIn (detail_of s) (types_of p.is_function.own) more_extra us more_texts
    → HasParameters s more_extra scope new mark start a us more_texts
parameters-as s text new more mark start a p grown elements = record {
  front = p.front;
  lead = p.lead;
  make = p.make;
  name = p.name;
  is_function = record {
    own = p.is_function.own;
    makes = p.is_function.makes;
    is_own = name-stays text new more a p.is_function.own p.name grown p.is_function.is_own;
    elements = elements;
  };
  fronts = p.fronts;
}

-- the types of a function may name its arguments
pub entry-scoped : (scope : Scope) (around : Around) (entry : Open) (p : Arguments) (rest : List Open) → is_within_type entry ≡ false → arguments_in entry ≡ Some p
    → scope.arguments ≡ p → HasScope p around → IsScoped scope around (entry ∷ rest)
entry-scoped scope around entry p rest apart own named h q e =
    let is : arguments_in entry ≡ Some q = subst (λ b. elim b [ true ↦ argument_of rest | false ↦ arguments_in entry ] ≡ Some q) apart e in
    let same : p ≡ q = cc (sym own ∙ is) in
    (named ∙ same, subst (λ (k : Arguments). HasScope k around) same h)

-- the places of arguments don't depend on the encoding that the arguments are in
pub arguments-named : {detail : Detail} (text : List ℕ) (place : ℕ) (a : Arguments) (name : Term) → HasArguments detail text a name
    → HasArguments detail text (record a { encoding = place }) name
arguments-named text place a name has = (
  has.0,
  λ o. let h = has.1 o in record {
    all = h.all;
    all_are = h.all_are;
    elements = h.elements;
    there = h.there;
    are = record { size = h.are.size; among = h.are.among };
  },
)

-- what may be named in a name may be named in its arguments
pub scoped-inside : (scope : Scope) (around : Around) (open_ : List Open) → IsScoped scope around open_ → IsScoped scope (inside around) open_
unfolding inside
scoped-inside scope around open_ scoped a found =
    let h = scoped a found in (
      h.0,
      (
        h.1.0,
        λ k single. let n = h.1.1 k single in record { own = n.own; all = n.all; scope_is = n.scope_is; there = n.there; no_pack = n.no_pack },
        λ has_pack. let n = h.1.2 has_pack in (n.0, record { all = n.1.all; scope_is = n.1.scope_is; there = n.1.there }),
      ),
    )

-- if the open entries have no arguments that types may name, types name none
pub none-scoped : (scope : Scope) (around : Around) (open_ : List Open) → argument_of open_ ≡ None → IsScoped scope around open_
none-scoped scope around open_ none q e = absurd (false≢true (ap is_some (sym none ∙ e)))

-- ## Names with arguments

-- a constructor or a destructor that has arguments has no return type
pub structor-returns : (t a : Term) → is_structor t ≡ true → has_return_type (instance t a) ≡ false
unfolding has_return_type arguments_of before_arguments
structor-returns t a h = rw h refl

-- any other name that has arguments has a return type
pub instance-returns : (t a : Term) → is_structor t ≡ false → has_return_type (instance t a) ≡ true
unfolding has_return_type arguments_of before_arguments
instance-returns t a h = rw h refl

-- a nested name is read as that of a member function
pub member-named : (t : Term) (mark : Mark) → IsNamedSo (values.named t (qualifiers (has_const mark)) (called_on mark)) t mark
unfolding tree_of qualifiers_of ref_of
member-named t mark = record { tree_is = refl; qualifiers_are = refl; mark_is = refl }

-- any other name is read as it is
pub plain-named : (t : Term) → IsNamedSo (tree t false) t Mark.Plain
unfolding tree_of qualifiers_of ref_of
plain-named t = record { tree_is = refl; qualifiers_are = refl; mark_is = refl }

-- the name of a member function is written
abbrev pub has-member : (s : Symbol) (text : List ℕ) (mark : Mark) (from : ℕ) (t : Term) (lead name : List ℕ) → text ≡ lead ++ name → from ≡ length lead
    → PrintsName (detail_of s) t name → HasNameSo s text mark from
has-member s text mark from t lead name written from_is prints = record {
  own = t;
  v = values.named t (qualifiers (has_const mark)) (called_on mark);
  named_so = member-named t mark;
  lead = lead;
  name = name;
  written = written;
  from_is = from_is;
  prints = prints;
}

abbrev pub has-plain : (s : Symbol) (text : List ℕ) (from : ℕ) (t : Term) (lead name : List ℕ) → text ≡ lead ++ name → from ≡ length lead
    → PrintsName (detail_of s) t name → HasNameSo s text Mark.Plain from
has-plain s text from t lead name written from_is prints = record {
  own = t;
  v = tree t false;
  named_so = plain-named t;
  lead = lead;
  name = name;
  written = written;
  from_is = from_is;
  prints = prints;
}
