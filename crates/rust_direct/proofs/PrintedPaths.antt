-- Paths whose text is known.
use Rattle.std.proofs.Common.{◌≡◌, refl, ap, sym, subst, ◌∙◌, ℕ, ◌+◌, ◌*◌, ◌≤◌, List, [], ◌∷◌, ◌++◌, length, Bool, true, false, arith, codes, length-append, append-nil, append_assoc, nat_le, Option, Some, None}
use Rattle.sym_print.specs.declared.detail.Detail.TheVariants.{Full, Brief}
use Rattle.rust_direct.proofs.Basics.{Unshared, done, text_of, cost_of, cost_of_parts, ◌then◌, ◌also◌, ◌perhaps◌, Identifier, Path, Ty, Arguments, crate_root, nested, generic, inherent_impl, trait_impl, trait_definition, no_arguments, type_argument, lifetime_argument, need, path_parts, type_parts, arguments_from, lifetime_parts, lifetime_text, nested_name, detail_by, IsWrittenAs, closing, PathPrints, TypePrints, HasRoom, text_of_some, cost_of_some, opening, ArgumentsPrint, ArgumentsBegin, IsUnmarked, unmarked-append}
use Rattle.rust_direct.proofs.WrittenTexts.{then-text, written-plain, written-append, written-after, written-before, written-as, written-spelled, one-written, after-others, shown-arguments, hidden-arguments}

-- ## Parts

pub then-cost : (x : List ℕ) (rest : Unshared) → cost_of_parts (x then rest) ≡ length x + cost_of_parts rest
then-cost [] rest = omega arith
then-cost (b ∷ bs) rest = refl

pub perhaps-cost : (o : Option Unshared) (rest : Unshared) → cost_of_parts (o perhaps rest) ≡ cost_of_some o + cost_of_parts rest
perhaps-cost None rest = omega arith
perhaps-cost (Some u) rest = refl

-- ## Names

-- an identifier that isn't in Punycode
abbrev named : (count : ℕ) → (name : List ℕ) → Identifier
named count name = record { disambiguator = count; name = record { punycode = false; bytes = name } }

-- A crate prints its name.
pub crate-prints : (brief : Bool) (value : Bool) (count : ℕ) (name : List ℕ) → 1 ≤ length name → IsUnmarked name
    → PathPrints brief value (crate_root (named count name)) name
unfolding path_parts need
crate-prints brief value count name filled plain = record {
  shows = record {
    text_is = written-spelled brief (text_of (name then done)) name (then-text name done ∙ append-nil name) plain;
    cost = omega (arith, filled, then-cost name done);
  };
  needs_none = refl;
}

-- a name after its parent
name-behind : (brief : Bool) (parent bytes name : List ℕ) → IsUnmarked name → IsWrittenAs brief parent bytes
    → IsWrittenAs brief (parent ++ (codes "::" ++ (name ++ []))) (bytes ++ codes "::" ++ name)
name-behind brief parent bytes name plain p =
    written-as brief (parent ++ (codes "::" ++ name)) (parent ++ (codes "::" ++ (name ++ []))) (bytes ++ (codes "::" ++ name)) (bytes ++ codes "::" ++ name)
    (ap (λ l. parent ++ (codes "::" ++ l)) (sym (append-nil name))) (sym (append_assoc bytes (codes "::") name))
    (written-before brief parent bytes (codes "::" ++ name) (unmarked-append (codes "::") name refl plain) p)

-- A path in a namespace prints its parent and its name.
pub nested-prints : (brief : Bool) (value : Bool) (letter : ℕ) (p : Path) (bytes : List ℕ) (count : ℕ) (name : List ℕ) → nat_le 97 letter ≡ true → 1 ≤ length name
    → IsUnmarked name → PathPrints brief value p bytes → PathPrints brief value (nested letter p (named count name)) (bytes ++ codes "::" ++ name)
unfolding path_parts need
nested-prints brief value letter p bytes count [] lower filled plain prints = absurd (omega (arith, filled))
nested-prints brief value letter p bytes count (b ∷ bs) lower filled plain prints =
    let parent = path_parts (detail_by brief) 0 value p in
    record {
      shows = record {
        text_is = subst (λ l. IsWrittenAs brief (text_of (parent also nested_name l letter (named count (b ∷ bs)) done)) (bytes ++ codes "::" ++ (b ∷ bs)))
            (sym lower) (name-behind brief (text_of parent) bytes (b ∷ bs) plain prints.shows.text_is);
        cost = omega (
          arith,
          prints.shows.cost,
          ap (λ l. cost_of (parent also nested_name l letter (named count (b ∷ bs)) done)) lower,
          length-append (bytes ++ codes "::") (b ∷ bs),
          length-append bytes (codes "::"),
        );
      };
      needs_none = prints.needs_none;
    }

-- A path with a name in a namespace leaves room for one more part without text.
pub nested-room : (brief : Bool) (value : Bool) (letter : ℕ) (p : Path) (bytes : List ℕ) (count : ℕ) (name : List ℕ) → nat_le 97 letter ≡ true → 1 ≤ length name
    → PathPrints brief value p bytes → HasRoom brief value (nested letter p (named count name)) (bytes ++ codes "::" ++ name)
unfolding path_parts need
nested-room brief value letter p bytes count [] lower filled prints = absurd (omega (arith, filled))
nested-room brief value letter p bytes count (b ∷ bs) lower filled prints =
    let parent = path_parts (detail_by brief) 0 value p in
    omega (
      arith,
      prints.shows.cost,
      ap (λ l. cost_of (parent also nested_name l letter (named count (b ∷ bs)) done)) lower,
      length-append (bytes ++ codes "::") (b ∷ bs),
      length-append bytes (codes "::"),
    )

-- A path in a namespace prints its parent, if its name is empty.
pub unnamed-prints : (brief : Bool) (value : Bool) (letter : ℕ) (p : Path) (bytes : List ℕ) (count : ℕ) → nat_le 97 letter ≡ true → PathPrints brief value p bytes
    → HasRoom brief value p bytes → PathPrints brief value (nested letter p (named count [])) bytes
unfolding path_parts need
unnamed-prints brief value letter p bytes count lower prints room =
    let parent = path_parts (detail_by brief) 0 value p in
    record {
      shows = record {
        text_is = subst (λ l. IsWrittenAs brief (text_of (parent also nested_name l letter (named count []) done)) bytes) (sym lower)
            (subst (λ l. IsWrittenAs brief l bytes) (sym (append-nil (text_of parent))) prints.shows.text_is);
        cost = omega (arith, room, ap (λ l. cost_of (parent also nested_name l letter (named count []) done)) lower);
      };
      needs_none = prints.needs_none;
    }

-- ## Arguments

opening-length : (brief : Bool) (value : Bool) → 1 ≤ length (opening brief value)
opening-length true value = omega arith
opening-length false true = omega arith
opening-length false false = omega arith

-- no text comes before the first argument
pub none-begin : (brief : Bool) → ArgumentsBegin brief (λ a. a) [] []
none-begin brief = record { plain = refl; text_is = λ rest more p. p; cost = λ rest. omega arith; needs_none = λ rest h. h }

-- one more argument that is made of these parts costs at most four for each byte of its text
pub one-cost : (separator before own : List ℕ) (u : Unshared) (o : Option Unshared) → 1 + cost_of u ≤ 4 * length own
    → 4 * length before + cost_of (separator then u also o perhaps done) ≤ 4 * length (before ++ separator ++ own) + cost_of_some o
one-cost separator before own u o e = omega (
  arith,
  e,
  then-cost separator (u also o perhaps done),
  perhaps-cost o done,
  length-append (before ++ separator) own,
  length-append before separator,
)

-- a type after other arguments
pub type-begins : (brief : Bool) (made : Arguments → Arguments) (separator bytes : List ℕ) (t : Ty) (own : List ℕ) → ArgumentsBegin brief made separator bytes
    → TypePrints brief t own → ArgumentsBegin brief (λ r. made (type_argument t r)) (codes ", ") (bytes ++ separator ++ own)
unfolding path_parts need
type-begins brief made separator bytes t own begin prints = record {
  plain = refl;
  text_is = λ rest more p. subst (λ l. IsWrittenAs brief (text_of_some (arguments_from (detail_by brief) 0 [] (made (type_argument t rest)))) l)
      (after-others bytes separator own more) (begin.text_is (type_argument t rest) (separator ++ (own ++ more))
      (one-written brief separator own more (type_parts (detail_by brief) 0 t) (arguments_from (detail_by brief) 0 (codes ", ") rest) begin.plain prints.shows.text_is p));
  cost = λ rest. omega (
    arith,
    begin.cost (type_argument t rest),
    one-cost separator bytes own (type_parts (detail_by brief) 0 t) (arguments_from (detail_by brief) 0 (codes ", ") rest) prints.shows.cost,
  );
  needs_none = λ rest h. begin.needs_none (type_argument t rest) (omega (arith, prints.needs_none, h));
}

-- an erased lifetime after other arguments
pub lifetime-begins : (brief : Bool) (made : Arguments → Arguments) (separator bytes : List ℕ) → ArgumentsBegin brief made separator bytes
    → ArgumentsBegin brief (λ r. made (lifetime_argument 0 r)) (codes ", ") (bytes ++ separator ++ codes "'_")
unfolding path_parts need lifetime_parts lifetime_text
lifetime-begins brief made separator bytes begin = record {
  plain = refl;
  text_is = λ rest more p. subst (λ l. IsWrittenAs brief (text_of_some (arguments_from (detail_by brief) 0 [] (made (lifetime_argument 0 rest)))) l)
      (after-others bytes separator (codes "'_") more) (begin.text_is (lifetime_argument 0 rest) (separator ++ (codes "'_" ++ more))
      (one-written brief separator (codes "'_") more (lifetime_parts 0 0) (arguments_from (detail_by brief) 0 (codes ", ") rest) begin.plain
      (written-plain brief (codes "'_") refl) p));
  cost = λ rest. omega (
    arith,
    begin.cost (lifetime_argument 0 rest),
    one-cost separator bytes (codes "'_") (lifetime_parts 0 0) (arguments_from (detail_by brief) 0 (codes ", ") rest) (omega arith),
  );
  needs_none = λ rest h. begin.needs_none (lifetime_argument 0 rest) (omega (arith, h));
}

-- no argument comes after these
pub arguments-end : (brief : Bool) (made : Arguments → Arguments) (separator bytes : List ℕ) → ArgumentsBegin brief made separator bytes → ArgumentsPrint brief (made no_arguments) bytes
unfolding path_parts need
arguments-end brief made separator bytes begin = record {
  text_is = subst (λ l. IsWrittenAs brief (text_of_some (arguments_from (detail_by brief) 0 [] (made no_arguments))) l) (append-nil bytes)
      (begin.text_is no_arguments [] (written-plain brief [] refl));
  cost = omega (arith, begin.cost no_arguments);
  needs_none = begin.needs_none no_arguments refl;
}

generic-shown : (value : Bool) (p : Path) (args : Arguments)
    → path_parts Full 0 value (generic p args)
    ≡ (path_parts Full 0 value p also opening false value then arguments_from Full 0 [] args perhaps codes ">" then done)
unfolding path_parts
generic-shown true p args = refl
generic-shown false p args = refl

generic-hidden : (value : Bool) (p : Path) (args : Arguments) → path_parts Brief 0 value (generic p args) ≡ (path_parts Brief 0 value p also done)
unfolding path_parts
generic-hidden value p args = refl

arguments-text : (brief : Bool) (value : Bool) (p : Path) (bytes : List ℕ) (args : Arguments) (own : List ℕ) → PathPrints brief value p bytes
    → ArgumentsPrint brief args own
    → IsWrittenAs brief (text_of (path_parts (detail_by brief) 0 value (generic p args))) (bytes ++ opening brief value ++ own ++ closing brief)
unfolding path_parts
arguments-text true value p bytes args own prints have =
    hidden-arguments value (path_parts Brief 0 value p) (arguments_from Brief 0 [] args) bytes own prints.shows.text_is have.text_is
arguments-text false value p bytes args own prints have =
    shown-arguments value (path_parts Full 0 value p) (arguments_from Full 0 [] args) bytes own prints.shows.text_is have.text_is

arguments-length : (brief : Bool) (value : Bool) (bytes own : List ℕ)
    → length (bytes ++ opening brief value ++ own ++ closing brief) ≡ length bytes + length (opening brief value) + length own + length (closing brief)
arguments-length brief value bytes own = omega (
  arith,
  length-append (bytes ++ opening brief value ++ own) (closing brief),
  length-append (bytes ++ opening brief value) own,
  length-append bytes (opening brief value),
)

arguments-cost : (brief : Bool) (value : Bool) (p : Path) (bytes : List ℕ) (args : Arguments) (own : List ℕ) → PathPrints brief value p bytes
    → ArgumentsPrint brief args own
    → 1 + cost_of (path_parts (detail_by brief) 0 value (generic p args)) ≤ 4 * length (bytes ++ opening brief value ++ own ++ closing brief)
unfolding path_parts
arguments-cost true value p bytes args own prints have =
    omega (arith, prints.shows.cost, ap cost_of (generic-hidden value p args), arguments-length true value bytes own)
arguments-cost false value p bytes args own prints have = omega (
  arith,
  prints.shows.cost,
  have.cost,
  ap cost_of (generic-shown value p args),
  then-cost (opening false value) (arguments_from Full 0 [] args perhaps codes ">" then done),
  perhaps-cost (arguments_from Full 0 [] args) (codes ">" then done),
  arguments-length false value bytes own,
  opening-length false value,
)

-- A path with arguments prints the path and then the arguments.
pub generic-prints : (brief : Bool) (value : Bool) (p : Path) (bytes : List ℕ) (args : Arguments) (own : List ℕ) → PathPrints brief value p bytes
    → ArgumentsPrint brief args own → PathPrints brief value (generic p args) (bytes ++ opening brief value ++ own ++ closing brief)
unfolding need
generic-prints brief value p bytes args own prints have = record {
  shows = record { text_is = arguments-text brief value p bytes args own prints have; cost = arguments-cost brief value p bytes args own prints have };
  needs_none = omega (arith, prints.needs_none, have.needs_none);
}

-- ## Impls

angled : (brief : Bool) (b l : List ℕ) → IsWrittenAs brief b l → IsWrittenAs brief (codes "<" ++ (b ++ (codes ">" ++ []))) (codes "<" ++ l ++ codes ">")
angled brief b l p = written-after brief (codes "<") (b ++ codes ">") (l ++ codes ">") refl (written-before brief b l (codes ">") refl p)

-- An inherent impl prints its type.
pub impl-prints : (brief : Bool) (value : Bool) (count : ℕ) (p : Path) (t : Ty) (bytes : List ℕ) → need p ≡ 0 → TypePrints brief t bytes
    → PathPrints brief value (inherent_impl count p t) (codes "<" ++ bytes ++ codes ">")
unfolding path_parts need
impl-prints brief value count p t bytes none prints = record {
  shows = record {
    text_is = angled brief (text_of (type_parts (detail_by brief) 0 t)) bytes prints.shows.text_is;
    cost = omega (arith, prints.shows.cost, length-append (codes "<" ++ bytes) (codes ">"), length-append (codes "<") bytes);
  };
  needs_none = omega (arith, none, prints.needs_none);
}

implemented : (brief : Bool) (b c l m : List ℕ) → IsWrittenAs brief b l → IsWrittenAs brief c m
    → IsWrittenAs brief (codes "<" ++ (b ++ (codes " as " ++ (c ++ (codes ">" ++ []))))) ((codes "<" ++ l ++ codes " as ") ++ m ++ codes ">")
implemented brief b c l m p q =
    subst (λ x. IsWrittenAs brief (codes "<" ++ (b ++ (codes " as " ++ (c ++ codes ">")))) x)
    (sym (append_assoc (codes "<" ++ l ++ codes " as ") m (codes ">") ∙ append_assoc (codes "<" ++ l) (codes " as ") (m ++ codes ">")
    ∙ append_assoc (codes "<") l (codes " as " ++ (m ++ codes ">"))))
    (written-after brief (codes "<") (b ++ (codes " as " ++ (c ++ codes ">"))) (l ++ (codes " as " ++ (m ++ codes ">"))) refl
    (written-append brief b (codes " as " ++ (c ++ codes ">")) l (codes " as " ++ (m ++ codes ">")) p
    (written-after brief (codes " as ") (c ++ codes ">") (m ++ codes ">") refl (written-before brief c m (codes ">") refl q))))

-- An impl of a trait prints the type and the trait, as does a trait that a type implements.
pub trait-prints : (brief : Bool) (value : Bool) (count : ℕ) (p : Path) (t : Ty) (q : Path) (bytes own : List ℕ) → need p ≡ 0 → TypePrints brief t bytes
    → PathPrints brief false q own → PathPrints brief value (trait_impl count p t q) ((codes "<" ++ bytes ++ codes " as ") ++ own ++ codes ">")
unfolding path_parts need
trait-prints brief value count p t q bytes own none prints implements = record {
  shows = record {
    text_is = implemented brief (text_of (type_parts (detail_by brief) 0 t)) (text_of (path_parts (detail_by brief) 0 false q)) bytes own prints.shows.text_is implements.shows.text_is;
    cost = omega (
      arith,
      prints.shows.cost,
      implements.shows.cost,
      length-append ((codes "<" ++ bytes ++ codes " as ") ++ own) (codes ">"),
      length-append (codes "<" ++ bytes ++ codes " as ") own,
      length-append (codes "<" ++ bytes) (codes " as "),
      length-append (codes "<") bytes,
    );
  };
  needs_none = omega (arith, none, prints.needs_none, implements.needs_none);
}

pub definition-prints : (brief : Bool) (value : Bool) (t : Ty) (q : Path) (bytes own : List ℕ) → TypePrints brief t bytes
    → PathPrints brief false q own → PathPrints brief value (trait_definition t q) ((codes "<" ++ bytes ++ codes " as ") ++ own ++ codes ">")
unfolding path_parts need
definition-prints brief value t q bytes own prints implements = record {
  shows = record {
    text_is = implemented brief (text_of (type_parts (detail_by brief) 0 t)) (text_of (path_parts (detail_by brief) 0 false q)) bytes own prints.shows.text_is implements.shows.text_is;
    cost = omega (
      arith,
      prints.shows.cost,
      implements.shows.cost,
      length-append ((codes "<" ++ bytes ++ codes " as ") ++ own) (codes ">"),
      length-append (codes "<" ++ bytes ++ codes " as ") own,
      length-append (codes "<" ++ bytes) (codes " as "),
      length-append (codes "<") bytes,
    );
  };
  needs_none = omega (arith, prints.needs_none, implements.needs_none);
}
