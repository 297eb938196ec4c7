-- Closures, shims and constants whose text is known.
use Rattle.std.proofs.Common.{◌≡◌, refl, ap, sym, subst, ◌∙◌, ℕ, ◌+◌, ◌≤◌, List, [], ◌∷◌, ◌++◌, length, Bool, true, false, arith, codes, length-append, append-nil, append_assoc, nat_le}
use Rattle.rust_direct.proofs.Basics.{decimal, decimal_nonempty, Unshared, done, text_of, cost_of, cost_of_parts, ◌then◌, ◌also◌, Identifier, Path, nested, integer, boolean, placeholder, constant_argument, Arguments, Constant, need, path_parts, constant_parts, arguments_from, namespace_text, name_behind, nested_name, greatest_u64, detail_by, IsWrittenAs, Spells, text_of_some, PathPrints, ArgumentsBegin, behind_colon, special_text, sign_text, IsUnmarked, unmarked-append}
use Rattle.sym_core.specs.Printed.{signed_text}
use Rattle.rust_direct.proofs.WrittenTexts.{then-text, written-before, written-spelled, one-written, after-others, decimal-unmarked}
use Rattle.rust_direct.proofs.PrintedPaths.{then-cost, one-cost}

-- ## Closures and shims

-- an identifier that isn't in Punycode
abbrev named : (count : ℕ) → (name : List ℕ) → Identifier
named count name = record { disambiguator = count; name = record { punycode = false; bytes = name } }

name-text : (name : List ℕ) (rest : Unshared) → text_of (name_behind (codes ":") name rest) ≡ behind_colon name ++ text_of rest
name-text [] rest = refl
name-text (b ∷ bs) rest = refl

name-cost : (name : List ℕ) (rest : Unshared) → cost_of_parts (name_behind (codes ":") name rest) ≡ length (behind_colon name) + cost_of_parts rest
name-cost [] rest = omega arith
name-cost (b ∷ bs) rest = omega arith

-- the number among closures or shims of one name
abbrev numbered : (count : ℕ) → Unshared
numbered count = codes "#" then decimal count then codes "}" then done

six : (a b c d e f : List ℕ) → a ++ (b ++ (c ++ (d ++ (e ++ f)))) ≡ a ++ b ++ c ++ d ++ e ++ f
six a b c d e f =
    sym (append_assoc (a ++ b ++ c ++ d) e f ∙ append_assoc (a ++ b ++ c) d (e ++ f) ∙ append_assoc (a ++ b) c (d ++ (e ++ f))
    ∙ append_assoc a b (c ++ (d ++ (e ++ f))))

special-shown : (namespace name : List ℕ) (count : ℕ)
    → text_of (codes "::{" then namespace then name_behind (codes ":") name (numbered count)) ≡ special_text namespace name count
special-shown namespace name count =
    ap (λ l. codes "::{" ++ l) (then-text namespace (name_behind (codes ":") name (numbered count)))
    ∙ ap (λ l. codes "::{" ++ (namespace ++ l)) (name-text name (numbered count))
    ∙ ap (λ l. codes "::{" ++ (namespace ++ (behind_colon name ++ (codes "#" ++ l)))) (then-text (decimal count) (codes "}" then done))
    ∙ six (codes "::{") namespace (behind_colon name) (codes "#") (decimal count) (codes "}")

special-length : (namespace name : List ℕ) (count : ℕ)
    → length (special_text namespace name count) ≡ 3 + length namespace + length (behind_colon name) + 1 + length (decimal count) + 1
special-length namespace name count = omega (
  arith,
  length-append (codes "::{" ++ namespace ++ behind_colon name ++ codes "#" ++ decimal count) (codes "}"),
  length-append (codes "::{" ++ namespace ++ behind_colon name ++ codes "#") (decimal count),
  length-append (codes "::{" ++ namespace ++ behind_colon name) (codes "#"),
  length-append (codes "::{" ++ namespace) (behind_colon name),
  length-append (codes "::{") namespace,
)

special-cost : (namespace name : List ℕ) (count : ℕ)
    → cost_of_parts (codes "::{" then namespace then name_behind (codes ":") name (numbered count)) ≡ length (special_text namespace name count)
special-cost namespace name count = omega (
  arith,
  special-length namespace name count,
  then-cost namespace (name_behind (codes ":") name (numbered count)),
  name-cost name (numbered count),
  then-cost (decimal count) (codes "}" then done),
)

-- A closure or a shim prints its parent, its namespace, its name and its number.
pub special-prints : (brief : Bool) (value : Bool) (letter : ℕ) (p : Path) (bytes : List ℕ) (count : ℕ) (name : List ℕ) → nat_le 97 letter ≡ false
    → IsUnmarked (special_text (namespace_text letter) name count) → PathPrints brief value p bytes
    → PathPrints brief value (nested letter p (named count name)) (bytes ++ special_text (namespace_text letter) name count)
unfolding path_parts need
special-prints brief value letter p bytes count name upper plain prints =
    let parent = path_parts (detail_by brief) 0 value p in
    let namespace = namespace_text letter in
    record {
      shows = record {
        text_is = subst (λ l. IsWrittenAs brief (text_of (parent also nested_name l letter (named count name) done)) (bytes ++ special_text namespace name count))
            (sym upper)
            (subst (λ l. IsWrittenAs brief (text_of parent ++ l) (bytes ++ special_text namespace name count)) (sym (special-shown namespace name count))
            (written-before brief (text_of parent) bytes (special_text namespace name count) plain prints.shows.text_is));
        cost = omega (
          arith,
          prints.shows.cost,
          ap (λ l. cost_of (parent also nested_name l letter (named count name) done)) upper,
          special-cost namespace name count,
          special-length namespace name count,
          length-append bytes (special_text namespace name count),
        );
      };
      needs_none = prints.needs_none;
    }

-- ## Constants

sign-unmarked : (minus : Bool) → IsUnmarked (sign_text minus)
sign-unmarked true = refl
sign-unmarked false = refl

-- An integer prints its sign and its digits.
pub integer-prints : (letter : ℕ) (minus : Bool) (n : ℕ) → n ≤ greatest_u64
    → Spells (constant_parts (integer letter minus n)) (sign_text minus ++ decimal n)
unfolding constant_parts
integer-prints letter minus n small = record {
  text_is = then-text (signed_text minus n) done ∙ append-nil (signed_text minus n);
  plain = unmarked-append (sign_text minus) (decimal n) (sign-unmarked minus) (decimal-unmarked n (omega (arith, small)));
  cost = omega (
    arith,
    then-cost (signed_text minus n) done,
    length-append (sign_text minus) (decimal n),
    decimal_nonempty n (omega (arith, small)),
  );
}

pub false-prints : Spells (constant_parts (boolean false)) (codes "false")
unfolding constant_parts
false-prints = record { text_is = refl; plain = refl; cost = omega arith }

pub true-prints : Spells (constant_parts (boolean true)) (codes "true")
unfolding constant_parts
true-prints = record { text_is = refl; plain = refl; cost = omega arith }

pub placeholder-prints : Spells (constant_parts placeholder) (codes "_")
unfolding constant_parts
placeholder-prints = record { text_is = refl; plain = refl; cost = omega arith }

-- a constant after other arguments
pub constant-begins : (brief : Bool) (made : Arguments → Arguments) (separator bytes : List ℕ) (c : Constant) (own : List ℕ) → ArgumentsBegin brief made separator bytes
    → Spells (constant_parts c) own → ArgumentsBegin brief (λ r. made (constant_argument c r)) (codes ", ") (bytes ++ separator ++ own)
unfolding path_parts need
constant-begins brief made separator bytes c own begin shows = record {
  plain = refl;
  text_is = λ rest more p. subst (λ l. IsWrittenAs brief (text_of_some (arguments_from (detail_by brief) 0 [] (made (constant_argument c rest)))) l)
      (after-others bytes separator own more) (begin.text_is (constant_argument c rest) (separator ++ (own ++ more))
      (one-written brief separator own more (constant_parts c) (arguments_from (detail_by brief) 0 (codes ", ") rest) begin.plain
      (written-spelled brief (text_of (constant_parts c)) own shows.text_is shows.plain) p));
  cost = λ rest. omega (
    arith,
    begin.cost (constant_argument c rest),
    one-cost separator bytes own (constant_parts c) (arguments_from (detail_by brief) 0 (codes ", ") rest) shows.cost,
  );
  needs_none = λ rest h. begin.needs_none (constant_argument c rest) h;
}
