-- Types whose text is known.
use Rattle.std.proofs.Common.{refl, ap, sym, subst, ◌∙◌, ℕ, ◌≤◌, List, [], ◌++◌, length, false, arith, codes, length-append, append-nil, append_assoc, Option, Bool}
use Rattle.rust_direct.proofs.Basics.{Unshared, done, text_of, ◌then◌, ◌also◌, ◌perhaps◌, Path, Ty, Tys, Constant, basic, path_type, array, slice, tuple, shared_reference, mutable_reference, const_pointer, mut_pointer, no_types, more_types, need, path_parts, type_parts, types_from, constant_parts, closing_tuple, basic_text, detail_by, IsWrittenAs, Spells, PathPrints, TypePrints, TypesBegin, text_of_some, IsUnmarked}
use Rattle.rust_direct.proofs.WrittenTexts.{then-text, perhaps-text, written-plain, written-append, written-after, written-before, written-spelled, one-written, after-others, basic-unmarked}
use Rattle.rust_direct.proofs.PrintedPaths.{then-cost, perhaps-cost}

-- A path is a type.
pub path-is-type : (brief : Bool) (p : Path) (bytes : List ℕ) → PathPrints brief false p bytes → TypePrints brief (path_type p) bytes
unfolding path_parts need
path-is-type brief p bytes prints = record { shows = prints.shows; needs_none = prints.needs_none }

-- A basic type prints its name.
pub basic-prints : (brief : Bool) (letter : ℕ) → 1 ≤ length (basic_text letter) → TypePrints brief (basic letter) (basic_text letter)
unfolding path_parts need
basic-prints brief letter filled = record {
  shows = record {
    text_is = written-spelled brief (text_of (basic_text letter then done)) (basic_text letter) (then-text (basic_text letter) done ∙ append-nil (basic_text letter))
        (basic-unmarked letter);
    cost = omega (arith, filled, then-cost (basic_text letter) done);
  };
  needs_none = refl;
}

-- ## Types that follow a mark

marked : (brief : Bool) (mark b l : List ℕ) → IsUnmarked mark → IsWrittenAs brief b l → IsWrittenAs brief (mark ++ (b ++ [])) (mark ++ l)
marked brief mark b l plain p =
    subst (λ x. IsWrittenAs brief (mark ++ x) (mark ++ l)) (sym (append-nil b)) (written-after brief mark b l plain p)

pub shared-prints : (brief : Bool) (t : Ty) (bytes : List ℕ) → TypePrints brief t bytes → TypePrints brief (shared_reference 0 t) (codes "&" ++ bytes)
unfolding path_parts need
shared-prints brief t bytes prints = record {
  shows = record {
    text_is = marked brief (codes "&") (text_of (type_parts (detail_by brief) 0 t)) bytes refl prints.shows.text_is;
    cost = omega (arith, prints.shows.cost, length-append (codes "&") bytes);
  };
  needs_none = omega (arith, prints.needs_none);
}

pub mutable-prints : (brief : Bool) (t : Ty) (bytes : List ℕ) → TypePrints brief t bytes → TypePrints brief (mutable_reference 0 t) (codes "&mut " ++ bytes)
unfolding path_parts need
mutable-prints brief t bytes prints = record {
  shows = record {
    text_is = marked brief (codes "&mut ") (text_of (type_parts (detail_by brief) 0 t)) bytes refl prints.shows.text_is;
    cost = omega (arith, prints.shows.cost, length-append (codes "&mut ") bytes);
  };
  needs_none = omega (arith, prints.needs_none);
}

pub const-prints : (brief : Bool) (t : Ty) (bytes : List ℕ) → TypePrints brief t bytes → TypePrints brief (const_pointer t) (codes "*const " ++ bytes)
unfolding path_parts need
const-prints brief t bytes prints = record {
  shows = record {
    text_is = marked brief (codes "*const ") (text_of (type_parts (detail_by brief) 0 t)) bytes refl prints.shows.text_is;
    cost = omega (arith, prints.shows.cost, length-append (codes "*const ") bytes);
  };
  needs_none = prints.needs_none;
}

pub mut-prints : (brief : Bool) (t : Ty) (bytes : List ℕ) → TypePrints brief t bytes → TypePrints brief (mut_pointer t) (codes "*mut " ++ bytes)
unfolding path_parts need
mut-prints brief t bytes prints = record {
  shows = record {
    text_is = marked brief (codes "*mut ") (text_of (type_parts (detail_by brief) 0 t)) bytes refl prints.shows.text_is;
    cost = omega (arith, prints.shows.cost, length-append (codes "*mut ") bytes);
  };
  needs_none = prints.needs_none;
}

bracketed : (brief : Bool) (b l : List ℕ) → IsWrittenAs brief b l → IsWrittenAs brief (codes "[" ++ (b ++ (codes "]" ++ []))) (codes "[" ++ l ++ codes "]")
bracketed brief b l p = written-after brief (codes "[") (b ++ codes "]") (l ++ codes "]") refl (written-before brief b l (codes "]") refl p)

pub slice-prints : (brief : Bool) (t : Ty) (bytes : List ℕ) → TypePrints brief t bytes → TypePrints brief (slice t) (codes "[" ++ bytes ++ codes "]")
unfolding path_parts need
slice-prints brief t bytes prints = record {
  shows = record {
    text_is = bracketed brief (text_of (type_parts (detail_by brief) 0 t)) bytes prints.shows.text_is;
    cost = omega (arith, prints.shows.cost, length-append (codes "[" ++ bytes) (codes "]"), length-append (codes "[") bytes);
  };
  needs_none = prints.needs_none;
}

sized : (brief : Bool) (b c l m : List ℕ) → IsWrittenAs brief b l → IsWrittenAs brief c m
    → IsWrittenAs brief (codes "[" ++ (b ++ (codes "; " ++ (c ++ (codes "]" ++ []))))) (codes "[" ++ l ++ codes "; " ++ m ++ codes "]")
sized brief b c l m p q =
    subst (λ x. IsWrittenAs brief (codes "[" ++ (b ++ (codes "; " ++ (c ++ codes "]")))) x)
    (sym (append_assoc (codes "[" ++ l ++ codes "; ") m (codes "]") ∙ append_assoc (codes "[" ++ l) (codes "; ") (m ++ codes "]")
    ∙ append_assoc (codes "[") l (codes "; " ++ (m ++ codes "]"))))
    (written-after brief (codes "[") (b ++ (codes "; " ++ (c ++ codes "]"))) (l ++ (codes "; " ++ (m ++ codes "]"))) refl
    (written-append brief b (codes "; " ++ (c ++ codes "]")) l (codes "; " ++ (m ++ codes "]")) p
    (written-after brief (codes "; ") (c ++ codes "]") (m ++ codes "]") refl (written-before brief c m (codes "]") refl q))))

pub array-prints : (brief : Bool) (t : Ty) (bytes : List ℕ) (size : Constant) (own : List ℕ) → TypePrints brief t bytes → Spells (constant_parts size) own
    → TypePrints brief (array t size) (codes "[" ++ bytes ++ codes "; " ++ own ++ codes "]")
unfolding path_parts need
array-prints brief t bytes size own prints shows = record {
  shows = record {
    text_is = sized brief (text_of (type_parts (detail_by brief) 0 t)) (text_of (constant_parts size)) bytes own prints.shows.text_is
        (written-spelled brief (text_of (constant_parts size)) own shows.text_is shows.plain);
    cost = omega (
      arith,
      prints.shows.cost,
      shows.cost,
      length-append (codes "[" ++ bytes ++ codes "; " ++ own) (codes "]"),
      length-append (codes "[" ++ bytes ++ codes "; ") own,
      length-append (codes "[" ++ bytes) (codes "; "),
      length-append (codes "[") bytes,
    );
  };
  needs_none = prints.needs_none;
}

-- ## Tuples

-- no text comes before the first type
pub no-types-begin : (brief : Bool) → TypesBegin brief (λ ts. ts) [] []
no-types-begin brief = record { plain = refl; text_is = λ rest more p. p; cost = λ rest. omega arith; needs_none = λ rest h. h }

-- a type after other types
pub types-begin : (brief : Bool) (made : Tys → Tys) (separator bytes : List ℕ) (t : Ty) (own : List ℕ) → TypesBegin brief made separator bytes
    → TypePrints brief t own → TypesBegin brief (λ r. made (more_types t r)) (codes ", ") (bytes ++ separator ++ own)
unfolding path_parts need
types-begin brief made separator bytes t own begin prints = record {
  plain = refl;
  text_is = λ rest more p. subst (λ l. IsWrittenAs brief (text_of_some (types_from (detail_by brief) 0 [] (made (more_types t rest)))) l)
      (after-others bytes separator own more) (begin.text_is (more_types t rest) (separator ++ (own ++ more))
      (one-written brief separator own more (type_parts (detail_by brief) 0 t) (types_from (detail_by brief) 0 (codes ", ") rest) begin.plain prints.shows.text_is p));
  cost = λ rest. omega (
    arith,
    begin.cost (more_types t rest),
    prints.shows.cost,
    then-cost separator (type_parts (detail_by brief) 0 t also types_from (detail_by brief) 0 (codes ", ") rest perhaps done),
    perhaps-cost (types_from (detail_by brief) 0 (codes ", ") rest) done,
    length-append (bytes ++ separator) own,
    length-append bytes separator,
  );
  needs_none = λ rest h. begin.needs_none (more_types t rest) (omega (arith, prints.needs_none, h));
}

closing-filled : (ts : Tys) → 1 ≤ length (closing_tuple ts)
closing-filled no_types = omega arith
closing-filled (more_types t no_types) = omega arith
closing-filled (more_types t (more_types u rest)) = omega arith

closing-plain : (ts : Tys) → IsUnmarked (closing_tuple ts)
closing-plain no_types = refl
closing-plain (more_types t no_types) = refl
closing-plain (more_types t (more_types u rest)) = refl

tuple-text : (brief : Bool) (o : Option Unshared) (own closing : List ℕ) → IsUnmarked closing → IsWrittenAs brief (text_of_some o) own
    → IsWrittenAs brief (codes "(" ++ text_of (o perhaps closing then done)) (codes "(" ++ own ++ closing)
tuple-text brief o own closing plain p =
    subst (λ l. IsWrittenAs brief (codes "(" ++ l) (codes "(" ++ own ++ closing))
    (sym (perhaps-text o (closing then done) ∙ ap (λ l. text_of_some o ++ l) (then-text closing done ∙ append-nil closing)))
    (written-after brief (codes "(") (text_of_some o ++ closing) (own ++ closing) refl (written-before brief (text_of_some o) own closing plain p))

-- A tuple prints its types in parentheses.
pub tuple-prints : (brief : Bool) (made : Tys → Tys) (separator bytes : List ℕ) → TypesBegin brief made separator bytes
    → TypePrints brief (tuple (made no_types)) (codes "(" ++ bytes ++ closing_tuple (made no_types))
unfolding path_parts need
tuple-prints brief made separator bytes begin =
    let ts = made no_types in
    let o = types_from (detail_by brief) 0 [] ts in
    record {
      shows = record {
        text_is = tuple-text brief o bytes (closing_tuple ts) (closing-plain ts)
            (subst (λ l. IsWrittenAs brief (text_of_some o) l) (append-nil bytes) (begin.text_is no_types [] (written-plain brief [] refl)));
        cost = omega (
          arith,
          begin.cost no_types,
          perhaps-cost o (closing_tuple ts then done),
          then-cost (closing_tuple ts) done,
          closing-filled ts,
          length-append (codes "(" ++ bytes) (closing_tuple ts),
          length-append (codes "(") bytes,
        );
      };
      needs_none = begin.needs_none no_types refl;
    }
