-- The tree of a node by the node's production, and so how its text is marked.
use Rattle.cpp_parts.proofs.Basics.{◌≡◌, ℕ, List, length, get_or, slice_get, Option, Some, None, Bool, false, refl, sym, ap, ◌∙◌, Term, symbol, function, object, thunk, clone, instance, local, holder, tagged, of_default, abbreviation, list, pack, expansion, absent, Qualifiers, RefQualifier, Thunk, adjusting, covariant, non_virtual, by_table, entity_of, ReadSymbol, table_of, plain_tree, Fields, fields_of, thunk_fields, local_fields, tree_from, offsets_of, ABSENT, LIST, SYMBOL, FUNCTION, OBJECT, CLONE, THUNK, TABLE_THUNK, COVARIANT_THUNK, WIDE_THUNK, INSTANCE, LOCAL, NUMBERED_LOCAL, HOLDER, TAGGED, OF_DEFAULT, ABBREVIATION, PACK, EXPANSION, Unshared, done, bytes, item, plain, name, named, encoding, special_name, is_absent, element_of, rest_of, within, inside, ordinal_of, returning, ◌before◌, name_by, encoding_by, Numbering}
use Rattle.std.proofs.lemmas.Option.{get_or_from_slice_get}
use Rattle.cpp_parts.specs.declared.numbering.Numbering.TheVariants as numbering
use Rattle.cpp_parts.specs.declared.sorts.NameSort.TheVariants as names
use Rattle.cpp_parts.specs.declared.sorts.EncodingSort.TheVariants as encodings

-- the tree of fields whose production is known
read : (P : ℕ) (f : Fields) (o : Option Thunk) → f.production ≡ P → tree_from f o ≡ tree_from (record f { production = P }) o
read P f o is = ap (λ n. tree_from (record f { production = n }) o) is

-- the first part of a tree, which is the first part of its view
abbrev first : Term → Term
first t = get_or (fields_of t).parts 0 absent

abbrev second : Term → Term
second t = get_or (fields_of t).parts 1 absent

abbrev third : Term → Term
third t = get_or (fields_of t).parts 2 absent

pub first-is : (t p : Term) → slice_get (fields_of t).parts 0 ≡ Some p → first t ≡ p
first-is t p is = get_or_from_slice_get (fields_of t).parts 0 p absent is

pub second-is : (t p : Term) → slice_get (fields_of t).parts 1 ≡ Some p → second t ≡ p
second-is t p is = get_or_from_slice_get (fields_of t).parts 1 p absent is

pub third-is : (t p : Term) → slice_get (fields_of t).parts 2 ≡ Some p → third t ≡ p
third-is t p is = get_or_from_slice_get (fields_of t).parts 2 p absent is

-- a tree has as many parts as an equal tree
pub parts-of : (t s : Term) (n : ℕ) → t ≡ s → length (fields_of s).parts ≡ n → length (fields_of t).parts ≡ n
parts-of t s n is count = ap (λ u. length (fields_of u).parts) is ∙ count

module _ (t : Term) (whole : t ≡ tree_from (fields_of t) (offsets_of t)) where
  pub is-instance : (fields_of t).production ≡ INSTANCE → t ≡ instance (first t) (second t)
  is-instance p = whole ∙ read INSTANCE (fields_of t) (offsets_of t) p

  pub is-tagged : (fields_of t).production ≡ TAGGED → (s : Bool) × (tag : List ℕ) × (t ≡ tagged s (first t) tag)
  is-tagged p = (_, _, whole ∙ read TAGGED (fields_of t) (offsets_of t) p)

  pub is-local : (fields_of t).production ≡ LOCAL → t ≡ local (first t) (second t) None
  is-local p = whole ∙ read LOCAL (fields_of t) (offsets_of t) p

  pub is-numbered : (fields_of t).production ≡ NUMBERED_LOCAL → (digits : List ℕ) × (t ≡ local (first t) (second t) (Some digits))
  is-numbered p = (_, whole ∙ read NUMBERED_LOCAL (fields_of t) (offsets_of t) p)

  pub is-holder : (fields_of t).production ≡ HOLDER → t ≡ holder (first t)
  is-holder p = whole ∙ read HOLDER (fields_of t) (offsets_of t) p

  pub is-abbreviation : (fields_of t).production ≡ ABBREVIATION → (letter : ℕ) × (t ≡ abbreviation letter)
  is-abbreviation p = (_, whole ∙ read ABBREVIATION (fields_of t) (offsets_of t) p)

  pub is-of_default : (fields_of t).production ≡ OF_DEFAULT → (digits : List ℕ) × (t ≡ of_default digits (first t))
  is-of_default p = (_, whole ∙ read OF_DEFAULT (fields_of t) (offsets_of t) p)

  pub is-list : (fields_of t).production ≡ LIST → t ≡ list (first t) (second t)
  is-list p = whole ∙ read LIST (fields_of t) (offsets_of t) p

  pub is-pack : (fields_of t).production ≡ PACK → t ≡ pack (first t)
  is-pack p = whole ∙ read PACK (fields_of t) (offsets_of t) p

  pub is-expansion : (fields_of t).production ≡ EXPANSION → t ≡ expansion (first t)
  is-expansion p = whole ∙ read EXPANSION (fields_of t) (offsets_of t) p

  pub is-absent : (fields_of t).production ≡ ABSENT → t ≡ absent
  is-absent p = whole ∙ read ABSENT (fields_of t) (offsets_of t) p

  pub is-function : (fields_of t).production ≡ FUNCTION → (q : Qualifiers) × (m : RefQualifier) × (t ≡ function (first t) q m (second t) (third t))
  is-function p = (_, _, whole ∙ read FUNCTION (fields_of t) (offsets_of t) p)

  pub is-object : (fields_of t).production ≡ OBJECT → (q : Qualifiers) × (m : RefQualifier) × (t ≡ object (first t) q m)
  is-object p = (_, _, whole ∙ read OBJECT (fields_of t) (offsets_of t) p)

  pub is-clone : (fields_of t).production ≡ CLONE → (letter : ℕ) × (t ≡ clone letter (first t))
  is-clone p = (_, whole ∙ read CLONE (fields_of t) (offsets_of t) p)

  pub is-thunk : (fields_of t).production ≡ THUNK → (kind : Thunk) × (t ≡ thunk kind (first t))
  is-thunk p = (_, whole ∙ read THUNK (fields_of t) (offsets_of t) p)

  pub is-table_thunk : (fields_of t).production ≡ TABLE_THUNK → (kind : Thunk) × (t ≡ thunk kind (first t))
  is-table_thunk p = (_, whole ∙ read TABLE_THUNK (fields_of t) (offsets_of t) p)

  pub is-covariant_thunk : (fields_of t).production ≡ COVARIANT_THUNK → (kind : Thunk) × (t ≡ thunk kind (first t))
  is-covariant_thunk p = (_, whole ∙ read COVARIANT_THUNK (fields_of t) (offsets_of t) p)

  pub is-wide_thunk : (fields_of t).production ≡ WIDE_THUNK → (kind : Thunk) × (t ≡ thunk kind (first t))
  is-wide_thunk p = (_, whole ∙ read WIDE_THUNK (fields_of t) (offsets_of t) p)

  pub is-symbol : (fields_of t).production ≡ SYMBOL → (suffix : List ℕ) × (t ≡ symbol (first t) suffix)
  is-symbol p = (_, whole ∙ read SYMBOL (fields_of t) (offsets_of t) p)

-- ## Trees of none of these sorts

pub name-other : (tags : ℕ) (t : Term) (u : Unshared) → ((fields_of t).production ≡ INSTANCE → ⊥) → ((fields_of t).production ≡ TAGGED → ⊥) → ((fields_of t).production ≡ LOCAL → ⊥)
    → ((fields_of t).production ≡ NUMBERED_LOCAL → ⊥) → ((fields_of t).production ≡ HOLDER → ⊥) → ((fields_of t).production ≡ ABBREVIATION → ⊥) → name tags t u ≡ named u
unfolding name fields_of local_fields
name-other tags (instance a b) u i g l n h r = absurd (i refl)
name-other tags (tagged s a tag) u i g l n h r = absurd (g refl)
name-other tags (local a b None) u i g l n h r = absurd (l refl)
name-other tags (local a b (Some d)) u i g l n h r = absurd (n refl)
name-other tags (holder a) u i g l n h r = absurd (h refl)
name-other tags (abbreviation a) u i g l n h r = absurd (r refl)
name-other tags t done i g l n h r = refl
name-other tags t (bytes b rest) i g l n h r = refl
name-other tags t (item one rest) i g l n h r = refl

pub encoding-other : (specials : ℕ) (t : Term) (u : Unshared) → ((fields_of t).production ≡ FUNCTION → ⊥) → ((fields_of t).production ≡ OBJECT → ⊥) → ((fields_of t).production ≡ THUNK → ⊥)
    → ((fields_of t).production ≡ TABLE_THUNK → ⊥) → ((fields_of t).production ≡ COVARIANT_THUNK → ⊥) → ((fields_of t).production ≡ WIDE_THUNK → ⊥) → ((fields_of t).production ≡ CLONE → ⊥)
    → encoding specials t u ≡ special_name specials u
unfolding encoding fields_of thunk_fields
encoding-other specials (function a q m b c) u f v k l n w r = absurd (f refl)
encoding-other specials (object a q m) u f v k l n w r = absurd (v refl)
encoding-other specials (thunk (adjusting (non_virtual a)) e) u f v k l n w r = absurd (k refl)
encoding-other specials (thunk (adjusting (by_table a b)) e) u f v k l n w r = absurd (l refl)
encoding-other specials (thunk (covariant (non_virtual a) (non_virtual b)) e) u f v k l n w r = absurd (n refl)
encoding-other specials (thunk (covariant (non_virtual a) (by_table b c)) e) u f v k l n w r = absurd (w refl)
encoding-other specials (thunk (covariant (by_table a b) c) e) u f v k l n w r = absurd (w refl)
encoding-other specials (clone a e) u f v k l n w r = absurd (r refl)
encoding-other specials t done f v k l n w r = refl
encoding-other specials t (item one rest) f v k l n w r = refl
encoding-other specials t (bytes b done) f v k l n w r = refl
encoding-other specials t (bytes b (bytes c rest)) f v k l n w r = refl
encoding-other specials t (bytes b (item one rest)) f v k l n w r = refl

pub element-other : (t : Term) → ((fields_of t).production ≡ LIST → ⊥) → element_of t ≡ t
unfolding element_of fields_of
element-other (list a b) h = absurd (h refl)
element-other t h = refl

pub rest-other : (t : Term) → ((fields_of t).production ≡ LIST → ⊥) → rest_of t ≡ t
unfolding rest_of fields_of
rest-other (list a b) h = absurd (h refl)
rest-other t h = refl

pub within-other : (t : Term) → ((fields_of t).production ≡ PACK → ⊥) → ((fields_of t).production ≡ EXPANSION → ⊥) → within t ≡ None
unfolding within fields_of
within-other (pack a) p e = absurd (p refl)
within-other (expansion a) p e = absurd (e refl)
within-other t p e = refl

-- how an element's own elements are numbered

pub inside-pack : (o : Numbering) (t e : Term) (n : ℕ) → o ≡ numbering.Items n → t ≡ pack e → numbering.Elements n 1 ≡ inside o t
unfolding inside
inside-pack o t e n numbers is = sym (ap (λ x. inside x t) numbers ∙ ap (inside (numbering.Items n)) is)

pub inside-other : (o : Numbering) (t : Term) → ((fields_of t).production ≡ PACK → ⊥) → numbering.Alike (ordinal_of o) ≡ inside o t
unfolding inside fields_of
inside-other (numbering.Items n) (pack e) other = absurd (other refl)
inside-other (numbering.Items n) t other = refl
inside-other (numbering.Elements n e) t other = refl
inside-other (numbering.Alike ordinal) t other = refl

pub inside-counted : (o : Numbering) (t : Term) → ((n : ℕ) → o ≡ numbering.Items n → ⊥) → numbering.Alike (ordinal_of o) ≡ inside o t
unfolding inside
inside-counted (numbering.Items n) t other = absurd (other n refl)
inside-counted (numbering.Elements n e) t other = refl
inside-counted (numbering.Alike ordinal) t other = refl

pub entity-other : (t : Term) → ((fields_of t).production ≡ OF_DEFAULT → ⊥) → entity_of t ≡ t
unfolding entity_of fields_of
entity-other (of_default a b) h = absurd (h refl)
entity-other t h = refl

pub absent-other : (t : Term) → ((fields_of t).production ≡ ABSENT → ⊥) → is_absent t ≡ false
unfolding is_absent fields_of
absent-other absent h = absurd (h refl)
absent-other t h = refl

-- ## How trees of these sorts are marked

instance-marks : (tags : ℕ) (y : ReadSymbol) (n m : ℕ) (u : Unshared) → name tags (instance (plain_tree (table_of y) n) (plain_tree (table_of y) m)) u ≡ name_by y tags (names.Instance n m) u
unfolding name name_by
instance-marks tags y n m done = refl
instance-marks tags y n m (bytes b rest) = refl
instance-marks tags y n m (item one rest) = refl

pub by-instance : (tags : ℕ) (y : ReadSymbol) (t a b : Term) (n m : ℕ) → t ≡ instance a b → a ≡ plain_tree (table_of y) n → b ≡ plain_tree (table_of y) m → (u : Unshared) → name tags t u ≡ name_by y tags (names.Instance n m) u
by-instance tags y t a b n m is one other u =
    ap (λ x. name tags x u) (is ∙ ap (λ x. instance x b) one ∙ ap (λ x. instance (plain_tree (table_of y) n) x) other) ∙ instance-marks tags y n m u

tagged-marks : (tags : ℕ) (y : ReadSymbol) (s : Bool) (tag : List ℕ) (n : ℕ) (u : Unshared) → name tags (tagged s (plain_tree (table_of y) n) tag) u ≡ name_by y tags (names.Tagged n) u
unfolding name name_by
tagged-marks tags y s tag n done = refl
tagged-marks tags y s tag n (bytes b rest) = refl
tagged-marks tags y s tag n (item one rest) = refl

pub by-tagged : (tags : ℕ) (y : ReadSymbol) (t a : Term) (s : Bool) (tag : List ℕ) (n : ℕ) → t ≡ tagged s a tag → a ≡ plain_tree (table_of y) n → (u : Unshared) → name tags t u ≡ name_by y tags (names.Tagged n) u
by-tagged tags y t a s tag n is one u = ap (λ x. name tags x u) (is ∙ ap (λ x. tagged s x tag) one) ∙ tagged-marks tags y s tag n u

local-marks : (tags : ℕ) (y : ReadSymbol) (a b : Term) (d : Option (List ℕ)) (n : ℕ) → entity_of b ≡ plain_tree (table_of y) n → (u : Unshared) → name tags (local a b d) u ≡ name_by y tags (names.Inner n) u
unfolding name name_by
local-marks tags y a b d n is done = refl
local-marks tags y a b d n is (bytes c rest) = refl
local-marks tags y a b d n is (item one rest) = ap (λ x. name tags x one before plain rest) is

pub by-local : (tags : ℕ) (y : ReadSymbol) (t a b : Term) (d : Option (List ℕ)) (e n : ℕ) → t ≡ local a b d → b ≡ plain_tree (table_of y) e → plain_tree (table_of y) n ≡ entity_of (plain_tree (table_of y) e)
    → (u : Unshared) → name tags t u ≡ name_by y tags (names.Inner n) u
by-local tags y t a b d e n is one entity u = ap (λ x. name tags x u) is ∙ local-marks tags y a b d n (ap entity_of one ∙ sym entity) u

holder-marks : (tags : ℕ) (y : ReadSymbol) (n : ℕ) (u : Unshared) → name tags (holder (plain_tree (table_of y) n)) u ≡ name_by y tags (names.Inner n) u
unfolding name name_by
holder-marks tags y n done = refl
holder-marks tags y n (bytes b rest) = refl
holder-marks tags y n (item one rest) = refl

pub by-holder : (tags : ℕ) (y : ReadSymbol) (t a : Term) (n : ℕ) → t ≡ holder a → a ≡ plain_tree (table_of y) n → (u : Unshared) → name tags t u ≡ name_by y tags (names.Inner n) u
by-holder tags y t a n is one u = ap (λ x. name tags x u) (is ∙ ap holder one) ∙ holder-marks tags y n u

abbreviation-marks : (tags : ℕ) (y : ReadSymbol) (letter : ℕ) (u : Unshared) → name tags (abbreviation letter) u ≡ name_by y tags names.Abbreviation u
unfolding name name_by
abbreviation-marks tags y letter done = refl
abbreviation-marks tags y letter (bytes b rest) = refl
abbreviation-marks tags y letter (item one rest) = refl

pub by-abbreviation : (tags : ℕ) (y : ReadSymbol) (t : Term) (letter : ℕ) → t ≡ abbreviation letter → (u : Unshared) → name tags t u ≡ name_by y tags names.Abbreviation u
by-abbreviation tags y t letter is u = ap (λ x. name tags x u) is ∙ abbreviation-marks tags y letter u

pub by-no-name : (tags : ℕ) (y : ReadSymbol) (u : Unshared) → named u ≡ name_by y tags names.Other u
unfolding name_by
by-no-name tags y done = refl
by-no-name tags y (bytes b rest) = refl
by-no-name tags y (item one rest) = refl

pub by-function : (specials : ℕ) (y : ReadSymbol) (t a r p : Term) (q : Qualifiers) (mark : RefQualifier) (n m : ℕ) (nothing : Bool) → t ≡ function a q mark r p → a ≡ plain_tree (table_of y) n → p ≡ plain_tree (table_of y) m
    → is_absent r ≡ nothing → (u : Unshared) → encoding specials t u ≡ encoding_by y specials (encodings.Function n m nothing) u
unfolding encoding encoding_by
by-function specials y t a r p q mark n m nothing is one other none u =
    ap (λ x. encoding specials x u) is
    ∙ ap (λ x. returning x a p u) none
    ∙ ap (λ x. returning nothing x p u) one
    ∙ ap (λ x. returning nothing (plain_tree (table_of y) n) x u) other

object-marks : (specials : ℕ) (y : ReadSymbol) (q : Qualifiers) (mark : RefQualifier) (n : ℕ) (u : Unshared) → encoding specials (object (plain_tree (table_of y) n) q mark) u ≡ encoding_by y specials (encodings.Variable n) u
unfolding encoding encoding_by
object-marks specials y q mark n done = refl
object-marks specials y q mark n (bytes b done) = refl
object-marks specials y q mark n (bytes b (bytes c rest)) = refl
object-marks specials y q mark n (bytes b (item one rest)) = refl
object-marks specials y q mark n (item one rest) = refl

pub by-object : (specials : ℕ) (y : ReadSymbol) (t a : Term) (q : Qualifiers) (mark : RefQualifier) (n : ℕ) → t ≡ object a q mark → a ≡ plain_tree (table_of y) n → (u : Unshared) → encoding specials t u ≡ encoding_by y specials (encodings.Variable n) u
by-object specials y t a q mark n is one u = ap (λ x. encoding specials x u) (is ∙ ap (λ x. object x q mark) one) ∙ object-marks specials y q mark n u

thunk-marks : (specials : ℕ) (y : ReadSymbol) (kind : Thunk) (n : ℕ) (u : Unshared) → encoding specials (thunk kind (plain_tree (table_of y) n)) u ≡ encoding_by y specials (encodings.Target n) u
unfolding encoding encoding_by
thunk-marks specials y kind n done = refl
thunk-marks specials y kind n (item one rest) = refl
thunk-marks specials y kind n (bytes b done) = refl
thunk-marks specials y kind n (bytes b (bytes c rest)) = refl
thunk-marks specials y kind n (bytes b (item one rest)) = refl

pub by-thunk : (specials : ℕ) (y : ReadSymbol) (t a : Term) (kind : Thunk) (n : ℕ) → t ≡ thunk kind a → a ≡ plain_tree (table_of y) n → (u : Unshared) → encoding specials t u ≡ encoding_by y specials (encodings.Target n) u
by-thunk specials y t a kind n is one u = ap (λ x. encoding specials x u) (is ∙ ap (λ x. thunk kind x) one) ∙ thunk-marks specials y kind n u

clone-marks : (specials : ℕ) (y : ReadSymbol) (letter : ℕ) (n : ℕ) (u : Unshared) → encoding specials (clone letter (plain_tree (table_of y) n)) u ≡ encoding_by y specials (encodings.Target n) u
unfolding encoding encoding_by
clone-marks specials y letter n done = refl
clone-marks specials y letter n (item one rest) = refl
clone-marks specials y letter n (bytes b done) = refl
clone-marks specials y letter n (bytes b (bytes c rest)) = refl
clone-marks specials y letter n (bytes b (item one rest)) = refl

pub by-clone : (specials : ℕ) (y : ReadSymbol) (t a : Term) (letter n : ℕ) → t ≡ clone letter a → a ≡ plain_tree (table_of y) n → (u : Unshared) → encoding specials t u ≡ encoding_by y specials (encodings.Target n) u
by-clone specials y t a letter n is one u = ap (λ x. encoding specials x u) (is ∙ ap (λ x. clone letter x) one) ∙ clone-marks specials y letter n u

pub by-no-encoding : (specials : ℕ) (y : ReadSymbol) (u : Unshared) → special_name specials u ≡ encoding_by y specials encodings.Other u
unfolding encoding_by
by-no-encoding specials y done = refl
by-no-encoding specials y (item one rest) = refl
by-no-encoding specials y (bytes b done) = refl
by-no-encoding specials y (bytes b (bytes c rest)) = refl
by-no-encoding specials y (bytes b (item one rest)) = refl

-- a thunk of any kind has one part
pub thunk-parts : (t a : Term) (kind : Thunk) → t ≡ thunk kind a → length (fields_of t).parts ≡ 1
unfolding fields_of thunk_fields
thunk-parts t a kind is = ap (λ u. length (fields_of u).parts) is ∙ count kind a
  where
    count : (kind : Thunk) (a : Term) → length (fields_of (thunk kind a)).parts ≡ 1
    count (adjusting (non_virtual b)) a = refl
    count (adjusting (by_table b d)) a = refl
    count (covariant (non_virtual b) (non_virtual d)) a = refl
    count (covariant (non_virtual b) (by_table d e)) a = refl
    count (covariant (by_table b d) e) a = refl
