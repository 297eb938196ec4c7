-- The text of a symbol has at most as many marks as printing it takes steps.
use Rattle.cpp_parts.proofs.Basics.{◌≡◌, ℕ, ◌+◌, ◌-◌, ◌≤◌, List, [], ◌∷◌, length, take, drop, Bool, true, false, Option, Some, None, arith, Term, symbol, function, object, thunk, clone, instance, local, holder, tagged, abbreviation, entity_of, Unshared, done, bytes, item, text_of, steps_of_parts, Marked, text, marked, marks_in, ◌before◌, Role, Ordinal, Numbering, alone, numbered, only, plain, suffixed, whole, alone_if_any, words, returned, behind, scoped, in_std, abbreviated, are_colons, named, element_of, rest_of, within, inside, next, ordinal_of, elements, elements_after, element, in_brackets, parameters, arguments, name, called, is_absent, returning, special_name, encoding, symbol_marked}
use Rattle.sym_parts.specs.Marked as marks
use Rattle.sym_parts.specs.declared.role.Role.TheVariants as role
use Rattle.cpp_parts.specs.declared.numbering.Numbering.TheVariants as numbering

-- two marked texts in a row have as many marks as the two have apart
joined : (m others : Marked) → marks_in (m before others) ≡ marks_in m + marks_in others
unfolding marks_in ◌before◌
joined marks.done others = omega arith
joined (text b rest) others = joined rest others
joined (marked r o inside rest) others = omega (arith, joined rest others)

joins : (m n : Marked) (a b most : ℕ) → marks_in m ≤ a → marks_in n ≤ b → a + b ≤ most → marks_in (m before n) ≤ most
joins m n a b most one other few = omega (arith, joined m n, one, other, few)

few-whole : (r : Role) (o : Ordinal) (u : Unshared) → marks_in (whole r o u) ≤ 1
unfolding marks_in
few-whole r o u = omega arith

few-alone_if_any : (r : Role) (b : List ℕ) (rest : Marked) → marks_in (alone_if_any r b rest) ≤ 1 + marks_in rest
unfolding marks_in alone_if_any
few-alone_if_any r [] rest = omega arith
few-alone_if_any r (b ∷ bs) rest = omega arith

few-words : (specials : ℕ) (b : List ℕ) (rest : Marked) → marks_in (words specials b rest) ≤ 1 + marks_in rest
unfolding marks_in words
few-words specials b rest = omega arith

few-plain : (u : Unshared) → marks_in (plain u) ≤ 0
unfolding marks_in
few-plain u = omega arith

few-returned : (u : Unshared) → marks_in (returned u) ≤ steps_of_parts u
unfolding returned
few-returned (item right rest) = omega (arith, few-alone_if_any role.ReturnType (text_of right) (plain rest), few-plain rest)
few-returned done = omega (arith, few-plain done)
few-returned (bytes b rest) = omega (arith, few-plain (bytes b rest))

few-behind : (u : Unshared) → marks_in (behind u) ≤ steps_of_parts u
unfolding marks_in behind
few-behind (bytes b rest) = omega (arith, few-returned rest)
few-behind done = few-returned done
few-behind (item right rest) = few-returned (item right rest)

few-scoped : (s b : List ℕ) (u : Unshared) → marks_in (scoped s b u) ≤ 2
unfolding marks_in scoped
few-scoped s b u = omega arith

few-in_std : (b : List ℕ) (u : Unshared) → marks_in (in_std b u) ≤ 2
unfolding marks_in in_std
few-in_std b u = omega arith

few-abbreviated : (u : Unshared) → marks_in (abbreviated u) ≤ 1 + steps_of_parts u
unfolding marks_in abbreviated
few-abbreviated (bytes b rest) = omega arith
few-abbreviated done = omega arith
few-abbreviated (item one rest) = omega arith

either : (test : Bool) (m n : Marked) (most : ℕ) → marks_in m ≤ most → marks_in n ≤ most → marks_in (elim test [ true ↦ m | false ↦ n ]) ≤ most
either true m n most one other = one
either false m n most one other = other

few-named : (u : Unshared) → marks_in (named u) ≤ 1 + steps_of_parts u
unfolding named
few-named (item scope (bytes b rest)) =
    either (are_colons b) (scoped (text_of scope) b rest) (whole role.Base only (item scope (bytes b rest))) (1 + steps_of_parts (item scope (bytes b rest)))
    (omega (arith, few-scoped (text_of scope) b rest)) (omega (arith, few-whole role.Base only (item scope (bytes b rest))))
few-named (item scope done) = omega (arith, few-whole role.Base only (item scope done))
few-named (item scope (item one rest)) = omega (arith, few-whole role.Base only (item scope (item one rest)))
few-named (bytes std (item piece done)) = omega (arith, few-in_std std (item piece done))
few-named (bytes b (item piece (bytes c rest))) = omega (arith, few-whole role.Base only (bytes b (item piece (bytes c rest))))
few-named (bytes b (item piece (item one rest))) = omega (arith, few-whole role.Base only (bytes b (item piece (item one rest))))
few-named (bytes b done) = omega (arith, few-whole role.Base only (bytes b done))
few-named (bytes b (bytes c rest)) = omega (arith, few-whole role.Base only (bytes b (bytes c rest)))
few-named done = omega (arith, few-whole role.Base only done)

few-lone : (r : Role) (o : Ordinal) (left right : List ℕ) → marks_in (marked r o (text left (text right marks.done)) marks.done) ≤ 1
unfolding marks_in
few-lone r o left right = omega arith

few-comma : (comma : List ℕ) (m : Marked) (most : ℕ) → marks_in m ≤ most → marks_in (text comma m) ≤ 1 + most
unfolding marks_in
few-comma comma m most few = omega (arith, few)

mutual
  unfolding elements elements_after element

  few-elements : (r : Role) (o : Numbering) (t : Term) (u : Unshared) → marks_in (elements r o t u) ≤ steps_of_parts u
  few-elements r o t done = omega (arith, few-plain done)
  few-elements r o t (item skipped done) = omega (arith, few-elements r (next o) (rest_of t) skipped)
  few-elements r o t (item left (item right rest)) =
      joins (element r o (inside o (element_of t)) (within (element_of t)) left right) (elements_after r (next o) (rest_of t) rest) (1 + (steps_of_parts left + steps_of_parts right)) (steps_of_parts rest) _
      (few-element r o (inside o (element_of t)) (within (element_of t)) left right) (few-elements_after r (next o) (rest_of t) rest) (omega arith)
  few-elements r o t (item left (bytes b rest)) = omega (arith, few-plain (item left (bytes b rest)))
  few-elements r o t (bytes comma (item skipped done)) = few-comma comma (elements r (next o) (rest_of t) skipped) (steps_of_parts (item skipped done)) (omega (arith, few-elements r (next o) (rest_of t) skipped))
  few-elements r o t (bytes comma (item left (item right rest))) =
      few-comma comma (element r o (inside o (element_of t)) (within (element_of t)) left right before elements_after r (next o) (rest_of t) rest) (steps_of_parts (item left (item right rest))) (
      joins (element r o (inside o (element_of t)) (within (element_of t)) left right) (elements_after r (next o) (rest_of t) rest) (1 + (steps_of_parts left + steps_of_parts right)) (steps_of_parts rest) _
      (few-element r o (inside o (element_of t)) (within (element_of t)) left right) (few-elements_after r (next o) (rest_of t) rest) (omega arith)
      )
  few-elements r o t (bytes comma (item left (bytes b rest))) = few-comma comma (plain (item left (bytes b rest))) (steps_of_parts (item left (bytes b rest))) (omega (arith, few-plain (item left (bytes b rest))))
  few-elements r o t (bytes comma (bytes b rest)) = few-comma comma (plain (bytes b rest)) (steps_of_parts (bytes b rest)) (omega (arith, few-plain (bytes b rest)))
  few-elements r o t (bytes comma done) = few-comma comma (plain done) 0 (omega (arith, few-plain done))

  few-elements_after : (r : Role) (o : Numbering) (t : Term) (u : Unshared) → marks_in (elements_after r o t u) ≤ steps_of_parts u
  few-elements_after r o t (item others rest) =
      joins (elements r o t others) (plain rest) (steps_of_parts others) 0 _ (few-elements r o t others) (few-plain rest) (omega arith)
  few-elements_after r o t done = omega (arith, few-plain done)
  few-elements_after r o t (bytes b rest) = omega (arith, few-plain (bytes b rest))

  few-element : (r : Role) (o p : Numbering) (e : Option Term) (left right : Unshared) → marks_in (element r o p e left right) ≤ 1 + (steps_of_parts left + steps_of_parts right)
  few-element r o p (Some t) (item inner done) done = omega (arith, few-elements r p t inner)
  few-element r o p (Some t) (item inner done) (bytes b rest) = omega (arith, few-lone r (ordinal_of o) (text_of (item inner done)) (text_of (bytes b rest)))
  few-element r o p (Some t) (item inner done) (item one rest) = omega (arith, few-lone r (ordinal_of o) (text_of (item inner done)) (text_of (item one rest)))
  few-element r o p (Some t) (item inner (bytes b rest)) right = omega (arith, few-lone r (ordinal_of o) (text_of (item inner (bytes b rest))) (text_of right))
  few-element r o p (Some t) (item inner (item one rest)) right = omega (arith, few-lone r (ordinal_of o) (text_of (item inner (item one rest))) (text_of right))
  few-element r o p (Some t) done right = omega (arith, few-lone r (ordinal_of o) (text_of done) (text_of right))
  few-element r o p (Some t) (bytes b rest) right = omega (arith, few-lone r (ordinal_of o) (text_of (bytes b rest)) (text_of right))
  few-element r o p None left right = omega (arith, few-lone r (ordinal_of o) (text_of left) (text_of right))

-- a list in brackets has one mark more than the list, and what follows it has at most as many marks as steps
few-listed : (r : Role) (opening close : List ℕ) (m : Marked) (most : ℕ) (u : Unshared) → marks_in m ≤ most
    → marks_in (marked r only (text opening (m before text close marks.done)) (behind u)) ≤ 1 + (most + steps_of_parts u)
unfolding marks_in
few-listed r opening close m most u few = omega (arith, joined m (text close marks.done), few, few-behind u)

few-empty : (r : Role) (opening close : List ℕ) (u : Unshared) → marks_in (marked r only (text opening (text close marks.done)) (behind u)) ≤ 1 + steps_of_parts u
unfolding marks_in
few-empty r opening close u = omega (arith, few-behind u)

few-unlisted : (opening : List ℕ) (u : Unshared) → marks_in (text opening (plain u)) ≤ 0
unfolding marks_in
few-unlisted opening u = omega arith

few-in_brackets : (r e : Role) (t : Term) (opening : List ℕ) (u : Unshared) → marks_in (in_brackets r e t opening u) ≤ steps_of_parts u
unfolding in_brackets
few-in_brackets r e t opening (item inner (bytes close rest)) =
    omega (arith, few-listed r opening close (elements e (numbering.Items 0) t inner) (steps_of_parts inner) rest (few-elements e (numbering.Items 0) t inner))
few-in_brackets r e t opening (item inner done) = omega (arith, few-unlisted opening (item inner done))
few-in_brackets r e t opening (item inner (item one rest)) = omega (arith, few-unlisted opening (item inner (item one rest)))
few-in_brackets r e t opening (bytes close rest) = omega (arith, few-empty r opening close rest)
few-in_brackets r e t opening done = omega (arith, few-unlisted opening done)

few-parameters : (t : Term) (u : Unshared) → marks_in (parameters t u) ≤ steps_of_parts u
unfolding parameters
few-parameters t (bytes opening rest) = omega (arith, few-in_brackets role.Parameters role.Parameter t opening rest)
few-parameters t done = omega (arith, few-plain done)
few-parameters t (item one rest) = omega (arith, few-plain (item one rest))

few-arguments : (t : Term) (u : Unshared) → marks_in (arguments t u) ≤ steps_of_parts u
unfolding arguments
few-arguments t (bytes opening rest) =
    few-comma (take (length opening - 1) opening) _ _ (few-in_brackets role.GenericArguments role.GenericArgument t (drop (length opening - 1) opening) rest)
few-arguments t done = omega (arith, few-plain done)
few-arguments t (item one rest) = omega (arith, few-plain (item one rest))

few-name : (tags : ℕ) (t : Term) (u : Unshared) → marks_in (name tags t u) ≤ 1 + steps_of_parts u
unfolding name
few-name tags (instance template args) (item inner rest) =
    joins (name tags template inner) (arguments args rest) (1 + steps_of_parts inner) (steps_of_parts rest) _ (few-name tags template inner) (few-arguments args rest) (omega arith)
few-name tags (tagged of_structor inner tag) (item one rest) =
    joins (name (tags + 1) inner one) (whole role.AbiTag (numbered tags) rest) (1 + steps_of_parts one) 1 _ (few-name (tags + 1) inner one) (few-whole role.AbiTag (numbered tags) rest) (omega arith)
few-name tags (local around entity discriminator) (item one rest) =
    joins (name tags (entity_of entity) one) (plain rest) (1 + steps_of_parts one) 0 _ (few-name tags (entity_of entity) one) (few-plain rest) (omega arith)
few-name tags (holder inner) (item one rest) = joins (name tags inner one) (plain rest) (1 + steps_of_parts one) 0 _ (few-name tags inner one) (few-plain rest) (omega arith)
few-name tags (abbreviation letter) done = few-abbreviated done
few-name tags (abbreviation letter) (bytes b rest) = few-abbreviated (bytes b rest)
few-name tags (abbreviation letter) (item one rest) = few-abbreviated (item one rest)
few-name tags t done = few-named done
few-name tags t (bytes b rest) = few-named (bytes b rest)
few-name tags t (item one rest) = few-named (item one rest)

few-called : (n params : Term) (u : Unshared) → marks_in (called n params u) ≤ steps_of_parts u
unfolding called
few-called n params (item one rest) =
    joins (name 0 n one) (parameters params rest) (1 + steps_of_parts one) (steps_of_parts rest) _ (few-name 0 n one) (few-parameters params rest) (omega arith)
few-called n params done = omega (arith, few-plain done)
few-called n params (bytes b rest) = omega (arith, few-plain (bytes b rest))

few-led : (b blank : List ℕ) (m : Marked) → marks_in (alone role.ReturnType only b (text blank m)) ≤ 1 + marks_in m
unfolding marks_in
few-led b blank m = omega arith

few-returning : (nothing : Bool) (n params : Term) (u : Unshared) → marks_in (returning nothing n params u) ≤ steps_of_parts u
unfolding returning
few-returning false n params (item left (bytes blank rest)) = omega (arith, few-led (text_of left) blank (called n params rest), few-called n params rest)
few-returning false n params (item left done) = few-called n params (item left done)
few-returning false n params (item left (item one rest)) = few-called n params (item left (item one rest))
few-returning false n params done = few-called n params done
few-returning false n params (bytes b rest) = few-called n params (bytes b rest)
few-returning true n params u = few-called n params u

few-special_name : (specials : ℕ) (u : Unshared) → marks_in (special_name specials u) ≤ 1 + steps_of_parts u
unfolding special_name
few-special_name specials (bytes b rest) = omega (arith, few-words specials b (whole role.Object only rest), few-whole role.Object only rest)
few-special_name specials done = omega (arith, few-plain done)
few-special_name specials (item one rest) = omega (arith, few-plain (item one rest))

few-target : (specials : ℕ) (b : List ℕ) (m : Marked) (one rest : Unshared) → marks_in m ≤ 1 + steps_of_parts one
    → marks_in (words specials b (m before plain rest)) ≤ 1 + steps_of_parts (bytes b (item one rest))
few-target specials b m one rest few = omega (arith, few-words specials b (m before plain rest), joined m (plain rest), few-plain rest, few)

few-encoding : (specials : ℕ) (t : Term) (u : Unshared) → marks_in (encoding specials t u) ≤ 1 + steps_of_parts u
unfolding encoding
few-encoding specials (function n q mark ret params) u = omega (arith, few-returning (is_absent ret) n params u)
few-encoding specials (object n q mark) (item one rest) =
    joins (name 0 n one) (behind rest) (1 + steps_of_parts one) (steps_of_parts rest) _ (few-name 0 n one) (few-behind rest) (omega arith)
few-encoding specials (thunk kind e) (bytes b (item one rest)) = few-target specials b (encoding (specials + 1) e one) one rest (few-encoding (specials + 1) e one)
few-encoding specials (clone letter e) (bytes b (item one rest)) = few-target specials b (encoding (specials + 1) e one) one rest (few-encoding (specials + 1) e one)
few-encoding specials t done = few-special_name specials done
few-encoding specials t (item one rest) = few-special_name specials (item one rest)
few-encoding specials t (bytes b done) = few-special_name specials (bytes b done)
few-encoding specials t (bytes b (bytes c rest)) = few-special_name specials (bytes b (bytes c rest))
few-encoding specials t (bytes b (item one rest)) = few-special_name specials (bytes b (item one rest))

few-suffix : (opening suffix : List ℕ) (u : Unshared) → marks_in (text opening (alone role.Suffix only suffix (plain u))) ≤ 1
unfolding marks_in
few-suffix opening suffix u = omega arith

few-suffixed : (u : Unshared) → marks_in (suffixed u) ≤ steps_of_parts u
unfolding suffixed
few-suffixed (bytes opening (bytes suffix rest)) = omega (arith, few-suffix opening suffix rest)
few-suffixed done = omega (arith, few-plain done)
few-suffixed (item one rest) = omega (arith, few-plain (item one rest))
few-suffixed (bytes b done) = omega (arith, few-plain (bytes b done))
few-suffixed (bytes b (item one rest)) = omega (arith, few-plain (bytes b (item one rest)))

-- a whole symbol has at most as many marks as printing it takes steps
pub few-symbol : (t : Term) (u : Unshared) → marks_in (symbol_marked t u) ≤ steps_of_parts u
unfolding symbol_marked
few-symbol (symbol e suffix) (item one rest) =
    joins (encoding 0 e one) (suffixed rest) (1 + steps_of_parts one) (steps_of_parts rest) _ (few-encoding 0 e one) (few-suffixed rest) (omega arith)
few-symbol (symbol e suffix) done = omega (arith, few-plain done)
few-symbol (symbol e suffix) (bytes b rest) = omega (arith, few-plain (bytes b rest))
few-symbol t done = omega (arith, few-plain done)
few-symbol t (bytes b rest) = omega (arith, few-plain (bytes b rest))
few-symbol t (item one rest) = omega (arith, few-plain (item one rest))
