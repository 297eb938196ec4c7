-- The text of a symbol without its marks is what the symbol prints.
use Rattle.cpp_parts.proofs.Basics.{◌≡◌, ℕ, ◌+◌, ◌-◌, List, [], ◌∷◌, ◌++◌, length, take, drop, Bool, true, false, Option, Some, None, refl, sym, ap, ◌∙◌, append_assoc, append-nil, Term, symbol, function, object, thunk, clone, instance, local, holder, tagged, abbreviation, entity_of, Unshared, done, bytes, item, text_of, Marked, text, marked, ◌before◌, text_of-before, Role, Ordinal, Numbering, alone, numbered, only, plain, suffixed, whole, alone_if_any, words, returned, behind, scoped, in_std, abbreviated, are_colons, named, element_of, rest_of, within, inside, next, ordinal_of, elements, elements_after, element, in_brackets, parameters, arguments, name, called, is_absent, returning, special_name, encoding, symbol_marked}
use Rattle.std.proofs.lemmas.List.{take-append-drop}
use Rattle.sym_parts.specs.Marked as marks
use Rattle.sym_parts.specs.declared.role.Role.TheVariants as role
use Rattle.cpp_parts.specs.declared.numbering.Numbering.TheVariants as numbering

-- the text of a marked text
abbrev shown : Marked → List ℕ
shown m = marks.text_of m

-- a text that is cut in two, before others
cut : (n : ℕ) (b c : List ℕ) → take n b ++ (drop n b ++ c) ≡ b ++ c
cut n b c = sym (append_assoc (take n b) (drop n b) c) ∙ ap (λ t. t ++ c) (take-append-drop n b)

text-plain : (u : Unshared) → shown (plain u) ≡ text_of u
unfolding marks.text_of
text-plain u = append-nil (text_of u)

text-alone : (r : Role) (o : Ordinal) (b : List ℕ) (rest : Marked) → shown (alone r o b rest) ≡ b ++ shown rest
unfolding marks.text_of
text-alone r o b rest = ap (λ t. t ++ shown rest) (append-nil b)

text-whole : (r : Role) (o : Ordinal) (u : Unshared) → shown (whole r o u) ≡ text_of u
unfolding marks.text_of
text-whole r o u = append-nil _ ∙ append-nil (text_of u)

text-words : (specials : ℕ) (b : List ℕ) (rest : Marked) → shown (words specials b rest) ≡ b ++ shown rest
unfolding marks.text_of words
text-words specials b rest =
    ap (λ t. t ++ (drop (length b - 1) b ++ shown rest)) (append-nil (take (length b - 1) b)) ∙ cut (length b - 1) b (shown rest)

text-alone_if_any : (r : Role) (b : List ℕ) (rest : Marked) → shown (alone_if_any r b rest) ≡ b ++ shown rest
unfolding alone_if_any
text-alone_if_any r [] rest = refl
text-alone_if_any r (b ∷ bs) rest = text-alone r only (b ∷ bs) rest

text-returned : (u : Unshared) → shown (returned u) ≡ text_of u
unfolding returned
text-returned (item right rest) = text-alone_if_any role.ReturnType (text_of right) (plain rest) ∙ ap (λ t. text_of right ++ t) (text-plain rest)
text-returned done = text-plain done
text-returned (bytes b rest) = text-plain (bytes b rest)

text-behind : (u : Unshared) → shown (behind u) ≡ text_of u
unfolding behind
text-behind (bytes b rest) = text-alone role.Qualifiers only b (returned rest) ∙ ap (λ t. b ++ t) (text-returned rest)
text-behind done = text-returned done
text-behind (item right rest) = text-returned (item right rest)

-- the text of a base after a text
text-base : (r : Role) (b : List ℕ) (u : Unshared) → shown (marked r only (text b (plain u)) marks.done) ≡ b ++ text_of u
unfolding marks.text_of
text-base r b u = append-nil _ ∙ ap (λ t. b ++ t) (append-nil (text_of u))

text-scoped : (s b : List ℕ) (u : Unshared) → shown (scoped s b u) ≡ s ++ (b ++ text_of u)
unfolding marks.text_of scoped
text-scoped s b u =
    text-alone role.Scope only s (text (take 2 b) (marked role.Base only (text (drop 2 b) (plain u)) marks.done))
    ∙ ap (λ t. s ++ (take 2 b ++ t)) (text-base role.Base (drop 2 b) u)
    ∙ ap (λ t. s ++ t) (cut 2 b (text_of u))

text-in_std : (b : List ℕ) (u : Unshared) → shown (in_std b u) ≡ b ++ text_of u
unfolding marks.text_of in_std
text-in_std b u =
    text-alone role.Scope only (take 3 b) (text (drop 3 b) (whole role.Base only u)) ∙ ap (λ t. take 3 b ++ (drop 3 b ++ t)) (text-whole role.Base only u) ∙ cut 3 b (text_of u)

text-abbreviated : (u : Unshared) → shown (abbreviated u) ≡ text_of u
unfolding marks.text_of abbreviated
text-abbreviated (bytes b rest) =
    text-alone role.Scope only (take 3 b) (text (take 2 (drop 3 b)) (marked role.Base only (text (drop 2 (drop 3 b)) (plain rest)) marks.done))
    ∙ ap (λ t. take 3 b ++ (take 2 (drop 3 b) ++ t)) (text-base role.Base (drop 2 (drop 3 b)) rest)
    ∙ ap (λ t. take 3 b ++ t) (cut 2 (drop 3 b) (text_of rest))
    ∙ cut 3 b (text_of rest)
text-abbreviated done = text-whole role.Base only done
text-abbreviated (item one rest) = text-whole role.Base only (item one rest)

either : (test : Bool) (m n : Marked) (t : List ℕ) → shown m ≡ t → shown n ≡ t → shown (elim test [ true ↦ m | false ↦ n ]) ≡ t
either true m n t one other = one
either false m n t one other = other

text-named : (u : Unshared) → shown (named u) ≡ text_of u
unfolding named
text-named (item scope (bytes b rest)) =
    either (are_colons b) (scoped (text_of scope) b rest) (whole role.Base only (item scope (bytes b rest))) (text_of scope ++ (b ++ text_of rest))
    (text-scoped (text_of scope) b rest) (text-whole role.Base only (item scope (bytes b rest)))
text-named (item scope done) = text-whole role.Base only (item scope done)
text-named (item scope (item one rest)) = text-whole role.Base only (item scope (item one rest))
text-named (bytes std (item piece done)) = text-in_std std (item piece done)
text-named (bytes b (item piece (bytes c rest))) = text-whole role.Base only (bytes b (item piece (bytes c rest)))
text-named (bytes b (item piece (item one rest))) = text-whole role.Base only (bytes b (item piece (item one rest)))
text-named (bytes b done) = text-whole role.Base only (bytes b done)
text-named (bytes b (bytes c rest)) = text-whole role.Base only (bytes b (bytes c rest))
text-named done = text-whole role.Base only done

-- one marked text before another, by the texts of both
joins : (m n : Marked) (s t : List ℕ) → shown m ≡ s → shown n ≡ t → shown (m before n) ≡ s ++ t
joins m n s t one other = text_of-before m n ∙ ap (λ a. a ++ shown n) one ∙ ap (λ a. s ++ a) other

text-lone : (r : Role) (o : Ordinal) (left right : List ℕ) → shown (marked r o (text left (text right marks.done)) marks.done) ≡ left ++ right
unfolding marks.text_of
text-lone r o left right = append-nil _ ∙ ap (λ t. left ++ t) (append-nil right)

-- the text of a comma before others
text-comma : (comma : List ℕ) (m : Marked) (t : List ℕ) → shown m ≡ t → shown (text comma m) ≡ comma ++ t
unfolding marks.text_of
text-comma comma m t same = ap (λ a. comma ++ a) same

mutual
  unfolding elements elements_after element

  pub text-elements : (r : Role) (o : Numbering) (t : Term) (u : Unshared) → shown (elements r o t u) ≡ text_of u
  text-elements r o t done = text-plain done
  text-elements r o t (item skipped done) = text-elements r (next o) (rest_of t) skipped ∙ sym (append-nil (text_of skipped))
  text-elements r o t (item left (item right rest)) =
      joins (element r o (inside o (element_of t)) (within (element_of t)) left right) (elements_after r (next o) (rest_of t) rest) (text_of left ++ text_of right) (text_of rest)
      (text-element r o (inside o (element_of t)) (within (element_of t)) left right) (text-elements_after r (next o) (rest_of t) rest)
      ∙ append_assoc (text_of left) (text_of right) (text_of rest)
  text-elements r o t (item left (bytes b rest)) = text-plain (item left (bytes b rest))
  text-elements r o t (bytes comma (item skipped done)) =
      text-comma comma (elements r (next o) (rest_of t) skipped) (text_of skipped ++ []) (text-elements r (next o) (rest_of t) skipped ∙ sym (append-nil (text_of skipped)))
  text-elements r o t (bytes comma (item left (item right rest))) =
      text-comma comma (element r o (inside o (element_of t)) (within (element_of t)) left right before elements_after r (next o) (rest_of t) rest) (text_of left ++ (text_of right ++ text_of rest)) (
      joins (element r o (inside o (element_of t)) (within (element_of t)) left right) (elements_after r (next o) (rest_of t) rest) (text_of left ++ text_of right) (text_of rest)
      (text-element r o (inside o (element_of t)) (within (element_of t)) left right) (text-elements_after r (next o) (rest_of t) rest)
      ∙ append_assoc (text_of left) (text_of right) (text_of rest)
      )
  text-elements r o t (bytes comma (item left (bytes b rest))) = text-comma comma (plain (item left (bytes b rest))) _ (text-plain (item left (bytes b rest)))
  text-elements r o t (bytes comma (bytes b rest)) = text-comma comma (plain (bytes b rest)) _ (text-plain (bytes b rest))
  text-elements r o t (bytes comma done) = text-comma comma (plain done) _ (text-plain done)

  text-elements_after : (r : Role) (o : Numbering) (t : Term) (u : Unshared) → shown (elements_after r o t u) ≡ text_of u
  text-elements_after r o t (item others rest) = joins (elements r o t others) (plain rest) (text_of others) (text_of rest) (text-elements r o t others) (text-plain rest)
  text-elements_after r o t done = text-plain done
  text-elements_after r o t (bytes b rest) = text-plain (bytes b rest)

  text-element : (r : Role) (o p : Numbering) (e : Option Term) (left right : Unshared) → shown (element r o p e left right) ≡ text_of left ++ text_of right
  text-element r o p (Some t) (item inner done) done = text-elements r p t inner ∙ sym (append-nil (text_of inner)) ∙ sym (append-nil (text_of inner ++ []))
  text-element r o p (Some t) (item inner done) (bytes b rest) = text-lone r (ordinal_of o) _ _
  text-element r o p (Some t) (item inner done) (item one rest) = text-lone r (ordinal_of o) _ _
  text-element r o p (Some t) (item inner (bytes b rest)) right = text-lone r (ordinal_of o) _ _
  text-element r o p (Some t) (item inner (item one rest)) right = text-lone r (ordinal_of o) _ _
  text-element r o p (Some t) done right = text-lone r (ordinal_of o) _ _
  text-element r o p (Some t) (bytes b rest) right = text-lone r (ordinal_of o) _ _
  text-element r o p None left right = text-lone r (ordinal_of o) _ _

-- the text of a list in brackets, and of what is after it
text-listed : (r : Role) (opening close : List ℕ) (m : Marked) (t : List ℕ) (u : Unshared) → shown m ≡ t
    → shown (marked r only (text opening (m before text close marks.done)) (behind u)) ≡ opening ++ (t ++ (close ++ text_of u))
unfolding marks.text_of
text-listed r opening close m t u same =
    ap (λ a. (opening ++ a) ++ shown (behind u)) (joins m (text close marks.done) t close same (append-nil close))
    ∙ ap (λ a. (opening ++ (t ++ close)) ++ a) (text-behind u)
    ∙ append_assoc opening (t ++ close) (text_of u)
    ∙ ap (λ a. opening ++ a) (append_assoc t close (text_of u))

-- the text of brackets without a list, and of what is after them
text-empty : (r : Role) (opening close : List ℕ) (u : Unshared) → shown (marked r only (text opening (text close marks.done)) (behind u)) ≡ opening ++ (close ++ text_of u)
unfolding marks.text_of
text-empty r opening close u =
    ap (λ a. (opening ++ a) ++ shown (behind u)) (append-nil close) ∙ ap (λ a. (opening ++ close) ++ a) (text-behind u) ∙ append_assoc opening close (text_of u)

text-unlisted : (opening : List ℕ) (u : Unshared) → shown (text opening (plain u)) ≡ opening ++ text_of u
unfolding marks.text_of
text-unlisted opening u = ap (λ a. opening ++ a) (text-plain u)

text-in_brackets : (r e : Role) (t : Term) (opening : List ℕ) (u : Unshared) → shown (in_brackets r e t opening u) ≡ opening ++ text_of u
unfolding in_brackets
text-in_brackets r e t opening (item inner (bytes close rest)) = text-listed r opening close (elements e (numbering.Items 0) t inner) (text_of inner) rest (text-elements e (numbering.Items 0) t inner)
text-in_brackets r e t opening (item inner done) = text-unlisted opening (item inner done)
text-in_brackets r e t opening (item inner (item one rest)) = text-unlisted opening (item inner (item one rest))
text-in_brackets r e t opening (bytes close rest) = text-empty r opening close rest
text-in_brackets r e t opening done = text-unlisted opening done

text-parameters : (t : Term) (u : Unshared) → shown (parameters t u) ≡ text_of u
unfolding parameters
text-parameters t (bytes opening rest) = text-in_brackets _ _ t opening rest
text-parameters t done = text-plain done
text-parameters t (item one rest) = text-plain (item one rest)

text-arguments : (t : Term) (u : Unshared) → shown (arguments t u) ≡ text_of u
unfolding arguments
text-arguments t (bytes opening rest) =
    text-comma (take (length opening - 1) opening) _ _ (text-in_brackets _ _ t (drop (length opening - 1) opening) rest) ∙ cut (length opening - 1) opening (text_of rest)
text-arguments t done = text-plain done
text-arguments t (item one rest) = text-plain (item one rest)

pub text-name : (tags : ℕ) (t : Term) (u : Unshared) → shown (name tags t u) ≡ text_of u
unfolding name
text-name tags (instance template args) (item inner rest) = joins (name tags template inner) (arguments args rest) _ _ (text-name tags template inner) (text-arguments args rest)
text-name tags (tagged of_structor inner tag) (item one rest) = joins (name (tags + 1) inner one) (whole role.AbiTag (numbered tags) rest) _ _ (text-name (tags + 1) inner one) (text-whole role.AbiTag (numbered tags) rest)
text-name tags (local around entity discriminator) (item one rest) = joins (name tags (entity_of entity) one) (plain rest) _ _ (text-name tags (entity_of entity) one) (text-plain rest)
text-name tags (holder inner) (item one rest) = joins (name tags inner one) (plain rest) _ _ (text-name tags inner one) (text-plain rest)
text-name tags (abbreviation letter) done = text-abbreviated done
text-name tags (abbreviation letter) (bytes b rest) = text-abbreviated (bytes b rest)
text-name tags (abbreviation letter) (item one rest) = text-abbreviated (item one rest)
text-name tags t done = text-named done
text-name tags t (bytes b rest) = text-named (bytes b rest)
text-name tags t (item one rest) = text-named (item one rest)

text-called : (n params : Term) (u : Unshared) → shown (called n params u) ≡ text_of u
unfolding called
text-called n params (item one rest) = joins (name 0 n one) (parameters params rest) _ _ (text-name 0 n one) (text-parameters params rest)
text-called n params done = text-plain done
text-called n params (bytes b rest) = text-plain (bytes b rest)

text-returning : (nothing : Bool) (n params : Term) (u : Unshared) → shown (returning nothing n params u) ≡ text_of u
unfolding returning
text-returning false n params (item left (bytes blank rest)) =
    text-alone role.ReturnType only (text_of left) (text blank (called n params rest)) ∙ ap (λ t. text_of left ++ t) (text-comma blank (called n params rest) (text_of rest) (text-called n params rest))
text-returning false n params (item left done) = text-called n params (item left done)
text-returning false n params (item left (item one rest)) = text-called n params (item left (item one rest))
text-returning false n params done = text-called n params done
text-returning false n params (bytes b rest) = text-called n params (bytes b rest)
text-returning true n params u = text-called n params u

text-special_name : (specials : ℕ) (u : Unshared) → shown (special_name specials u) ≡ text_of u
unfolding special_name
text-special_name specials (bytes b rest) = text-words specials b (whole role.Object only rest) ∙ ap (λ t. b ++ t) (text-whole role.Object only rest)
text-special_name specials done = text-plain done
text-special_name specials (item one rest) = text-plain (item one rest)

text-target : (specials : ℕ) (b : List ℕ) (m : Marked) (one rest : Unshared) → shown m ≡ text_of one → shown (words specials b (m before plain rest)) ≡ b ++ (text_of one ++ text_of rest)
text-target specials b m one rest same = text-words specials b (m before plain rest) ∙ ap (λ t. b ++ t) (joins m (plain rest) _ _ same (text-plain rest))

pub text-encoding : (specials : ℕ) (t : Term) (u : Unshared) → shown (encoding specials t u) ≡ text_of u
unfolding encoding
text-encoding specials (function n q mark ret params) u = text-returning (is_absent ret) n params u
text-encoding specials (object n q mark) (item one rest) = joins (name 0 n one) (behind rest) _ _ (text-name 0 n one) (text-behind rest)
text-encoding specials (thunk kind e) (bytes b (item one rest)) = text-target specials b (encoding (specials + 1) e one) one rest (text-encoding (specials + 1) e one)
text-encoding specials (clone letter e) (bytes b (item one rest)) = text-target specials b (encoding (specials + 1) e one) one rest (text-encoding (specials + 1) e one)
text-encoding specials t done = text-special_name specials done
text-encoding specials t (item one rest) = text-special_name specials (item one rest)
text-encoding specials t (bytes b done) = text-special_name specials (bytes b done)
text-encoding specials t (bytes b (bytes c rest)) = text-special_name specials (bytes b (bytes c rest))
text-encoding specials t (bytes b (item one rest)) = text-special_name specials (bytes b (item one rest))

text-suffixed : (u : Unshared) → shown (suffixed u) ≡ text_of u
unfolding suffixed
text-suffixed (bytes opening (bytes suffix rest)) =
    text-comma opening _ _ (text-alone role.Suffix only suffix (plain rest) ∙ ap (λ t. suffix ++ t) (text-plain rest))
text-suffixed done = text-plain done
text-suffixed (item one rest) = text-plain (item one rest)
text-suffixed (bytes b done) = text-plain (bytes b done)
text-suffixed (bytes b (item one rest)) = text-plain (bytes b (item one rest))

-- the text of a whole symbol
pub text-symbol : (t : Term) (u : Unshared) → shown (symbol_marked t u) ≡ text_of u
unfolding symbol_marked
text-symbol (symbol e suffix) (item one rest) = joins (encoding 0 e one) (suffixed rest) _ _ (text-encoding 0 e one) (text-suffixed rest)
text-symbol (symbol e suffix) done = text-plain done
text-symbol (symbol e suffix) (bytes b rest) = text-plain (bytes b rest)
text-symbol t done = text-plain done
text-symbol t (bytes b rest) = text-plain (bytes b rest)
text-symbol t (item one rest) = text-plain (item one rest)
