-- The text of a symbol without its marks is what the symbol prints.
use Rattle.rust_parts.proofs.Basics.{◌≡◌, ℕ, ◌+◌, List, ◌++◌, take, drop, sym, ap, ◌∙◌, append_assoc, append-nil, Path, Symbol, crate_root, inherent_impl, trait_impl, trait_definition, nested, generic, Unshared, done, bytes, item, text_of, Marked, text, marked, ◌before◌, plain, whole, alone, numbered, only, suffixed, text_of-before, Role, Ordinal, argument, elements, listed, arguments, of_trait, of_type, implementation, scope, scoped, name, symbol_marked}
use Rattle.std.proofs.lemmas.List.{take-append-drop}
use Rattle.sym_parts.specs.Marked as marks
use Rattle.sym_parts.specs.declared.role.Role.TheVariants as role

-- the text of a marked text
abbrev shown : Marked → List ℕ
shown m = marks.text_of m

-- a text that is cut in two, before others
cut : (n : ℕ) (b c : List ℕ) → take n b ++ (drop n b ++ c) ≡ b ++ c
cut n b c = sym (append_assoc (take n b) (drop n b) c) ∙ ap (λ t. t ++ c) (take-append-drop n b)

-- the text of one marked text before another
joins : (m others : Marked) (t v : List ℕ) → shown m ≡ t → shown others ≡ v → shown (m before others) ≡ t ++ v
joins m others t v first second = text_of-before m others ∙ ap (λ x. x ++ shown others) first ∙ ap (λ x. t ++ x) second

text-plain : (u : Unshared) → shown (plain u) ≡ text_of u
unfolding marks.text_of
text-plain u = append-nil (text_of u)

text-whole : (r : Role) (o : Ordinal) (u : Unshared) → shown (whole r o u) ≡ text_of u
unfolding marks.text_of
text-whole r o u = append-nil _ ∙ append-nil (text_of u)

text-alone : (r : Role) (o : Ordinal) (b : List ℕ) (rest : Marked) → shown (alone r o b rest) ≡ b ++ shown rest
unfolding marks.text_of
text-alone r o b rest = ap (λ t. t ++ shown rest) (append-nil b)

text-first : (b : List ℕ) (m : Marked) (t : List ℕ) → shown m ≡ t → shown (text b m) ≡ b ++ t
unfolding marks.text_of
text-first b m t same = ap (λ x. b ++ x) same

-- one part, after a text and before others
text-after : (r : Role) (o : Ordinal) (b c : List ℕ) (rest : Marked) (t : List ℕ) → shown rest ≡ t → shown (text b (alone r o c rest)) ≡ b ++ (c ++ t)
text-after r o b c rest t same = text-first b (alone r o c rest) (c ++ t) (text-alone r o c rest ∙ ap (λ x. c ++ x) same)

-- a whole marked text in one part, after a text
text-inside : (r : Role) (o : Ordinal) (b : List ℕ) (m : Marked) (t : List ℕ) → shown m ≡ t → shown (marked r o (text b m) marks.done) ≡ b ++ t
unfolding marks.text_of
text-inside r o b m t same = append-nil _ ∙ ap (λ x. b ++ x) same

mutual
  unfolding elements listed

  pub text-elements : (list number : ℕ) (u : Unshared) → shown (elements list number u) ≡ text_of u
  text-elements list number done = text-plain done
  text-elements list number (item one rest) = text-alone role.GenericArgument (argument list number) (text_of one) (listed list (number + 1) rest) ∙ ap (λ x. text_of one ++ x) (text-listed list (number + 1) rest)
  text-elements list number (bytes comma (item one rest)) = text-after role.GenericArgument (argument list number) comma (text_of one) (listed list (number + 1) rest) (text_of rest) (text-listed list (number + 1) rest)
  text-elements list number (bytes comma done) = text-plain (bytes comma done)
  text-elements list number (bytes comma (bytes b rest)) = text-plain (bytes comma (bytes b rest))

  pub text-listed : (list number : ℕ) (u : Unshared) → shown (listed list number u) ≡ text_of u
  text-listed list number done = text-plain done
  text-listed list number (bytes b rest) = text-plain (bytes b rest)
  text-listed list number (item others rest) = joins (elements list number others) (plain rest) _ _ (text-elements list number others) (text-plain rest)

text-arguments : (list : ℕ) (u : Unshared) → shown (arguments list u) ≡ text_of u
unfolding arguments
text-arguments list (bytes opening rest) =
    text-first (take 2 opening) _ _ (text-inside role.GenericArguments (numbered list) (drop 2 opening) (listed list 1 rest) (text_of rest) (text-listed list 1 rest)) ∙ cut 2 opening (text_of rest)
text-arguments list done = text-plain done
text-arguments list (item one rest) = text-plain (item one rest)

text-of_trait : (u : Unshared) → shown (of_trait u) ≡ text_of u
unfolding of_trait
text-of_trait (bytes between (item implemented rest)) = text-after role.Trait only between (text_of implemented) (plain rest) (text_of rest) (text-plain rest)
text-of_trait done = text-plain done
text-of_trait (item one rest) = text-plain (item one rest)
text-of_trait (bytes b done) = text-plain (bytes b done)
text-of_trait (bytes b (bytes c rest)) = text-plain (bytes b (bytes c rest))

pub text-of_type : (u : Unshared) → shown (of_type u) ≡ text_of u
unfolding of_type
text-of_type (bytes opening (item self_type rest)) = text-after role.SelfType only opening (text_of self_type) (of_trait rest) (text_of rest) (text-of_trait rest)
text-of_type done = text-plain done
text-of_type (item one rest) = text-plain (item one rest)
text-of_type (bytes b done) = text-plain (bytes b done)
text-of_type (bytes b (bytes c rest)) = text-plain (bytes b (bytes c rest))

text-implementation : (u : Unshared) → shown (implementation u) ≡ text_of u
unfolding marks.text_of
text-implementation u = append-nil _ ∙ text-of_type u

pub text-scope : (lists : ℕ) (p : Path) (u : Unshared) → shown (scope lists p u) ≡ text_of u
unfolding scope
text-scope lists (nested namespace parent own) (item one rest) = joins (scope lists parent one) (plain rest) _ _ (text-scope lists parent one) (text-plain rest)
text-scope lists (generic parent args) (item one rest) = joins (scope (lists + 1) parent one) (arguments lists rest) _ _ (text-scope (lists + 1) parent one) (text-arguments lists rest)
text-scope lists (crate_root own) u = text-whole role.Crate only u
text-scope lists path done = text-implementation done
text-scope lists path (bytes b rest) = text-implementation (bytes b rest)
text-scope lists path (item one rest) = text-implementation (item one rest)

-- a scope, and a base after the colons
text-scoped : (m : Marked) (b : List ℕ) (u : Unshared) (t : List ℕ) → shown m ≡ t → shown (scoped m b u) ≡ t ++ (b ++ text_of u)
unfolding marks.text_of scoped
text-scoped m b u t same =
    ap (λ x. x ++ (take 2 b ++ shown (marked role.Base only (text (drop 2 b) (plain u)) marks.done))) same
    ∙ ap (λ x. t ++ (take 2 b ++ x)) (text-inside role.Base only (drop 2 b) (plain u) (text_of u) (text-plain u))
    ∙ ap (λ x. t ++ x) (cut 2 b (text_of u))

text-name : (lists : ℕ) (p : Path) (u : Unshared) → shown (name lists p u) ≡ text_of u
unfolding name
text-name lists (nested namespace parent own) (item one (bytes colons rest)) = text-scoped (scope lists parent one) colons rest (text_of one) (text-scope lists parent one)
text-name lists (nested namespace parent own) (item one done) = joins (name lists parent one) (plain done) _ _ (text-name lists parent one) (text-plain done)
text-name lists (nested namespace parent own) (item one (item other rest)) = joins (name lists parent one) (plain (item other rest)) _ _ (text-name lists parent one) (text-plain (item other rest))
text-name lists (generic parent args) (item one rest) = joins (name (lists + 1) parent one) (arguments lists rest) _ _ (text-name (lists + 1) parent one) (text-arguments lists rest)
text-name lists (nested namespace parent own) done = text-scope lists (nested namespace parent own) done
text-name lists (nested namespace parent own) (bytes b rest) = text-scope lists (nested namespace parent own) (bytes b rest)
text-name lists (generic parent args) done = text-scope lists (generic parent args) done
text-name lists (generic parent args) (bytes b rest) = text-scope lists (generic parent args) (bytes b rest)
text-name lists (crate_root own) u = text-scope lists (crate_root own) u
text-name lists (inherent_impl n p t) u = text-scope lists (inherent_impl n p t) u
text-name lists (trait_impl n p t q) u = text-scope lists (trait_impl n p t q) u
text-name lists (trait_definition t q) u = text-scope lists (trait_definition t q) u

text-suffixed : (u : Unshared) → shown (suffixed u) ≡ text_of u
unfolding suffixed
text-suffixed (bytes opening (bytes suffix rest)) = text-after role.Suffix only opening suffix (plain rest) (text_of rest) (text-plain rest)
text-suffixed done = text-plain done
text-suffixed (item one rest) = text-plain (item one rest)
text-suffixed (bytes b done) = text-plain (bytes b done)
text-suffixed (bytes b (item one rest)) = text-plain (bytes b (item one rest))

-- the text of a whole symbol
pub text-symbol : (s : Symbol) (u : Unshared) → shown (symbol_marked s u) ≡ text_of u
unfolding symbol_marked
text-symbol s (item one rest) = joins (name 0 s.path one) (suffixed rest) _ _ (text-name 0 s.path one) (text-suffixed rest)
text-symbol s done = text-plain done
text-symbol s (bytes b rest) = text-plain (bytes b rest)
