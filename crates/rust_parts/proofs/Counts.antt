-- The text of a symbol has at most one mark for each step of printing it.
use Rattle.rust_parts.proofs.Basics.{◌≡◌, ℕ, ◌+◌, ◌≤◌, List, take, drop, arith, Path, Symbol, crate_root, inherent_impl, trait_impl, trait_definition, nested, generic, Unshared, done, bytes, item, text_of, steps_of_parts, Marked, text, marked, marks_in, ◌before◌, plain, whole, alone, numbered, only, suffixed, Role, Ordinal, argument, elements, listed, arguments, of_trait, of_type, implementation, scope, scoped, name, symbol_marked}
use Rattle.sym_parts.specs.Marked as marks
use Rattle.sym_parts.specs.declared.role.Role.TheVariants as role

-- a marked text followed by another one has as many marks as both together
joined : (m others : Marked) → marks_in (m before others) ≡ marks_in m + marks_in others
unfolding marks_in ◌before◌
joined marks.done others = omega arith
joined (text b rest) others = joined rest others
joined (marked r o inside rest) others = omega (arith, joined rest others)

joins : (m n : Marked) (a b most : ℕ) → marks_in m ≤ a → marks_in n ≤ b → a + b ≤ most → marks_in (m before n) ≤ most
joins m n a b most one other few = omega (arith, joined m n, one, other, few)

few-plain : (u : Unshared) → marks_in (plain u) ≤ 0
unfolding marks_in
few-plain u = omega arith

few-whole : (r : Role) (o : Ordinal) (u : Unshared) → marks_in (whole r o u) ≤ 1
unfolding marks_in
few-whole r o u = omega arith

few-alone : (r : Role) (o : Ordinal) (b : List ℕ) (m : Marked) → marks_in (alone r o b m) ≤ 1 + marks_in m
unfolding marks_in
few-alone r o b m = omega arith

few-after : (r : Role) (o : Ordinal) (b c : List ℕ) (m : Marked) → marks_in (text b (alone r o c m)) ≤ 1 + marks_in m
unfolding marks_in
few-after r o b c m = omega arith

few-inside : (r : Role) (o : Ordinal) (b c : List ℕ) (m : Marked) → marks_in (text b (marked r o (text c m) marks.done)) ≤ 1 + marks_in m
unfolding marks_in
few-inside r o b c m = omega arith

mutual
  unfolding elements listed

  few-elements : (list number : ℕ) (u : Unshared) → marks_in (elements list number u) ≤ steps_of_parts u
  few-elements list number done = omega (arith, few-plain done)
  few-elements list number (item one rest) = omega (arith, few-alone role.GenericArgument (argument list number) (text_of one) (listed list (number + 1) rest), few-listed list (number + 1) rest)
  few-elements list number (bytes comma (item one rest)) = omega (arith, few-after role.GenericArgument (argument list number) comma (text_of one) (listed list (number + 1) rest), few-listed list (number + 1) rest)
  few-elements list number (bytes comma done) = omega (arith, few-plain (bytes comma done))
  few-elements list number (bytes comma (bytes b rest)) = omega (arith, few-plain (bytes comma (bytes b rest)))

  few-listed : (list number : ℕ) (u : Unshared) → marks_in (listed list number u) ≤ steps_of_parts u
  few-listed list number done = omega (arith, few-plain done)
  few-listed list number (bytes b rest) = omega (arith, few-plain (bytes b rest))
  few-listed list number (item others rest) = joins (elements list number others) (plain rest) (steps_of_parts others) 0 _ (few-elements list number others) (few-plain rest) (omega arith)

few-arguments : (list : ℕ) (u : Unshared) → marks_in (arguments list u) ≤ steps_of_parts u
unfolding arguments
few-arguments list (bytes opening rest) = omega (arith, few-inside role.GenericArguments (numbered list) (take 2 opening) (drop 2 opening) (listed list 1 rest), few-listed list 1 rest)
few-arguments list done = omega (arith, few-plain done)
few-arguments list (item one rest) = omega (arith, few-plain (item one rest))

few-of_trait : (u : Unshared) → marks_in (of_trait u) ≤ steps_of_parts u
unfolding of_trait
few-of_trait (bytes between (item implemented rest)) = omega (arith, few-after role.Trait only between (text_of implemented) (plain rest), few-plain rest)
few-of_trait done = omega (arith, few-plain done)
few-of_trait (item one rest) = omega (arith, few-plain (item one rest))
few-of_trait (bytes b done) = omega (arith, few-plain (bytes b done))
few-of_trait (bytes b (bytes c rest)) = omega (arith, few-plain (bytes b (bytes c rest)))

few-of_type : (u : Unshared) → marks_in (of_type u) ≤ steps_of_parts u
unfolding of_type
few-of_type (bytes opening (item self_type rest)) = omega (arith, few-after role.SelfType only opening (text_of self_type) (of_trait rest), few-of_trait rest)
few-of_type done = omega (arith, few-plain done)
few-of_type (item one rest) = omega (arith, few-plain (item one rest))
few-of_type (bytes b done) = omega (arith, few-plain (bytes b done))
few-of_type (bytes b (bytes c rest)) = omega (arith, few-plain (bytes b (bytes c rest)))

few-implementation : (u : Unshared) → marks_in (implementation u) ≤ 1 + steps_of_parts u
unfolding marks_in
few-implementation u = omega (arith, few-of_type u)

few-scope : (lists : ℕ) (p : Path) (u : Unshared) → marks_in (scope lists p u) ≤ 1 + steps_of_parts u
unfolding scope
few-scope lists (nested namespace parent own) (item one rest) =
    joins (scope lists parent one) (plain rest) (1 + steps_of_parts one) 0 _ (few-scope lists parent one) (few-plain rest) (omega arith)
few-scope lists (generic parent args) (item one rest) =
    joins (scope (lists + 1) parent one) (arguments lists rest) (1 + steps_of_parts one) (steps_of_parts rest) _ (few-scope (lists + 1) parent one) (few-arguments lists rest) (omega arith)
few-scope lists (crate_root own) u = omega (arith, few-whole role.Crate only u)
few-scope lists path done = few-implementation done
few-scope lists path (bytes b rest) = few-implementation (bytes b rest)
few-scope lists path (item one rest) = few-implementation (item one rest)

few-scoped : (m : Marked) (b : List ℕ) (u : Unshared) → marks_in (scoped m b u) ≤ 2 + marks_in m
unfolding marks_in scoped
few-scoped m b u = omega arith

few-name : (lists : ℕ) (p : Path) (u : Unshared) → marks_in (name lists p u) ≤ 1 + steps_of_parts u
unfolding name
few-name lists (nested namespace parent own) (item one (bytes colons rest)) = omega (arith, few-scoped (scope lists parent one) colons rest, few-scope lists parent one)
few-name lists (nested namespace parent own) (item one done) =
    joins (name lists parent one) (plain done) (1 + steps_of_parts one) 0 _ (few-name lists parent one) (few-plain done) (omega arith)
few-name lists (nested namespace parent own) (item one (item other rest)) =
    joins (name lists parent one) (plain (item other rest)) (1 + steps_of_parts one) 0 _ (few-name lists parent one) (few-plain (item other rest)) (omega arith)
few-name lists (generic parent args) (item one rest) =
    joins (name (lists + 1) parent one) (arguments lists rest) (1 + steps_of_parts one) (steps_of_parts rest) _ (few-name (lists + 1) parent one) (few-arguments lists rest) (omega arith)
few-name lists (nested namespace parent own) done = few-scope lists (nested namespace parent own) done
few-name lists (nested namespace parent own) (bytes b rest) = few-scope lists (nested namespace parent own) (bytes b rest)
few-name lists (generic parent args) done = few-scope lists (generic parent args) done
few-name lists (generic parent args) (bytes b rest) = few-scope lists (generic parent args) (bytes b rest)
few-name lists (crate_root own) u = few-scope lists (crate_root own) u
few-name lists (inherent_impl n p t) u = few-scope lists (inherent_impl n p t) u
few-name lists (trait_impl n p t q) u = few-scope lists (trait_impl n p t q) u
few-name lists (trait_definition t q) u = few-scope lists (trait_definition t q) u

few-suffixed : (u : Unshared) → marks_in (suffixed u) ≤ steps_of_parts u
unfolding suffixed
few-suffixed (bytes opening (bytes suffix rest)) = omega (arith, few-after role.Suffix only opening suffix (plain rest), few-plain rest)
few-suffixed done = omega (arith, few-plain done)
few-suffixed (item one rest) = omega (arith, few-plain (item one rest))
few-suffixed (bytes b done) = omega (arith, few-plain (bytes b done))
few-suffixed (bytes b (item one rest)) = omega (arith, few-plain (bytes b (item one rest)))

-- a whole symbol has at most one mark for each step of printing it
pub few-symbol : (s : Symbol) (u : Unshared) → marks_in (symbol_marked s u) ≤ steps_of_parts u
unfolding symbol_marked
few-symbol s (item one rest) =
    joins (name 0 s.path one) (suffixed rest) (1 + steps_of_parts one) (steps_of_parts rest) _ (few-name 0 s.path one) (few-suffixed rest) (omega arith)
few-symbol s done = omega (arith, few-plain done)
few-symbol s (bytes b rest) = omega (arith, few-plain (bytes b rest))
