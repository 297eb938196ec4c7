-- What a production denotes is closed if the values of its parts are closed.
use Rattle.cpp_grammar.proofs.Basics.{◌≡◌, refl, ℕ, zero, suc, List, [], ◌∷◌, ◌++◌, Bool, true, false, ◌||◌, ◌&&◌, nat_eq, true≢false, Production, RefQualifier, lvalue_only, rvalue_only, Term, symbol, function, within, instance, local, of_default, inheriting, lvalue, rvalue, encoding_literal, operation, nil, list, absent, arguments_of, is_open, has_return_type, HasNoneFree, ScopesAreClosed, Around, Prefix, outermost, behind, prefix_tree, Value, nothing_there, letter, tree, piece, named, signature, pair, tree_of, piece_of, letter_of, qualifiers_of, ref_of, is_there, part, extended, applied, no_items, with_tag, inherited, is_void, is_nil, parameters, encoding_of, default_entity, listed_value, with_item, reference_to, signature_or, operator_or_literal, operation_or_address, operation_by, is_code, is_comma, ends_arguments, in_parentheses, enclosed_argument, enclosed_element, meaning, declared_first, signature_with, all_given, given, made, meant, row_of}
use Rattle.cpp_grammar.specs.Makers.{Maker, new_symbol, new_special, new_of_name, new_construction, new_clone, new_in_std, new_instance, new_local, new_abbreviation, new_source, new_operator, new_literal_operator, new_constructor, new_unnamed, new_string_literal, new_conversion, new_builtin, new_sized_float, new_constrained, new_vendor, new_pointer, new_lvalue, new_rvalue, new_array, new_bounded, new_member_pointer, new_function_type, new_qualified, new_vector, new_complex, new_expansion, new_integer, new_boolean, new_null_pointer, new_decltype, new_encoding_literal, new_operation, new_function_parameter, new_pack, new_enumeration, new_bindings}
use Rattle.cpp_grammar.specs.Builders.{Argument, argument, built, tree_in}
use Rattle.cpp_grammar.specs.Row.{Source, tree_at, list_at, parameters_at, piece_at, the_name, qualified_by, Made, of, only, extending, tagging, applying, packing, Own, nested_name, encoding, non_virtual_thunk, virtual_thunk, covariant_thunk, local_name, in_default, nest_end, closure, inheriting as inheriting_, by_letters, enclosed, elements, first_of_operator, reference, lvalue_signature, rvalue_signature, Form, handed, finished, either, the_byte, makes, a_piece, a_pair, cell, item, a_name, in_place, own, declared_before}
use Rattle.cpp_grammar.specs.Own.{own_meaning}
use Rattle.cpp_grammar.proofs.Chosen as chosen

-- the tree is closed under one condition, and the scopes in it are under another
pub record GoodIf (q s : Type 0) (t : Term) : Type 0 where
  pub closed : s → is_open t ≡ false
  pub scopes : q → ScopesAreClosed t

-- the tree or the piece of a name that a value holds
unfoldable pub held : Value → Term
held (tree t listed) = t
held (piece p) = p
held (named t qualifiers ref) = t
held (signature t ref) = t
-- both trees of a pair
held (pair second left right) = list left right
held _ = absent

abbrev pub AllIf : (q s : Type 0) → List Value → Type 0
AllIf q s [] = Unit {0}
AllIf q s (v ∷ vs) = GoodIf q s (held v) × AllIf q s vs

abbrev pub PrefixIf : (q s : Type 0) → Prefix → Type 0
PrefixIf q s outermost = Unit {0}
PrefixIf q s (behind t listed) = GoodIf q s t

-- the tree is closed under a condition, and the scopes in it are closed in any case
abbrev pub Good : Type 0 → Term → Type 0
Good s t = GoodIf (Unit {0}) s t

abbrev pub AllGood : Type 0 → List Value → Type 0
AllGood s vs = AllIf (Unit {0}) s vs

abbrev pub GoodPrefix : Type 0 → Prefix → Type 0
GoodPrefix s prefix = PrefixIf (Unit {0}) s prefix

pub or_no : (a b : Bool) → a ≡ false → b ≡ false → (a || b) ≡ false
or_no false b e f = f
or_no true b e f = absurd (true≢false e)

pub or_left_no : (a b : Bool) → (a || b) ≡ false → a ≡ false
or_left_no false b e = refl
or_left_no true b e = absurd (true≢false e)

pub or_right_no : (a b : Bool) → (a || b) ≡ false → b ≡ false
or_right_no false b e = e
or_right_no true b e = absurd (true≢false e)

none_free : (t : Term) → is_open t ≡ false → HasNoneFree (arguments_of t)
unfolding arguments_of is_open
none_free (instance template arguments) h = or_right_no (is_open template) (is_open arguments) h
none_free (local e entity discriminator) h = none_free entity h
none_free (of_default digits entity) h = none_free entity h
none_free (symbol e suffix) h = tt
none_free _ h = tt

-- an encoding's name has no free parameters; nothing is said of other productions
abbrev pub HasClosedName : Production → List Value → Type 0
HasClosedName Production.Encoding vs = is_open (tree_of (part vs 0)) ≡ false
HasClosedName _ vs = Unit {0}

-- every form except that of an encoding, which needs a name without free parameters
abbrev IsOther : Form → Type 0
IsOther (own encoding most) = ⊥
IsOther _ = Unit {0}

module _ {q : Type 0} where
  -- what is good under a condition is good under a stronger one
  pub good_where : (s u : Type 0) (t : Term) → (u → s) → GoodIf q s t → GoodIf q u t
  good_where s u t less good = record { closed = λ h. good.closed (less h); scopes = good.scopes }

  pub good_nothing : (s : Type 0) → GoodIf q s absent
  unfolding is_open
  good_nothing s = record { closed = λ h. refl; scopes = λ n. tt }

  good_first : (s : Type 0) (a b : Term) → GoodIf q s (list a b) → GoodIf q s a
  unfolding is_open
  good_first s a b g = record { closed = λ h. or_left_no (is_open a) (is_open b) (g.closed h); scopes = λ n. (g.scopes n).0 }

  good_second : (s : Type 0) (a b : Term) → GoodIf q s (list a b) → GoodIf q s b
  unfolding is_open
  good_second s a b g = record { closed = λ h. or_right_no (is_open a) (is_open b) (g.closed h); scopes = λ n. (g.scopes n).1 }

  pub good_tree : (s : Type 0) (v : Value) → GoodIf q s (held v) → GoodIf q s (tree_of v)
  unfolding held tree_of
  good_tree s nothing_there g = g
  good_tree s (piece p) g = good_nothing s
  good_tree s (pair second left right) g = good_first s left right g
  good_tree s v g = g

  pub good_piece : (s : Type 0) (v : Value) → GoodIf q s (held v) → GoodIf q s (piece_of v)
  unfolding held piece_of is_open
  good_piece s (piece p) g = g
  good_piece s (letter digit) g = record { closed = λ h. refl; scopes = λ n. tt }
  good_piece s nothing_there g = good_nothing s
  good_piece s v g = good_nothing s

  pub good_held : (s : Type 0) (vs : List Value) (k : ℕ) → AllIf q s vs → GoodIf q s (held (part vs k))
  unfolding part held
  good_held s [] k all = good_nothing s
  good_held s (v ∷ vs) zero all = all.0
  good_held s (v ∷ vs) (suc k) all = good_held s vs k all.1

  pub good_part : (s : Type 0) (vs : List Value) (k : ℕ) → AllIf q s vs → GoodIf q s (tree_of (part vs k))
  good_part s vs k all = good_tree s (part vs k) (good_held s vs k all)

  -- ## Terms

  pub good_list : (s : Type 0) (a b : Term) → GoodIf q s a → GoodIf q s b → GoodIf q s (list a b)
  unfolding is_open
  good_list s a b g h = record { closed = λ c. or_no _ _ (g.closed c) (h.closed c); scopes = λ n. (g.scopes n, h.scopes n) }

  pub good_instance : (s : Type 0) (a b : Term) → GoodIf q s a → GoodIf q s b → GoodIf q s (instance a b)
  unfolding is_open
  good_instance s a b g h = record { closed = λ c. or_no _ _ (g.closed c) (h.closed c); scopes = λ n. (g.scopes n, h.scopes n) }

  good_within : (s : Type 0) (a b : Term) → GoodIf q s a → GoodIf q s b → GoodIf q s (within a b)
  unfolding is_open
  good_within s a b g h = record { closed = λ c. or_no _ _ (g.closed c) (h.closed c); scopes = λ n. (g.scopes n, h.scopes n) }

  good_nil : (s : Type 0) → GoodIf q s nil
  unfolding is_open
  good_nil s = record { closed = λ h. refl; scopes = λ n. tt }

  pub good_no_items : (s : Type 0) (v : Value) → GoodIf q s (tree_of v) → GoodIf q s (no_items v)
  unfolding no_items tree_of is_open
  good_no_items s nothing_there g = good_nil s
  good_no_items s (letter b) g = g
  good_no_items s v g = g

  pub good_applied : (s : Type 0) (t : Term) (v : Value) → GoodIf q s t → GoodIf q s (tree_of v) → GoodIf q s (applied t v)
  unfolding applied is_there tree_of
  good_applied s t nothing_there g h = g
  good_applied s t (letter b) g h = good_instance s t absent g h
  good_applied s t (named u qualifiers ref) g h = h
  good_applied s t v g h = good_instance s t (tree_of v) g h

  pub good_parameters : (s : Type 0) (t : Term) → GoodIf q s t → GoodIf q s (parameters t)
  unfolding parameters is_open
  good_parameters s (list a b) g = chosen.either (GoodIf q s) (is_void a && is_nil b) nil (list a b) (λ h. good_nil s) (λ h. g)
  good_parameters s (symbol e suffix) g = g
  good_parameters s t g = g

  pub good_extended : (s : Type 0) (prefix : Prefix) (p : Term) → PrefixIf q s prefix → GoodIf q s p → GoodIf q s (extended prefix p)
  unfolding extended is_open
  good_extended s outermost p g h = record { closed = h.closed; scopes = h.scopes }
  good_extended s (behind t listed) p g h = good_within s t p g h

  pub good_prefix : (s : Type 0) (prefix : Prefix) → PrefixIf q s prefix → GoodIf q s (prefix_tree prefix)
  unfolding prefix_tree
  good_prefix s outermost g = good_nothing s
  good_prefix s (behind t listed) g = g

  good_reference : (s : Type 0) (byte : ℕ) (v : Value) → GoodIf q s (tree_of v) → GoodIf q s (tree_of (reference_to byte v))
  unfolding reference_to tree_of is_open
  good_reference s byte v g =
      chosen.either_cond (GoodIf q s) (nat_eq byte 82) (lvalue (tree_of v)) (rvalue (tree_of v)) (λ h. record { closed = g.closed; scopes = g.scopes })
      (λ h. record { closed = g.closed; scopes = g.scopes })

  good_signature_or : (s : Type 0) (ref : RefQualifier) (v : Value) → GoodIf q s (held v) → GoodIf q s (held (signature_or ref v))
  unfolding signature_or held
  good_signature_or s ref nothing_there g = good_nil s
  good_signature_or s ref (letter b) g = g
  good_signature_or s ref v g = g

  -- a declaration together with a lambda's first type is good if both are good
  good_declared : (s : Type 0) (head v : Value) → GoodIf q s (tree_of head) → GoodIf q s (held v) → GoodIf q s (held (declared_first head v))
  unfolding declared_first held
  good_declared s head (pair key first heads) g h = good_list s first _ (good_first s first heads h) (good_list s (tree_of head) heads g (good_second s first heads h))
  good_declared s head v g h = good_list s (tree_of v) _ (good_tree s v h) (good_list s (tree_of head) nil g (good_nil s))

  good_signature : (s : Type 0) (v : Value) (t : Term) → GoodIf q s (held v) → GoodIf q s t → GoodIf q s (signature_with v t)
  unfolding signature_with held is_open
  good_signature s (pair key first heads) t g h = let b = good_second s first heads g in record { closed = λ c. or_no _ _ (b.closed c) (h.closed c); scopes = λ n. (b.scopes n, h.scopes n) }
  good_signature s nothing_there t g h = h
  good_signature s v t g h = h

  good_operator : (s : Type 0) (first : ℕ) (v : Value) → GoodIf q s (held v) → GoodIf q s (held (operator_or_literal first v))
  unfolding operator_or_literal held is_open
  good_operator s first (letter second) g = record { closed = λ h. refl; scopes = λ n. tt }
  good_operator s first nothing_there g = g
  good_operator s first v g = g

  -- the name of an inherited constructor
  good_inherited : (s : Type 0) (prefix : Prefix) (digit : ℕ) (v : Value) → PrefixIf q s prefix → GoodIf q s (held v) → GoodIf q s (held (inherited prefix digit v))
  unfolding inherited held is_open
  good_inherited s prefix digit (pair second arguments base) pre g =
      let b = good_second s arguments base g in
      good_instance s _ arguments (good_extended s prefix (inheriting digit base) pre (record { closed = b.closed; scopes = b.scopes })) (good_first s arguments base g)
  good_inherited s prefix digit v pre g =
      let b = good_tree s v g in
      good_extended s prefix (inheriting digit (tree_of v)) pre (record { closed = b.closed; scopes = b.scopes })

  -- operations
  good_operation : (s : Type 0) (first second : ℕ) (left right : Term) → GoodIf q s (list left right) → GoodIf q s (operation first second left right)
  unfolding is_open
  good_operation s first second left right g = record { closed = g.closed; scopes = g.scopes }

  good_address : (s : Type 0) (b : Bool) (first second : ℕ) (left right : Term) → GoodIf q s (list left right) → GoodIf q s (operation_or_address b first second left right)
  unfolding operation_or_address is_open
  good_address s false first second left right g = good_operation s first second left right g
  good_address s true first second (encoding_literal e) right g = record { closed = λ h. refl; scopes = λ n. (g.scopes n).0 }
  good_address s true first second (symbol e suffix) right g = good_operation s first second (symbol e suffix) right g
  good_address s true first second left right g = good_operation s first second left right g

  good_by : (s : Type 0) (first : ℕ) (v : Value) → GoodIf q s (held v) → GoodIf q s (held (operation_by first v))
  unfolding operation_by held
  good_by s first (pair second left right) g = good_address s (is_code 97 100 first second) first second left right g
  good_by s first nothing_there g = g
  good_by s first v g = g

  good_in_parentheses : (s : Type 0) (t : Term) → GoodIf q s t → GoodIf q s (in_parentheses t)
  unfolding in_parentheses is_open
  good_in_parentheses s t g = record { closed = λ h. or_no _ _ (g.closed h) refl; scopes = λ n. (g.scopes n, tt) }

  good_argument : (s : Type 0) (v : Value) → GoodIf q s (held v) → GoodIf q s (held (enclosed_argument v))
  unfolding enclosed_argument held in_parentheses tree_of
  good_argument s v g =
      chosen.either (λ w. GoodIf q s (held w)) (ends_arguments (tree_of v)) (tree (in_parentheses (tree_of v)) true) v (λ h. good_in_parentheses s (tree_of v) (good_tree s v g)) (λ h. g)

  good_element : (s : Type 0) (t : Term) → GoodIf q s t → GoodIf q s (enclosed_element t)
  unfolding enclosed_element
  good_element s t g = chosen.either (GoodIf q s) (is_comma t) (in_parentheses t) t (λ h. good_in_parentheses s t g) (λ h. g)

  pub good_encoding : (s : Type 0) (v : Value) (items : Term) → (q → is_open (tree_of v) ≡ false) → (q → ScopesAreClosed (tree_of v)) → (q → ScopesAreClosed items) → GoodIf q s (encoding_of v items)
  unfolding encoding_of is_open
  good_encoding s v (list a b) name scopes items =
      chosen.either (GoodIf q s) (has_return_type (tree_of v)) (function (tree_of v) (qualifiers_of v) (ref_of v) a (parameters b))
      (function (tree_of v) (qualifiers_of v) (ref_of v) absent (parameters (list a b)))
      (λ h. record { closed = λ c. refl; scopes = λ n. (none_free (tree_of v) (name n), scopes n, (items n).0, rest_good.scopes n) })
      (λ h. record { closed = λ c. refl; scopes = λ n. (none_free (tree_of v) (name n), scopes n, tt, all_good.scopes n) })
    where
      rest_good : GoodIf q ⊥ (parameters b)
      rest_good = good_parameters ⊥ b (record { closed = λ h. absurd h; scopes = λ n. (items n).1 })

      all_good : GoodIf q ⊥ (parameters (list a b))
      all_good = good_parameters ⊥ (list a b) (record { closed = λ h. absurd h; scopes = items })
  good_encoding s v (symbol e suffix) name scopes items = record { closed = λ h. refl; scopes = scopes }
  good_encoding s v _ name scopes items = record { closed = λ h. refl; scopes = scopes }

  -- ## Productions

  pub good_pair : (s : Type 0) (vs : List Value) (j k : ℕ) → AllIf q s vs → GoodIf q s (list (tree_of (part vs j)) (no_items (part vs k)))
  good_pair s vs j k all = good_list s _ _ (good_part s vs j all) (good_no_items s (part vs k) (good_part s vs k all))

  -- ## Rows

  -- Generated by tools/trees.py. What a maker makes of good arguments is good
  built_good : (s : Type 0) (m : Maker) (xs : List Argument) → ((k : ℕ) → GoodIf q s (tree_in (argument xs k))) → GoodIf q s (built m xs)
  unfolding built is_open
  built_good s new_symbol xs all = record { closed = λ h. refl; scopes = λ n. (all 0).scopes n }
  built_good s new_special xs all = record { closed = λ h. refl; scopes = λ n. (all 1).scopes n }
  built_good s new_of_name xs all = record { closed = λ h. refl; scopes = λ n. (all 1).scopes n }
  built_good s new_construction xs all = record { closed = λ h. refl; scopes = λ n. ((all 0).scopes n, (all 2).scopes n) }
  built_good s new_clone xs all = record { closed = λ h. refl; scopes = λ n. (all 1).scopes n }
  built_good s new_in_std xs all = record { closed = (all 0).closed; scopes = λ n. (all 0).scopes n }
  built_good s new_instance xs all = record { closed = λ h. or_no _ _ ((all 0).closed h) ((all 1).closed h); scopes = λ n. ((all 0).scopes n, (all 1).scopes n) }
  built_good s new_local xs all = record { closed = (all 1).closed; scopes = λ n. ((all 0).scopes n, (all 1).scopes n) }
  built_good s new_abbreviation xs all = record { closed = λ h. refl; scopes = λ n. tt }
  built_good s new_source xs all = record { closed = λ h. refl; scopes = λ n. tt }
  built_good s new_operator xs all = record { closed = λ h. refl; scopes = λ n. tt }
  built_good s new_literal_operator xs all = record { closed = λ h. refl; scopes = λ n. tt }
  built_good s new_constructor xs all = record { closed = λ h. refl; scopes = λ n. tt }
  built_good s new_unnamed xs all = record { closed = λ h. refl; scopes = λ n. tt }
  built_good s new_string_literal xs all = record { closed = λ h. refl; scopes = λ n. tt }
  built_good s new_conversion xs all = record { closed = (all 0).closed; scopes = λ n. (all 0).scopes n }
  built_good s new_enumeration xs all = record { closed = (all 0).closed; scopes = λ n. (all 0).scopes n }
  built_good s new_bindings xs all = record { closed = (all 0).closed; scopes = λ n. (all 0).scopes n }
  built_good s new_builtin xs all = record { closed = λ h. refl; scopes = λ n. tt }
  built_good s new_sized_float xs all = record { closed = λ h. refl; scopes = λ n. tt }
  built_good s new_constrained xs all = record { closed = (all 1).closed; scopes = λ n. (all 1).scopes n }
  built_good s new_vendor xs all = record { closed = λ h. refl; scopes = λ n. tt }
  built_good s new_pointer xs all = record { closed = (all 0).closed; scopes = λ n. (all 0).scopes n }
  built_good s new_lvalue xs all = record { closed = (all 0).closed; scopes = λ n. (all 0).scopes n }
  built_good s new_rvalue xs all = record { closed = (all 0).closed; scopes = λ n. (all 0).scopes n }
  built_good s new_array xs all = record { closed = (all 1).closed; scopes = λ n. (all 1).scopes n }
  built_good s new_bounded xs all = record { closed = λ h. or_no _ _ ((all 0).closed h) ((all 1).closed h); scopes = λ n. ((all 0).scopes n, (all 1).scopes n) }
  built_good s new_member_pointer xs all = record { closed = λ h. or_no _ _ ((all 0).closed h) ((all 1).closed h); scopes = λ n. ((all 0).scopes n, (all 1).scopes n) }
  built_good s new_function_type xs all = record { closed = λ h. or_no _ _ ((all 3).closed h) ((all 4).closed h); scopes = λ n. ((all 3).scopes n, (all 4).scopes n) }
  built_good s new_qualified xs all = record { closed = (all 1).closed; scopes = λ n. (all 1).scopes n }
  built_good s new_vector xs all = record { closed = (all 1).closed; scopes = λ n. (all 1).scopes n }
  built_good s new_complex xs all = record { closed = (all 0).closed; scopes = λ n. (all 0).scopes n }
  built_good s new_decltype xs all = record { closed = (all 0).closed; scopes = λ n. (all 0).scopes n }
  built_good s new_expansion xs all = record { closed = (all 0).closed; scopes = λ n. (all 0).scopes n }
  built_good s new_integer xs all = record { closed = (all 0).closed; scopes = λ n. (all 0).scopes n }
  built_good s new_boolean xs all = record { closed = λ h. refl; scopes = λ n. tt }
  built_good s new_null_pointer xs all = record { closed = λ h. refl; scopes = λ n. tt }
  built_good s new_encoding_literal xs all = record { closed = λ h. refl; scopes = λ n. (all 0).scopes n }
  built_good s new_operation xs all = record { closed = λ h. or_no _ _ ((all 2).closed h) ((all 3).closed h); scopes = λ n. ((all 2).scopes n, (all 3).scopes n) }
  built_good s new_function_parameter xs all = record { closed = λ h. refl; scopes = λ n. tt }
  built_good s new_pack xs all = record { closed = (all 0).closed; scopes = λ n. (all 0).scopes n }

  given_good : (s : Type 0) (byte : ℕ) (around : Around) (vs : List Value) (source : Source) → PrefixIf q s around.prefix → AllIf q s vs → GoodIf q s (tree_in (given byte around vs source))
  unfolding given tree_in
  given_good s byte around vs (tree_at k) pre all = good_part s vs k all
  given_good s byte around vs (list_at k) pre all = good_no_items s (part vs k) (good_part s vs k all)
  given_good s byte around vs (parameters_at k) pre all = good_parameters s (tree_of (part vs k)) (good_part s vs k all)
  given_good s byte around vs (piece_at k) pre all = good_piece s (part vs k) (good_held s vs k all)
  given_good s byte around vs the_name pre all = good_prefix s around.prefix pre
  given_good s byte around vs (qualified_by r v c) pre all = good_nothing s
  given_good s byte around vs _ pre all = good_nothing s

  all_given_good : (s : Type 0) (byte : ℕ) (around : Around) (vs : List Value) (ss : List Source) → PrefixIf q s around.prefix → AllIf q s vs → (k : ℕ) →
      GoodIf q s (tree_in (argument (all_given byte around vs ss) k))
  unfolding all_given argument tree_in
  all_given_good s byte around vs [] pre all k = good_nothing s
  all_given_good s byte around vs (source ∷ ss) pre all zero = given_good s byte around vs source pre all
  all_given_good s byte around vs (source ∷ ss) pre all (suc k) = all_given_good s byte around vs ss pre all k

  pub made_tree_good : (s : Type 0) (byte : ℕ) (around : Around) (vs : List Value) (m : Made) → PrefixIf q s around.prefix → AllIf q s vs → GoodIf q s (made byte around vs m)
  unfolding made with_tag is_open
  made_tree_good s byte around vs (of maker sources) pre all = built_good s maker _ (all_given_good s byte around vs sources pre all)
  made_tree_good s byte around vs (only source) pre all = given_good s byte around vs source pre all
  made_tree_good s byte around vs (extending m) pre all = good_extended s around.prefix _ pre (made_tree_good s byte around vs m pre all)
  made_tree_good s byte around vs (tagging k) pre all = let g = good_prefix s around.prefix pre in record { closed = g.closed; scopes = g.scopes }
  made_tree_good s byte around vs (applying m k) pre all = good_applied s _ (part vs k) (made_tree_good s byte around vs m pre all) (good_part s vs k all)
  made_tree_good s byte around vs (packing k) pre all = let g = good_no_items s (part vs k) (good_part s vs k all) in record { closed = g.closed; scopes = g.scopes }

  own_good : (s : Type 0) (o : Own) (most byte : ℕ) (around : Around) (vs : List Value) → IsOther (own o most) → PrefixIf q s around.prefix → AllIf q s vs →
      GoodIf q s (held (own_meaning o byte around vs))
  unfolding own_meaning held is_open default_entity listed_value
  own_good s encoding most byte around vs other pre all = absurd other
  own_good s non_virtual_thunk most byte around vs other pre all = let g = good_part s vs 2 all in record { closed = λ h. refl; scopes = g.scopes }
  own_good s virtual_thunk most byte around vs other pre all = let g = good_part s vs 4 all in record { closed = λ h. refl; scopes = g.scopes }
  own_good s covariant_thunk most byte around vs other pre all = let g = good_part s vs 2 all in record { closed = λ h. refl; scopes = g.scopes }
  own_good s nested_name most byte around vs other pre all = good_part s vs 4 all
  own_good s local_name most byte around vs other pre all =
      let e = good_part s vs 0 all in let g = good_part s vs 2 all in record { closed = g.closed; scopes = λ n. (e.scopes n, g.scopes n) }
  own_good s in_default most byte around vs other pre all = let g = good_part s vs 1 all in record { closed = g.closed; scopes = g.scopes }
  own_good s nest_end most byte around vs other pre all = good_prefix s around.prefix pre
  own_good s closure most byte around vs other pre all =
      let g = good_signature s (part vs 0) _ (good_held s vs 0 all) (good_parameters s _ (good_pair s vs 0 1 all)) in record { closed = g.closed; scopes = g.scopes }
  own_good s declared_before most byte around vs other pre all = good_declared s (part vs 0) (part vs 1) (good_part s vs 0 all) (good_held s vs 1 all)
  own_good s inheriting_ most byte around vs other pre all = good_inherited s around.prefix (letter_of (part vs 0)) (part vs 1) pre (good_held s vs 1 all)
  own_good s by_letters most byte around vs other pre all = good_by s byte (part vs 0) (good_held s vs 0 all)
  own_good s enclosed most byte around vs other pre all = good_argument s (part vs 0) (good_held s vs 0 all)
  own_good s elements most byte around vs other pre all = good_list s _ _ (good_element s (tree_of (part vs 0)) (good_part s vs 0 all)) (good_no_items s (part vs 1) (good_part s vs 1 all))
  own_good s first_of_operator most byte around vs other pre all = good_operator s byte (part vs 0) (good_held s vs 0 all)
  own_good s reference most byte around vs other pre all = good_reference s byte (part vs 0) (good_part s vs 0 all)
  own_good s lvalue_signature most byte around vs other pre all = good_signature_or s lvalue_only (part vs 0) (good_held s vs 0 all)
  own_good s rvalue_signature most byte around vs other pre all = good_signature_or s rvalue_only (part vs 0) (good_held s vs 0 all)
  own_good s _ most byte around vs other pre all = record { closed = λ h. refl; scopes = λ n. tt }

  meant_good : (s : Type 0) (f : Form) (byte : ℕ) (around : Around) (vs : List Value) → IsOther f → PrefixIf q s around.prefix → AllIf q s vs → GoodIf q s (held (meant f byte around vs))
  unfolding meant held is_open listed_value with_item
  meant_good s (handed k) byte around vs other pre all = good_held s vs k all
  meant_good s (finished k) byte around vs other pre all = good_part s vs k all
  meant_good s (either k n) byte around vs other pre all =
      chosen.either (λ v. GoodIf q s (held v)) (is_there (part vs k)) (part vs k) (part vs n) (λ h. good_held s vs k all) (λ h. good_held s vs n all)
  meant_good s the_byte byte around vs other pre all = good_nothing s
  meant_good s (makes m listing) byte around vs other pre all = made_tree_good s byte around vs m pre all
  meant_good s (a_piece m) byte around vs other pre all = made_tree_good s byte around vs m pre all
  meant_good s (a_pair second m n) byte around vs other pre all = good_list s _ _ (made_tree_good s byte around vs m pre all) (made_tree_good s byte around vs n pre all)
  meant_good s (cell first rest) byte around vs other pre all = good_pair s vs first rest all
  meant_good s (item first rest) byte around vs other pre all = good_list s _ _ (good_part s vs first all) (good_part s vs rest all)
  meant_good s (a_name listing) byte around vs other pre all = good_applied s _ (part vs 1) (good_part s vs 0 all) (good_part s vs 1 all)
  meant_good s in_place byte around vs other pre all = good_applied s _ (part vs 1) (good_part s vs 0 all) (good_part s vs 1 all)
  meant_good s (own o most) byte around vs other pre all = own_good s o most byte around vs other pre all

  pub meaning_good : (s : Type 0) (production : Production) (byte : ℕ) (around : Around) (vs : List Value) → PrefixIf q s around.prefix → AllIf q s vs → (q → HasClosedName production vs) →
      GoodIf q s (held (meaning production byte around vs))
  unfolding meaning held
  meaning_good s Production.Encoding byte around vs pre all name =
      good_encoding s (part vs 0) (no_items (part vs 1)) name (good_part s vs 0 all).scopes (good_no_items s (part vs 1) (good_part s vs 1 all)).scopes
  meaning_good s production byte around vs pre all name = meant_good s (row_of production).form byte around vs tt pre all

-- two lists of good values are good as one list; good values, and a good prefix, stay good under a stronger condition
pub all_append : (s : Type 0) (vs ws : List Value) → AllGood s vs → AllGood s ws → AllGood s (vs ++ ws)
all_append s [] ws f g = g
all_append s (v ∷ vs) ws f g = (f.0, all_append s vs ws f.1 g)

pub all_where : (s u : Type 0) (vs : List Value) → (u → s) → AllGood s vs → AllGood u vs
all_where s u [] less all = tt
all_where s u (v ∷ vs) less all = (good_where s u (held v) less all.0, all_where s u vs less all.1)

pub prefix_where : (s u : Type 0) (prefix : Prefix) → (u → s) → GoodPrefix s prefix → GoodPrefix u prefix
prefix_where s u outermost less good = tt
prefix_where s u (behind t listed) less good = good_where s u t less good
