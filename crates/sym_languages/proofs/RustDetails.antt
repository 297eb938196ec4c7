-- For a Rust symbol a detail decides only whether arguments are shown.
use Rattle.sym_languages.proofs.Basics.{◌≡◌, ℕ, ◌+◌, List, [], Bool, true, false, Some, Result, Ok, Err, refl, ap, ap₂, ◌∙◌, codes, nat_le, Refusal, AreBytes, text_within, Detail, has_arguments, Mangled, IsAnswer, malformed, shaped, answer, answer_of_symbol, has_answer, is_answer, v0_mangled}
use Rattle.sym_print.specs.Unshared.{done}
use Rattle.sym_print.specs.Building.{◌then◌, ◌also◌, ◌perhaps◌}
use Rattle.rust_tree.specs.Symbol.{Path, Ty, Arguments, Tys, Bounds, Bindings, Symbol, crate_root, inherent_impl, trait_impl, trait_definition, nested, generic, no_arguments, lifetime_argument, constant_argument, type_argument, basic, path_type, array, slice, tuple, shared_reference, mutable_reference, const_pointer, mut_pointer, function, dyn, no_types, more_types, no_bounds, more_bounds, no_bindings, more_bindings}
use Rattle.rust_tree.specs.Shown.{path_parts, arguments_from, type_parts, types_from, bounds_from, bindings_from, symbol_parts, name_text, generic_parts, generic_bound, plain_bound, nested_name, lifetime_parts, constant_parts, closing_tuple, reference_opening, for_binder, signature_parts, is_unit, dyn_lifetime, suffix_parts}

-- a function of three arguments has one value at equal arguments
ap3 : {A B C D : Type 0} (f : A → B → C → D) {a a2 : A} {b b2 : B} {c c2 : C} → a ≡ a2 → b ≡ b2 → c ≡ c2 → f a b c ≡ f a2 b2 c2
ap3 f {a} {a2} {b} {b2} {c} {c2} p q r = ap (λ x. f x b c) p ∙ ap₂ (f a2) q r

module _ (d e : Detail) (same : has_arguments d ≡ has_arguments e) where
  mutual
    unfolding path_parts

    path_same : (bound : ℕ) (value : Bool) (p : Path) → path_parts d bound value p ≡ path_parts e bound value p
    path_same bound value (crate_root name) = refl
    path_same bound value (inherent_impl disambiguator path type) = ap (λ t. codes "<" then t also codes ">" then done) (type_same bound type)
    path_same bound value (trait_impl disambiguator path type implemented) =
        ap₂ (λ t p. codes "<" then t also codes " as " then p also codes ">" then done) (type_same bound type) (path_same bound false implemented)
    path_same bound value (trait_definition type implemented) =
        ap₂ (λ t p. codes "<" then t also codes " as " then p also codes ">" then done) (type_same bound type) (path_same bound false implemented)
    path_same bound value (nested namespace parent name) =
        ap (λ p. p also nested_name (nat_le 97 namespace) namespace name done) (path_same bound value parent)
    path_same bound value (generic parent arguments) =
        ap3 (λ all p a. generic_parts all value p a) same (path_same bound value parent) (arguments_same bound [] arguments)

    arguments_same : (bound : ℕ) (separator : List ℕ) (a : Arguments) → arguments_from d bound separator a ≡ arguments_from e bound separator a
    arguments_same bound separator no_arguments = refl
    arguments_same bound separator (lifetime_argument lifetime rest) =
        ap (λ r. Some (separator then lifetime_parts bound lifetime also r perhaps done)) (arguments_same bound (codes ", ") rest)
    arguments_same bound separator (constant_argument constant rest) =
        ap (λ r. Some (separator then constant_parts constant also r perhaps done)) (arguments_same bound (codes ", ") rest)
    arguments_same bound separator (type_argument type rest) =
        ap₂ (λ t r. Some (separator then t also r perhaps done)) (type_same bound type) (arguments_same bound (codes ", ") rest)

    type_same : (bound : ℕ) (t : Ty) → type_parts d bound t ≡ type_parts e bound t
    type_same bound (basic letter) = refl
    type_same bound (path_type path) = path_same bound false path
    type_same bound (array type size) = ap (λ t. codes "[" then t also codes "; " then constant_parts size also codes "]" then done) (type_same bound type)
    type_same bound (slice type) = ap (λ t. codes "[" then t also codes "]" then done) (type_same bound type)
    type_same bound (tuple types) = ap (λ ts. codes "(" then ts perhaps closing_tuple types then done) (types_same bound [] types)
    type_same bound (shared_reference lifetime type) = ap (λ t. reference_opening bound lifetime false (t also done)) (type_same bound type)
    type_same bound (mutable_reference lifetime type) = ap (λ t. reference_opening bound lifetime true (t also done)) (type_same bound type)
    type_same bound (const_pointer type) = ap (λ t. codes "*const " then t also done) (type_same bound type)
    type_same bound (mut_pointer type) = ap (λ t. codes "*mut " then t also done) (type_same bound type)
    type_same bound (function binder unsafe abi types returned) =
        ap₂ (λ ts t. for_binder bound binder (signature_parts unsafe abi ts (is_unit returned) t also done))
        (types_same (bound + binder) [] types) (type_same (bound + binder) returned)
    type_same bound (dyn binder bounds lifetime) =
        ap (λ bs. codes "dyn " then for_binder bound binder (bs perhaps dyn_lifetime bound lifetime done)) (bounds_same (bound + binder) [] bounds)

    types_same : (bound : ℕ) (separator : List ℕ) (ts : Tys) → types_from d bound separator ts ≡ types_from e bound separator ts
    types_same bound separator no_types = refl
    types_same bound separator (more_types type rest) =
        ap₂ (λ t r. Some (separator then t also r perhaps done)) (type_same bound type) (types_same bound (codes ", ") rest)

    bounds_same : (bound : ℕ) (separator : List ℕ) (bs : Bounds) → bounds_from d bound separator bs ≡ bounds_from e bound separator bs
    bounds_same bound separator no_bounds = refl
    bounds_same bound separator (more_bounds (generic parent arguments) bindings rest) =
        ap₂ (λ b r. Some (separator then b also r perhaps done))
        (ap3 (λ all p a. generic_bound all p a (bindings_from d bound [] bindings)) same (path_same bound false parent) (arguments_same bound [] arguments)
        ∙ ap (λ b. generic_bound (has_arguments e) (path_parts e bound false parent) (arguments_from e bound [] arguments) b) (bindings_same bound [] bindings))
        (bounds_same bound (codes " + ") rest)
    bounds_same bound separator (more_bounds path bindings rest) =
        ap₂ (λ b r. Some (separator then b also r perhaps done))
        (ap3 (λ all p b. plain_bound all p b) same (path_same bound false path) (bindings_same bound [] bindings)) (bounds_same bound (codes " + ") rest)

    bindings_same : (bound : ℕ) (separator : List ℕ) (bs : Bindings) → bindings_from d bound separator bs ≡ bindings_from e bound separator bs
    bindings_same bound separator no_bindings = refl
    bindings_same bound separator (more_bindings name type rest) =
        ap₂ (λ t r. Some (separator then name_text name then codes " = " then t also r perhaps done)) (type_same bound type) (bindings_same bound (codes ", ") rest)

  -- a symbol is shown alike in two details that both show arguments, or that both don't
  pub symbol_same : (symbol : Symbol) → symbol_parts d symbol ≡ symbol_parts e symbol
  unfolding symbol_parts
  symbol_same symbol = ap (λ p. p also suffix_parts symbol.suffix done) (path_same 0 true symbol.path)

-- A mangling whose symbols are shown alike in two details has one answer for both.
module _ {W : Type 0} (m : Mangled W) (d e : Detail) (limit : ℕ) (alike : (w : W) → m.shown d w ≡ m.shown e w) where
  symbol_alike : (r : Result W Refusal) → answer_of_symbol m d limit r ≡ answer_of_symbol m e limit r
  symbol_alike (Ok w) = ap (text_within limit) (alike w)
  symbol_alike (Err refusal) = refl

  answer_alike : (s : List ℕ) (r : Result (List ℕ) Refusal) → IsAnswer m d s limit r → IsAnswer m e s limit r
  answer_alike s r (malformed at bad same) = malformed at bad same
  answer_alike s r (shaped shape is text same) = shaped shape is text (same ∙ symbol_alike (m.unfolded shape))

  answers_alike : (s : List ℕ) → AreBytes s → answer m d s limit ≡ answer m e s limit
  answers_alike s bytes = is_answer m e s limit (answer m d s limit) bytes (answer_alike s (answer m d s limit) (has_answer m d s limit bytes))

-- the answer to a Rust symbol is the same in two details that both show arguments, or that both don't
pub rust_answers_alike : (d e : Detail) (limit : ℕ) (s : List ℕ) → has_arguments d ≡ has_arguments e → AreBytes s → answer v0_mangled d s limit ≡ answer v0_mangled e s limit
rust_answers_alike d e limit s same bytes = answers_alike v0_mangled d e limit (symbol_same d e same) s bytes
