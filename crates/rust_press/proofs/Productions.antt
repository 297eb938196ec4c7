-- Each production is spelled as the writer writes it.
use Rattle.rust_press.proofs.Basics.{◌≡◌, ℕ, ◌+◌, ◌<◌, ◌≤◌, ◌^◌, List, [], ◌∷◌, ◌++◌, Option, Some, None, Bool, true, false, refl, ap, arith, sym, ◌∙◌, append_assoc, append-nil, ◌==◌, if◌then◌else◌, Tree, of_path, of_arguments, of_type, of_types, of_bounds, of_bindings, of_constant, of_symbol, fields_of, type_part, other_part, one_if, number_in, hexadecimal, text, letter, nothing, digits_of, Pressing, number16, mark_if, press_name, press_disambiguator, press_binder, press_identifier, press_lifetime, some_lifetime, press_abi, component, spell_constant, press_constant, type_or_reference, spell_path, spell_type, press_path, press_arguments, press_types, press_bounds, press_bindings, eqb-true, false≢true, same_tree, number_bytes, count_bytes, lifetime_bytes, mark_bytes, name_bytes, integer_bytes, letter_bytes, is_component, type_numbers, constant_numbers, numbers_bytes, text_bytes, front_bytes, end_bytes, front, end, press_tree, weight, weight_of_tree, weight_of_trees, weight_of_type, weight_of_other}
use Rattle.rust_tree.specs.Symbol as tree
use Rattle.rust_press.proofs.Sameness.{path-itself, type-itself, constant-itself}
use Rattle.rust_press.proofs.TreeSpellings.{IsText, Spells, step, is-text, count-text, lifetime-text, some_bytes, some-lifetime-text, mark-text, name-text, identifier-text, sixteen-text, integer-text}

type-as-part : (t : tree.Ty) → type_or_reference t (spell_type t) ≡ press_tree (type_part t)
type-as-part (tree.path_type p) = refl
type-as-part _ = refl

-- How a node's tree is spelled out. A type that is a path is spelled as the path.
abbrev pub spelling_of : Tree → Pressing
spelling_of (of_path path) = spell_path path
spelling_of (of_type (tree.path_type path)) = press_path path
spelling_of (of_type type) = spell_type type
spelling_of (of_constant constant) = spell_constant constant
spelling_of other = press_tree other

byte : (n : ℕ) → IsText (letter n) (n ∷ [])
byte n = λ p cs. refl

path-spells : (path : tree.Path) → Spells (fields_of (of_path path)) (spell_path path)
unfolding front_bytes letter_bytes numbers_bytes text_bytes end_bytes
path-spells (tree.crate_root own) = go own.disambiguator own.name.punycode own.name.bytes
  where
    go : (d : ℕ) (b : Bool) (s : List ℕ) → let i : tree.Identifier = record { disambiguator = d; name = record { punycode = b; bytes = s } } in Spells (fields_of (of_path (tree.crate_root i))) (spell_path (tree.crate_root i))
    go d true s = let i : tree.Identifier = record { disambiguator = d; name = record { punycode = true; bytes = s } } in
        step (fields_of (of_path (tree.crate_root i))) (letter 67 ∷ press_identifier i ∷ []) ((67 ∷ []) ∷ (count_bytes 115 d ++ name_bytes true s) ∷ []) [] [] [] (byte 67, (identifier-text d true s, tt)) tt tt refl refl
    go d false s = let i : tree.Identifier = record { disambiguator = d; name = record { punycode = false; bytes = s } } in
        step (fields_of (of_path (tree.crate_root i))) (letter 67 ∷ press_identifier i ∷ []) ((67 ∷ []) ∷ (count_bytes 115 d ++ name_bytes false s) ∷ []) [] [] [] (byte 67, (identifier-text d false s, tt)) tt tt refl refl
path-spells (tree.inherent_impl d p t) =
    step (fields_of (of_path (tree.inherent_impl d p t))) (letter 77 ∷ press_disambiguator d ∷ []) ((77 ∷ []) ∷ count_bytes 115 d ∷ []) (press_path p ∷ type_or_reference t (spell_type t) ∷ []) [] []
    (byte 77, (count-text 115 d, tt)) (refl, (type-as-part t, tt)) tt (ap (λ l. 77 ∷ l) (sym (append-nil (count_bytes 115 d)))) refl
path-spells (tree.trait_impl d p t q) =
    step (fields_of (of_path (tree.trait_impl d p t q))) (letter 88 ∷ press_disambiguator d ∷ []) ((88 ∷ []) ∷ count_bytes 115 d ∷ []) (press_path p ∷ type_or_reference t (spell_type t) ∷ press_path q ∷ []) [] []
    (byte 88, (count-text 115 d, tt)) (refl, (type-as-part t, (refl, tt))) tt (ap (λ l. 88 ∷ l) (sym (append-nil (count_bytes 115 d)))) refl
path-spells (tree.trait_definition t q) =
    step (fields_of (of_path (tree.trait_definition t q))) (letter 89 ∷ []) ((89 ∷ []) ∷ []) (type_or_reference t (spell_type t) ∷ press_path q ∷ []) [] []
    (byte 89, tt) (type-as-part t, (refl, tt)) tt refl refl
path-spells (tree.nested n p own) = go own.disambiguator own.name.punycode own.name.bytes
  where
    go : (d : ℕ) (b : Bool) (s : List ℕ) → let i : tree.Identifier = record { disambiguator = d; name = record { punycode = b; bytes = s } } in Spells (fields_of (of_path (tree.nested n p i))) (spell_path (tree.nested n p i))
    go d true s = let i : tree.Identifier = record { disambiguator = d; name = record { punycode = true; bytes = s } } in
        step (fields_of (of_path (tree.nested n p i))) (letter 78 ∷ letter n ∷ []) ((78 ∷ []) ∷ (n ∷ []) ∷ []) (press_path p ∷ []) (press_identifier i ∷ []) ((count_bytes 115 d ++ name_bytes true s) ∷ [])
        (byte 78, (byte n, tt)) (refl, tt) (identifier-text d true s, tt) refl refl
    go d false s = let i : tree.Identifier = record { disambiguator = d; name = record { punycode = false; bytes = s } } in
        step (fields_of (of_path (tree.nested n p i))) (letter 78 ∷ letter n ∷ []) ((78 ∷ []) ∷ (n ∷ []) ∷ []) (press_path p ∷ []) (press_identifier i ∷ []) ((count_bytes 115 d ++ name_bytes false s) ∷ [])
        (byte 78, (byte n, tt)) (refl, tt) (identifier-text d false s, tt) refl refl
path-spells (tree.generic p a) =
    step (fields_of (of_path (tree.generic p a))) (letter 73 ∷ []) ((73 ∷ []) ∷ []) (press_path p ∷ press_arguments a ∷ []) (letter 69 ∷ []) ((69 ∷ []) ∷ []) (byte 73, tt) (refl, (refl, tt)) (byte 69, tt) refl refl

arguments-spells : (a : tree.Arguments) → Spells (fields_of (of_arguments a)) (press_arguments a)
unfolding front_bytes letter_bytes numbers_bytes text_bytes end_bytes lifetime_bytes
arguments-spells tree.no_arguments = step (fields_of (of_arguments tree.no_arguments)) [] [] [] [] [] tt tt tt refl refl
arguments-spells (tree.lifetime_argument l a) =
    step (fields_of (of_arguments (tree.lifetime_argument l a))) (press_lifetime l ∷ []) (lifetime_bytes l ∷ []) (press_arguments a ∷ []) [] [] (lifetime-text l, tt) (refl, tt) tt
    (ap (λ b. 76 ∷ b) (sym (append-nil (number_bytes l)))) refl
arguments-spells (tree.constant_argument k a) =
    step (fields_of (of_arguments (tree.constant_argument k a))) (letter 75 ∷ []) ((75 ∷ []) ∷ []) (press_constant k ∷ press_arguments a ∷ []) [] [] (byte 75, tt) (refl, (refl, tt)) tt refl refl
arguments-spells (tree.type_argument t a) =
    step (fields_of (of_arguments (tree.type_argument t a))) [] [] (type_or_reference t (spell_type t) ∷ press_arguments a ∷ []) [] [] tt (type-as-part t, (refl, tt)) tt refl refl

abi_bytes : tree.Abi → List ℕ
abi_bytes tree.rust_abi = []
abi_bytes tree.c_abi = 75 ∷ 67 ∷ []
abi_bytes (tree.named_abi name) = 75 ∷ name_bytes name.punycode name.bytes

abi-text : (a : tree.Abi) → IsText (press_abi a) (abi_bytes a)
unfolding abi_bytes
abi-text tree.rust_abi = λ p cs. refl
abi-text tree.c_abi = λ p cs. refl
abi-text (tree.named_abi name) = λ p cs. is-text (letter 75) (press_name name) (75 ∷ []) (name_bytes name.punycode name.bytes) (byte 75) (name-text name.punycode name.bytes) p cs

function-front : (n : ℕ) (u : Bool) (a : tree.Abi) (ts : tree.Tys) (r : tree.Ty)
    → 70 ∷ (count_bytes 71 n ++ (mark_bytes (one_if u == 1) 85 ++ abi_bytes a)) ≡ front (fields_of (of_type (tree.function n u a ts r)))
unfolding front_bytes letter_bytes numbers_bytes text_bytes type_numbers abi_bytes
function-front n u tree.rust_abi ts r = ap (λ l. 70 ∷ l) (sym (append_assoc (count_bytes 71 n) (mark_bytes (one_if u == 1) 85) []))
function-front n u tree.c_abi ts r = ap (λ l. 70 ∷ l) (sym (append_assoc (count_bytes 71 n) (mark_bytes (one_if u == 1) 85) (75 ∷ 67 ∷ [])))
function-front n u (tree.named_abi name) ts r = go name.punycode name.bytes
  where
    go : (b : Bool) (s : List ℕ) → let a : tree.Abi = tree.named_abi (record { punycode = b; bytes = s }) in
        70 ∷ (count_bytes 71 n ++ (mark_bytes (one_if u == 1) 85 ++ (75 ∷ name_bytes b s))) ≡ front (fields_of (of_type (tree.function n u a ts r)))
    go true s = ap (λ l. 70 ∷ l) (sym (append_assoc (count_bytes 71 n) (mark_bytes (one_if u == 1) 85) (75 ∷ name_bytes true s)))
    go false s = ap (λ l. 70 ∷ l) (sym (append_assoc (count_bytes 71 n) (mark_bytes (one_if u == 1) 85) (75 ∷ name_bytes false s)))

function-end : (n : ℕ) (u : Bool) (a : tree.Abi) (ts : tree.Tys) (r : tree.Ty) → [] ≡ end (fields_of (of_type (tree.function n u a ts r)))
unfolding end_bytes
function-end n u tree.rust_abi ts r = refl
function-end n u tree.c_abi ts r = refl
function-end n u (tree.named_abi name) ts r = go name.punycode name.bytes
  where
    go : (b : Bool) (s : List ℕ) → let a : tree.Abi = tree.named_abi (record { punycode = b; bytes = s }) in [] ≡ end (fields_of (of_type (tree.function n u a ts r)))
    go true s = refl
    go false s = refl

type-spells : (type : tree.Ty) → Spells (fields_of (of_type type)) (spelling_of (of_type type))
unfolding front_bytes letter_bytes numbers_bytes text_bytes end_bytes type_numbers some_bytes
type-spells (tree.basic l) = step (fields_of (of_type (tree.basic l))) (letter l ∷ []) ((l ∷ []) ∷ []) [] [] [] (byte l, tt) tt tt refl refl
type-spells (tree.path_type p) = step (fields_of (of_type (tree.path_type p))) [] [] (press_path p ∷ []) [] [] tt (refl, tt) tt refl refl
type-spells (tree.array t k) =
    step (fields_of (of_type (tree.array t k))) (letter 65 ∷ []) ((65 ∷ []) ∷ []) (type_or_reference t (spell_type t) ∷ press_constant k ∷ []) [] [] (byte 65, tt) (type-as-part t, (refl, tt)) tt refl refl
type-spells (tree.slice t) =
    step (fields_of (of_type (tree.slice t))) (letter 83 ∷ []) ((83 ∷ []) ∷ []) (type_or_reference t (spell_type t) ∷ []) [] [] (byte 83, tt) (type-as-part t, tt) tt refl refl
type-spells (tree.tuple ts) =
    step (fields_of (of_type (tree.tuple ts))) (letter 84 ∷ []) ((84 ∷ []) ∷ []) (press_types ts ∷ []) [] [] (byte 84, tt) (refl, tt) tt refl refl
type-spells (tree.shared_reference l t) =
    step (fields_of (of_type (tree.shared_reference l t))) (letter 82 ∷ some_lifetime l ∷ []) ((82 ∷ []) ∷ some_bytes l ∷ []) (type_or_reference t (spell_type t) ∷ []) [] []
    (byte 82, (some-lifetime-text l, tt)) (type-as-part t, tt) tt (ap (λ b. 82 ∷ b) (sym (append-nil (some_bytes l)))) refl
type-spells (tree.mutable_reference l t) =
    step (fields_of (of_type (tree.mutable_reference l t))) (letter 81 ∷ some_lifetime l ∷ []) ((81 ∷ []) ∷ some_bytes l ∷ []) (type_or_reference t (spell_type t) ∷ []) [] []
    (byte 81, (some-lifetime-text l, tt)) (type-as-part t, tt) tt (ap (λ b. 81 ∷ b) (sym (append-nil (some_bytes l)))) refl
type-spells (tree.const_pointer t) =
    step (fields_of (of_type (tree.const_pointer t))) (letter 80 ∷ []) ((80 ∷ []) ∷ []) (type_or_reference t (spell_type t) ∷ []) [] [] (byte 80, tt) (type-as-part t, tt) tt refl refl
type-spells (tree.mut_pointer t) =
    step (fields_of (of_type (tree.mut_pointer t))) (letter 79 ∷ []) ((79 ∷ []) ∷ []) (type_or_reference t (spell_type t) ∷ []) [] [] (byte 79, tt) (type-as-part t, tt) tt refl refl
type-spells (tree.function n u a ts r) =
    step (fields_of (of_type (tree.function n u a ts r))) (letter 70 ∷ press_binder n ∷ mark_if u 85 ∷ press_abi a ∷ []) ((70 ∷ []) ∷ count_bytes 71 n ∷ mark_bytes (one_if u == 1) 85 ∷ abi_bytes a ∷ [])
    (press_types ts ∷ type_or_reference r (spell_type r) ∷ []) [] [] (byte 70, (count-text 71 n, (mark-text u 85, (abi-text a, tt)))) (refl, (type-as-part r, tt)) tt
    (function-front n u a ts r) (function-end n u a ts r)
type-spells (tree.dyn n bs l) =
    step (fields_of (of_type (tree.dyn n bs l))) (letter 68 ∷ press_binder n ∷ []) ((68 ∷ []) ∷ count_bytes 71 n ∷ []) (press_bounds bs ∷ []) (press_lifetime l ∷ []) (lifetime_bytes l ∷ [])
    (byte 68, (count-text 71 n, tt)) (refl, tt) (lifetime-text l, tt) (ap (λ b. 68 ∷ b) (sym (append-nil (count_bytes 71 n)))) refl

types-spells : (ts : tree.Tys) → Spells (fields_of (of_types ts)) (press_types ts)
unfolding front_bytes letter_bytes numbers_bytes text_bytes end_bytes constant_numbers
types-spells tree.no_types = step (fields_of (of_types tree.no_types)) (letter 69 ∷ []) ((69 ∷ []) ∷ []) [] [] [] (byte 69, tt) tt tt refl refl
types-spells (tree.more_types t ts) =
    step (fields_of (of_types (tree.more_types t ts))) [] [] (type_or_reference t (spell_type t) ∷ press_types ts ∷ []) [] [] tt (type-as-part t, (refl, tt)) tt refl refl

bounds-spells : (bs : tree.Bounds) → Spells (fields_of (of_bounds bs)) (press_bounds bs)
unfolding front_bytes letter_bytes numbers_bytes text_bytes end_bytes constant_numbers
bounds-spells tree.no_bounds = step (fields_of (of_bounds tree.no_bounds)) (letter 69 ∷ []) ((69 ∷ []) ∷ []) [] [] [] (byte 69, tt) tt tt refl refl
bounds-spells (tree.more_bounds p b bs) =
    step (fields_of (of_bounds (tree.more_bounds p b bs))) [] [] (press_path p ∷ press_bindings b ∷ press_bounds bs ∷ []) [] [] tt (refl, (refl, (refl, tt))) tt refl refl

bindings-spells : (b : tree.Bindings) → Spells (fields_of (of_bindings b)) (press_bindings b)
unfolding front_bytes letter_bytes numbers_bytes text_bytes end_bytes constant_numbers
bindings-spells tree.no_bindings = step (fields_of (of_bindings tree.no_bindings)) [] [] [] [] [] tt tt tt refl refl
bindings-spells (tree.more_bindings name t rest) = go name.punycode name.bytes
  where
    go : (b : Bool) (s : List ℕ) → let m : tree.Name = record { punycode = b; bytes = s } in Spells (fields_of (of_bindings (tree.more_bindings m t rest))) (press_bindings (tree.more_bindings m t rest))
    go true s = let m : tree.Name = record { punycode = true; bytes = s } in
        step (fields_of (of_bindings (tree.more_bindings m t rest))) (letter 112 ∷ press_name m ∷ []) ((112 ∷ []) ∷ name_bytes true s ∷ []) (type_or_reference t (spell_type t) ∷ press_bindings rest ∷ []) [] []
        (byte 112, (name-text true s, tt)) (type-as-part t, (refl, tt)) tt refl refl
    go false s = let m : tree.Name = record { punycode = false; bytes = s } in
        step (fields_of (of_bindings (tree.more_bindings m t rest))) (letter 112 ∷ press_name m ∷ []) ((112 ∷ []) ∷ name_bytes false s ∷ []) (type_or_reference t (spell_type t) ∷ press_bindings rest ∷ []) [] []
        (byte 112, (name-text false s, tt)) (type-as-part t, (refl, tt)) tt refl refl

constant-spells : (k : tree.Constant) → number_in (fields_of (of_constant k)) 0 < 2 ^ 64 → Spells (fields_of (of_constant k)) (spell_constant k)
unfolding front_bytes letter_bytes numbers_bytes text_bytes end_bytes constant_numbers
constant-spells (tree.integer t minus n) low =
    step (fields_of (of_constant (tree.integer t minus n))) (letter t ∷ mark_if minus 110 ∷ number16 n ∷ []) ((t ∷ []) ∷ mark_bytes (one_if minus == 1) 110 ∷ integer_bytes (hexadecimal n) ∷ []) [] [] []
    (byte t, (mark-text minus 110, (integer-text n, tt))) tt tt refl refl
constant-spells (tree.boolean true) low = step (fields_of (of_constant (tree.boolean true))) (letter 98 ∷ letter 49 ∷ letter 95 ∷ []) ((98 ∷ []) ∷ (49 ∷ []) ∷ (95 ∷ []) ∷ []) [] [] [] (byte 98, (byte 49, (byte 95, tt))) tt tt refl refl
constant-spells (tree.boolean false) low = step (fields_of (of_constant (tree.boolean false))) (letter 98 ∷ letter 48 ∷ letter 95 ∷ []) ((98 ∷ []) ∷ (48 ∷ []) ∷ (95 ∷ []) ∷ []) [] [] [] (byte 98, (byte 48, (byte 95, tt))) tt tt refl refl
constant-spells (tree.character c) low =
    step (fields_of (of_constant (tree.character c))) (letter 99 ∷ number16 c ∷ []) ((99 ∷ []) ∷ (digits_of 16 c ++ 95 ∷ []) ∷ []) [] [] [] (byte 99, (sixteen-text c low, tt)) tt tt
    (ap (λ b. 99 ∷ b) (sym (append-nil (digits_of 16 c ++ 95 ∷ [])))) refl
constant-spells tree.placeholder low = step (fields_of (of_constant tree.placeholder)) (letter 112 ∷ []) ((112 ∷ []) ∷ []) [] [] [] (byte 112, tt) tt tt refl refl

symbol-spells : (path : tree.Path) (other : Option tree.Path) (suffix : List ℕ) → let s : tree.Symbol = record { path = path; instantiating = other; suffix = suffix } in Spells (fields_of (of_symbol s)) (press_tree (of_symbol s))
unfolding front_bytes letter_bytes numbers_bytes text_bytes end_bytes constant_numbers
symbol-spells path None suffix = let s : tree.Symbol = record { path = path; instantiating = None; suffix = suffix } in
    step (fields_of (of_symbol s)) (text (95 ∷ 82 ∷ []) ∷ []) ((95 ∷ 82 ∷ []) ∷ []) (press_path path ∷ []) (nothing ∷ []) ([] ∷ []) ((λ p cs. refl), tt) (refl, tt) ((λ p cs. refl), tt) refl refl
symbol-spells path (Some other) suffix = let s : tree.Symbol = record { path = path; instantiating = Some other; suffix = suffix } in
    step (fields_of (of_symbol s)) (text (95 ∷ 82 ∷ []) ∷ []) ((95 ∷ 82 ∷ []) ∷ []) (press_path path ∷ press_path other ∷ []) [] [] ((λ p cs. refl), tt) (refl, (refl, tt)) tt refl refl

pub tree-spells : (t : Tree) → number_in (fields_of t) 0 < 2 ^ 64 → Spells (fields_of t) (spelling_of t)
tree-spells (of_path p) low = path-spells p
tree-spells (of_arguments a) low = arguments-spells a
tree-spells (of_type t) low = type-spells t
tree-spells (of_types ts) low = types-spells ts
tree-spells (of_bounds bs) low = bounds-spells bs
tree-spells (of_bindings b) low = bindings-spells b
tree-spells (of_constant k) low = constant-spells k low
tree-spells (of_symbol s) low = symbol-spells s.path s.instantiating s.suffix

-- ## Components

abbrev pub is_compared : Tree → Bool
is_compared (of_path path) = true
is_compared (of_type (tree.basic l)) = false
is_compared (of_type (tree.path_type p)) = false
is_compared (of_type type) = true
is_compared (of_constant tree.placeholder) = false
is_compared (of_constant constant) = true
is_compared other = false

path-is : (path : tree.Path) → is_component (fields_of (of_path path)).production ≡ true
unfolding is_component
path-is (tree.crate_root own) = go own.name.punycode
  where
    go : (b : Bool) → is_component (if b then 1 else 0) ≡ true
    go true = refl
    go false = refl
path-is (tree.nested n p own) = go own.name.punycode
  where
    go : (b : Bool) → is_component (if b then 6 else 5) ≡ true
    go true = refl
    go false = refl
path-is _ = refl

function-is : (n : ℕ) (u : Bool) (a : tree.Abi) (ts : tree.Tys) (r : tree.Ty) → is_component (fields_of (of_type (tree.function n u a ts r))).production ≡ true
unfolding is_component
function-is n u tree.rust_abi ts r = refl
function-is n u tree.c_abi ts r = refl
function-is n u (tree.named_abi name) ts r = go name.punycode
  where
    go : (b : Bool) → is_component (if b then 24 else 23) ≡ true
    go true = refl
    go false = refl

binding-is : (b : Bool) → is_component (if b then 32 else 31) ≡ false
unfolding is_component
binding-is true = refl
binding-is false = refl

pub component-is : (t : Tree) → is_component (fields_of t).production ≡ is_compared t
unfolding is_component
component-is (of_path p) = path-is p
component-is (of_type (tree.function n u a ts r)) = function-is n u a ts r
component-is (of_type _) = refl
component-is (of_bindings (tree.more_bindings name t rest)) = binding-is name.punycode
component-is (of_bindings _) = refl
component-is (of_arguments tree.no_arguments) = refl
component-is (of_arguments _) = refl
component-is (of_types tree.no_types) = refl
component-is (of_types _) = refl
component-is (of_bounds tree.no_bounds) = refl
component-is (of_bounds _) = refl
component-is (of_constant tree.placeholder) = refl
component-is (of_constant _) = refl
component-is (of_symbol s) = refl

-- a tree is spelled as a component if it is compared, and is otherwise spelled out
abbrev pub looked_at : Bool → Tree → Pressing
looked_at true t = component t (spelling_of t)
looked_at false t = spelling_of t

looked : (t : Tree) → press_tree t ≡ looked_at (is_compared t) t
looked (of_type (tree.path_type p)) = refl
looked (of_type _) = refl
looked (of_constant tree.placeholder) = refl
looked (of_constant _) = refl
looked _ = refl

pub looked-as : (t : Tree) (b : Bool) → is_component (fields_of t).production ≡ b → press_tree t ≡ looked_at b t
looked-as t b is = looked t ∙ ap (λ c. looked_at c t) (sym (component-is t) ∙ is)

not-compared : (t : Tree) → is_compared t ≡ false → is_component (fields_of t).production ≡ true → same_tree t t ≡ true
not-compared t none is = absurd (false≢true (sym none ∙ sym (component-is t) ∙ is))

pub compared-itself : (t : Tree) → is_component (fields_of t).production ≡ true → same_tree t t ≡ true
compared-itself (of_path p) is = path-itself p
compared-itself (of_type t) is = type-itself t
compared-itself (of_constant k) is = constant-itself k
compared-itself t is = not-compared t refl is

-- a production that makes a component differs from each production that makes none
test-off : (p k : ℕ) → is_component k ≡ true → is_component p ≡ false → (p == k) ≡ false
test-off p k one not = go (p == k) refl
  where
    go : (b : Bool) → (p == k) ≡ b → b ≡ false
    go true is = sym (ap is_component (eqb-true p k is) ∙ one) ∙ not
    go false is = refl

pub end-none : (p m : ℕ) (s : List ℕ) → is_component p ≡ false → end_bytes p m s ≡ []
unfolding end_bytes is_component
end-none p m s not = rw (test-off p 5 refl not, test-off p 6 refl not, test-off p 7 refl not, test-off p 25 refl not) refl

-- ## Weights

part-weight : (t : tree.Ty) → weight_of_tree (type_part t) ≤ weight_of_type t
part-weight (tree.path_type p) = omega arith
part-weight _ = omega arith

pub parts-weight : (t : Tree) → 2 + weight_of_trees (fields_of t).parts ≤ weight_of_tree t
parts-weight (of_path (tree.inherent_impl d p t)) = omega (arith, part-weight t)
parts-weight (of_path (tree.trait_impl d p t q)) = omega (arith, part-weight t)
parts-weight (of_path (tree.trait_definition t q)) = omega (arith, part-weight t)
parts-weight (of_path _) = omega arith
parts-weight (of_arguments (tree.type_argument t a)) = omega (arith, part-weight t)
parts-weight (of_arguments _) = omega arith
parts-weight (of_type (tree.array t k)) = omega (arith, part-weight t)
parts-weight (of_type (tree.slice t)) = omega (arith, part-weight t)
parts-weight (of_type (tree.shared_reference l t)) = omega (arith, part-weight t)
parts-weight (of_type (tree.mutable_reference l t)) = omega (arith, part-weight t)
parts-weight (of_type (tree.const_pointer t)) = omega (arith, part-weight t)
parts-weight (of_type (tree.mut_pointer t)) = omega (arith, part-weight t)
parts-weight (of_type (tree.function n u a ts r)) = omega (arith, part-weight r)
parts-weight (of_type _) = omega arith
parts-weight (of_types (tree.more_types t ts)) = omega (arith, part-weight t)
parts-weight (of_types _) = omega arith
parts-weight (of_bindings (tree.more_bindings name t rest)) = omega (arith, part-weight t)
parts-weight (of_bindings _) = omega arith
parts-weight (of_bounds tree.no_bounds) = omega arith
parts-weight (of_bounds _) = omega arith
parts-weight (of_constant tree.placeholder) = omega arith
parts-weight (of_constant _) = omega arith
parts-weight (of_symbol s) = go s.instantiating
  where
    go : (other : Option tree.Path) → 2 + weight_of_trees (of_path s.path ∷ other_part other) ≤ 3 + weight s.path + weight_of_other other
    go None = omega arith
    go (Some p) = omega arith
