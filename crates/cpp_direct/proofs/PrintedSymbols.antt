-- Encodings with a known text, and the symbols made of them.
use Rattle.cpp_direct.proofs.Basics.{◌≡◌, ◌≢◌, refl, ap, sym, ◌∙◌, ℕ, ◌*◌, ◌≤◌, List, [], ◌∷◌, ◌++◌, length, Bool, true, false, ◌&&◌, arith, codes, nat_eq, length-append, append-nil, append_assoc, subst, absent, adjusting, any_value, as_item, begins_parameters, builtin, by_table, clone, clone_text, closed, construction, Context, covariant, Detail, encoding_of, encoding_text, explicit_object, first, full, full_parts, function, function_bare, function_full, has_arguments, has_parameters, has_return_type, is_nil, is_void, left, left_parts, list, list_part, look_up, lvalue_only, named_special_texts, nil, non_virtual, not_empty, object, of_name, parameters, parts_in, Qualifiers, qualifiers_of, ref_of, RefQualifier, right, root, root_item, root_parts, rvalue_only, same_bytes, says, shown, special, special_texts, symbol, Term, text_part, Thunk, thunk, thunk_text, tree_of, types_of, Value, text, text_of, cost_of, Mark, called_on, has_const, IsElement, IsNamedSo, IsUnmarked, joined, list_of, list_with, plain_encoding, PrintAllIn, PrintEachIn, PrintsIn, PrintsName, qualifiers, Shows, unmarked_parts, written, written_in, written_of, false≢true}
use Rattle.cpp_direct.proofs.Unmarked.{length-unmarked, qualifiers-unmarked, special-unmarked, thunk-unmarked, unmarked-same}
use Rattle.cpp_direct.proofs.PrintedParts.{shown_by, text_shown, cost_shown, first_shown, first_cost_shown, text_append, cost_append, part-text, part-cost, length-filled}
use Rattle.cpp_direct.proofs.PrintedLists.{PrintsItems, list-in, none-print-in}

-- ## Functions

signed_text : (x y z b l q : List ℕ) → x ≡ b → y ≡ l → z ≡ q → (x ++ (codes "(" ++ y)) ++ (codes ")" ++ z) ≡ b ++ codes "(" ++ l ++ codes ")" ++ q
signed_text x y z b l q e f g =
    rw (e, f, g) (ap (λ s. s ++ (codes ")" ++ q)) (sym (append_assoc b (codes "(") l)) ∙ sym (append_assoc (b ++ codes "(" ++ l) (codes ")") q))

-- the parts of a function that has no return type
plain_parts : (detail : Detail) → has_parameters detail ≡ true → (name : Term) (q : Qualifiers) (ref : RefQualifier) (items : Term)
    → parts_in detail closed full (function name q ref absent items) ≡ function_bare true name q ref items
unfolding parts_in full_parts function_full
plain_parts detail shown name q ref items = ap (λ b. function_full b name q ref absent items) shown

-- a parenthesis begins the parameters of a function whose object is no parameter
opened_plainly : (name : Term) (q : Qualifiers) (ref : RefQualifier) (items : Term) → begins_parameters ref items ≡ codes "("
    → function_bare true name q ref items ≡ (as_item left closed name ∷ says "(" ∷ list_part first (types_of name) items) ++ (says ")" ∷ text_part (encoding_text q ref))
unfolding function_bare
opened_plainly name q ref items opens = ap (λ o. (as_item left closed name ∷ text o ∷ list_part first (types_of name) items) ++ (says ")" ∷ text_part (encoding_text q ref))) opens

pub nothing-opens : (ref : RefQualifier) → begins_parameters ref nil ≡ codes "("
unfolding begins_parameters
nothing-opens any_value = refl
nothing-opens lvalue_only = refl
nothing-opens rvalue_only = refl
nothing-opens explicit_object = refl

-- no mark is that of a function with an explicit object, so a parenthesis begins the parameters
pub never-explicit : (mark : Mark) → called_on mark ≢ explicit_object
never-explicit Mark.Plain e = cc e
never-explicit Mark.Const e = cc e
never-explicit Mark.Lvalue e = cc e
never-explicit Mark.ConstLvalue e = cc e
never-explicit Mark.Rvalue e = cc e
never-explicit Mark.ConstRvalue e = cc e

pub mark-opens : (mark : Mark) (items : Term) → begins_parameters (called_on mark) items ≡ codes "("
unfolding begins_parameters
mark-opens Mark.Plain items = refl
mark-opens Mark.Const items = refl
mark-opens Mark.Lvalue items = refl
mark-opens Mark.ConstLvalue items = refl
mark-opens Mark.Rvalue items = refl
mark-opens Mark.ConstRvalue items = refl

-- A function that has no return type prints its name, its parameters and its qualifiers.
pub function-shows : {detail : Detail} → has_parameters detail ≡ true → (name : Term) (b : List ℕ) → PrintsName detail name b → (items : Term) (l : List ℕ)
    → PrintsItems detail (types_of name) items l → (q : Qualifiers) (ref : RefQualifier) → begins_parameters ref items ≡ codes "("
    → Shows detail (function name q ref absent items) (b ++ codes "(" ++ l ++ codes ")" ++ encoding_text q ref)
unfolding parts_in full_parts function_full not_empty
function-shows {detail} shown name b p items l all q ref opens =
    let c = types_of name in
    let f = function name q ref absent items in
    let front = as_item left closed name ∷ says "(" ∷ list_part first c items in
    let behind = says ")" ∷ text_part (encoding_text q ref) in
    let is = plain_parts detail shown name q ref items ∙ opened_plainly name q ref items opens in
    record {
      shown_text = text_shown detail full closed f (front ++ behind) is refl ∙ text_append detail front behind
          ∙ signed_text (text_of (written_of detail left closed name)) (text_of (shown_by detail (list_part first c items)))
          (text_of (shown_by detail (text_part (encoding_text q ref)))) b l (encoding_text q ref) (p.left_text closed)
          all.0 (part-text detail (encoding_text q ref) (qualifiers-unmarked q ref));
      shown_cost = omega (
        arith,
        p.cost closed,
        all.1,
        cost_shown detail full closed f (front ++ behind) is refl,
        cost_append detail front behind,
        part-cost detail (encoding_text q ref),
        length-append {A = ℕ},
      );
    }

-- what prints something isn't absent
not-absent : {detail : Detail} (c : Context) (t : Term) (b : List ℕ) (r : Bool) → PrintsIn detail c 3 t b r → t ≡ absent → ⊥
unfolding parts_in left_parts not_empty
not-absent {detail} c t b r p e =
    let none : b ≡ [] = sym p.left_text ∙ ap (λ u. text_of (written_of detail left c u)) e ∙ text_shown detail left c absent [] refl refl in
    omega (arith, p.some, ap length none)

returned_parts : (detail : Detail) → has_parameters detail ≡ true → (name : Term) (q : Qualifiers) (ref : RefQualifier) (r items : Term) → (r ≡ absent → ⊥)
    → parts_in detail closed full (function name q ref r items)
    ≡ (as_item left (types_of name) r ∷ says " " ∷ []) ++ function_bare true name q ref items ++ (as_item right (types_of name) r ∷ [])
unfolding parts_in full_parts function_full
returned_parts detail shown name q ref absent items there = absurd (there refl)
returned_parts detail shown name q ref r items there = ap (λ b. function_full b name q ref r items) shown

fronted_text : (x y z b l : List ℕ) → x ≡ b → y ≡ l → z ≡ [] → (x ++ (codes " " ++ [])) ++ y ++ (z ++ []) ≡ b ++ codes " " ++ l
fronted_text x y z b l e f g = rw (e, f, g) (append-nil (b ++ codes " " ++ l))

-- A function that has a return type prints that type, and then what the function without it prints.
pub front-shows : {detail : Detail} → has_parameters detail ≡ true → (name : Term) (q : Qualifiers) (ref : RefQualifier) (items : Term) (l : List ℕ)
    → Shows detail (function name q ref absent items) l → (r : Term) (b : List ℕ) (is_reference : Bool) → PrintsIn detail (types_of name) 3 r b is_reference
    → Shows detail (function name q ref r items) (b ++ codes " " ++ l)
unfolding parts_in full_parts function_full not_empty
front-shows {detail} shown name q ref items l shows r b is_reference p =
    let c = types_of name in
    let f = function name q ref r items in
    let plain = function name q ref absent items in
    let front = as_item left c r ∷ says " " ∷ [] in
    let middle = function_bare true name q ref items in
    let behind = as_item right c r ∷ [] in
    let is = returned_parts detail shown name q ref r items (not-absent c r b is_reference p) in
    let plain_is = plain_parts detail shown name q ref items in
    record {
      shown_text = text_shown detail full closed f (front ++ middle ++ behind) is refl ∙ text_append detail (front ++ middle) behind
          ∙ ap (λ x. x ++ text_of (shown_by detail behind)) (text_append detail front middle)
          ∙ fronted_text (text_of (written_of detail left c r)) (text_of (shown_by detail middle)) (text_of (written_of detail right c r)) b l p.left_text
          (sym (text_shown detail full closed plain middle plain_is refl) ∙ shows.shown_text) p.right_text;
      shown_cost = omega (
        arith,
        p.cost,
        shows.shown_cost,
        cost_shown detail full closed f (front ++ middle ++ behind) is refl,
        cost_shown detail full closed plain middle plain_is refl,
        cost_append detail (front ++ middle) behind,
        cost_append detail front middle,
        length-append {A = ℕ},
      );
    }

-- Data print their name.
pub object-shows : {detail : Detail} (name : Term) (b : List ℕ) → PrintsName detail name b → (q : Qualifiers) (ref : RefQualifier)
    → Shows detail (object name q ref) (b ++ encoding_text q ref)
unfolding parts_in full_parts not_empty
object-shows {detail} name b p q ref =
    let ps = as_item left closed name ∷ text_part (encoding_text q ref) in
    record {
      shown_text = text_shown detail full closed (object name q ref) ps refl refl
          ∙ ap (λ s. s ++ text_of (shown_by detail (text_part (encoding_text q ref)))) (p.left_text closed)
          ∙ ap (λ s. b ++ s) (part-text detail (encoding_text q ref) (qualifiers-unmarked q ref));
      shown_cost = omega (
        arith,
        p.cost closed,
        cost_shown detail full closed (object name q ref) ps refl refl,
        part-cost detail (encoding_text q ref),
        length-append b (encoding_text q ref),
      );
    }

element_text : (x r k b : List ℕ) → x ++ r ≡ b → k ++ (x ++ (r ++ [])) ≡ k ++ b
element_text x r k b e = ap (λ l. k ++ (x ++ l)) (append-nil r) ∙ ap (λ l. k ++ l) e

-- A special object prints the text for its kind, and the type that it belongs to.
pub special-shows : {detail : Detail} (letter : ℕ) → look_up (letter ∷ []) special_texts ≢ [] → (t : Term) (b : List ℕ) → IsElement detail 0 t b
    → Shows detail (special letter t) (look_up (letter ∷ []) special_texts ++ b)
unfolding parts_in full_parts not_empty
special-shows {detail} letter filled t b p =
    let k = look_up (letter ∷ []) special_texts in
    let behind = as_item left closed t ∷ as_item right closed t ∷ [] in
    record {
      shown_text = text_shown detail full closed (special letter t) (text k ∷ behind) refl refl ∙ first_shown detail k behind (special-unmarked (letter ∷ []))
          ∙ element_text (text_of (written_of detail left closed t)) (text_of (written_of detail right closed t)) k b (p.both_texts closed);
      shown_cost = omega (
        arith,
        p.cost closed,
        cost_shown detail full closed (special letter t) (text k ∷ behind) refl refl,
        first_cost_shown detail k behind,
        length-filled k filled,
        length-append k b,
      );
    }

table_text : (k x r m y z b c : List ℕ) → x ++ r ≡ b → y ++ z ≡ c → k ++ ((x ++ (r ++ [])) ++ (m ++ (y ++ (z ++ [])))) ≡ k ++ b ++ m ++ c
table_text k x r m y z b c e f =
    ap (λ l. k ++ ((x ++ l) ++ (m ++ (y ++ (z ++ []))))) (append-nil r) ∙ ap (λ l. k ++ (l ++ (m ++ (y ++ (z ++ []))))) e
    ∙ ap (λ l. k ++ (b ++ (m ++ (y ++ l)))) (append-nil z) ∙ ap (λ l. k ++ (b ++ (m ++ l))) f ∙ simp append_assoc

-- A construction table prints the text for its kind, its base class, and its derived class.
pub table-shows : {detail : Detail} (derived parent : Term) (digits b c : List ℕ) → IsElement detail 0 parent b → IsElement detail 0 derived c
    → Shows detail (construction derived digits parent) (codes "construction vtable for " ++ b ++ codes "-in-" ++ c)
unfolding parts_in full_parts not_empty
table-shows {detail} derived parent digits b c p q =
    let k : List ℕ = codes "construction vtable for " in
    let m : List ℕ = codes "-in-" in
    let t = construction derived digits parent in
    let base = as_item left closed parent ∷ as_item right closed parent ∷ [] in
    let last = as_item left closed derived ∷ as_item right closed derived ∷ [] in
    let behind = base ++ (text m ∷ last) in
    record {
      shown_text = text_shown detail full closed t (text k ∷ behind) refl refl ∙ first_shown detail k behind refl
          ∙ ap (λ l. k ++ l) (text_append detail base (text m ∷ last) ∙ ap (λ l. text_of (shown_by detail base) ++ l) (first_shown detail m last refl))
          ∙ table_text k (text_of (written_of detail left closed parent)) (text_of (written_of detail right closed parent)) m
          (text_of (written_of detail left closed derived)) (text_of (written_of detail right closed derived)) b c (p.both_texts closed) (q.both_texts closed);
      shown_cost = omega (
        arith,
        p.cost closed,
        q.cost closed,
        cost_shown detail full closed t (text k ∷ behind) refl refl,
        first_cost_shown detail k behind,
        cost_append detail base (text m ∷ last),
        first_cost_shown detail m last,
        length-append (b ++ m) c,
        length-append b m,
      );
    }

pub thunk-filled : (kind : Thunk) → 1 ≤ length (thunk_text kind)
unfolding thunk_text
thunk-filled (adjusting (non_virtual a)) = omega arith
thunk-filled (adjusting (by_table a b)) = omega arith
thunk-filled (covariant a b) = omega arith

-- An encoding after a text shows the text and itself.
led-shows : (d : Detail) (made : Term) (k : List ℕ) (e : Term) (b : List ℕ) → parts_in d closed full made ≡ text k ∷ as_item full closed e ∷ []
    → written_in d closed full made ≡ unmarked_parts (has_arguments d) (parts_in d closed full made) → IsUnmarked k → 1 ≤ length k → Shows d e b
    → Shows d made (k ++ b)
unfolding not_empty
led-shows d made k e b is same plain filled p =
    let behind = as_item full closed e ∷ [] in
    record {
      shown_text = text_shown d full closed made (text k ∷ behind) is same ∙ first_shown d k behind plain
          ∙ ap (λ s. k ++ s) (append-nil (text_of (written_of d full closed e)) ∙ p.shown_text);
      shown_cost = omega (arith, p.shown_cost, cost_shown d full closed made (text k ∷ behind) is same, first_cost_shown d k behind, filled, length-append k b);
    }

-- A thunk prints the text for its kind, and the encoding that it calls.
pub thunk-shows : (d : Detail) (kind : Thunk) (e : Term) (b : List ℕ) → Shows d e b → Shows d (thunk kind e) (thunk_text kind ++ b)
unfolding parts_in full_parts not_empty
thunk-shows d kind e b p = led-shows d (thunk kind e) (thunk_text kind) e b refl refl (thunk-unmarked kind) (thunk-filled kind) p

clone-plain : (b : Bool) → IsUnmarked (elim b [ true ↦ codes "transaction clone for " | false ↦ codes "non-transaction clone for " ])
clone-plain true = refl
clone-plain false = refl

pub clone-filled : (b : Bool) → 1 ≤ length {A = ℕ} (elim b [ true ↦ codes "transaction clone for " | false ↦ codes "non-transaction clone for " ])
clone-filled true = omega arith
clone-filled false = omega arith

-- A clone prints the text for its kind, and the encoding that was cloned.
pub clone-shows : (d : Detail) (letter : ℕ) (e : Term) (b : List ℕ) → Shows d e b → Shows d (clone letter e) (clone_text letter ++ b)
unfolding parts_in full_parts not_empty clone_text
clone-shows d letter e b p = led-shows d (clone letter e) (clone_text letter) e b refl refl (clone-plain (nat_eq letter 116)) (clone-filled (nat_eq letter 116)) p

-- A guard variable prints the text for its kind, and the object that it guards.
pub guarded-shows : (d : Detail) (name : Term) (q : Qualifiers) (ref : RefQualifier) (b : List ℕ) → Shows d (object name q ref) b
    → Shows d (of_name 86 name q ref) (codes "guard variable for " ++ b)
unfolding look_up same_bytes named_special_texts parts_in full_parts not_empty
guarded-shows d name q ref b p =
    let k : List ℕ = codes "guard variable for " in
    let ps = as_item left closed name ∷ text_part (encoding_text q ref) in
    record {
      shown_text = text_shown d full closed (of_name 86 name q ref) (text k ∷ ps) refl refl ∙ first_shown d k ps refl
          ∙ ap (λ s. k ++ s) (sym (text_shown d full closed (object name q ref) ps refl refl) ∙ p.shown_text);
      shown_cost = omega (
        arith,
        p.shown_cost,
        cost_shown d full closed (of_name 86 name q ref) (text k ∷ ps) refl refl,
        cost_shown d full closed (object name q ref) ps refl refl,
        first_cost_shown d k ps,
        length-append k b,
      );
    }

-- ## Which encoding a name and its items make

parameters-same : (element rest : Term) → (is_void element ≡ true → is_nil rest ≡ true → ⊥) → parameters (list element rest) ≡ list element rest
unfolding parameters
parameters-same element rest apart = go (is_void element) (is_nil rest) refl refl
  where
    go : (a b : Bool) → is_void element ≡ a → is_nil rest ≡ b → elim (a && b) [ true ↦ nil | false ↦ list element rest ] ≡ list element rest
    go true true e f = absurd (apart e f)
    go true false e f = refl
    go false b e f = refl

-- elements are the parameters unless they print only the word void
pub parameters-kept : (detail : Detail) (c : Context) (extra : ℕ) (ts : List Term) (l : List ℕ) → PrintAllIn detail c extra ts l → l ≢ codes "void"
    → parameters (list_of ts) ≡ list_of ts
unfolding parameters is_nil
parameters-kept detail c extra [] l all apart = refl
parameters-kept detail c extra (t ∷ u ∷ ts) l all apart = parameters-same t (list_of (u ∷ ts)) (λ e f. cc f)
parameters-kept detail c extra (t ∷ []) l all apart = parameters-same t nil (λ e f. go all.0 all.1 all.2 e)
  where
    go : (texts : List (List ℕ)) → PrintEachIn detail c extra (t ∷ []) texts → joined texts ≡ l → is_void t ≡ true → ⊥
    go [] each is e = elim each [ ]
    go (b ∷ []) each is e = apart (sym is ∙ each.0.void e)
    go (b ∷ d ∷ bs) each is e = elim each.1 [ ]

-- likewise for elements if the last one isn't void
pub parameters-before : (ts : List Term) (t : Term) → is_void t ≡ false → parameters (list_with ts (list t nil)) ≡ list_with ts (list t nil)
unfolding parameters is_nil
parameters-before [] t apart = parameters-same t nil (λ e f. false≢true (sym apart ∙ e))
parameters-before (u ∷ []) t apart = parameters-same u (list t nil) (λ e f. cc f)
parameters-before (u ∷ v ∷ ts) t apart = parameters-same u (list_with (v ∷ ts) (list t nil)) (λ e f. cc f)

-- All items after a name that has no return type are the parameters of a function without a return type.
pub encoding-plain : (v : Value) (mark : Mark) (own : Term) → IsNamedSo v own mark → has_return_type own ≡ false → (t rest : Term) → encoding_of v (list t rest) ≡ plain_encoding mark own (list t rest)
unfolding encoding_of
encoding-plain v mark own is none t rest = rw (ap has_return_type is.tree_is ∙ none, encoding_of) (rw (is.tree_is, is.qualifiers_are, is.mark_is) refl)

-- The first item of a name that has a return type is that type.
pub encoding-returned : (v : Value) (mark : Mark) (own : Term) → IsNamedSo v own mark → has_return_type own ≡ true → (r items : Term)
    → encoding_of v (list r items) ≡ function own (qualifiers (has_const mark)) (called_on mark) r (parameters items)
unfolding encoding_of
encoding-returned v mark own is returns r items = rw (ap has_return_type is.tree_is ∙ returns, encoding_of) (rw (is.tree_is, is.qualifiers_are, is.mark_is) refl)

-- Parameters that aren't a lone void are the parameters of the function that they make, with some return type or none.
pub made-with : (own returned : Term) (mark : Mark) (make : Term → Term)
    → ((t rest : Term) → make (list t rest) ≡ function own (qualifiers (has_const mark)) (called_on mark) returned (parameters (list t rest)))
    → (ts : List Term) → ts ≢ [] → parameters (list_of ts) ≡ list_of ts
    → make (list_of ts) ≡ function own (qualifiers (has_const mark)) (called_on mark) returned (list_of ts)
made-with own returned mark make makes [] some kept = absurd (some refl)
made-with own returned mark make makes (t ∷ ts) some kept = makes t (list_of ts) ∙ ap (function own (qualifiers (has_const mark)) (called_on mark) returned) kept

-- A lone void makes a function without parameters.
pub made-void : (own returned : Term) (mark : Mark) (make : Term → Term)
    → ((t rest : Term) → make (list t rest) ≡ function own (qualifiers (has_const mark)) (called_on mark) returned (parameters (list t rest)))
    → make (list_of (builtin (118 ∷ []) ∷ [])) ≡ function own (qualifiers (has_const mark)) (called_on mark) returned nil
unfolding parameters is_void is_nil
made-void own returned mark make makes = makes (builtin (118 ∷ [])) nil

-- A name without items is data.
pub encoding-object : (v : Value) → encoding_of v nil ≡ object (tree_of v) (qualifiers_of v) (ref_of v)
unfolding encoding_of
encoding-object v = refl

pub none_bracketed : (b q : List ℕ) → b ++ codes "(" ++ [] ++ codes ")" ++ q ≡ b ++ codes "()" ++ q
none_bracketed b q = ap (λ s. s ++ codes ")" ++ q) (append-nil (b ++ codes "(")) ∙ ap (λ s. s ++ q) (append_assoc b (codes "(") (codes ")"))

-- A function without parameters shows its name and its qualifiers.
pub void-shows : {detail : Detail} → has_parameters detail ≡ true → (name : Term) (b : List ℕ) → PrintsName detail name b → (q : Qualifiers) (ref : RefQualifier)
    → Shows detail (function name q ref absent nil) (b ++ codes "()" ++ encoding_text q ref)
void-shows {detail} shown name b p q ref =
    subst (λ l. Shows detail (function name q ref absent nil) l) (none_bracketed b (encoding_text q ref))
    (function-shows shown name b p nil [] (list-in detail (types_of name) 6 [] [] (omega arith) (none-print-in detail (types_of name) 6)) q ref (nothing-opens ref))

-- An encoding without items shows its name.
pub object-encoded : {detail : Detail} (v : Value) (b : List ℕ) → PrintsName detail (tree_of v) b
    → Shows detail (encoding_of v nil) (b ++ encoding_text (qualifiers_of v) (ref_of v))
object-encoded {detail} v b p = subst (λ f. Shows detail f (b ++ encoding_text (qualifiers_of v) (ref_of v))) (sym (encoding-object v))
    (object-shows (tree_of v) b p (qualifiers_of v) (ref_of v))

-- ## Symbols

-- A symbol shows its encoding.
pub symbol-text : (d : Detail) (e : Term) (b : List ℕ) → Shows d e b → text_of (written d (root_item (symbol e []))) ≡ b
unfolding parts_in root_parts not_empty
symbol-text d e b s = text_shown d root closed (symbol e []) (as_item full closed e ∷ []) refl refl ∙ append-nil (text_of (written_of d full closed e)) ∙ s.shown_text

-- A symbol costs at most four for each byte of its text.
pub symbol-cost : (d : Detail) (e : Term) (b : List ℕ) → Shows d e b → cost_of (written d (root_item (symbol e []))) ≤ 4 * length b
unfolding parts_in root_parts not_empty
symbol-cost d e b s = omega (arith, s.shown_cost, cost_shown d root closed (symbol e []) (as_item full closed e ∷ []) refl refl)

suffixed : (x b s : List ℕ) → x ≡ b → x ++ (codes " (" ++ (s ++ (codes ")" ++ []))) ≡ b ++ codes " (" ++ s ++ codes ")"
suffixed x b s e = rw e (sym (append_assoc b (codes " (") (s ++ codes ")")) ∙ sym (append_assoc (b ++ codes " (") s (codes ")")))

-- A symbol with a suffix shows the suffix, too.
pub suffix-text : (d : Detail) (e : Term) (b : List ℕ) → Shows d e b → (c : ℕ) (rest : List ℕ) → IsUnmarked (c ∷ rest)
    → text_of (written d (root_item (symbol e (c ∷ rest)))) ≡ b ++ codes " (" ++ (c ∷ rest) ++ codes ")"
unfolding parts_in root_parts not_empty
suffix-text d e b s c rest plain =
    text_shown d root closed (symbol e (c ∷ rest)) (as_item full closed e ∷ says " (" ∷ text (c ∷ rest) ∷ says ")" ∷ []) refl refl
    ∙ ap (λ l. text_of (written_of d full closed e) ++ (codes " (" ++ (l ++ codes ")"))) (unmarked-same (has_arguments d) (c ∷ rest) plain)
    ∙ suffixed (text_of (written_of d full closed e)) b (c ∷ rest) s.shown_text

-- A symbol with a suffix costs at most four for each byte of its text as well.
pub suffix-cost : (d : Detail) (e : Term) (b : List ℕ) → Shows d e b → (c : ℕ) (rest : List ℕ)
    → cost_of (written d (root_item (symbol e (c ∷ rest)))) ≤ 4 * length (b ++ codes " (" ++ (c ∷ rest) ++ codes ")")
unfolding parts_in root_parts not_empty
suffix-cost d e b s c rest =
    omega (
      arith,
      s.shown_cost,
      cost_shown d root closed (symbol e (c ∷ rest)) (as_item full closed e ∷ says " (" ∷ text (c ∷ rest) ∷ says ")" ∷ []) refl refl,
      length-unmarked (has_arguments d) rest,
      length-append {A = ℕ},
    )
