-- Entities and types in encodings, and guard variables.
use Rattle.cpp_direct.proofs.AllGround.{◌≡◌, ◌≢◌, refl, ap, sym, ◌∙◌, ℕ, List, [], ◌∷◌, ◌++◌, length, Bool, false, None, true, arith, codes, length-append, append-nil, subst, append_assoc, absent, address_of, any_value, as_item, bare_parts, component_parts, Detail, encoding_of, encoding_text, entity_of, first_of, full_parts, function, function_bare, function_full, has_parameters, is_open, lambda, last_piece, left_parts, list_part, local, nil, not_empty, object, opening_text, pack_length, parts_in, piece_parts, prefix_item, qualifier_text, Qualifiers, qualifiers_of, ref_of, ref_text, RefQualifier, right_parts, says, source, source_text, Term, tree_of, unqualified, Value, within, within_parts, text, text_of, cost_of, full, bare, left, Context, closed, right, first, written_of, PrintsName, Shows, Encloses, Prints, PrintsPiece, PrintAll, joined_to, list_of, IsUnmarked, decimal, discriminator_of, Discriminator, discriminator_value, entity_in, local_in, shown_by, writes_parts, text_shown, cost_shown, first_shown, first_cost_shown, text_append, cost_append, encoding-object, object-shows, list-text, list-cost}
use Rattle.cpp_grammar.specs.Items.{piece}
use Rattle.cpp_direct.proofs.PrintedNames.{as-name, besides, own-prints}
use Rattle.cpp_direct.proofs.PrintedNests.{IsPiece, source-opening, source-piece, within-cost, within-text}
use Rattle.cpp_direct.proofs.PrintedFunctions.{closed-list, packless-list}

-- ## Types in functions

-- a piece of a nested name prints its text
pub piece-prints : {detail : Detail} (p : Term) (x : List ℕ) → IsPiece detail p x → opening_text p ≡ codes "<" → PrintsPiece detail p x
piece-prints p x is opening = record {
  piece_text = is.piece_text;
  piece_cost = λ c. omega (arith, is.piece_cost c, is.filled);
  as_component = is.within_is;
  is_closed = is.is_closed;
  packless = is.packless;
  opening = opening;
}

list-bracketed : (x d l t : List ℕ) → x ≡ l → d ≡ t
    → (codes "{lambda(" ++ x) ++ (codes ")#" ++ (d ++ codes "}")) ≡ codes "{lambda(" ++ l ++ codes ")#" ++ t ++ codes "}"
list-bracketed x d l t e f = rw (e, f) (simp append_assoc)

-- a lambda prints its parameters and its number
pub lambda-list-prints : {detail : Detail} (ts : List Term) (l : List ℕ) → PrintAll detail 0 ts l → (number : ℕ) (digits : List ℕ) → decimal number ≡ digits → IsUnmarked digits
    → PrintsPiece detail (lambda (list_of ts) number) (codes "{lambda(" ++ l ++ codes ")#" ++ digits ++ codes "}")
unfolding parts_in piece_parts within_parts not_empty is_open pack_length opening_text
lambda-list-prints {detail} ts l all number digits is plain =
    let t = lambda (list_of ts) number in
    let last = says "}" ∷ [] in
    let behind = says ")#" ∷ text (decimal number) ∷ last in
    record {
      piece_text = λ c.
          let front = says "{lambda(" ∷ list_part first c (list_of ts) in
          text_shown detail piece c t (front ++ behind) refl refl ∙ text_append detail front behind
          ∙ ap (λ k. text_of (shown_by detail front) ++ (codes ")#" ++ k)) (first_shown detail (decimal number) last (subst IsUnmarked (sym is) plain))
          ∙ list-bracketed (text_of (shown_by detail (list_part first c (list_of ts)))) (decimal number) l digits (list-text detail c 0 ts l all) is;
      piece_cost = λ c.
          let front = says "{lambda(" ∷ list_part first c (list_of ts) in
          omega (
            arith,
            cost_shown detail piece c t (front ++ behind) refl refl,
            cost_append detail front behind,
            list-cost detail c 0 ts l (omega arith) all,
            first_cost_shown detail (decimal number) last,
            ap length is,
            length-append (codes "{lambda(" ++ l ++ codes ")#" ++ digits) (codes "}"),
            length-append (codes "{lambda(" ++ l ++ codes ")#") digits,
            length-append (codes "{lambda(" ++ l) (codes ")#"),
            length-append (codes "{lambda(") l,
          );
      as_component = λ c u. refl;
      is_closed = closed-list detail ts l all;
      packless = λ scope. packless-list detail scope ts l all;
      opening = refl;
    }

-- A component of a name prints the name so far and then its own name.
pub component-prints : {detail : Detail} (t : Term) (b : List ℕ) → Prints detail t b false → (p : Term) (n : List ℕ) → PrintsPiece detail p n
    → Prints detail (within t p) (b ++ codes "::" ++ n) false
unfolding parts_in right_parts not_empty is_open pack_length last_piece besides first_of
component-prints {detail} t b h p n q =
    let w = within t p in
    own-prints w (b ++ codes "::" ++ n) (record {
      left_text = λ c. within-text detail c left c t b (h.left_text c) p n (q.as_component c t ∙ h.as_prefix c p) (q.piece_text c);
      cost = λ c. omega (
        arith,
        h.cost c,
        q.piece_cost c,
        within-cost detail c left c t p (q.as_component c t ∙ h.as_prefix c p),
        cost_shown detail right c w [] refl refl,
        length-append {A = ℕ},
      );
    }) (rw (h.is_closed, q.is_closed) refl) (λ scope. rw (h.packless scope, q.packless scope) refl) q.opening (λ c. refl)

-- A piece in an encoding prints the encoding and itself.
pub enclosed-prints : {detail : Detail} (e : Term) (b : List ℕ) → Encloses detail e b → (p : Term) (n : List ℕ) → PrintsPiece detail p n
    → Prints detail (within e p) (b ++ codes "::" ++ n) false
unfolding parts_in right_parts not_empty is_open pack_length last_piece besides first_of
enclosed-prints {detail} e b h p n q =
    let w = within e p in
    own-prints w (b ++ codes "::" ++ n) (record {
      left_text = λ c. within-text detail c bare closed e b h.bare_text p n (q.as_component c e ∙ h.as_prefix c p) (q.piece_text c);
      cost = λ c. omega (
        arith,
        h.bare_cost,
        q.piece_cost c,
        within-cost detail c bare closed e p (q.as_component c e ∙ h.as_prefix c p),
        cost_shown detail right c w [] refl refl,
        length-append {A = ℕ},
      );
    }) (rw (h.is_closed, q.is_closed) refl) (λ scope. rw (h.packless scope, q.packless scope) refl) q.opening (λ c. refl)

-- The name of a member function in an encoding prints the name so far and its last piece.
pub member-prints : {detail : Detail} (e t : Term) (b : List ℕ) → Prints detail t b false → (p : Term) (n : List ℕ) → PrintsPiece detail p n → (digit : Discriminator)
    → PrintsName detail (local e (within t p) (discriminator_of (discriminator_value digit))) (b ++ codes "::" ++ n)
unfolding parts_in left_parts right_parts piece_parts not_empty entity_of
member-prints {detail} e t b h p n q digit =
    let w = within t p in
    let u = local e w (discriminator_of (discriminator_value digit)) in
    record {
      left_text = λ c. text_shown detail left c u (as_item left c w ∷ []) refl refl ∙ append-nil (text_of (written_of detail left c w))
          ∙ within-text detail c left c t b (h.left_text c) p n (q.as_component c t ∙ h.as_prefix c p) (q.piece_text c);
      cost = λ c. omega (
        arith,
        h.cost c,
        q.piece_cost c,
        within-cost detail c left c t p (q.as_component c t ∙ h.as_prefix c p),
        cost_shown detail left c u (as_item left c w ∷ []) refl refl,
        cost_shown detail right c u [] refl refl,
        length-append {A = ℕ},
      );
    }

-- A type in a function prints the function and its own name.
pub local-prints : {detail : Detail} (e : Term) (b : List ℕ) → Encloses detail e b → (p : Term) (n : List ℕ) → PrintsPiece detail p n → (digit : Discriminator)
    → Prints detail (local_in e p digit) (b ++ codes "::" ++ n) false
unfolding parts_in left_parts right_parts piece_parts not_empty is_open pack_length last_piece opening_text besides entity_of first_of
local-prints {detail} e b h p n q digit =
    let t = local_in e p digit in
    own-prints t (b ++ codes "::" ++ n) (record {
      left_text = λ c. text_shown detail left c t (as_item left c (within e p) ∷ []) refl refl ∙ append-nil (text_of (written_of detail left c (within e p)))
          ∙ within-text detail c bare closed e b h.bare_text p n (q.as_component c e ∙ h.as_prefix c p) (q.piece_text c);
      cost = λ c. omega (
        arith,
        h.bare_cost,
        q.piece_cost c,
        within-cost detail c bare closed e p (q.as_component c e ∙ h.as_prefix c p),
        cost_shown detail left c t (as_item left c (within e p) ∷ []) refl refl,
        cost_shown detail right c t [] refl refl,
        length-append {A = ℕ},
      );
    }) (rw (h.is_closed, q.is_closed) refl) (λ scope. rw (h.packless scope, q.packless scope) refl) q.opening (λ c. refl)

-- ## Addresses

-- The address of a function prints an & and the function.
pub address-prints : {detail : Detail} (e : Term) (b : List ℕ) → Encloses detail e b → Prints detail (address_of e) (codes "&" ++ b) false
unfolding parts_in left_parts right_parts piece_parts not_empty is_open pack_length last_piece opening_text besides
address-prints {detail} e b h =
    let t = address_of e in
    let parts = says "&" ∷ as_item bare closed e ∷ [] in
    own-prints t (codes "&" ++ b) (record {
      left_text = λ c. text_shown detail left c t parts refl refl
          ∙ ap (λ l. codes "&" ++ l) (append-nil (text_of (written_of detail bare closed e)) ∙ h.bare_text);
      cost = λ c. omega (arith, h.bare_cost, cost_shown detail left c t parts refl refl, cost_shown detail right c t [] refl refl, length-append (codes "&") b);
    }) refl (λ scope. refl) refl (λ c. refl)

-- ## Encodings before an entity

bare-same : (d : Detail) (t : Term) → bare_parts d t ≡ full_parts d t → written_of d bare closed t ≡ written_of d full closed t
unfolding parts_in
bare-same d t e = writes_parts d bare closed t ∙ ap (λ ps. shown_by d ps) e ∙ sym (writes_parts d full closed t)

encloses-as : (d : Detail) (t : Term) (b : List ℕ) → bare_parts d t ≡ full_parts d t → ((context : Context) (p : Term) → component_parts context t p ≡ joined_to bare closed context t p)
    → is_open t ≡ false → ((scope : Term) → pack_length scope t ≡ None) → Shows d t b → Encloses d t b
encloses-as d t b same front shut packless p = record {
  as_prefix = front;
  bare_text = ap text_of (bare-same d t same) ∙ p.shown_text;
  bare_cost = omega (arith, p.shown_cost, ap cost_of (bare-same d t same));
  is_closed = shut;
  packless = packless;
}

-- a function without a return type shows the same before an entity and elsewhere
bare-is-full : (parameters_shown : Bool) (name : Term) (q : Qualifiers) (ref : RefQualifier) (items : Term)
    → function_bare parameters_shown name q ref items ≡ function_full parameters_shown name q ref absent items
unfolding function_full
bare-is-full true name q ref items = refl
bare-is-full false name q ref items = refl

-- A function that has no return type shows the same before an entity.
pub function-encloses : (d : Detail) (name : Term) (q : Qualifiers) (ref : RefQualifier) (items : Term) (b : List ℕ)
    → Shows d (function name q ref absent items) b → Encloses d (function name q ref absent items) b
unfolding bare_parts full_parts prefix_item component_parts is_open pack_length
function-encloses d name q ref items b p =
    encloses-as d (function name q ref absent items) b (bare-is-full (has_parameters d) name q ref items) (λ c p. refl) refl (λ k. refl) p

-- The return type of a function that has one isn't shown before an entity.
pub returned-enclosing : (d : Detail) (name : Term) (q : Qualifiers) (ref : RefQualifier) (returned items : Term) (b : List ℕ)
    → Encloses d (function name q ref absent items) b → Encloses d (function name q ref returned items) b
unfolding bare_parts prefix_item component_parts is_open pack_length parts_in
returned-enclosing d name q ref returned items b p =
    let e = function name q ref returned items in
    let same : written_of d bare closed e ≡ written_of d bare closed (function name q ref absent items) =
    writes_parts d bare closed e ∙ sym (writes_parts d bare closed (function name q ref absent items)) in
    record {
      as_prefix = λ c p. refl;
      bare_text = ap text_of same ∙ p.bare_text;
      bare_cost = omega (arith, p.bare_cost, ap cost_of same);
      is_closed = refl;
      packless = λ scope. refl;
    }

-- Data print the same text before an entity and elsewhere.
pub object-enclosing : (d : Detail) (v : Value) (b : List ℕ) → Shows d (encoding_of v nil) b → Encloses d (encoding_of v nil) b
unfolding bare_parts full_parts prefix_item component_parts is_open pack_length
object-enclosing d v b p =
    let e = encoding-object v in
    subst (λ t. Encloses d t b) (sym e)
    (encloses-as d (object (tree_of v) (qualifiers_of v) (ref_of v)) b refl (λ c p. refl) refl (λ k. refl) (subst (λ t. Shows d t b) e p))

-- ## Functions by their names only

named_parts : (detail : Detail) → has_parameters detail ≡ false → (name : Term) (q : Qualifiers) (ref : RefQualifier) (returned items : Term)
    → parts_in detail closed full (function name q ref returned items) ≡ as_item left closed name ∷ []
unfolding parts_in full_parts function_full function_bare
named_parts detail alone name q ref returned items = ap (λ b. function_full b name q ref returned items) alone

-- A function shows its name, whatever it returns.
pub name-shows : {detail : Detail} → has_parameters detail ≡ false → (name : Term) (b : List ℕ) → PrintsName detail name b → (q : Qualifiers) (ref : RefQualifier)
    (returned items : Term) → Shows detail (function name q ref returned items) b
unfolding not_empty
name-shows {detail} alone name b p q ref returned items =
    let f = function name q ref returned items in
    let is = named_parts detail alone name q ref returned items in
    record {
      shown_text = text_shown detail full closed f (as_item left closed name ∷ []) is refl ∙ append-nil (text_of (written_of detail left closed name)) ∙ p.left_text closed;
      shown_cost = omega (arith, p.cost closed, cost_shown detail full closed f (as_item left closed name ∷ []) is refl);
    }

-- A return type isn't shown if functions are shown by their names only.
pub returned-shows : {detail : Detail} → has_parameters detail ≡ false → (name : Term) (q : Qualifiers) (ref : RefQualifier) (returned items : Term) (b : List ℕ)
    → Shows detail (function name q ref absent items) b → Shows detail (function name q ref returned items) b
returned-shows {detail} alone name q ref returned items b p =
    let e = function name q ref returned items in
    let plain = function name q ref absent items in
    let ps = as_item left closed name ∷ [] in
    let is = named_parts detail alone name q ref returned items in
    let plain_is = named_parts detail alone name q ref absent items in
    record {
      shown_text = text_shown detail full closed e ps is refl ∙ sym (text_shown detail full closed plain ps plain_is refl) ∙ p.shown_text;
      shown_cost = omega (arith, p.shown_cost, cost_shown detail full closed e ps is refl, cost_shown detail full closed plain ps plain_is refl);
    }

-- A function also shows its name before an entity in it.
pub name-encloses : {detail : Detail} → has_parameters detail ≡ false → (name : Term) (b : List ℕ) → PrintsName detail name b → (q : Qualifiers) (ref : RefQualifier)
    (returned items : Term) → Encloses detail (function name q ref returned items) b
name-encloses {detail} alone name b p q ref returned items =
    returned-enclosing detail name q ref returned items b (function-encloses detail name q ref items b (name-shows alone name b p q ref absent items))

-- ## Entities

-- A local entity shows the encoding that it is in, and its name.
pub entity-shows : (d : Detail) (e : Term) (b : List ℕ) → Encloses d e b → (internal : Bool) (name : List ℕ) (digit : Discriminator) → name ≢ [] → IsUnmarked name
    → Shows d (object (entity_in e internal name digit) unqualified any_value) (b ++ codes "::" ++ source_text name)
unfolding encoding_text qualifier_text ref_text
entity-shows d e b h internal name digit filled plain =
    let t = entity_in e internal name digit in
    let whole = b ++ codes "::" ++ source_text name in
    let own = piece-prints (source internal name) (source_text name) (source-piece internal name filled plain) (source-opening internal name) in
    subst (λ l. Shows d (object t unqualified any_value) l) (append-nil whole)
    (object-shows t whole (as-name t whole false (local-prints e b h (source internal name) (source_text name) own digit)) unqualified any_value)
