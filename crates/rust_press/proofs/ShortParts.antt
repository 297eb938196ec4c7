-- What a part of a symbol adds to a pressed spelling: at most four bytes for each of its own (`ShortTokens` for numbers and names),
-- and the components that end in it. `ShortRules` has what a rule makes of its parts, `ShortGrammar` each rule of the grammar, and
-- `ShortSymbol` the induction over a symbol's shape.
use Rattle.rust_press.proofs.Basics.{◌≡◌, ◌⊎◌, ℕ, zero, suc, ◌+◌, ◌-◌, ◌*◌, ◌≤◌, inl, inr, length, List, [], ◌∷◌, Option, Some, None, Bool, true, false, refl, ap, arith, sym, subst, ◌∙◌, length-append, same_Some, Tree, of_path, of_type, of_constant, type_part, Value, Ended, ended_at, ◌and◌, text, nothing, digits-count, digit62, ◌==◌, if◌then◌else◌, same_tree, Component, Pressed, Pressing, digits62, first_place, reference, either, spelled_out, component, spell_path, spell_type, spell_constant, type_or_reference}
use Rattle.rust_tree.specs.Symbol as tree
use Rattle.rust_grammar.specs.Value as value
use Rattle.rust_press.proofs.Sameness.{equal-tree, path-itself, type-itself, constant-itself}
use Rattle.rust_press.proofs.PressNumbers.{divides62}

-- ## Trees that have ended, and trees that are spelled out

abbrev pub ended_tree : Value → Option Tree
ended_tree (value.a_path path) = Some (of_path path)
ended_tree (value.a_type type) = Some (type_part type)
ended_tree (value.a_constant constant) = Some (of_constant constant)
ended_tree _ = None

abbrev pub Listed : Tree → List Ended → Type 0
Listed own [] = ⊥
Listed own (e ∷ es) = (ended_tree e.value ≡ Some own) ⊎ Listed own es

abbrev pub Has : Tree → List Component → Type 0
Has own [] = ⊥
Has own (c ∷ cs) = (c.own ≡ own) ⊎ Has own cs

-- how a tree is spelled out
abbrev pub spelled : Tree → Pressing
spelled (of_path path) = spell_path path
spelled (of_type type) = spell_type type
spelled (of_constant constant) = spell_constant constant
spelled _ = nothing

-- whether a tree is compared with the trees before it: each is, unless it is always a letter
abbrev pub is_compared : Tree → Bool
is_compared (of_path path) = true
is_compared (of_type (tree.basic letter)) = false
is_compared (of_type type) = true
is_compared (of_constant tree.placeholder) = false
is_compared (of_constant constant) = true
is_compared _ = false

abbrev pub as_compared : Bool → Tree → Pressing
as_compared true own = component own (spelled own)
as_compared false own = spelled own

abbrev pub pressed_as : Tree → Pressing
pressed_as own = as_compared (is_compared own) own

pub type-pressed : (type : tree.Ty) → ◌≡◌ {A = Pressing} (type_or_reference type (spell_type type)) (pressed_as (type_part type))
type-pressed (tree.basic letter) = refl
type-pressed (tree.path_type path) = refl
type-pressed _ = refl

compared-itself : (own : Tree) → is_compared own ≡ true → same_tree own own ≡ true
compared-itself (of_path path) is = path-itself path
compared-itself (of_type type) is = type-itself type
compared-itself (of_constant constant) is = constant-itself constant
compared-itself _ is = cc

-- what a reference names has ended
pub found-listed : (es : List Ended) (place : ℕ) (v : Value) (own : Tree) → ended_at es place ≡ Some v → ended_tree v ≡ Some own → Listed own es
found-listed [] place v own is made = cc
found-listed (e ∷ es) place v own is made = go (e.place == place) is (λ h. found-listed es place v own h made)
  where
    go : (b : Bool) → (if b then Some e.value else ended_at es place) ≡ Some v → (ended_at es place ≡ Some v → Listed own es) → Listed own (e ∷ es)
    go true is earlier = inl (ap ended_tree (same_Some _ _ is) ∙ made)
    go false is earlier = inr (earlier is)

-- ## References

-- a reference to any place up to this one has at most seven bytes
abbrev pub reach : ℕ
reach = 916132834

abbrev AreLow : List Component → Type 0
AreLow [] = Unit {0}
AreLow (c ∷ cs) = (c.place ≤ reach) × AreLow cs

place-has : (own : Tree) (cs : List Component) (place : ℕ) → AreLow cs → first_place own cs ≡ Some place → Has own cs × (place ≤ reach)
place-has own [] place low is = cc
place-has own (c ∷ cs) place low is = go (first_place own cs) refl is (λ found. place-has own cs place low.1 found)
  where
    here : (b : Bool) → same_tree own c.own ≡ b → elim b as (λ _. Option ℕ) [ true ↦ Some c.place | false ↦ None ] ≡ Some place → Has own (c ∷ cs) × (place ≤ reach)
    here true same found = (inl (sym (equal-tree own c.own same)), omega (arith, low.0, same_Some _ _ found))
    here false same found = cc

    go : (o : Option ℕ) → first_place own cs ≡ o
        → elim o as (λ _. Option ℕ) [ Some q ↦ Some q | None ↦ elim (same_tree own c.own) [ true ↦ Some c.place | false ↦ None ] ] ≡ Some place
        → (first_place own cs ≡ Some place → Has own cs × (place ≤ reach)) → Has own (c ∷ cs) × (place ≤ reach)
    go (Some q) there found earlier = let more = earlier (there ∙ found) in (inr more.0, more.1)
    go None there found earlier = here (same_tree own c.own) refl found

no-place : (own : Tree) (cs : List Component) → same_tree own own ≡ true → first_place own cs ≡ None → Has own cs → ⊥
no-place own [] itself is has = has
no-place own (c ∷ cs) itself is has = go (first_place own cs) refl is has (λ none later. no-place own cs itself none later)
  where
    true-false : true ≡ false → ⊥
    true-false bad = cc

    here : (b : Bool) → same_tree own c.own ≡ b → elim b as (λ _. Option ℕ) [ true ↦ Some c.place | false ↦ None ] ≡ None → c.own ≡ own → ⊥
    here true same none is-own = cc
    here false same none is-own = true-false (sym itself ∙ ap (same_tree own) (sym is-own) ∙ same)

    go : (o : Option ℕ) → first_place own cs ≡ o
        → elim o as (λ _. Option ℕ) [ Some q ↦ Some q | None ↦ elim (same_tree own c.own) [ true ↦ Some c.place | false ↦ None ] ] ≡ None → Has own (c ∷ cs)
        → (first_place own cs ≡ None → Has own cs → ⊥) → ⊥
    go (Some q) there none has earlier = cc
    go None there none (inl is-own) earlier = here (same_tree own c.own) refl none is-own
    go None there none (inr later) earlier = earlier there later

number-short : (m : ℕ) → m ≤ 916132832 → length (digits62 m) ≤ 5
number-short zero few = omega arith
number-short (suc m) few = digits-count 62 divides62 digit62 40 4 m (omega (arith, few, most))
  where
    most : Rattle.sym_spell.specs.Digits.most_of 62 5 ≡ 916132832
    most = refl

reference-short : (p place : ℕ) (cs : List Component) → p ≤ reach → length (reference p place cs).bytes ≤ 7
reference-short p place cs low = omega (arith, number-short (p - 2) (omega (arith, low)), length-append (digits62 (p - 2)) (95 ∷ []))

-- ## What parts write

-- After a spelling, each component is one of the earlier components or has ended.
abbrev pub Stays : Pressing → List Ended → Type 0
Stays f es = (place : ℕ) (cs : List Component) (own : Tree) → Has own (f place cs).components → Has own cs ⊎ Listed own es

-- After a tree that has ended is spelled out, each component is one of the earlier components or has ended.
abbrev pub IsClosed : List Ended → Type 0
IsClosed es = (own : Tree) → Listed own es → Stays (spelled own) es

-- The components are the trees that have ended and are compared.
pub record Alike (cs : List Component) (es : List Ended) : Type 0 where
  pub ended : (own : Tree) → Has own cs → Listed own es
  pub there : (own : Tree) → Listed own es → is_compared own ≡ true → Has own cs
  pub low : AreLow cs

-- at most 4 n bytes are written, and the components after them are the trees that have ended by then and are compared
pub record Writes (pressed : Pressed) (n : ℕ) (after : List Ended) : Type 0 where
  pub bytes : length pressed.bytes ≤ 4 * n
  pub alike : Alike pressed.components after

-- A part of n bytes of a symbol is pressed as `f`; `before` has what ended before the part, and `after` what ended by its end.
pub record Fits (f : Pressing) (n : ℕ) (before after : List Ended) : Type 0 where
  pub more : (own : Tree) → Listed own before → Listed own after
  pub stays : Stays f after
  pub closed : IsClosed after
  pub writes : (place : ℕ) (cs : List Component) → Alike cs before → place + 4 * n ≤ reach → Writes (f place cs) n after

pub text-fits : (bytes : List ℕ) (n : ℕ) (es : List Ended) → IsClosed es → length bytes ≤ 4 * n → Fits (text bytes) n es es
text-fits bytes n es closed few = record {
  more = λ own is. is;
  stays = λ place cs own is. inl is;
  closed = closed;
  writes = λ place cs alike low. record { bytes = few; alike = alike };
}

pub and-fits : (f g : Pressing) (n m : ℕ) (a b c : List Ended) → Fits f n a b → Fits g m b c → Fits (f and g) (n + m) a c
and-fits f g n m a b c first rest = record {
  more = λ own is. rest.more own (first.more own is);
  stays = λ place cs own is.
      elim (rest.stays (place + length (f place cs).bytes) (f place cs).components own is) [
        | inl there ↦ elim (first.stays place cs own there) [ inl early ↦ inl early | inr ended ↦ inr (rest.more own ended) ]
        | inr ended ↦ inr ended
      ];
  closed = rest.closed;
  writes = λ place cs alike low.
      let one = first.writes place cs alike (omega (arith, low)) in
      let others = rest.writes (place + length (f place cs).bytes) (f place cs).components one.alike (omega (arith, low, one.bytes)) in
      record {
        bytes = omega (arith, length-append (f place cs).bytes (g (place + length (f place cs).bytes) (f place cs).components).bytes, one.bytes, others.bytes);
        alike = others.alike;
      };
}

-- what fits after a text fits without the text
pub fits-without : (bytes : List ℕ) (g : Pressing) (n m k : ℕ) (a b c : List Ended) → n ≤ k → m ≤ k → Fits (text bytes) n a b → Fits g m b c → Fits g k a c
fits-without bytes g n m k a b c first-few few first rest = record {
  more = λ own is. rest.more own (first.more own is);
  stays = rest.stays;
  closed = rest.closed;
  writes = λ place cs alike low.
      let others = rest.writes place cs (first.writes place cs alike (omega (arith, low, first-few))).alike (omega (arith, low, few)) in
      record { bytes = omega (arith, others.bytes, few); alike = others.alike };
}

-- ## What ends

stays-more : (f : Pressing) (e : Ended) (es : List Ended) → Stays f es → Stays f (e ∷ es)
stays-more f e es stays place cs own is = elim (stays place cs own is) [ inl there ↦ inl there | inr ended ↦ inr (inr ended) ]

some-tree : {a b : Tree} → Some a ≡ Some b → a ≡ b
some-tree h = cc

closed-more : (own : Tree) (e : Ended) (es : List Ended) → ended_tree e.value ≡ Some own → Stays (spelled own) es → IsClosed es → IsClosed (e ∷ es)
closed-more own e es is stays closed u (inl here) = subst (λ t. Stays (spelled t) (e ∷ es)) (some-tree (sym is ∙ here)) (stays-more (spelled own) e es stays)
closed-more own e es is stays closed u (inr earlier) = stays-more (spelled u) e es (closed u earlier)

component-stays : (own : Tree) (e : Ended) (es : List Ended) → ended_tree e.value ≡ Some own → Stays (spelled own) es → Stays (component own (spelled own)) (e ∷ es)
component-stays own e es is stays place cs u has = go (first_place own cs) has
  where
    go : (o : Option ℕ) → Has u (either o (spelled_out own (spelled own)) place cs).components → Has u cs ⊎ Listed u (e ∷ es)
    go (Some p) there = inl there
    go None (inl same) = inr (inl (is ∙ ap (λ t. Some t) same))
    go None (inr there) = stays-more (spelled own) e es stays place cs u there

-- something that has ended before, or isn't compared, adds no component
alike-more : (own : Tree) (e : Ended) (es : List Ended) (cs : List Component) → ended_tree e.value ≡ Some own → (is_compared own ≡ true → Has own cs) → Alike cs es → Alike cs (e ∷ es)
alike-more own e es cs is has alike = record {
  ended = λ u there. inr (alike.ended u there);
  there = λ u listed compared. go u listed compared;
  low = alike.low;
}
  where
    go : (u : Tree) → Listed u (e ∷ es) → is_compared u ≡ true → Has u cs
    go u (inl here) compared = let same : own ≡ u = some-tree (sym is ∙ here) in subst (λ t. Has t cs) same (has (ap is_compared same ∙ compared))
    go u (inr earlier) compared = alike.there u earlier compared

-- a component is added where it ends
alike-own : (own : Tree) (e : Ended) (es : List Ended) (cs : List Component) (place : ℕ) → ended_tree e.value ≡ Some own → place ≤ reach → Alike cs es
    → Alike (record { place = place; own = own } ∷ cs) (e ∷ es)
alike-own own e es cs place is low alike = record {
  ended = λ u there. elim there [ inl same ↦ inl (is ∙ ap (λ t. Some t) same) | inr earlier ↦ inr (alike.ended u earlier) ];
  there = λ u listed compared. elim listed [ inl here ↦ inl (some-tree (sym is ∙ here)) | inr earlier ↦ inr (alike.there u earlier compared) ];
  low = (low, alike.low);
}

false-true : {b : Bool} → b ≡ false → b ≡ true → ⊥
false-true h k = cc

-- a part spells a component out
component-writes : (own : Tree) (e : Ended) (n : ℕ) (a b : List Ended) → ended_tree e.value ≡ Some own → is_compared own ≡ true → 2 ≤ n → IsClosed a → Fits (spelled own) n a b
    → (place : ℕ) (cs : List Component) → Alike cs a → place + 4 * n ≤ reach → Writes (component own (spelled own) place cs) n (e ∷ b)
component-writes own e n a b is compared big closed fits place cs alike low = go (first_place own cs) refl
  where
    out : Writes (spelled own place cs) n b
    out = fits.writes place cs alike low

    -- a component that was spelled out before had all of its parts spelled out
    again : (u : Tree) → Has own cs → Listed u b → is_compared u ≡ true → Has u cs
    again u has listed same =
        elim (closed own (alike.ended own has) place cs u (out.alike.there u listed same)) [ inl there ↦ there | inr ended ↦ alike.there u ended same ]

    go : (o : Option ℕ) → first_place own cs ≡ o → Writes (either o (spelled_out own (spelled own)) place cs) n (e ∷ b)
    go (Some p) found =
        let has = place-has own cs p alike.low found in
        record {
          bytes = omega (arith, big, reference-short p place cs has.1);
          alike = alike-more own e b cs is (λ _. has.0) (record { ended = λ u there. fits.more u (alike.ended u there); there = λ u listed same. again u has.0 listed same; low = alike.low });
        }
    go None found = record { bytes = out.bytes; alike = alike-own own e b (spelled own place cs).components place is (omega (arith, low)) out.alike }

-- a tree that isn't compared is a letter
letter-fits : (own : Tree) (es : List Ended) → is_compared own ≡ false → IsClosed es → Fits (spelled own) 1 es es
letter-fits (of_path path) es is closed = cc
letter-fits (of_type (tree.basic letter)) es is closed = text-fits (letter ∷ []) 1 es closed (omega arith)
letter-fits (of_type type) es is closed = cc
letter-fits (of_constant tree.placeholder) es is closed = text-fits (112 ∷ []) 1 es closed (omega arith)
letter-fits (of_constant constant) es is closed = cc
letter-fits _ es is closed = text-fits [] 1 es closed (omega arith)

-- a path, a type or a constant that a part of n bytes spells out, and that ends there
pub pressed-fits : (own : Tree) (e : Ended) (n : ℕ) (a b : List Ended) → ended_tree e.value ≡ Some own → (is_compared own ≡ true → 2 ≤ n) → IsClosed a → Fits (spelled own) n a b
    → Fits (pressed_as own) n a (e ∷ b)
pressed-fits own e n a b is big closed fits = go (is_compared own) refl
  where
    after : IsClosed (e ∷ b)
    after = closed-more own e b is fits.stays fits.closed

    go : (t : Bool) → is_compared own ≡ t → Fits (as_compared t own) n a (e ∷ b)
    go true same = record {
      more = λ u listed. inr (fits.more u listed);
      stays = component-stays own e b is fits.stays;
      closed = after;
      writes = component-writes own e n a b is same (big same) closed fits;
    }
    go false same = record {
      more = λ u listed. inr (fits.more u listed);
      stays = stays-more (spelled own) e b fits.stays;
      closed = after;
      writes = λ place cs alike low.
          let out = fits.writes place cs alike low in
          record { bytes = out.bytes; alike = alike-more own e b (spelled own place cs).components is (λ compared. absurd (false-true same compared)) out.alike };
    }

-- a tree that has ended already ends once more, at a reference to it
pub refers-fits : (own : Tree) (e : Ended) (es : List Ended) → ended_tree e.value ≡ Some own → Listed own es → IsClosed es → Fits (pressed_as own) 2 es (e ∷ es)
refers-fits own e es is listed closed = go (is_compared own) refl
  where
    after : IsClosed (e ∷ es)
    after = closed-more own e es is (closed own listed) closed

    refers : is_compared own ≡ true → (place : ℕ) (cs : List Component) → Alike cs es → (o : Option ℕ) → first_place own cs ≡ o
        → Writes (either o (spelled_out own (spelled own)) place cs) 2 (e ∷ es)
    refers same place cs alike (Some p) found =
        let has = place-has own cs p alike.low found in
        record { bytes = omega (arith, reference-short p place cs has.1); alike = alike-more own e es cs is (λ _. has.0) alike }
    refers same place cs alike None found = absurd (no-place own cs (compared-itself own same) found (alike.there own listed same))

    go : (t : Bool) → is_compared own ≡ t → Fits (as_compared t own) 2 es (e ∷ es)
    go true same = record {
      more = λ u there. inr there;
      stays = component-stays own e es is (closed own listed);
      closed = after;
      writes = λ place cs alike low. refers same place cs alike (first_place own cs) refl;
    }
    go false same =
        let letter = letter-fits own es same closed in
        record {
          more = λ u there. inr there;
          stays = stays-more (spelled own) e es letter.stays;
          closed = after;
          writes = λ place cs alike low.
              let out = letter.writes place cs alike (omega (arith, low)) in
              record { bytes = omega (arith, out.bytes); alike = alike-more own e es (spelled own place cs).components is (λ compared. absurd (false-true same compared)) out.alike };
        }
