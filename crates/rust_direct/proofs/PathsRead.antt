-- Paths that were read and written.
use Rattle.rust_direct.proofs.Basics.{◌≡◌, ℕ, ◌+◌, ◌≤◌, List, [], ◌∷◌, ◌++◌, length, reverse, take, drop, ◌-◌, arith, inl, Bool, true, false, Option, Some, refl, ap, sym, subst, ◌∙◌, append_assoc, codes, cond, option_to_list, le-leb, false≢true, StandsAt, Production, Value, a_path, Forms, Open, Direct, PATH, Opened, Comes, within, behind, with_ended, path, IsNameAt, IsDisambiguatorAt, identifier, is_namespace, PathPrints, PathHas, HaveRoom, Says, Holds, has_form, is_path, Writes, Notes, Stands, IsWriting, parked_of, Awaits, AwaitsPath, Receives, IsEnded, IsEndedWithRoom, IsUnmarked}
use Rattle.rust_tree.specs.Symbol as tree
use Rattle.rust_direct.specs.declared.open.Forms.TheVariants as forms
use Rattle.rust_direct.specs.declared.open.Open.TheVariants as opens
use Rattle.rust_direct.specs.declared.open.Step.TheVariants as steps
use Rattle.rust_direct.proofs.Kept.{keeps-same, keeps-written, keeps-noted, reverse-last}
use Rattle.rust_direct.proofs.Moves.{expects-moved, identifier-comes, crate-comes, nest_awaits, nest-opens, nest-goes-on}
use Rattle.rust_direct.proofs.WrittenTexts.{name-unmarked}
use Rattle.rust_direct.proofs.PrintedPaths.{crate-prints, nested-prints, nested-room, unnamed-prints}

-- ## What is known of a path that was read

-- a value that is held in forms of a path is a path, and has a text in these forms
pub path-held : (brief : Bool) (f : Forms) (v : Value) (bytes : List ℕ) → is_path f ≡ true → Holds brief f v bytes → (p : tree.Path) × (v ≡ a_path p) × PathHas brief f p bytes
path-held brief forms.Alike v bytes is h = h
path-held brief forms.Valued v bytes is h = h
path-held brief forms.Plain v bytes is h = h
path-held brief forms.Typed v bytes is h = absurd (false≢true is)
path-held brief forms.Unnamed v bytes is h = absurd (false≢true is)

-- a path has a text in a form
pub form-held : (brief : Bool) (value : Bool) (f : Forms) (v : Value) (bytes : List ℕ) → has_form value f ≡ true → Holds brief f v bytes
    → (p : tree.Path) × (v ≡ a_path p) × PathPrints brief value p bytes
form-held brief true forms.Alike v bytes is h = (h.0, h.1, h.2.0)
form-held brief false forms.Alike v bytes is h = (h.0, h.1, h.2.1)
form-held brief true forms.Valued v bytes is h = h
form-held brief false forms.Valued v bytes is h = absurd (false≢true is)
form-held brief true forms.Plain v bytes is h = absurd (false≢true is)
form-held brief false forms.Plain v bytes is h = h
form-held brief true forms.Typed v bytes is h = absurd (false≢true is)
form-held brief false forms.Typed v bytes is h = absurd (false≢true is)
form-held brief true forms.Unnamed v bytes is h = absurd (false≢true is)
form-held brief false forms.Unnamed v bytes is h = absurd (false≢true is)

-- a path that has a text in some forms is noted and forwarded with that text
pub path-says : (brief : Bool) (f : Forms) (p : tree.Path) (bytes : List ℕ) → is_path f ≡ true → PathHas brief f p bytes → Says brief f (a_path p) bytes × Holds brief f (a_path p) bytes
path-says brief forms.Alike p bytes is h = ((p, refl, h), (p, refl, h))
path-says brief forms.Valued p bytes is h = ((p, refl, h), (p, refl, h))
path-says brief forms.Plain p bytes is h = ((p, refl, h), (p, refl, h))
path-says brief forms.Typed p bytes is h = absurd h
path-says brief forms.Unnamed p bytes is h = absurd h

-- ## Waiting entries

-- the open entries stay where a text is written
pub stands-written : (brief : Bool) (s : List ℕ) (old new : Direct) (bytes : List ℕ) (os : List Opened) (text : List ℕ) → Writes old new bytes
    → Stands brief s (reverse old.waiting.list.items) os text (parked_of old) → Stands brief s (reverse new.waiting.list.items) os text (parked_of new)
stands-written brief s old new bytes os text writes h =
    subst (λ w. Stands brief s (reverse w.list.items) os text (parked_of new)) (sym writes.waiting)
    (subst (λ b. Stands brief s (reverse old.waiting.list.items) os text (cond b new.aside.list.items [])) (sym writes.is_aside)
    (subst (λ a. Stands brief s (reverse old.waiting.list.items) os text (cond old.is_aside a.list.items [])) (sym writes.aside) h))

-- the entry that waited is the known one
pub waited-for : (brief : Bool) (s : List ℕ) (w : Direct) (entry known : Open) (from : ℕ) (f : Forms) → entry ≡ known → Receives brief s w entry from f → Receives brief s w known from f
waited-for brief s w entry known from f is = subst (λ e. Receives brief s w e from f) is

-- an entry waits from here on
pub waits-too : (brief : Bool) (s : List ℕ) (old new : List Open) (entry : Open) (os : List Opened) (text parked : List ℕ) → new ≡ old ++ entry ∷ []
    → Stands brief s (entry ∷ reverse old) os text parked → Stands brief s (reverse new) os text parked
waits-too brief s old new entry os text parked is h = subst (λ ws. Stands brief s ws os text parked) (sym (ap reverse is ∙ reverse-last old entry)) h

-- what was read is noted
pub ended-writing : (brief : Bool) (s : List ℕ) (old new : Direct) (place from : ℕ) (noted f : Forms) → IsEnded brief s old place from noted f → Notes old new place from noted
    → IsWriting brief s new (steps.Value from f)
ended-writing brief s old new place from noted f p n = record {
  state = with_ended place p.v p.before;
  keeps = keeps-noted brief s old new place from noted p.before p.v p.front p.bytes n p.keeps p.written p.from_is p.says;
  is_before = record {
    os = p.os;
    v = p.v;
    front = p.front;
    bytes = p.bytes;
    written = ap (λ t. t.list.items) n.text ∙ p.written;
    from_is = p.from_is;
    holds = p.holds;
    comes = subst (λ k. Comes s p.os p.v k (with_ended place p.v p.before)) (sym n.at) p.comes;
    stands = rw (n.waiting, n.aside, n.is_aside) p.stands;
  };
}

-- ## Crates

pub crate-ended : (brief : Bool) (s : List ℕ) (old middle : Direct) (from count behind_ : ℕ) (name : List ℕ) (end : ℕ) → AwaitsPath brief s old → StandsAt s old.at (67 ∷ [])
    → IsDisambiguatorAt s (old.at + 1) count behind_ → IsNameAt s behind_ name end → 1 ≤ length name → from ≡ length old.text.list.items
    → Writes old middle name → IsEnded brief s (record middle { at = end }) old.at from forms.Alike forms.Alike
crate-ended brief s old middle from count behind_ name end awaits letter counted named filled from_is writes =
    let a = awaits.1 in
    let r = a.awaited in
    let p = tree.crate_root (identifier count name) in
    let plain = name-unmarked s behind_ name end named in
    let has : PathHas brief forms.Alike p name = (crate-prints brief true count name filled plain, crate-prints brief false count name filled plain) in
    let told = path-says brief forms.Alike p name refl has in
    record {
      before = a.state;
      keeps = keeps-written brief s old middle name a.state writes a.keeps;
      os = r.os;
      v = a_path p;
      front = old.text.list.items;
      bytes = name;
      written = writes.text;
      from_is = from_is;
      says = told.0;
      holds = told.1;
      comes = crate-comes s r.wanted r.os old.at a.state count behind_ name end r.awaits letter counted named;
      stands = stands-written brief s old middle name r.os old.text.list.items writes r.stands;
    }

-- ## Paths in a namespace

pub nest-begun : (brief : Bool) (s : List ℕ) (old new : Direct) (b : ℕ) → AwaitsPath brief s old → StandsAt s old.at (78 ∷ [])
    → StandsAt s (old.at + 1) (b ∷ []) → is_namespace b ≡ true → new.waiting.list.items ≡ old.waiting.list.items ++ opens.Nest b old.at ∷ []
    → new.waiting.room ≡ old.waiting.room → new.at ≡ old.at + 1 + 1 → new.text ≡ old.text → new.aside ≡ old.aside → new.is_aside ≡ old.is_aside
    → new.notes ≡ old.notes → new.numbers ≡ old.numbers → Awaits brief s new false
nest-begun brief s old new b awaits letter there is waiting room at text aside is_aside notes numbers =
    let a = awaits.1 in
    let r = a.awaited in
    record {
      state = within Production.Nested a.state;
      keeps = keeps-same brief s old new a.state text aside is_aside notes numbers room a.keeps;
      awaited = record {
        wanted = path;
        is_for = refl;
        os = nest_awaits b old.at a.state r.os;
        awaits = expects-moved s PATH (nest_awaits b old.at a.state r.os) (old.at + 1 + 1) new.at (within Production.Nested a.state) (sym at)
            (nest-opens s r.wanted r.os old.at b a.state r.awaits letter there is);
        stands = waits-too brief s old.waiting.list.items new.waiting.list.items (opens.Nest b old.at) (nest_awaits b old.at a.state r.os) new.text.list.items
            (parked_of new) waiting
            (r.os, (λ p here now comes. nest-goes-on s r.os b old.at a.state p here now comes), rw (text, aside, is_aside) r.stands);
      };
    }

nested-has : (brief : Bool) (f : Forms) (letter : ℕ) (p : tree.Path) (bytes : List ℕ) (count : ℕ) (name : List ℕ) → is_path f ≡ true → 97 ≤ letter → 1 ≤ length name
    → IsUnmarked name → PathHas brief f p bytes → PathHas brief f (tree.nested letter p (identifier count name)) (bytes ++ codes "::" ++ name)
nested-has brief forms.Alike letter p bytes count name is lower filled plain h = (
  nested-prints brief true letter p bytes count name (le-leb 97 letter lower) filled plain h.0,
  nested-prints brief false letter p bytes count name (le-leb 97 letter lower) filled plain h.1,
)
nested-has brief forms.Valued letter p bytes count name is lower filled plain h = nested-prints brief true letter p bytes count name (le-leb 97 letter lower) filled plain h
nested-has brief forms.Plain letter p bytes count name is lower filled plain h = nested-prints brief false letter p bytes count name (le-leb 97 letter lower) filled plain h
nested-has brief forms.Typed letter p bytes count name is lower filled plain h = absurd (false≢true is)
nested-has brief forms.Unnamed letter p bytes count name is lower filled plain h = absurd (false≢true is)

nested-rooms : (brief : Bool) (f : Forms) (letter : ℕ) (p : tree.Path) (bytes : List ℕ) (count : ℕ) (name : List ℕ) → is_path f ≡ true → 97 ≤ letter → 1 ≤ length name
    → PathHas brief f p bytes → HaveRoom brief f (tree.nested letter p (identifier count name)) (bytes ++ codes "::" ++ name)
nested-rooms brief forms.Alike letter p bytes count name is lower filled h = (
  nested-room brief true letter p bytes count name (le-leb 97 letter lower) filled h.0,
  nested-room brief false letter p bytes count name (le-leb 97 letter lower) filled h.1,
)
nested-rooms brief forms.Valued letter p bytes count name is lower filled h = nested-room brief true letter p bytes count name (le-leb 97 letter lower) filled h
nested-rooms brief forms.Plain letter p bytes count name is lower filled h = nested-room brief false letter p bytes count name (le-leb 97 letter lower) filled h
nested-rooms brief forms.Typed letter p bytes count name is lower filled h = absurd (false≢true is)
nested-rooms brief forms.Unnamed letter p bytes count name is lower filled h = absurd (false≢true is)

-- the name of a path in a namespace is read
pub nest-named : (brief : Bool) (s : List ℕ) (old last : Direct) (letter place from : ℕ) (f : Forms) (count behind_ : ℕ) (name : List ℕ) (end : ℕ)
    → Receives brief s old (opens.Nest letter place) from f → is_path f ≡ true → 97 ≤ letter → IsDisambiguatorAt s old.at count behind_
    → IsNameAt s behind_ name end → 1 ≤ length name → Writes old last (codes "::" ++ name)
    → IsEndedWithRoom brief s (record last { at = end }) place from f
nest-named brief s old last letter place from f count behind_ name end arrives is lower counted named filled write =
    let r = arrives.read in
    let held = path-held brief f r.v r.bytes is r.holds in
    let p = held.0 in
    let made = tree.nested letter p (identifier count name) in
    let waits = r.stands in
    let goes = waits.1 p old.at arrives.state (subst (λ v. Comes s r.os v old.at arrives.state) held.1 r.comes) in
    let one = identifier-comes s goes.inner old.at (within Production.Nested arrives.state) count behind_ name end counted named goes.awaits in
    let has = nested-has brief f letter p r.bytes count name is lower filled (name-unmarked s behind_ name end named) held.2 in
    let told = path-says brief f made (r.bytes ++ codes "::" ++ name) is has in
    let ended : IsEnded brief s (record last { at = end }) place from f f = record {
      before = arrives.state;
      keeps = keeps-written brief s old last (codes "::" ++ name) arrives.state write arrives.keeps;
      os = waits.0;
      v = a_path made;
      front = r.front;
      bytes = r.bytes ++ codes "::" ++ name;
      written = write.text ∙ ap (λ l. l ++ (codes "::" ++ name)) r.written ∙ sym (append_assoc (r.front ++ r.bytes) (codes "::") name)
          ∙ ap (λ l. l ++ name) (append_assoc r.front r.bytes (codes "::")) ∙ append_assoc r.front (r.bytes ++ codes "::") name;
      from_is = r.from_is;
      says = told.0;
      holds = told.1;
      comes = goes.onward one.0 (identifier count name) end (behind (within Production.Nested arrives.state)) one.1 one.2;
      stands = stands-written brief s old last (codes "::" ++ name) waits.0 r.front write waits.2;
    } in
    record { ended = ended; p = made; is = refl; has = has; room = nested-rooms brief f letter p r.bytes count name is lower filled held.2 }

unnamed-has : (brief : Bool) (f : Forms) (letter : ℕ) (p : tree.Path) (bytes : List ℕ) (count : ℕ) → 97 ≤ letter → PathHas brief f p bytes → HaveRoom brief f p bytes
    → PathHas brief f (tree.nested letter p (identifier count [])) bytes
unnamed-has brief forms.Alike letter p bytes count lower h room = (
  unnamed-prints brief true letter p bytes count (le-leb 97 letter lower) h.0 room.0,
  unnamed-prints brief false letter p bytes count (le-leb 97 letter lower) h.1 room.1,
)
unnamed-has brief forms.Valued letter p bytes count lower h room = unnamed-prints brief true letter p bytes count (le-leb 97 letter lower) h room
unnamed-has brief forms.Plain letter p bytes count lower h room = unnamed-prints brief false letter p bytes count (le-leb 97 letter lower) h room
unnamed-has brief forms.Typed letter p bytes count lower h room = absurd h
unnamed-has brief forms.Unnamed letter p bytes count lower h room = absurd h

-- forms in which a path has a text are forms of a path
is-of-path : (brief : Bool) (f : Forms) (p : tree.Path) (bytes : List ℕ) → PathHas brief f p bytes → is_path f ≡ true
is-of-path brief forms.Alike p bytes h = refl
is-of-path brief forms.Valued p bytes h = refl
is-of-path brief forms.Plain p bytes h = refl
is-of-path brief forms.Typed p bytes h = absurd h
is-of-path brief forms.Unnamed p bytes h = absurd h

-- an empty span
pub piece-empty : (s : List ℕ) (from to : ℕ) → to ≤ from → take (to - from) (drop from s) ≡ []
piece-empty s from to none =
    let nothing : to - from ≡ 0 = omega (arith, none) in
    ap (λ n. take n (drop from s)) nothing

-- A path is read and noted. An empty name follows, and the path is its parent.
pub unnamed-read : (brief : Bool) (s : List ℕ) (old noted taken : Direct) (place from : ℕ) (f : Forms) (o : Option Open) (letter outer end : ℕ)
    → IsEndedWithRoom brief s old place from f → Notes old noted place from f
    → noted.waiting.list.items ≡ taken.waiting.list.items ++ option_to_list o → o ≡ Some (opens.Nest letter outer)
    → taken.text ≡ noted.text → taken.aside ≡ noted.aside → taken.is_aside ≡ noted.is_aside → taken.notes ≡ noted.notes
    → taken.numbers ≡ noted.numbers → taken.waiting.room ≡ noted.waiting.room → taken.at ≡ noted.at → 97 ≤ letter → IsNameAt s taken.at [] end
    → IsEnded brief s (record taken { at = end }) outer from f f
unnamed-read brief s old noted taken place from f o letter outer end h n items is text aside is_aside notes numbers room at lower named =
    let e = h.ended in
    let st = with_ended place e.v e.before in
    let turned : reverse old.waiting.list.items ≡ opens.Nest letter outer ∷ reverse taken.waiting.list.items =
    ap (λ w. reverse w.list.items) (sym n.waiting) ∙ ap reverse (items ∙ ap (λ x. taken.waiting.list.items ++ option_to_list x) is)
    ∙ reverse-last taken.waiting.list.items (opens.Nest letter outer) in
    let waits : Stands brief s (opens.Nest letter outer ∷ reverse taken.waiting.list.items) e.os e.front (parked_of old) =
    subst (λ ws. Stands brief s ws e.os e.front (parked_of old)) turned e.stands in
    let made = tree.nested letter h.p (identifier 0 []) in
    let goes = waits.1 h.p old.at st (subst (λ v. Comes s e.os v old.at st) h.is e.comes) in
    let one = identifier-comes s goes.inner old.at (within Production.Nested st) 0 old.at [] end (inl (refl, refl))
    (subst (λ k. IsNameAt s k [] end) (at ∙ n.at) named) goes.awaits in
    let told = path-says brief f made e.bytes (is-of-path brief f h.p e.bytes h.has) (unnamed-has brief f letter h.p e.bytes 0 lower h.has h.room) in
    record {
      before = st;
      keeps = keeps-same brief s noted (record taken { at = end }) st text aside is_aside notes numbers room
          (keeps-noted brief s old noted place from f e.before e.v e.front e.bytes n e.keeps e.written e.from_is e.says);
      os = waits.0;
      v = a_path made;
      front = e.front;
      bytes = e.bytes;
      written = ap (λ t. t.list.items) (text ∙ n.text) ∙ e.written;
      from_is = e.from_is;
      says = told.0;
      holds = told.1;
      comes = goes.onward one.0 (identifier 0 []) end (behind (within Production.Nested st)) one.1 one.2;
      stands = rw (aside ∙ n.aside, is_aside ∙ n.is_aside) waits.2;
    }

-- ## What is expected

pub plain-awaited : (brief : Bool) (s : List ℕ) (w : Direct) (is_value : Bool) → IsWriting brief s w (steps.Path is_value) → Awaits brief s w false
plain-awaited brief s w is_value p = record { state = p.state; keeps = p.keeps; awaited = p.is_before }

pub type-awaited : (brief : Bool) (s : List ℕ) (w : Direct) → IsWriting brief s w steps.Type → Awaits brief s w true
type-awaited brief s w p = record { state = p.state; keeps = p.keeps; awaited = p.is_before }

pub type-path-awaited : (brief : Bool) (s : List ℕ) (w : Direct) → IsWriting brief s w steps.Type → AwaitsPath brief s w
type-path-awaited brief s w p = (true, type-awaited brief s w p)
