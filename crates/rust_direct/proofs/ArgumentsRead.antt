-- Paths with arguments that were read and written.
use Rattle.rust_direct.proofs.Basics.{◌≡◌, ℕ, ◌+◌, ◌≤◌, List, [], ◌∷◌, ◌++◌, length, reverse, Bool, true, false, Option, Some, refl, ap, sym, subst, ◌∙◌, append_assoc, append-nil, codes, ◌≢◌, nat_eq, arith, option_to_list, false≢true, StandsAt, stands-join, basic_text, PATH, Production, Value, State, a_path, a_type, as_type, Forms, Open, Direct, Comes, Expects, within, Wanted, path, other_path, type, kind_of, is_for_type, IsType, Ends, PathPrints, TypePrints, opening, closing, PathHas, Holds, has_form, is_type, form_of, is_path, Writes, Pushes, Stands, IsWriting, Keeps, parked_of, separator_of, Awaits, AwaitsPath, AwaitsArgument, Receives, IsEnded}
use Rattle.rust_tree.specs.Symbol as tree
use Rattle.rust_direct.specs.declared.open.Forms.TheVariants as forms
use Rattle.rust_direct.specs.declared.open.Open.TheVariants as opens
use Rattle.rust_direct.specs.declared.open.Step.TheVariants as steps
use Rattle.rust_direct.proofs.Kept.{keeps-same, keeps-written, reverse-last}
use Rattle.rust_direct.proofs.Moves.{expects-moved}
use Rattle.rust_direct.proofs.MovesOfArguments.{generic_awaits, generic-opens, generic-goes-on, type_awaits, argument-opens, argument-goes-on, lifetime-goes-on, arguments-close}
use Rattle.rust_direct.proofs.MovesOfTypes.{basic-comes}
use Rattle.rust_direct.proofs.PrintedPaths.{none-begin, type-begins, lifetime-begins, arguments-end, generic-prints}
use Rattle.rust_direct.proofs.PrintedTypes.{path-is-type, basic-prints}
use Rattle.rust_direct.proofs.PathsRead.{form-held, path-says, stands-written, waits-too}

-- ## What is opened

-- the path before arguments is expected
pub generic-begun : (brief : Bool) (s : List ℕ) (old new : Direct) (is_value : Bool) → AwaitsPath brief s old → StandsAt s old.at (73 ∷ [])
    → new.waiting.list.items ≡ old.waiting.list.items ++ opens.Generic is_value old.at ∷ []
    → new.waiting.room ≡ old.waiting.room → new.at ≡ old.at + 1 → new.text ≡ old.text → new.aside ≡ old.aside → new.is_aside ≡ old.is_aside
    → new.notes ≡ old.notes → new.numbers ≡ old.numbers → Awaits brief s new false
generic-begun brief s old new is_value awaits letter waiting room at text aside is_aside notes numbers =
    let a = awaits.1 in
    let r = a.awaited in
    record {
      state = within Production.Generic a.state;
      keeps = keeps-same brief s old new a.state text aside is_aside notes numbers room a.keeps;
      awaited = record {
        wanted = path;
        is_for = refl;
        os = generic_awaits old.at a.state r.os;
        awaits = expects-moved s PATH (generic_awaits old.at a.state r.os) (old.at + 1) new.at (within Production.Generic a.state) (sym at)
            (generic-opens s r.wanted r.os old.at a.state r.awaits letter);
        stands = waits-too brief s old.waiting.list.items new.waiting.list.items (opens.Generic is_value old.at) (generic_awaits old.at a.state r.os)
            new.text.list.items (parked_of new) waiting
            (r.os, (λ p here now comes. generic-goes-on s r.os old.at a.state p here now comes), rw (text, aside, is_aside) r.stands);
      };
    }

-- ## An entry waits from here on

pub keeps-pushed : (brief : Bool) (s : List ℕ) (old new : Direct) (entry : Open) (st : State) → Pushes old new entry → Keeps brief s old st → Keeps brief s new st
keeps-pushed brief s old new entry st p h = keeps-same brief s old new st p.text p.aside p.is_aside p.notes p.numbers p.room h

pub parked-pushed : (old new : Direct) (entry : Open) → Pushes old new entry → parked_of new ≡ parked_of old
parked-pushed old new entry p = rw (p.aside, p.is_aside) refl

pub parked-written : (old new : Direct) (bytes : List ℕ) → Writes old new bytes → parked_of new ≡ parked_of old
parked-written old new bytes p = rw (p.aside, p.is_aside) refl

pub turned : (old new : Direct) (entry : Open) → Pushes old new entry → reverse new.waiting.list.items ≡ entry ∷ reverse old.waiting.list.items
turned old new entry p = ap reverse p.waiting ∙ reverse-last old.waiting.list.items entry

-- the path before arguments is read
pub generic-read : (brief : Bool) (s : List ℕ) (old middle new : Direct) (is_value : Bool) (place from : ℕ) (f : Forms)
    → Receives brief s old (opens.Generic is_value place) from f → has_form is_value f ≡ true → Writes old middle (opening brief is_value)
    → Pushes middle new (opens.Argument place from is_value) → IsWriting brief s new (steps.Arguments true)
generic-read brief s old middle new is_value place from f arrives is writes pushes =
    let r = arrives.read in
    let held = form-held brief is_value f r.v r.bytes is r.holds in
    let p = held.0 in
    let waits = r.stands in
    let entry = opens.Argument place from is_value in
    let goes = waits.1 p old.at arrives.state (subst (λ v. Comes s r.os v old.at arrives.state) held.1 r.comes) in
    record {
      state = arrives.state;
      keeps = keeps-pushed brief s middle new entry arrives.state pushes (keeps-written brief s old middle (opening brief is_value) arrives.state writes arrives.keeps);
      is_before = record {
        place = place;
        from = from;
        is_value = is_value;
        rest = reverse middle.waiting.list.items;
        open_is = turned middle new entry pushes;
        outer = waits.0;
        front = r.front;
        p = p;
        own = r.bytes;
        made = λ a. a;
        bytes = [];
        from_is = r.from_is;
        prints = held.2;
        begin = none-begin brief;
        written = ap (λ t. t.list.items) pushes.text ∙ writes.text ∙ ap (λ l. l ++ opening brief is_value) r.written
            ∙ append_assoc r.front r.bytes (opening brief is_value) ∙ ap (λ l. r.front ++ l) (sym (append-nil (r.bytes ++ opening brief is_value)));
        goes = rw (pushes.at, writes.at) goes;
        stands = rw (parked-pushed middle new entry pushes) (stands-written brief s old middle (opening brief is_value) waits.0 r.front writes waits.2);
      };
    }

-- ## Types

-- what was read is a type
pub type-held : (brief : Bool) (f : Forms) (v : Value) (bytes : List ℕ) → is_type f ≡ true → Holds brief f v bytes → (t : tree.Ty) × IsType v t × TypePrints brief t bytes
type-held brief forms.Alike v bytes is h = (tree.path_type h.0, ap (λ u. as_type (Some u)) h.1, path-is-type brief h.0 bytes h.2.1)
type-held brief forms.Valued v bytes is h = absurd (false≢true is)
type-held brief forms.Plain v bytes is h = (tree.path_type h.0, ap (λ u. as_type (Some u)) h.1, path-is-type brief h.0 bytes h.2)
type-held brief forms.Typed v bytes is h = h
type-held brief forms.Unnamed v bytes is h = absurd (false≢true is)

-- a text that isn't empty
pub filled-text : (text own : List ℕ) → text ≡ own → false ≡ nat_eq (length text) 0 → 1 ≤ length own
filled-text text [] is e = absurd (false≢true (e ∙ ap (λ l. nat_eq (length l) 0) is))
filled-text text (b ∷ bs) is e = omega arith

-- the letter of a basic type is at the place where it was read
pub letter-there : (s : List ℕ) (at letter : ℕ) → 1 ≤ length (basic_text letter) → (letter ≢ 0 → StandsAt s at (letter ∷ [])) → StandsAt s at (letter ∷ [])
unfolding basic_text
letter-there s at letter filled stands = stands (λ none. omega (arith, subst (λ b. 1 ≤ length (basic_text b)) none filled))

-- a basic type is read
pub basic-read : (brief : Bool) (s : List ℕ) (old middle : Direct) (from letter end : ℕ) → Awaits brief s old true → StandsAt s old.at (letter ∷ [])
    → 1 ≤ length (basic_text letter) → from ≡ length old.text.list.items → end ≡ old.at + 1 → Writes (record old { at = end }) middle (basic_text letter)
    → IsEnded brief s middle old.at from forms.Typed forms.Typed
basic-read brief s old middle from letter end awaits stands filled from_is end_is writes =
    let r = awaits.awaited in
    let t = tree.basic letter in
    let bytes = basic_text letter in
    let prints = basic-prints brief letter filled in
    let told : Holds brief forms.Typed (a_type t) bytes = (t, refl, prints) in
    record {
      before = awaits.state;
      keeps = keeps-written brief s (record old { at = end }) middle bytes awaits.state writes awaits.keeps;
      os = r.os;
      v = a_type t;
      front = old.text.list.items;
      bytes = bytes;
      written = writes.text;
      from_is = from_is;
      says = told;
      holds = told;
      comes = of-type r.wanted r.is_for r.awaits;
      stands = stands-written brief s (record old { at = end }) middle bytes r.os old.text.list.items writes r.stands;
    }
  where
    of-type : (w : Wanted) → is_for_type w ≡ true → Expects s (kind_of w) awaits.awaited.os old.at awaits.state
        → Ends s awaits.awaited.os old.at (a_type (tree.basic letter)) middle.at awaits.state
    of-type path e expects = absurd (false≢true e)
    of-type other_path e expects = absurd (false≢true e)
    of-type type e expects =
        subst (λ k. Ends s awaits.awaited.os old.at (a_type (tree.basic letter)) k awaits.state) (sym (writes.at ∙ end_is))
        (basic-comes s awaits.awaited.os old.at awaits.state letter filled expects stands)

-- ## Arguments

-- a type is expected among arguments
pub argument-awaited : (brief : Bool) (s : List ℕ) (w : Direct) (is_first : Bool) → AwaitsArgument brief s w is_first → IsWriting brief s w steps.Type
argument-awaited brief s w is_first p =
    let l = p.listing in
    let g = l.goes in
    let st = within g.production p.state in
    record {
      state = within Production.TypeArgument p.state;
      keeps = p.keeps;
      is_before = record {
        wanted = type;
        is_for = refl;
        os = type_awaits w.at st g.inner;
        awaits = argument-opens s g.inner w.at st g.awaits;
        stands = subst (λ ws. Stands brief s ws (type_awaits w.at st g.inner) w.text.list.items (parked_of w)) (sym l.open_is) (
          l.outer,
          l.front,
          l.p,
          l.own,
          l.made,
          l.bytes,
          separator_of is_first,
          l.from_is,
          l.prints,
          l.begin,
          p.written ∙ ap (λ b. b ++ separator_of is_first) l.written
              ∙ append_assoc l.front (l.own ++ opening brief l.is_value ++ l.bytes) (separator_of is_first),
          (λ v t at now is comes. argument-goes-on s l.outer l.place l.p l.made w.at p.state g w.at st v t at now is comes),
          l.stands,
        );
      };
    }

pub joined : (front own opened bytes separator more : List ℕ)
    → front ++ (own ++ opened ++ bytes ++ separator) ++ more ≡ front ++ (own ++ opened ++ (bytes ++ separator ++ more))
joined front own opened bytes separator more =
    append_assoc front (own ++ opened ++ bytes ++ separator) more
    ∙ ap (λ l. front ++ l) (append_assoc (own ++ opened ++ bytes) separator more ∙ append_assoc (own ++ opened) bytes (separator ++ more)
    ∙ ap (λ l. own ++ opened ++ l) (sym (append_assoc bytes separator more)))

-- a type is read among arguments
pub argument-read : (brief : Bool) (s : List ℕ) (old new : Direct) (place from here : ℕ) (is_value : Bool) (f : Forms)
    → Receives brief s old (opens.Argument place from is_value) here f → is_type f ≡ true → Pushes old new (opens.Argument place from is_value)
    → IsWriting brief s new (steps.Arguments false)
argument-read brief s old new place from here is_value f arrives is pushes =
    let r = arrives.read in
    let held = type-held brief f r.v r.bytes is r.holds in
    let waits = r.stands in
    let entry = opens.Argument place from is_value in
    record {
      state = arrives.state;
      keeps = keeps-pushed brief s old new entry arrives.state pushes arrives.keeps;
      is_before = record {
        place = place;
        from = from;
        is_value = is_value;
        rest = reverse old.waiting.list.items;
        open_is = turned old new entry pushes;
        outer = waits.0;
        front = waits.1;
        p = waits.2;
        own = waits.3;
        made = λ a. waits.4 (tree.type_argument held.0 a);
        bytes = waits.5 ++ waits.6 ++ r.bytes;
        from_is = waits.7;
        prints = waits.8;
        begin = type-begins brief waits.4 waits.6 waits.5 held.0 r.bytes waits.9 held.2;
        written = ap (λ t. t.list.items) pushes.text ∙ r.written ∙ ap (λ l. l ++ r.bytes) waits.10
            ∙ joined waits.1 waits.3 (opening brief is_value) waits.5 waits.6 r.bytes;
        goes = rw pushes.at (waits.11 r.v held.0 old.at arrives.state held.1 r.comes);
        stands = rw (parked-pushed old new entry pushes) waits.12;
      };
    }

-- the separator is written
pub argument-separated : (brief : Bool) (s : List ℕ) (old new : Direct) → IsWriting brief s old (steps.Arguments false) → Writes old new (codes ", ") → AwaitsArgument brief s new false
argument-separated brief s old new p writes =
    let l = p.is_before in
    record {
      state = p.state;
      keeps = keeps-written brief s old new (codes ", ") p.state writes p.keeps;
      before = old.text.list.items;
      written = writes.text;
      listing = record {
        place = l.place;
        from = l.from;
        is_value = l.is_value;
        rest = l.rest;
        open_is = ap (λ w. reverse w.list.items) writes.waiting ∙ l.open_is;
        outer = l.outer;
        front = l.front;
        p = l.p;
        own = l.own;
        made = l.made;
        bytes = l.bytes;
        from_is = l.from_is;
        prints = l.prints;
        begin = l.begin;
        written = l.written;
        goes = rw writes.at l.goes;
        stands = rw (parked-written old new (codes ", ") writes) l.stands;
      };
    }

-- no separator comes before the first argument
pub argument-first : (brief : Bool) (s : List ℕ) (w : Direct) → IsWriting brief s w (steps.Arguments true) → AwaitsArgument brief s w true
argument-first brief s w p = record {
  state = p.state;
  keeps = p.keeps;
  before = w.text.list.items;
  written = sym (append-nil w.text.list.items);
  listing = p.is_before;
}

-- an erased lifetime is read among arguments
pub lifetime-read : (brief : Bool) (s : List ℕ) (old middle : Direct) (is_first : Bool) (end : ℕ) → AwaitsArgument brief s old is_first → StandsAt s old.at (76 ∷ [])
    → StandsAt s (old.at + 1) (95 ∷ []) → end ≡ old.at + 1 + 1 → Writes (record old { at = end }) middle (codes "'_")
    → IsWriting brief s middle (steps.Arguments false)
lifetime-read brief s old middle is_first end p letter mark end_is writes =
    let l = p.listing in
    let separator = separator_of is_first in
    record {
      state = p.state;
      keeps = keeps-written brief s (record old { at = end }) middle (codes "'_") p.state writes p.keeps;
      is_before = record {
        place = l.place;
        from = l.from;
        is_value = l.is_value;
        rest = l.rest;
        open_is = ap (λ w. reverse w.list.items) writes.waiting ∙ l.open_is;
        outer = l.outer;
        front = l.front;
        p = l.p;
        own = l.own;
        made = λ r. l.made (tree.lifetime_argument 0 r);
        bytes = l.bytes ++ separator ++ codes "'_";
        from_is = l.from_is;
        prints = l.prints;
        begin = lifetime-begins brief l.made separator l.bytes l.begin;
        written = writes.text ∙ ap (λ b. b ++ codes "'_") (p.written ∙ ap (λ b. b ++ separator) l.written
            ∙ append_assoc l.front (l.own ++ opening brief l.is_value ++ l.bytes) separator)
            ∙ joined l.front l.own (opening brief l.is_value) l.bytes separator (codes "'_");
        goes = rw (writes.at, end_is) (lifetime-goes-on s l.outer l.place l.p l.made old.at p.state l.goes
            (stands-join s old.at (76 ∷ []) (95 ∷ []) letter mark));
        stands = rw (parked-written (record old { at = end }) middle (codes "'_") writes) l.stands;
      };
    }

form-says : (brief : Bool) (is_value : Bool) (p : tree.Path) (bytes : List ℕ) → PathPrints brief is_value p bytes → PathHas brief (form_of is_value) p bytes × (is_path (form_of is_value) ≡ true)
form-says brief true p bytes h = (h, refl)
form-says brief false p bytes h = (h, refl)

closed : (front own opened bytes ended : List ℕ) → front ++ (own ++ opened ++ bytes) ++ ended ≡ front ++ (own ++ opened ++ bytes ++ ended)
closed front own opened bytes ended = append_assoc front (own ++ opened ++ bytes) ended

-- the E of arguments is read
arguments-written : (brief : Bool) (s : List ℕ) (old popped middle : Direct) (is_first : Bool) (p : IsWriting brief s old (steps.Arguments is_first))
    → StandsAt s old.at (69 ∷ []) → reverse popped.waiting.list.items ≡ p.is_before.rest
    → popped.text ≡ old.text → popped.aside ≡ old.aside → popped.is_aside ≡ old.is_aside → popped.notes ≡ old.notes → popped.numbers ≡ old.numbers
    → popped.waiting.room ≡ old.waiting.room
    → popped.at ≡ old.at + 1 → Writes popped middle (closing brief)
    → IsEnded brief s middle p.is_before.place p.is_before.from (form_of p.is_before.is_value) (form_of p.is_before.is_value)
arguments-written brief s old popped middle is_first p stands rest text aside is_aside notes numbers room at writes =
    let l = p.is_before in
    let made = tree.generic l.p (l.made tree.no_arguments) in
    let bytes = l.own ++ opening brief l.is_value ++ l.bytes ++ closing brief in
    let prints = generic-prints brief l.is_value l.p l.own (l.made tree.no_arguments) l.bytes l.prints (arguments-end brief l.made (separator_of is_first) l.bytes l.begin) in
    let form = form-says brief l.is_value made bytes prints in
    let told = path-says brief (form_of l.is_value) made bytes form.1 form.0 in
    record {
      before = p.state;
      keeps = keeps-written brief s popped middle (closing brief) p.state writes (keeps-same brief s old popped p.state text aside is_aside notes numbers room p.keeps);
      os = l.outer;
      v = a_path made;
      front = l.front;
      bytes = bytes;
      written = writes.text ∙ ap (λ t. t.list.items ++ closing brief) text ∙ ap (λ x. x ++ closing brief) l.written ∙ closed l.front l.own (opening brief l.is_value) l.bytes (closing brief);
      from_is = l.from_is;
      says = told.0;
      holds = told.1;
      comes = rw (writes.at, at) (arguments-close s l.outer l.place l.p l.made old.at p.state l.goes stands);
      stands = stands-written brief s popped middle (closing brief) l.outer l.front writes (rw (rest, aside, is_aside) l.stands);
    }

pub arguments-read : (brief : Bool) (s : List ℕ) (old popped middle : Direct) (is_first is_value : Bool) (place from : ℕ) (o : Option Open)
    → IsWriting brief s old (steps.Arguments is_first) → StandsAt s old.at (69 ∷ [])
    → old.waiting.list.items ≡ popped.waiting.list.items ++ option_to_list o → o ≡ Some (opens.Argument place from is_value)
    → popped.text ≡ old.text → popped.aside ≡ old.aside → popped.is_aside ≡ old.is_aside → popped.notes ≡ old.notes → popped.numbers ≡ old.numbers
    → popped.waiting.room ≡ old.waiting.room
    → popped.at ≡ old.at + 1 → Writes popped middle (closing brief) → IsEnded brief s middle place from (form_of is_value) (form_of is_value)
arguments-read brief s old popped middle is_first is_value place from o p stands items is text aside is_aside notes numbers room at writes =
    let l = p.is_before in
    let entry = opens.Argument place from is_value in
    let e : entry ∷ reverse popped.waiting.list.items ≡ opens.Argument l.place l.from l.is_value ∷ l.rest =
    sym (ap reverse (items ∙ ap (λ x. popped.waiting.list.items ++ option_to_list x) is) ∙ reverse-last popped.waiting.list.items entry) ∙ l.open_is in
    let same_place : l.place ≡ place = cc e in
    let same_from : l.from ≡ from = cc e in
    let same_value : l.is_value ≡ is_value = cc e in
    let same_rest : reverse popped.waiting.list.items ≡ l.rest = cc e in
    subst (λ k. IsEnded brief s middle k from (form_of is_value) (form_of is_value)) same_place
    (subst (λ k. IsEnded brief s middle l.place k (form_of is_value) (form_of is_value)) same_from
    (subst (λ b. IsEnded brief s middle l.place l.from (form_of b) (form_of b)) same_value
    (arguments-written brief s old popped middle is_first p stands same_rest text aside is_aside notes numbers room at writes)))
