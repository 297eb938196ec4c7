-- Symbols from their beginning to their end, and their answers.
use Rattle.rust_direct.proofs.Basics.{◌≡◌, ℕ, ◌+◌, ◌-◌, ◌/◌, ◌≤◌, List, [], ◌∷◌, ◌++◌, length, take, drop, reverse, Bool, true, false, not, Ok, refl, ap, sym, subst, ◌∙◌, arith, append_assoc, append-nil, codes, cond, replicate, length-append, length-drop, length-replicate, take_rest, text_of, shaped, answer_of_symbol, StandsAt, symbol_parts, path_parts, Production, v0_mangled, IsAnswer, at_first, Forms, Direct, Comes, within, path, other_path, IsSuffix, EndsSymbol, Option, Some, None, OnSome, visible, IsUnmarked, unmarked-append, detail_by, IsWrittenAs, PathPrints, has_form, is_path, Writes, Stands, IsWriting, IsWhole, IsShown, HasRooms, parked_of, IsFresh, Receives, IsSymbolEnded}
use Rattle.sym_print.proofs.Answering.{text_within-ok}
use Rattle.rust_tree.specs.Symbol as tree
use Rattle.rust_direct.specs.declared.open.Open.TheVariants as opens
use Rattle.rust_direct.specs.declared.open.Step.TheVariants as steps
use Rattle.rust_direct.proofs.Kept.{keeps-written, keeps-turned, none-noted}
use Rattle.rust_direct.proofs.WrittenTexts.{written-before, text-seen, suffix-unmarked}
use Rattle.rust_direct.proofs.MovesOfSymbols.{symbol-starts}
use Rattle.rust_direct.proofs.PathsRead.{path-held, form-held, waits-too}

-- ## Answers

-- if a symbol was written with few enough bytes, its text is its answer
pub shown-answer : (brief : Bool) (s text : List ℕ) (limit size : ℕ) → IsShown brief s size text → size ≤ limit / 4 → IsAnswer (detail_by brief) s limit (Ok text)
shown-answer brief s text limit size shown short =
    let parts = symbol_parts (detail_by brief) shown.whole in
    shaped shown.stands.0 shown.stands.1 shown.stands.2
    (sym (text_within-ok limit parts text (sym shown.text_is) (omega (arith, shown.cost, short)))
    ∙ ap (λ r. answer_of_symbol v0_mangled (detail_by brief) limit r) shown.stands.3)

-- If arguments are shown, all of the written bytes are shown.
pub whole-shown : (brief : Bool) (s bytes : List ℕ) → brief ≡ false → IsWhole brief s bytes → IsShown brief s (length bytes) bytes
whole-shown brief s bytes is p = record { whole = p.whole; stands = p.stands; text_is = p.text_is.whole is; cost = p.cost }

-- If arguments aren't shown, only the visible part of the written bytes is shown.
pub brief-shown : (brief : Bool) (s old new : List ℕ) → brief ≡ true → IsWhole brief s old → new ≡ visible 0 old → IsShown brief s (length old) new
brief-shown brief s old new is p left =
    record { whole = p.whole; stands = p.stands; text_is = text-seen brief _ old is p.text_is ∙ sym left; cost = p.cost }

pub left-shown : {T : Type 0} (r : Option T) (brief : Bool) (s old new : List ℕ) → brief ≡ true → IsWhole brief s old → OnSome r (new ≡ visible 0 old)
    → OnSome r (IsShown brief s (length old) new)
left-shown None brief s old new is p left = tt
left-shown (Some x) brief s old new is p left = brief-shown brief s old new is p left

-- ## The beginning

-- the lists have the room that they were given, and there is a number for each byte
rooms-begun : (s : List ℕ) (old new : Direct) (n : ℕ) → new.text ≡ old.text → new.aside ≡ old.aside → new.notes ≡ old.notes
    → new.numbers.items ≡ replicate n 0 → new.waiting.room ≡ old.waiting.room → n ≤ length s → HasRooms s old → HasRooms s new
rooms-begun s old new n text aside notes numbers waiting few p =
    let many : length new.numbers.items ≡ n = ap length numbers ∙ length-replicate n 0 in
    record {
      text_is_within = rw text p.text_is_within;
      aside_is_within = rw aside p.aside_is_within;
      notes_are_within = rw notes p.notes_are_within;
      numbers_are_within = rw many few;
      waiting_is_within = rw waiting p.waiting_is_within;
    }

pub symbol-begun : (brief : Bool) (s : List ℕ) (old w : Direct) (n : ℕ) → StandsAt s 0 (95 ∷ 82 ∷ []) → IsFresh s old → w.text ≡ old.text → w.aside ≡ old.aside
    → w.is_aside ≡ old.is_aside → w.notes ≡ old.notes → w.numbers.items ≡ replicate n 0 → n ≤ length s
    → w.waiting.list.items ≡ old.waiting.list.items ++ opens.Symbol ∷ [] → w.waiting.room ≡ old.waiting.room → w.at ≡ 2
    → IsWriting brief s w (steps.Path true)
symbol-begun brief s old w n starts fresh text aside shown notes numbers few waiting room at =
    let first = symbol-starts s starts in
    let none : w.notes.list.items ≡ [] = ap (λ l. l.list.items) notes ∙ fresh.notes in
    let waits : w.waiting.list.items ≡ opens.Symbol ∷ [] = waiting ∙ ap (λ l. l ++ opens.Symbol ∷ []) fresh.waiting in
    record {
      state = within Production.Symbol at_first;
      keeps = (
        rw (none, numbers) (none-noted brief w.is_aside w.text.list.items w.aside.list.items n []),
        rooms-begun s old w n text aside notes numbers room few fresh.rooms,
      );
      is_before = record {
        wanted = path;
        is_for = refl;
        os = first.0;
        awaits = rw at first.1;
        stands = subst (λ ws. Stands brief s (reverse ws) first.0 w.text.list.items (parked_of w)) (sym waits) (
          ap (λ l. l.list.items) text ∙ fresh.text,
          ap (λ b. cond b w.aside.list.items []) (shown ∙ fresh.shown),
          first.2,
        );
      };
    }

-- ## The paths of a symbol

-- the path is read, and the symbol may end
pub path-ended : (brief : Bool) (s : List ℕ) (w : Direct) (from : ℕ) (f : Forms) → Receives brief s w opens.Symbol from f → has_form true f ≡ true → IsSymbolEnded brief s w
path-ended brief s w from f arrives is =
    let r = arrives.read in
    let held = form-held brief true f r.v r.bytes is r.holds in
    let waits = r.stands in
    record {
      state = arrives.state;
      keeps = arrives.keeps;
      p = held.0;
      prints = subst (λ l. PathPrints brief true held.0 l) (sym (r.written ∙ ap (λ l. l ++ r.bytes) waits.0)) held.2;
      ends = (waits.2 held.0 w.at arrives.state (subst (λ v. Comes s r.os v w.at arrives.state) held.1 r.comes)).none;
    }

-- the path of the instantiating crate is expected
pub other-begun : (brief : Bool) (s : List ℕ) (old new : Direct) (from : ℕ) (f : Forms) (is_value : Bool) → Receives brief s old opens.Symbol from f → has_form true f ≡ true
    → old.is_aside ≡ false → new.waiting.list.items ≡ old.waiting.list.items ++ opens.Other ∷ [] → new.waiting.room ≡ old.waiting.room → new.text ≡ old.aside → new.aside ≡ old.text
    → new.is_aside ≡ not old.is_aside → new.notes ≡ old.notes → new.numbers ≡ old.numbers → new.at ≡ old.at → IsWriting brief s new (steps.Path is_value)
other-begun brief s old new from f is_value arrives is shown waiting room text aside is_aside notes numbers at =
    let r = arrives.read in
    let held = form-held brief true f r.v r.bytes is r.holds in
    let waits = r.stands in
    let goes = waits.2 held.0 old.at arrives.state (subst (λ v. Comes s r.os v old.at arrives.state) held.1 r.comes) in
    let parked : parked_of new ≡ old.text.list.items =
    ap (λ b. cond b new.aside.list.items []) (is_aside ∙ ap not shown) ∙ ap (λ t. t.list.items) aside in
    record {
      state = within Production.Symbol arrives.state;
      keeps = keeps-turned brief s old new arrives.state text aside is_aside notes numbers room arrives.keeps;
      is_before = record {
        wanted = other_path;
        is_for = refl;
        os = goes.inner;
        awaits = rw at goes.awaits;
        stands = waits-too brief s old.waiting.list.items new.waiting.list.items opens.Other goes.inner new.text.list.items (parked_of new) waiting (
          held.0,
          subst (λ l. PathPrints brief true held.0 l)
              (sym (parked ∙ r.written ∙ ap (λ l. l ++ r.bytes) waits.0)) held.2,
          goes.some,
        );
      };
    }

-- the path of the instantiating crate is read, and the symbol may end
pub other-read : (brief : Bool) (s : List ℕ) (old new : Direct) (from : ℕ) (f : Forms) → Receives brief s old opens.Other from f → is_path f ≡ true
    → old.is_aside ≡ true → new.text ≡ old.aside → new.aside ≡ old.text
    → new.is_aside ≡ not old.is_aside → new.notes ≡ old.notes → new.numbers ≡ old.numbers → new.waiting ≡ old.waiting → new.at ≡ old.at
    → IsSymbolEnded brief s new
other-read brief s old new from f arrives is hidden text aside is_aside notes numbers waiting at =
    let r = arrives.read in
    let held = path-held brief f r.v r.bytes is r.holds in
    let waits = r.stands in
    record {
      state = arrives.state;
      keeps = keeps-turned brief s old new arrives.state text aside is_aside notes numbers (ap (λ l. l.room) waiting) arrives.keeps;
      p = waits.0;
      prints = subst (λ l. PathPrints brief true waits.0 l)
          (ap (λ b. cond b old.aside.list.items []) hidden ∙ ap (λ t. t.list.items) (sym text)) waits.1;
      ends = subst (λ k. EndsSymbol s waits.0 k) (sym at)
          (waits.2 held.0 old.at arrives.state (subst (λ v. Comes s r.os v old.at arrives.state) held.1 r.comes));
    }

-- ## The end

-- the rest of a symbol is at a place, and the symbol ends with it
rest-stands : (s suffix : List ℕ) (at : ℕ) → at ≤ length s → suffix ≡ take (length s - at) (drop at s)
    → StandsAt s at suffix × (at + length suffix ≡ length s)
rest-stands s suffix at inside is =
    let same : suffix ≡ drop at s = is ∙ take_rest s at in
    (([], sym same ∙ sym (append-nil suffix)), omega (arith, inside, ap length same, length-drop at s))

-- a symbol without a suffix is written
pub ends-plain : (brief : Bool) (s : List ℕ) (w : Direct) → IsSymbolEnded brief s w → w.at ≡ length s → IsWriting brief s w steps.Ended
unfolding symbol_parts
ends-plain brief s w p at_end =
    let whole = p.ends.ends at_end in
    record {
      state = p.state;
      keeps = p.keeps;
      is_before = record {
        whole = record { path = p.p; instantiating = whole.0; suffix = [] };
        stands = whole.1;
        text_is = subst (λ l. IsWrittenAs brief l w.text.list.items) (sym (append-nil (text_of (path_parts (detail_by brief) 0 true p.p)))) p.prints.shows.text_is;
        cost = omega (arith, p.prints.shows.cost);
      };
    }

suffixed-text : (brief : Bool) (x t : List ℕ) (d : ℕ) (bs : List ℕ) → IsUnmarked (d ∷ bs) → IsWrittenAs brief x t
    → IsWrittenAs brief (x ++ (codes " (" ++ ((d ∷ bs) ++ (codes ")" ++ [])))) (t ++ codes " (" ++ (d ∷ bs) ++ codes ")")
suffixed-text brief x t d bs plain p =
    subst (λ l. IsWrittenAs brief (x ++ (codes " (" ++ ((d ∷ bs) ++ codes ")"))) l)
    (sym (append_assoc (t ++ codes " (") (d ∷ bs) (codes ")") ∙ append_assoc t (codes " (") ((d ∷ bs) ++ codes ")")))
    (written-before brief x t (codes " (" ++ ((d ∷ bs) ++ codes ")"))
    (unmarked-append (codes " (") ((d ∷ bs) ++ codes ")") refl (unmarked-append (d ∷ bs) (codes ")") plain refl)) p)

whole-suffixed : (brief : Bool) (s text : List ℕ) (p : tree.Path) (at : ℕ) (suffix : List ℕ) → PathPrints brief true p text → EndsSymbol s p at → StandsAt s at suffix
    → at + length suffix ≡ length s → IsSuffix suffix → IsWhole brief s (text ++ codes " (" ++ suffix ++ codes ")")
unfolding symbol_parts
whole-suffixed brief s text p at [] prints ends stands ended is = absurd is
whole-suffixed brief s text p at (d ∷ rest) prints ends stands ended is =
    let whole = ends.ends_in (d ∷ rest) stands ended is in
    record {
      whole = record { path = p; instantiating = whole.0; suffix = d ∷ rest };
      stands = whole.1;
      text_is = suffixed-text brief (text_of (path_parts (detail_by brief) 0 true p)) text d rest (suffix-unmarked (d ∷ rest) is) prints.shows.text_is;
      cost = omega (
        arith,
        prints.shows.cost,
        length-append (text ++ codes " (" ++ (d ∷ rest)) (codes ")"),
        length-append (text ++ codes " (") (d ∷ rest),
        length-append text (codes " ("),
      );
    }

-- a symbol with a suffix is written
pub ends-suffixed : (brief : Bool) (s suffix : List ℕ) (w first second last : Direct) → IsSymbolEnded brief s w → w.at ≤ length s
    → suffix ≡ take (length s - w.at) (drop w.at s) → IsSuffix suffix
    → Writes w first (codes " (") → Writes first second suffix → Writes second last (codes ")") → IsWriting brief s last steps.Ended
ends-suffixed brief s suffix w first second last p inside is is_suffix one two three =
    let there = rest-stands s suffix w.at inside is in
    let text : last.text.list.items ≡ w.text.list.items ++ codes " (" ++ suffix ++ codes ")" =
    three.text ∙ ap (λ l. l ++ codes ")") (two.text ∙ ap (λ l. l ++ suffix) one.text) in
    record {
      state = p.state;
      keeps = keeps-written brief s second last (codes ")") p.state three
          (keeps-written brief s first second suffix p.state two
          (keeps-written brief s w first (codes " (") p.state one p.keeps));
      is_before = subst (λ l. IsWhole brief s l) (sym text)
          (whole-suffixed brief s w.text.list.items p.p w.at suffix p.prints p.ends there.0 there.1 is_suffix);
    }
