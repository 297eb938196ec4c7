-- Impls that were read and written.
use Rattle.rust_direct.proofs.Basics.{◌≡◌, ℕ, ◌+◌, List, [], ◌∷◌, ◌++◌, length, reverse, Bool, true, false, not, refl, ap, sym, subst, ◌∙◌, codes, cond, StandsAt, a_path, Forms, Direct, Comes, within, path, type, Ends, IsDisambiguatorAt, Holds, is_type, is_path, Writes, Pushes, Stands, IsWriting, parked_of, AwaitsPath, AwaitsImplType, Receives, IsEnded}
use Rattle.rust_tree.specs.Symbol as tree
use Rattle.rust_direct.specs.declared.open.Forms.TheVariants as forms
use Rattle.rust_direct.specs.declared.open.Closing.TheVariants as closings
use Rattle.rust_direct.specs.declared.open.Open.TheVariants as opens
use Rattle.rust_direct.specs.declared.open.Step.TheVariants as steps
use Rattle.rust_direct.proofs.Kept.{keeps-written, keeps-turned}
use Rattle.rust_direct.proofs.MovesOfTypes.{impl-opens}
use Rattle.rust_direct.proofs.PrintedPaths.{impl-prints}
use Rattle.rust_direct.proofs.PathsRead.{path-held, path-says, stands-written, waits-too}
use Rattle.rust_direct.proofs.Again.{path-needs}
use Rattle.rust_direct.proofs.ArgumentsRead.{type-held, keeps-pushed, parked-pushed, turned}
use Rattle.rust_direct.proofs.Opened.{wrapped}

-- the path of an impl, which isn't shown, is expected
pub impl-begun : (brief : Bool) (s : List ℕ) (old new : Direct) (count end : ℕ) (plain : Bool) → AwaitsPath brief s old → StandsAt s old.at (77 ∷ [])
    → IsDisambiguatorAt s (old.at + 1) count end → old.is_aside ≡ false → new.waiting.list.items ≡ old.waiting.list.items ++ opens.Impl old.at ∷ []
    → new.waiting.room ≡ old.waiting.room
    → new.text ≡ old.aside → new.aside ≡ old.text → new.is_aside ≡ not old.is_aside → new.notes ≡ old.notes → new.numbers ≡ old.numbers → new.at ≡ end
    → IsWriting brief s new (steps.Path plain)
impl-begun brief s old new count end plain awaits letter counted shown waiting room text aside is_aside notes numbers at =
    let a = awaits.1 in
    let r = a.awaited in
    let goes = impl-opens s r.wanted r.os old.at a.state count end r.awaits letter counted in
    let parked : parked_of new ≡ old.text.list.items =
    ap (λ b. cond b new.aside.list.items []) (is_aside ∙ ap not shown) ∙ ap (λ t. t.list.items) aside in
    let none : parked_of old ≡ [] = ap (λ b. cond b old.aside.list.items []) shown in
    record {
      state = within goes.production a.state;
      keeps = keeps-turned brief s old new a.state text aside is_aside notes numbers room a.keeps;
      is_before = record {
        wanted = path;
        is_for = refl;
        os = goes.inner;
        awaits = rw at goes.awaits;
        stands = waits-too brief s old.waiting.list.items new.waiting.list.items (opens.Impl old.at) goes.inner new.text.list.items (parked_of new) waiting (
          r.os,
          (λ q t. tree.inherent_impl count q t),
          (λ value q t bytes without prints. impl-prints brief value count q t bytes without prints),
          goes.onward,
          rw parked (subst (λ l. Stands brief s (reverse old.waiting.list.items) r.os old.text.list.items l) none r.stands),
        );
      };
    }

-- the path of an impl is read
pub impl-path-read : (brief : Bool) (s : List ℕ) (old shown : Direct) (place here : ℕ) (f : Forms) → Receives brief s old (opens.Impl place) here f → is_path f ≡ true
    → old.is_aside ≡ true → shown.text ≡ old.aside → shown.aside ≡ old.text → shown.is_aside ≡ not old.is_aside → shown.notes ≡ old.notes
    → shown.numbers ≡ old.numbers → shown.waiting ≡ old.waiting → shown.at ≡ old.at → AwaitsImplType brief s shown place
impl-path-read brief s old shown place here f arrives is hidden text aside is_aside notes numbers waiting at =
    let r = arrives.read in
    let held = path-held brief f r.v r.bytes is r.holds in
    let q = held.0 in
    let waits = r.stands in
    let none = path-needs brief f q r.bytes held.2 in
    let goes = waits.3 q old.at arrives.state (subst (λ v. Comes s r.os v old.at arrives.state) held.1 r.comes) in
    let parked : parked_of old ≡ shown.text.list.items =
    ap (λ b. cond b old.aside.list.items []) hidden ∙ ap (λ t. t.list.items) (sym text) in
    let without : parked_of shown ≡ [] = ap (λ b. cond b shown.aside.list.items []) (is_aside ∙ ap not hidden) in
    record {
      state = arrives.state;
      keeps = keeps-turned brief s old shown arrives.state text aside is_aside notes numbers (ap (λ l. l.room) waiting) arrives.keeps;
      outer = waits.0;
      made = waits.1 q;
      prints = λ value t bytes prints. waits.2 value q t bytes none prints;
      goes = rw at goes;
      stands = rw (waiting, without) (subst (λ l. Stands brief s (reverse old.waiting.list.items) waits.0 l []) parked waits.4);
    }

-- the type of an impl is expected, in angles
pub impl-typed : (brief : Bool) (s : List ℕ) (old middle new : Direct) (place from : ℕ) → AwaitsImplType brief s old place → from ≡ length old.text.list.items
    → Writes old middle (codes "<") → Pushes middle new (opens.Wrap place from closings.Angle) → IsWriting brief s new steps.Type
impl-typed brief s old middle new place from a from_is writes pushes =
    let entry = opens.Wrap place from closings.Angle in
    record {
      state = within a.goes.production a.state;
      keeps = keeps-pushed brief s middle new entry a.state pushes (keeps-written brief s old middle (codes "<") a.state writes a.keeps);
      is_before = record {
        wanted = type;
        is_for = refl;
        os = a.goes.inner;
        awaits = rw (pushes.at, writes.at) a.goes.awaits;
        stands = subst (λ ws. Stands brief s ws a.goes.inner new.text.list.items (parked_of new)) (sym (turned middle new entry pushes)) (
          a.outer,
          old.text.list.items,
          codes "<",
          (λ t. a_path (a.made t)),
          from_is,
          ap (λ t. t.list.items) pushes.text ∙ writes.text,
          (λ t bytes prints. (path-says brief forms.Alike (a.made t) (codes "<" ++ bytes ++ codes ">") refl
              (a.prints true t bytes prints, a.prints false t bytes prints)).1),
          a.goes.passes,
          rw (parked-pushed middle new entry pushes)
              (stands-written brief s old middle (codes "<") a.outer old.text.list.items writes a.stands),
        );
      };
    }

-- the type of an impl is read
pub angle-read : (brief : Bool) (s : List ℕ) (old middle : Direct) (place from here : ℕ) (f : Forms) → Receives brief s old (opens.Wrap place from closings.Angle) here f
    → is_type f ≡ true → Writes old middle (codes ">") → IsEnded brief s middle place from forms.Alike forms.Alike
angle-read brief s old middle place from here f arrives is writes =
    let r = arrives.read in
    let held = type-held brief f r.v r.bytes is r.holds in
    let waits = r.stands in
    let bytes = waits.2 ++ r.bytes ++ codes ">" in
    let holds : Holds brief forms.Alike (waits.3 held.0) bytes = waits.6 held.0 r.bytes held.2 in
    let told = path-says brief forms.Alike holds.0 bytes refl holds.2 in
    record {
      before = arrives.state;
      keeps = keeps-written brief s old middle (codes ">") arrives.state writes arrives.keeps;
      os = waits.0;
      v = a_path holds.0;
      front = waits.1;
      bytes = bytes;
      written = writes.text ∙ ap (λ l. l ++ codes ">") (r.written ∙ ap (λ l. l ++ r.bytes) waits.5) ∙ wrapped waits.1 waits.2 r.bytes (codes ">");
      from_is = waits.4;
      says = told.0;
      holds = told.1;
      comes = subst (λ v. Ends s waits.0 place v middle.at arrives.state) holds.1
          (rw writes.at (waits.7 r.v held.0 old.at arrives.state held.1 r.comes));
      stands = stands-written brief s old middle (codes ">") waits.0 waits.1 writes waits.8;
    }
