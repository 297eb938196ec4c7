-- Impls of traits, and traits as a type implements them, that were read and written.
use Rattle.rust_direct.proofs.Basics.{◌≡◌, ℕ, ◌+◌, List, [], ◌∷◌, ◌++◌, length, reverse, Bool, true, false, not, refl, ap, sym, subst, ◌∙◌, codes, cond, StandsAt, a_path, Forms, Direct, Comes, within, path, type, IsDisambiguatorAt, PathHas, is_type, is_path, has_form, Writes, Pushes, Opens, Stands, IsWriting, parked_of, AwaitsPath, AwaitsTraitType, Receives, IsEnded}
use Rattle.rust_tree.specs.Symbol as tree
use Rattle.rust_direct.specs.declared.open.Forms.TheVariants as forms
use Rattle.rust_direct.specs.declared.open.Open.TheVariants as opens
use Rattle.rust_direct.specs.declared.open.Step.TheVariants as steps
use Rattle.rust_direct.proofs.Kept.{keeps-written, keeps-turned}
use Rattle.rust_direct.proofs.MovesOfTypes.{trait-opens, definition-opens}
use Rattle.rust_direct.proofs.PrintedPaths.{trait-prints, definition-prints}
use Rattle.rust_direct.proofs.PathsRead.{path-held, form-held, path-says, stands-written, waits-too}
use Rattle.rust_direct.proofs.Again.{path-needs}
use Rattle.rust_direct.proofs.ArgumentsRead.{type-held, keeps-pushed, parked-pushed, turned}
use Rattle.rust_direct.proofs.Opened.{keeps-opened, stands-opened, wrapped}

-- ## Impls

-- the path of an impl of a trait is expected; the path isn't shown
pub trait-begun : (brief : Bool) (s : List ℕ) (old new : Direct) (count end : ℕ) (plain : Bool) → AwaitsPath brief s old → StandsAt s old.at (88 ∷ [])
    → IsDisambiguatorAt s (old.at + 1) count end → old.is_aside ≡ false
    → new.waiting.list.items ≡ old.waiting.list.items ++ opens.TraitImpl old.at ∷ [] → new.waiting.room ≡ old.waiting.room
    → new.text ≡ old.aside → new.aside ≡ old.text → new.is_aside ≡ not old.is_aside → new.notes ≡ old.notes → new.numbers ≡ old.numbers → new.at ≡ end
    → IsWriting brief s new (steps.Path plain)
trait-begun brief s old new count end plain awaits letter counted shown waiting room text aside is_aside notes numbers at =
    let a = awaits.1 in
    let r = a.awaited in
    let goes = trait-opens s r.wanted r.os old.at a.state count end r.awaits letter counted in
    let parked : parked_of new ≡ old.text.list.items =
    ap (λ b. cond b new.aside.list.items []) (is_aside ∙ ap not shown) ∙ ap (λ t. t.list.items) aside in
    let none : parked_of old ≡ [] = ap (λ b. cond b old.aside.list.items []) shown in
    record {
      state = within goes.production a.state;
      keeps = keeps-turned brief s old new a.state text aside is_aside notes numbers room a.keeps;
      is_before = record {
        wanted = path;
        is_for = refl;
        os = goes.inner;
        awaits = rw at goes.awaits;
        stands = waits-too brief s old.waiting.list.items new.waiting.list.items (opens.TraitImpl old.at) goes.inner new.text.list.items (parked_of new) waiting (
          r.os,
          (λ q t implements. tree.trait_impl count q t implements),
          (λ q without value t implements bytes own prints of_trait. trait-prints brief value count q t implements bytes own without prints of_trait),
          goes.onward,
          rw parked (subst (λ l. Stands brief s (reverse old.waiting.list.items) r.os old.text.list.items l) none r.stands),
        );
      };
    }

-- the path of an impl of a trait is read
pub trait-path-read : (brief : Bool) (s : List ℕ) (old shown : Direct) (place here : ℕ) (f : Forms) → Receives brief s old (opens.TraitImpl place) here f
    → is_path f ≡ true → old.is_aside ≡ true → shown.text ≡ old.aside → shown.aside ≡ old.text → shown.is_aside ≡ not old.is_aside
    → shown.notes ≡ old.notes → shown.numbers ≡ old.numbers → shown.waiting ≡ old.waiting → shown.at ≡ old.at → AwaitsTraitType brief s shown place
trait-path-read brief s old shown place here f arrives is hidden text aside is_aside notes numbers waiting at =
    let r = arrives.read in
    let held = path-held brief f r.v r.bytes is r.holds in
    let q = held.0 in
    let waits = r.stands in
    let goes = waits.3 q old.at arrives.state (subst (λ v. Comes s r.os v old.at arrives.state) held.1 r.comes) in
    let parked : parked_of old ≡ shown.text.list.items =
    ap (λ b. cond b old.aside.list.items []) hidden ∙ ap (λ t. t.list.items) (sym text) in
    let without : parked_of shown ≡ [] = ap (λ b. cond b shown.aside.list.items []) (is_aside ∙ ap not hidden) in
    record {
      state = arrives.state;
      keeps = keeps-turned brief s old shown arrives.state text aside is_aside notes numbers (ap (λ l. l.room) waiting) arrives.keeps;
      outer = waits.0;
      made = waits.1 q;
      prints = waits.2 q (path-needs brief f q r.bytes held.2);
      goes = rw at goes;
      stands = rw (waiting, without) (subst (λ l. Stands brief s (reverse old.waiting.list.items) waits.0 l []) parked waits.4);
    }

-- the type of an impl of a trait is expected
pub trait-typed : (brief : Bool) (s : List ℕ) (old middle new : Direct) (place from : ℕ) → AwaitsTraitType brief s old place → from ≡ length old.text.list.items
    → Writes old middle (codes "<") → Pushes middle new (opens.Implementing place from) → IsWriting brief s new steps.Type
trait-typed brief s old middle new place from a from_is writes pushes =
    let entry = opens.Implementing place from in
    record {
      state = within a.goes.production a.state;
      keeps = keeps-pushed brief s middle new entry a.state pushes (keeps-written brief s old middle (codes "<") a.state writes a.keeps);
      is_before = record {
        wanted = type;
        is_for = refl;
        os = a.goes.inner;
        awaits = rw (pushes.at, writes.at) a.goes.awaits;
        stands = subst (λ ws. Stands brief s ws a.goes.inner new.text.list.items (parked_of new)) (sym (turned middle new entry pushes)) (
          a.outer,
          old.text.list.items,
          a.made,
          from_is,
          ap (λ t. t.list.items) pushes.text ∙ writes.text,
          a.prints,
          a.goes.onward,
          rw (parked-pushed middle new entry pushes)
              (stands-written brief s old middle (codes "<") a.outer old.text.list.items writes a.stands),
        );
      };
    }

-- ## Traits as a type implements them

-- the type that implements a trait is expected
pub definition-begun : (brief : Bool) (s : List ℕ) (old new : Direct) (from behind : ℕ) → AwaitsPath brief s old → StandsAt s old.at (89 ∷ []) → behind ≡ old.at + 1
    → from ≡ length old.text.list.items → Opens old new (codes "<") (opens.Implementing old.at from) behind → IsWriting brief s new steps.Type
definition-begun brief s old new from behind awaits letter next from_is opened =
    let a = awaits.1 in
    let r = a.awaited in
    let entry = opens.Implementing old.at from in
    let goes = definition-opens s r.wanted r.os old.at a.state r.awaits letter in
    record {
      state = within goes.production a.state;
      keeps = keeps-opened brief s old new (codes "<") entry behind a.state opened a.keeps;
      is_before = record {
        wanted = type;
        is_for = refl;
        os = goes.inner;
        awaits = rw (opened.at_is, next) goes.awaits;
        stands = stands-opened brief s old new (codes "<") entry behind goes.inner opened (
          r.os,
          old.text.list.items,
          (λ t implements. tree.trait_definition t implements),
          from_is,
          refl,
          (λ value t implements bytes own prints of_trait. definition-prints brief value t implements bytes own prints of_trait),
          goes.onward,
          r.stands,
        );
      };
    }

-- the type that implements a trait is read, and the trait is expected
pub implementing-read : (brief : Bool) (s : List ℕ) (old middle new : Direct) (place from here : ℕ) (f : Forms) (plain : Bool)
    → Receives brief s old (opens.Implementing place from) here f → is_type f ≡ true → Writes old middle (codes " as ")
    → Pushes middle new (opens.Implemented place from) → IsWriting brief s new (steps.Path plain)
implementing-read brief s old middle new place from here f plain arrives is writes pushes =
    let r = arrives.read in
    let held = type-held brief f r.v r.bytes is r.holds in
    let t = held.0 in
    let waits = r.stands in
    let goes = waits.6 r.v t old.at arrives.state held.1 r.comes in
    let entry = opens.Implemented place from in
    let mark = codes "<" ++ r.bytes ++ codes " as " in
    record {
      state = within goes.production arrives.state;
      keeps = keeps-pushed brief s middle new entry arrives.state pushes (keeps-written brief s old middle (codes " as ") arrives.state writes arrives.keeps);
      is_before = record {
        wanted = path;
        is_for = refl;
        os = goes.inner;
        awaits = rw (pushes.at, writes.at) goes.awaits;
        stands = subst (λ ws. Stands brief s ws goes.inner new.text.list.items (parked_of new)) (sym (turned middle new entry pushes)) (
          waits.0,
          waits.1,
          mark,
          waits.2 t,
          waits.3,
          ap (λ l. l.list.items) pushes.text ∙ writes.text ∙ ap (λ l. l ++ codes " as ") (r.written ∙ ap (λ l. l ++ r.bytes) waits.4)
              ∙ wrapped waits.1 (codes "<") r.bytes (codes " as "),
          (λ value q own of_trait. waits.5 value t q r.bytes own held.2 of_trait),
          goes.passes,
          rw (parked-pushed middle new entry pushes) (stands-written brief s old middle (codes " as ") waits.0 waits.1 writes waits.7),
        );
      };
    }

-- the trait that a type implements is read
pub implemented-read : (brief : Bool) (s : List ℕ) (old middle : Direct) (place from here : ℕ) (f : Forms) → Receives brief s old (opens.Implemented place from) here f
    → has_form false f ≡ true → Writes old middle (codes ">") → IsEnded brief s middle place from forms.Alike forms.Alike
implemented-read brief s old middle place from here f arrives is writes =
    let r = arrives.read in
    let held = form-held brief false f r.v r.bytes is r.holds in
    let q = held.0 in
    let waits = r.stands in
    let made = waits.3 q in
    let bytes = waits.2 ++ r.bytes ++ codes ">" in
    let has : PathHas brief forms.Alike made bytes = (waits.6 true q r.bytes held.2, waits.6 false q r.bytes held.2) in
    let told = path-says brief forms.Alike made bytes refl has in
    record {
      before = arrives.state;
      keeps = keeps-written brief s old middle (codes ">") arrives.state writes arrives.keeps;
      os = waits.0;
      v = a_path made;
      front = waits.1;
      bytes = bytes;
      written = writes.text ∙ ap (λ l. l ++ codes ">") (r.written ∙ ap (λ l. l ++ r.bytes) waits.5) ∙ wrapped waits.1 waits.2 r.bytes (codes ">");
      from_is = waits.4;
      says = told.0;
      holds = told.1;
      comes = rw writes.at (waits.7 q old.at arrives.state (subst (λ v. Comes s r.os v old.at arrives.state) held.1 r.comes));
      stands = stands-written brief s old middle (codes ">") waits.0 waits.1 writes waits.8;
    }
