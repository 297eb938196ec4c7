-- Types made of one other type that were read and written.
use Rattle.rust_direct.proofs.Basics.{◌≡◌, ℕ, ◌+◌, List, [], ◌∷◌, ◌++◌, length, reverse, true, refl, ap, sym, subst, ◌∙◌, append-nil, codes, Bool, StandsAt, Value, a_type, Forms, Open, Direct, within, type, TypeGoesOn, IsErasedAt, TypePrints, Holds, is_type, Writes, Opens, Stands, IsWriting, WrapHolds, closing_text, closing_forms, parked_of, Awaits, Receives, IsEnded}
use Rattle.rust_tree.specs.Symbol as tree
use Rattle.rust_direct.specs.declared.open.Forms.TheVariants as forms
use Rattle.rust_direct.specs.declared.open.Closing.{Closing}
use Rattle.rust_direct.specs.declared.open.Closing.TheVariants as closings
use Rattle.rust_direct.specs.declared.open.Open.TheVariants as opens
use Rattle.rust_direct.specs.declared.open.Step.TheVariants as steps
use Rattle.rust_direct.proofs.Kept.{keeps-written}
use Rattle.rust_direct.proofs.MovesOfTypes.{shared-opens, mutable-opens, const-opens, mut-opens, slice-opens}
use Rattle.rust_direct.proofs.PrintedTypes.{shared-prints, mutable-prints, const-prints, mut-prints, slice-prints}
use Rattle.rust_direct.proofs.PathsRead.{stands-written}
use Rattle.rust_direct.proofs.ArgumentsRead.{type-held}
use Rattle.rust_direct.proofs.TypesRead.{type-expected}
use Rattle.rust_direct.proofs.Opened.{keeps-opened, stands-opened, wrapped}

-- a type that is made of one type begins here
wrap-begun : (brief : Bool) (s : List ℕ) (old new : Direct) (mark : List ℕ) (closing : Closing) (made : tree.Ty → Value) (at : ℕ) (entry : Open) (a : Awaits brief s old true)
    → TypeGoesOn s a.awaited.os old.at made at a.state → WrapHolds brief mark closing made → entry ≡ opens.Wrap old.at (length old.text.list.items) closing
    → Opens old new mark entry at → IsWriting brief s new steps.Type
wrap-begun brief s old new mark closing made at entry a goes holds is opened =
    let r = a.awaited in
    record {
      state = within goes.production a.state;
      keeps = keeps-opened brief s old new mark entry at a.state opened a.keeps;
      is_before = record {
        wanted = type;
        is_for = refl;
        os = goes.inner;
        awaits = rw opened.at_is goes.awaits;
        stands = stands-opened brief s old new mark entry at goes.inner opened
            (subst (λ e. Stands brief s (e ∷ reverse old.waiting.list.items) goes.inner (old.text.list.items ++ mark) (parked_of old)) (sym is)
            (r.os, old.text.list.items, mark, made, refl, refl, holds, goes.passes, r.stands));
      };
    }

-- no text comes after the type
bare : (brief : Bool) (mark bytes : List ℕ) (t : tree.Ty) → TypePrints brief t (mark ++ bytes) → Holds brief forms.Typed (a_type t) (mark ++ bytes ++ [])
bare brief mark bytes t prints = (t, refl, subst (λ l. TypePrints brief t l) (sym (append-nil (mark ++ bytes))) prints)

-- ## References

pub shared-begun : (brief : Bool) (s : List ℕ) (old new : Direct) (behind : ℕ) (entry : Open) → Awaits brief s old true → StandsAt s old.at (82 ∷ [])
    → IsErasedAt s (old.at + 1) behind → entry ≡ opens.Wrap old.at (length old.text.list.items) closings.Nothing
    → Opens old new (codes "&") entry behind → IsWriting brief s new steps.Type
shared-begun brief s old new behind entry a letter erased is opened =
    wrap-begun brief s old new (codes "&") closings.Nothing (λ t. a_type (tree.shared_reference 0 t)) behind entry a
    (subst (λ k. TypeGoesOn s a.awaited.os old.at (λ t. a_type (tree.shared_reference 0 t)) k a.state) (sym erased.2)
    (shared-opens s a.awaited.os old.at a.state erased.0 (type-expected brief s old a) letter erased.1))
    (λ t bytes prints. bare brief (codes "&") bytes (tree.shared_reference 0 t) (shared-prints brief t bytes prints)) is opened

pub mutable-begun : (brief : Bool) (s : List ℕ) (old new : Direct) (behind : ℕ) (entry : Open) → Awaits brief s old true → StandsAt s old.at (81 ∷ [])
    → IsErasedAt s (old.at + 1) behind → entry ≡ opens.Wrap old.at (length old.text.list.items) closings.Nothing
    → Opens old new (codes "&mut ") entry behind → IsWriting brief s new steps.Type
mutable-begun brief s old new behind entry a letter erased is opened =
    wrap-begun brief s old new (codes "&mut ") closings.Nothing (λ t. a_type (tree.mutable_reference 0 t)) behind entry a
    (subst (λ k. TypeGoesOn s a.awaited.os old.at (λ t. a_type (tree.mutable_reference 0 t)) k a.state) (sym erased.2)
    (mutable-opens s a.awaited.os old.at a.state erased.0 (type-expected brief s old a) letter erased.1))
    (λ t bytes prints. bare brief (codes "&mut ") bytes (tree.mutable_reference 0 t) (mutable-prints brief t bytes prints)) is opened

-- ## Pointers and slices

pub const-begun : (brief : Bool) (s : List ℕ) (old new : Direct) (behind : ℕ) (entry : Open) → Awaits brief s old true → StandsAt s old.at (80 ∷ [])
    → behind ≡ old.at + 1 → entry ≡ opens.Wrap old.at (length old.text.list.items) closings.Nothing
    → Opens old new (codes "*const ") entry behind → IsWriting brief s new steps.Type
const-begun brief s old new behind entry a letter is_next is opened =
    wrap-begun brief s old new (codes "*const ") closings.Nothing (λ t. a_type (tree.const_pointer t)) behind entry a
    (subst (λ k. TypeGoesOn s a.awaited.os old.at (λ t. a_type (tree.const_pointer t)) k a.state) (sym is_next)
    (const-opens s a.awaited.os old.at a.state (type-expected brief s old a) letter))
    (λ t bytes prints. bare brief (codes "*const ") bytes (tree.const_pointer t) (const-prints brief t bytes prints)) is opened

pub mut-begun : (brief : Bool) (s : List ℕ) (old new : Direct) (behind : ℕ) (entry : Open) → Awaits brief s old true → StandsAt s old.at (79 ∷ [])
    → behind ≡ old.at + 1 → entry ≡ opens.Wrap old.at (length old.text.list.items) closings.Nothing
    → Opens old new (codes "*mut ") entry behind → IsWriting brief s new steps.Type
mut-begun brief s old new behind entry a letter is_next is opened =
    wrap-begun brief s old new (codes "*mut ") closings.Nothing (λ t. a_type (tree.mut_pointer t)) behind entry a
    (subst (λ k. TypeGoesOn s a.awaited.os old.at (λ t. a_type (tree.mut_pointer t)) k a.state) (sym is_next)
    (mut-opens s a.awaited.os old.at a.state (type-expected brief s old a) letter))
    (λ t bytes prints. bare brief (codes "*mut ") bytes (tree.mut_pointer t) (mut-prints brief t bytes prints)) is opened

pub slice-begun : (brief : Bool) (s : List ℕ) (old new : Direct) (behind : ℕ) (entry : Open) → Awaits brief s old true → StandsAt s old.at (83 ∷ [])
    → behind ≡ old.at + 1 → entry ≡ opens.Wrap old.at (length old.text.list.items) closings.Bracket
    → Opens old new (codes "[") entry behind → IsWriting brief s new steps.Type
slice-begun brief s old new behind entry a letter is_next is opened =
    wrap-begun brief s old new (codes "[") closings.Bracket (λ t. a_type (tree.slice t)) behind entry a
    (subst (λ k. TypeGoesOn s a.awaited.os old.at (λ t. a_type (tree.slice t)) k a.state) (sym is_next)
    (slice-opens s a.awaited.os old.at a.state (type-expected brief s old a) letter))
    (λ t bytes prints. (tree.slice t, refl, slice-prints brief t bytes prints)) is opened

-- ## The ends of types made of one other type

typed-read : (brief : Bool) (s : List ℕ) (old middle : Direct) (place from here : ℕ) (f : Forms) (closing : Closing) → closing_forms closing ≡ forms.Typed
    → Receives brief s old (opens.Wrap place from closing) here f → is_type f ≡ true → Writes old middle (closing_text closing)
    → IsEnded brief s middle place from forms.Typed forms.Typed
typed-read brief s old middle place from here f closing typed arrives is writes =
    let r = arrives.read in
    let held = type-held brief f r.v r.bytes is r.holds in
    let waits = r.stands in
    let bytes = waits.2 ++ r.bytes ++ closing_text closing in
    let holds : Holds brief forms.Typed (waits.3 held.0) bytes = subst (λ k. Holds brief k (waits.3 held.0) bytes) typed (waits.6 held.0 r.bytes held.2) in
    record {
      before = arrives.state;
      keeps = keeps-written brief s old middle (closing_text closing) arrives.state writes arrives.keeps;
      os = waits.0;
      v = waits.3 held.0;
      front = waits.1;
      bytes = bytes;
      written = writes.text ∙ ap (λ l. l ++ closing_text closing) (r.written ∙ ap (λ l. l ++ r.bytes) waits.5)
          ∙ wrapped waits.1 waits.2 r.bytes (closing_text closing);
      from_is = waits.4;
      says = holds;
      holds = holds;
      comes = rw writes.at (waits.7 r.v held.0 old.at arrives.state held.1 r.comes);
      stands = stands-written brief s old middle (closing_text closing) waits.0 waits.1 writes waits.8;
    }

-- the type of a reference or a pointer is read
pub bare-read : (brief : Bool) (s : List ℕ) (old : Direct) (place from here : ℕ) (f : Forms) → Receives brief s old (opens.Wrap place from closings.Nothing) here f
    → is_type f ≡ true → IsEnded brief s old place from forms.Typed forms.Typed
bare-read brief s old place from here f arrives is =
    typed-read brief s old old place from here f closings.Nothing refl arrives is (record {
      text = sym (append-nil old.text.list.items);
      room = refl;
      aside = refl;
      is_aside = refl;
      notes = refl;
      numbers = refl;
      waiting = refl;
      at = refl;
    })

-- the type of a slice's elements is read
pub bracket-read : (brief : Bool) (s : List ℕ) (old middle : Direct) (place from here : ℕ) (f : Forms) → Receives brief s old (opens.Wrap place from closings.Bracket) here f
    → is_type f ≡ true → Writes old middle (codes "]") → IsEnded brief s middle place from forms.Typed forms.Typed
bracket-read brief s old middle place from here f arrives is writes = typed-read brief s old middle place from here f closings.Bracket refl arrives is writes
