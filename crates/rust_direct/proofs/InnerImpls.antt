-- Impls within hidden text.
use Rattle.rust_direct.proofs.Basics.{◌≡◌, ℕ, ◌+◌, List, [], ◌∷◌, reverse, Bool, true, refl, subst, StandsAt, Forms, Open, Direct, Opened, Comes, within, path, IsDisambiguatorAt, is_path, Opens, Stands, IsWriting, IsUnbegun, parked_of, AwaitsPath, AwaitsImplType, AwaitsTraitType, Receives}
use Rattle.rust_tree.specs.Symbol as tree
use Rattle.rust_direct.specs.declared.open.Open.TheVariants as opens
use Rattle.rust_direct.specs.declared.open.Step.TheVariants as steps
use Rattle.rust_direct.proofs.Again.{path-needs}
use Rattle.rust_direct.proofs.MovesOfTypes.{impl-opens, trait-opens}
use Rattle.rust_direct.proofs.Opened.{keeps-opened, stands-opened}
use Rattle.rust_direct.proofs.PathsRead.{path-held}
use Rattle.rust_direct.proofs.PrintedPaths.{impl-prints, trait-prints}

-- As long as nothing hidden has been written, the hidden text may begin after any other text.
unbegun-any : (brief : Bool) (s : List ℕ) (waiting : List Open) (os : List Opened) (text any parked : List ℕ) → IsUnbegun waiting → Stands brief s waiting os text parked
    → Stands brief s waiting os any parked
unbegun-any brief s [] os text any parked is h = absurd is
unbegun-any brief s (opens.Nest letter place ∷ rest) os text any parked is h = (h.0, h.1, unbegun-any brief s rest h.0 text any parked is h.2)
unbegun-any brief s (opens.Generic is_value place ∷ rest) os text any parked is h = (h.0, h.1, unbegun-any brief s rest h.0 text any parked is h.2)
unbegun-any brief s (opens.Other ∷ rest) os text any parked is h = h
unbegun-any brief s (opens.Impl place ∷ rest) os text any parked is h = h
unbegun-any brief s (opens.TraitImpl place ∷ rest) os text any parked is h = h
unbegun-any brief s (opens.InnerImpl place ∷ rest) os text any parked is h = h
unbegun-any brief s (opens.InnerTraitImpl place ∷ rest) os text any parked is h = h
unbegun-any brief s (_ ∷ rest) os text any parked is h = absurd is

-- the path of an impl is expected
pub inner-impl-begun : (brief : Bool) (s : List ℕ) (old new : Direct) (count end : ℕ) (plain : Bool) → AwaitsPath brief s old → StandsAt s old.at (77 ∷ [])
    → IsDisambiguatorAt s (old.at + 1) count end → IsUnbegun (reverse old.waiting.list.items) → Opens old new [] (opens.InnerImpl old.at) end
    → IsWriting brief s new (steps.Path plain)
inner-impl-begun brief s old new count end plain awaits letter counted unbegun opened =
    let a = awaits.1 in
    let r = a.awaited in
    let entry = opens.InnerImpl old.at in
    let goes = impl-opens s r.wanted r.os old.at a.state count end r.awaits letter counted in
    record {
      state = within goes.production a.state;
      keeps = keeps-opened brief s old new [] entry end a.state opened a.keeps;
      is_before = record {
        wanted = path;
        is_for = refl;
        os = goes.inner;
        awaits = rw opened.at_is goes.awaits;
        stands = stands-opened brief s old new [] entry end goes.inner opened (
          r.os,
          (λ q t. tree.inherent_impl count q t),
          (λ value q t bytes without prints. impl-prints brief value count q t bytes without prints),
          goes.onward,
          (λ any. unbegun-any brief s (reverse old.waiting.list.items) r.os old.text.list.items any (parked_of old) unbegun r.stands),
        );
      };
    }

-- the path of an impl is read
pub inner-impl-path-read : (brief : Bool) (s : List ℕ) (w : Direct) (place here : ℕ) (f : Forms) → Receives brief s w (opens.InnerImpl place) here f → is_path f ≡ true
    → AwaitsImplType brief s w place
inner-impl-path-read brief s w place here f arrives is =
    let r = arrives.read in
    let held = path-held brief f r.v r.bytes is r.holds in
    let q = held.0 in
    let waits = r.stands in
    let none = path-needs brief f q r.bytes held.2 in
    record {
      state = arrives.state;
      keeps = arrives.keeps;
      outer = waits.0;
      made = waits.1 q;
      prints = λ value t bytes prints. waits.2 value q t bytes none prints;
      goes = waits.3 q w.at arrives.state (subst (λ v. Comes s r.os v w.at arrives.state) held.1 r.comes);
      stands = waits.4 w.text.list.items;
    }

-- the path of an impl of a trait is expected
pub inner-trait-begun : (brief : Bool) (s : List ℕ) (old new : Direct) (count end : ℕ) (plain : Bool) → AwaitsPath brief s old → StandsAt s old.at (88 ∷ [])
    → IsDisambiguatorAt s (old.at + 1) count end → IsUnbegun (reverse old.waiting.list.items) → Opens old new [] (opens.InnerTraitImpl old.at) end
    → IsWriting brief s new (steps.Path plain)
inner-trait-begun brief s old new count end plain awaits letter counted unbegun opened =
    let a = awaits.1 in
    let r = a.awaited in
    let entry = opens.InnerTraitImpl old.at in
    let goes = trait-opens s r.wanted r.os old.at a.state count end r.awaits letter counted in
    record {
      state = within goes.production a.state;
      keeps = keeps-opened brief s old new [] entry end a.state opened a.keeps;
      is_before = record {
        wanted = path;
        is_for = refl;
        os = goes.inner;
        awaits = rw opened.at_is goes.awaits;
        stands = stands-opened brief s old new [] entry end goes.inner opened (
          r.os,
          (λ q t implements. tree.trait_impl count q t implements),
          (λ q without value t implements bytes own prints of_trait. trait-prints brief value count q t implements bytes own without prints of_trait),
          goes.onward,
          (λ any. unbegun-any brief s (reverse old.waiting.list.items) r.os old.text.list.items any (parked_of old) unbegun r.stands),
        );
      };
    }

-- the path of an impl of a trait is read
pub inner-trait-path-read : (brief : Bool) (s : List ℕ) (w : Direct) (place here : ℕ) (f : Forms) → Receives brief s w (opens.InnerTraitImpl place) here f
    → is_path f ≡ true → AwaitsTraitType brief s w place
inner-trait-path-read brief s w place here f arrives is =
    let r = arrives.read in
    let held = path-held brief f r.v r.bytes is r.holds in
    let q = held.0 in
    let waits = r.stands in
    record {
      state = arrives.state;
      keeps = arrives.keeps;
      outer = waits.0;
      made = waits.1 q;
      prints = waits.2 q (path-needs brief f q r.bytes held.2);
      goes = waits.3 q w.at arrives.state (subst (λ v. Comes s r.os v w.at arrives.state) held.1 r.comes);
      stands = waits.4 w.text.list.items;
    }
