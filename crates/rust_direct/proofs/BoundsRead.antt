-- The bounds of a `dyn` that were read and written.
use Rattle.rust_direct.proofs.Basics.{◌≡◌, ℕ, ◌+◌, List, [], ◌∷◌, ◌++◌, length, true, false, refl, ap, sym, subst, ◌∙◌, append_assoc, codes, Bool, StandsAt, stands-join, Production, PATH, a_type, Forms, Direct, Comes, Ends, within, path, Holds, has_form, Writes, Pushes, Opens, Stands, IsWriting, parked_of, Awaits, Receives, IsEnded}
use Rattle.rust_tree.specs.Symbol as tree
use Rattle.rust_direct.specs.declared.open.Forms.TheVariants as forms
use Rattle.rust_direct.specs.declared.open.Open.TheVariants as opens
use Rattle.rust_direct.specs.declared.open.Step.TheVariants as steps
use Rattle.rust_direct.proofs.Kept.{keeps-written}
use Rattle.rust_direct.proofs.Moves.{expects-moved}
use Rattle.rust_direct.proofs.MovesOfBounds.{bound_awaits, dyn-opens, bound-opens, bound-goes-on, bounds-close}
use Rattle.rust_direct.proofs.PrintedBounds.{no-bounds-begin, bound-begins, dyn-prints}
use Rattle.rust_direct.proofs.PathsRead.{stands-written, form-held}
use Rattle.rust_direct.proofs.ArgumentsRead.{keeps-pushed, parked-pushed, turned}
use Rattle.rust_direct.proofs.TypesRead.{type-expected}
use Rattle.rust_direct.proofs.Opened.{keeps-opened, stands-opened}

-- the first bound of a `dyn` is expected
pub dyn-begun : (brief : Bool) (s : List ℕ) (old new : Direct) (from behind : ℕ) → Awaits brief s old true → StandsAt s old.at (68 ∷ []) → behind ≡ old.at + 1
    → from ≡ length old.text.list.items → Opens old new (codes "dyn ") (opens.Dyn old.at from) behind → IsWriting brief s new (steps.Path false)
dyn-begun brief s old new from behind a letter next from_is opened =
    let r = a.awaited in
    let entry = opens.Dyn old.at from in
    let goes = dyn-opens s r.os old.at a.state (type-expected brief s old a) letter in
    let st = within goes.production a.state in
    let os = bound_awaits (old.at + 1) st goes.inner in
    record {
      state = within Production.BoundsMore st;
      keeps = keeps-opened brief s old new (codes "dyn ") entry behind a.state opened a.keeps;
      is_before = record {
        wanted = path;
        is_for = refl;
        os = os;
        awaits = expects-moved s PATH os (old.at + 1) new.at (within Production.BoundsMore st) (sym (opened.at_is ∙ next))
            (bound-opens s goes.inner (old.at + 1) st goes.awaits);
        stands = stands-opened brief s old new (codes "dyn ") entry behind os opened (
          r.os,
          old.text.list.items,
          (λ b. b),
          [],
          [],
          from_is,
          no-bounds-begin brief,
          refl,
          (λ p at now comes. bound-goes-on s r.os old.at (λ b. b) (old.at + 1) a.state goes (old.at + 1) st p at now comes),
          r.stands,
        );
      };
    }

joined : (front bytes separator own : List ℕ)
    → front ++ (codes "dyn " ++ bytes ++ separator) ++ own ≡ front ++ (codes "dyn " ++ (bytes ++ separator ++ own))
joined front bytes separator own =
    append_assoc front (codes "dyn " ++ bytes ++ separator) own
    ∙ ap (λ l. front ++ l) (append_assoc (codes "dyn " ++ bytes) separator own ∙ append_assoc (codes "dyn ") bytes (separator ++ own)
    ∙ ap (λ l. codes "dyn " ++ l) (sym (append_assoc bytes separator own)))

-- a bound is read, and another one is expected
pub bound-read : (brief : Bool) (s : List ℕ) (old middle new : Direct) (place from here : ℕ) (f : Forms)
    → Receives brief s old (opens.Dyn place from) here f → has_form false f ≡ true → Writes old middle (codes " + ")
    → Pushes middle new (opens.Dyn place from) → IsWriting brief s new (steps.Path false)
bound-read brief s old middle new place from here f arrives is writes pushes =
    let r = arrives.read in
    let held = form-held brief false f r.v r.bytes is r.holds in
    let p = held.0 in
    let waits = r.stands in
    let made : tree.Bounds → tree.Bounds = λ rest. waits.2 (tree.more_bounds p tree.no_bindings rest) in
    let bytes = waits.3 ++ waits.4 ++ r.bytes in
    let goes = waits.8 p old.at arrives.state (subst (λ v. Comes s r.os v old.at arrives.state) held.1 r.comes) in
    let st = within goes.production arrives.state in
    let os = bound_awaits old.at st goes.inner in
    let entry = opens.Dyn place from in
    record {
      state = within Production.BoundsMore st;
      keeps = keeps-pushed brief s middle new entry arrives.state pushes (keeps-written brief s old middle (codes " + ") arrives.state writes arrives.keeps);
      is_before = record {
        wanted = path;
        is_for = refl;
        os = os;
        awaits = expects-moved s PATH os old.at new.at (within Production.BoundsMore st) (sym (pushes.at ∙ writes.at))
            (bound-opens s goes.inner old.at st goes.awaits);
        stands = subst (λ ws. Stands brief s ws os new.text.list.items (parked_of new)) (sym (turned middle new entry pushes)) (
          waits.0,
          waits.1,
          made,
          bytes,
          codes " + ",
          waits.5,
          bound-begins brief waits.2 waits.4 waits.3 p r.bytes waits.6 held.2,
          ap (λ l. l.list.items) pushes.text ∙ writes.text ∙ ap (λ l. l ++ codes " + ") (r.written ∙ ap (λ l. l ++ r.bytes) waits.7
              ∙ joined waits.1 waits.3 waits.4 r.bytes) ∙ append_assoc waits.1 (codes "dyn " ++ bytes) (codes " + "),
          (λ q at now comes. bound-goes-on s waits.0 place made old.at arrives.state goes old.at st q at now comes),
          rw (parked-pushed middle new entry pushes) (stands-written brief s old middle (codes " + ") waits.0 waits.1 writes waits.9),
        );
      };
    }

-- the E of a `dyn` is read, and then its lifetime
pub dyn-read : (brief : Bool) (s : List ℕ) (old : Direct) (place from here end : ℕ) (f : Forms) → Receives brief s old (opens.Dyn place from) here f
    → StandsAt s old.at (69 ∷ []) → StandsAt s (old.at + 1) (76 ∷ []) → StandsAt s (old.at + 1 + 1) (95 ∷ []) → has_form false f ≡ true
    → end ≡ old.at + 1 + 1 + 1 → IsEnded brief s (record old { at = end }) place from forms.Typed forms.Typed
dyn-read brief s old place from here end f arrives letter lifetime digits is end_is =
    let r = arrives.read in
    let held = form-held brief false f r.v r.bytes is r.holds in
    let p = held.0 in
    let waits = r.stands in
    let made : tree.Bounds → tree.Bounds = λ rest. waits.2 (tree.more_bounds p tree.no_bindings rest) in
    let own = waits.3 ++ waits.4 ++ r.bytes in
    let goes = waits.8 p old.at arrives.state (subst (λ v. Comes s r.os v old.at arrives.state) held.1 r.comes) in
    let whole = tree.dyn 0 (made tree.no_bounds) 0 in
    let bytes = codes "dyn " ++ own in
    let told : Holds brief forms.Typed (a_type whole) bytes =
    (whole, refl, dyn-prints brief made own (bound-begins brief waits.2 waits.4 waits.3 p r.bytes waits.6 held.2)) in
    record {
      before = arrives.state;
      keeps = arrives.keeps;
      os = waits.0;
      v = a_type whole;
      front = waits.1;
      bytes = bytes;
      written = r.written ∙ ap (λ l. l ++ r.bytes) waits.7 ∙ joined waits.1 waits.3 waits.4 r.bytes;
      from_is = waits.5;
      says = told;
      holds = told;
      comes = subst (λ k. Ends s waits.0 place (a_type whole) k arrives.state) (sym end_is)
          (bounds-close s waits.0 place made old.at arrives.state goes letter (stands-join s (old.at + 1) (76 ∷ []) (95 ∷ []) lifetime digits));
      stands = waits.9;
    }
