-- Tuples that were read and written.
use Rattle.rust_direct.proofs.Basics.{◌≡◌, ℕ, ◌+◌, List, [], ◌∷◌, ◌++◌, length, Bool, true, false, refl, ap, sym, subst, ◌∙◌, append_assoc, codes, StandsAt, Production, a_type, Forms, Direct, within, type, TypePrints, Holds, is_type, Writes, Pushes, Opens, Stands, IsWriting, TypesCount, tuple_end, parked_of, Awaits, Receives, IsEnded}
use Rattle.rust_tree.specs.Symbol as tree
use Rattle.rust_direct.specs.declared.open.Forms.TheVariants as forms
use Rattle.rust_direct.specs.declared.open.Open.TheVariants as opens
use Rattle.rust_direct.specs.declared.open.Step.TheVariants as steps
use Rattle.rust_direct.proofs.Kept.{keeps-written}
use Rattle.rust_direct.proofs.MovesOfArguments.{more_awaits, tuple-opens, element-opens, element-goes-on, types-close}
use Rattle.rust_direct.proofs.PrintedTypes.{no-types-begin, types-begin, tuple-prints}
use Rattle.rust_direct.proofs.PathsRead.{stands-written}
use Rattle.rust_direct.proofs.ArgumentsRead.{type-held, keeps-pushed, parked-pushed, turned}
use Rattle.rust_direct.proofs.TypesRead.{type-expected}
use Rattle.rust_direct.proofs.Opened.{keeps-opened, stands-opened}

-- the first type of a tuple is expected
pub tuple-begun : (brief : Bool) (s : List ℕ) (old new : Direct) (from behind : ℕ) → Awaits brief s old true → StandsAt s old.at (84 ∷ []) → behind ≡ old.at + 1
    → from ≡ length old.text.list.items → Opens old new (codes "(") (opens.Tuple old.at from true) behind → IsWriting brief s new steps.Type
tuple-begun brief s old new from behind a letter next from_is opened =
    let r = a.awaited in
    let entry = opens.Tuple old.at from true in
    let goes = tuple-opens s r.os old.at a.state (type-expected brief s old a) letter in
    let st = within goes.production a.state in
    let os = more_awaits (old.at + 1) st goes.inner in
    record {
      state = within Production.TypesMore st;
      keeps = keeps-opened brief s old new (codes "(") entry behind a.state opened a.keeps;
      is_before = record {
        wanted = type;
        is_for = refl;
        os = os;
        awaits = rw (opened.at_is, next) (element-opens s goes.inner (old.at + 1) st goes.awaits);
        stands = stands-opened brief s old new (codes "(") entry behind os opened (
          r.os,
          old.text.list.items,
          (λ ts. ts),
          [],
          [],
          from_is,
          no-types-begin brief,
          record { last = λ t. refl; more = λ t u rest. refl },
          refl,
          (λ v t at now is comes. element-goes-on s r.os old.at (λ ts. ts) (old.at + 1) a.state goes (old.at + 1) st v t at now is comes),
          r.stands,
        );
      };
    }

joined : (front bytes separator own more : List ℕ)
    → front ++ (codes "(" ++ bytes ++ separator) ++ own ++ more ≡ front ++ (codes "(" ++ (bytes ++ separator ++ own) ++ more)
joined front bytes separator own more =
    ap (λ l. l ++ more) (append_assoc front (codes "(" ++ bytes ++ separator) own)
    ∙ append_assoc front (codes "(" ++ bytes ++ separator ++ own) more
    ∙ ap (λ l. front ++ (l ++ more)) (append_assoc (codes "(" ++ bytes) separator own ∙ append_assoc (codes "(") bytes (separator ++ own)
    ∙ ap (λ l. codes "(" ++ l) (sym (append_assoc bytes separator own)))

counts-on : (is_first : Bool) (made : tree.Tys → tree.Tys) (t : tree.Ty) → TypesCount is_first made → TypesCount false (λ r. made (tree.more_types t r))
counts-on is_first made t c = record {
  last = λ u. c.more t u tree.no_types;
  more = λ u v rest. c.more t u (tree.more_types v rest);
}

-- a type of a tuple is read, and another one is expected
pub element-read : (brief : Bool) (s : List ℕ) (old middle new : Direct) (place from here : ℕ) (is_first : Bool) (f : Forms)
    → Receives brief s old (opens.Tuple place from is_first) here f → is_type f ≡ true → Writes old middle (codes ", ")
    → Pushes middle new (opens.Tuple place from false) → IsWriting brief s new steps.Type
element-read brief s old middle new place from here is_first f arrives is writes pushes =
    let r = arrives.read in
    let held = type-held brief f r.v r.bytes is r.holds in
    let t = held.0 in
    let waits = r.stands in
    let made : tree.Tys → tree.Tys = λ rest. waits.2 (tree.more_types t rest) in
    let bytes = waits.3 ++ waits.4 ++ r.bytes in
    let goes = waits.9 r.v t old.at arrives.state held.1 r.comes in
    let st = within goes.production arrives.state in
    let os = more_awaits old.at st goes.inner in
    let entry = opens.Tuple place from false in
    record {
      state = within Production.TypesMore st;
      keeps = keeps-pushed brief s middle new entry arrives.state pushes (keeps-written brief s old middle (codes ", ") arrives.state writes arrives.keeps);
      is_before = record {
        wanted = type;
        is_for = refl;
        os = os;
        awaits = rw (pushes.at, writes.at) (element-opens s goes.inner old.at st goes.awaits);
        stands = subst (λ ws. Stands brief s ws os new.text.list.items (parked_of new)) (sym (turned middle new entry pushes)) (
          waits.0,
          waits.1,
          made,
          bytes,
          codes ", ",
          waits.5,
          types-begin brief waits.2 waits.4 waits.3 t r.bytes waits.6 held.2,
          counts-on is_first waits.2 t waits.7,
          ap (λ l. l.list.items) pushes.text ∙ writes.text ∙ ap (λ l. l ++ codes ", ") (r.written ∙ ap (λ l. l ++ r.bytes) waits.8)
              ∙ joined waits.1 waits.3 waits.4 r.bytes (codes ", "),
          (λ v u at now is_too comes. element-goes-on s waits.0 place made old.at arrives.state goes old.at st v u at now is_too comes),
          rw (parked-pushed middle new entry pushes) (stands-written brief s old middle (codes ", ") waits.0 waits.1 writes waits.10),
        );
      };
    }

-- the E of a tuple is read
pub tuple-read : (brief : Bool) (s : List ℕ) (old middle : Direct) (place from here end : ℕ) (is_first : Bool) (f : Forms)
    → Receives brief s old (opens.Tuple place from is_first) here f → StandsAt s old.at (69 ∷ []) → is_type f ≡ true → end ≡ old.at + 1
    → Writes (record old { at = end }) middle (tuple_end is_first) → IsEnded brief s middle place from forms.Typed forms.Typed
tuple-read brief s old middle place from here end is_first f arrives letter is end_is writes =
    let r = arrives.read in
    let held = type-held brief f r.v r.bytes is r.holds in
    let t = held.0 in
    let waits = r.stands in
    let made : tree.Tys → tree.Tys = λ rest. waits.2 (tree.more_types t rest) in
    let own = waits.3 ++ waits.4 ++ r.bytes in
    let goes = waits.9 r.v t old.at arrives.state held.1 r.comes in
    let bytes = codes "(" ++ own ++ tuple_end is_first in
    let whole = tree.tuple (made tree.no_types) in
    let prints : TypePrints brief whole bytes =
    subst (λ l. TypePrints brief whole (codes "(" ++ own ++ l)) (waits.7.last t)
    (tuple-prints brief made (codes ", ") own (types-begin brief waits.2 waits.4 waits.3 t r.bytes waits.6 held.2)) in
    let told : Holds brief forms.Typed (a_type whole) bytes = (whole, refl, prints) in
    record {
      before = arrives.state;
      keeps = keeps-written brief s (record old { at = end }) middle (tuple_end is_first) arrives.state writes
          arrives.keeps;
      os = waits.0;
      v = a_type whole;
      front = waits.1;
      bytes = bytes;
      written = writes.text ∙ ap (λ l. l ++ tuple_end is_first) (r.written ∙ ap (λ l. l ++ r.bytes) waits.8)
          ∙ joined waits.1 waits.3 waits.4 r.bytes (tuple_end is_first);
      from_is = waits.5;
      says = told;
      holds = told;
      comes = rw (writes.at, end_is) (types-close s waits.0 place made old.at arrives.state goes letter);
      stands = stands-written brief s (record old { at = end }) middle (tuple_end is_first) waits.0 waits.1 writes waits.10;
    }
