-- Types that a back reference denotes, and that are written once more.
use Rattle.rust_direct.proofs.Basics.{◌≡◌, ℕ, suc, ◌+◌, List, [], ◌∷◌, length, slice_get, true, Some, refl, ap, subst, ◌∙◌, Bool, false≢true, StandsAt, TYPE, Value, a_path, a_type, as_path, as_type, Forms, Note, Direct, Expects, Wanted, path, other_path, type, is_for_type, kind_of, IsNumberAt, TypePrints, Says, Holds, is_type, home, Writes, piece, Awaits, IsEnded}
use Rattle.rust_tree.specs.Symbol as tree
use Rattle.rust_direct.specs.declared.open.Forms.TheVariants as forms
use Rattle.rust_direct.proofs.Kept.{keeps-written, piece-found}
use Rattle.rust_direct.proofs.MovesOfTypes.{type-referred}
use Rattle.rust_direct.proofs.PrintedTypes.{path-is-type}
use Rattle.rust_direct.proofs.PathsRead.{stands-written}
use Rattle.rust_direct.proofs.Again.{note-found}

-- ## Back references

path-as-type : (v : Value) (p : tree.Path) → as_path (Some v) ≡ Some p → as_type (Some v) ≡ Some (tree.path_type p)
path-as-type (a_path q) p is = let same : q ≡ p = cc is in ap (λ x. Some (tree.path_type x)) same
path-as-type (a_type (tree.path_type q)) p is = let same : q ≡ p = cc is in ap (λ x. Some (tree.path_type x)) same
path-as-type _ p is = cc is

-- what a note says of a type
type-said : (brief : Bool) (f : Forms) (v : Value) (bytes : List ℕ) → is_type f ≡ true → Says brief f v bytes
    → (t : tree.Ty) × (as_type (Some v) ≡ Some t) × TypePrints brief t bytes × Says brief f (a_type t) bytes
type-said brief forms.Alike v bytes is h =
    (tree.path_type h.0, path-as-type v h.0 h.1, path-is-type brief h.0 bytes h.2.1, (h.0, refl, h.2))
type-said brief forms.Valued v bytes is h = absurd (false≢true is)
type-said brief forms.Plain v bytes is h = (tree.path_type h.0, path-as-type v h.0 h.1, path-is-type brief h.0 bytes h.2, (h.0, refl, h.2))
type-said brief forms.Typed v bytes is h = (h.0, h.1, h.2, (h.0, refl, h.2))
type-said brief forms.Unnamed v bytes is h = absurd (false≢true is)

-- a path that may be a type is expected as a type
as-wanted : (w : Wanted) → is_for_type w ≡ true → kind_of w ≡ TYPE
as-wanted path e = absurd (false≢true e)
as-wanted other_path e = absurd (false≢true e)
as-wanted type e = refl

pub type-expected : (brief : Bool) (s : List ℕ) (w : Direct) (a : Awaits brief s w true) → Expects s TYPE a.awaited.os w.at a.state
type-expected brief s w a = subst (λ k. Expects s k a.awaited.os w.at a.state) (as-wanted a.awaited.wanted a.awaited.is_for) a.awaited.awaits

-- a type is written once more
pub type-repeated : (brief : Bool) (s : List ℕ) (old middle : Direct) (from n end k : ℕ) (note : Note) → Awaits brief s old true → StandsAt s old.at (66 ∷ [])
    → IsNumberAt s (old.at + 1) n end → slice_get old.numbers.items (n + 2) ≡ Some (suc k) → slice_get old.notes.list.items k ≡ Some note
    → is_type note.forms ≡ true → from ≡ length old.text.list.items
    → Writes old middle (piece (home old.is_aside note.is_aside old.text.list.items old.aside.list.items) note.from note.to)
    → IsEnded brief s (record middle { at = end }) old.at from note.forms forms.Typed
type-repeated brief s old middle from n end k note awaits letter number numbered noted is from_is writes =
    let r = awaits.awaited in
    let found = note-found brief old awaits.state (n + 2) k note awaits.keeps.0 numbered noted in
    let own = found.2 in
    let said = type-said brief note.forms found.0 own.bytes is own.says in
    let t = said.0 in
    let bytes = own.bytes in
    let same = (piece-found (home old.is_aside note.is_aside old.text.list.items old.aside.list.items) own.front own.bytes own.back note.from note.to
    own.written_is own.from_is own.to_is).2 in
    let write = subst (λ l. Writes old middle l) same writes in
    let expects = type-expected brief s old awaits in
    let holds : Holds brief forms.Typed (a_type t) bytes = (t, refl, said.2) in
    record {
      before = awaits.state;
      keeps = keeps-written brief s old middle bytes awaits.state write awaits.keeps;
      os = r.os;
      v = a_type t;
      front = old.text.list.items;
      bytes = bytes;
      written = write.text;
      from_is = from_is;
      says = said.3;
      holds = holds;
      comes = type-referred s r.os old.at awaits.state n end t expects letter number (ap as_type found.1 ∙ said.1) said.2.needs_none;
      stands = stands-written brief s old middle bytes r.os old.text.list.items write r.stands;
    }
